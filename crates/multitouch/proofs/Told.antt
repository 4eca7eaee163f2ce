-- There is nothing to say exactly where what was told is what is real.
use Rattle.std.proofs.Common.{◌≡◌, ℕ, zero, suc, true, false, cond, ◌||◌, List, [], ◌∷◌, ◌++◌, map, length, Option, Some, None, refl, sym, ap, ◌∙◌, subst, arith, length-append, ◌<◌, ◌≤◌}
use Rattle.std.proofs.lemmas.Bool.Decides.{Decides-eqb}
use Rattle.std.specs.FinMap as finite
use Rattle.kbd_wire.specs.declared.Event.TheVariants.{Key, Move, Syn}
use Rattle.multitouch.specs.declared.contact.Contact.{Contact}
use Rattle.multitouch.specs.Pressed.{ContactMap, KeySet, Pressed, after, IsBounded}
use Rattle.multitouch.specs.Repair.{changes, codes_without, is_told, item, items_below, repair_of}
use Rattle.multitouch.proofs.ContactChanges.{is_same_itself}
use Rattle.multitouch.proofs.KeyChanges.{among, among-codes_without, only_first}
use Rattle.multitouch.proofs.Mending.{changes_mend}
use Rattle.multitouch.proofs.Slots.{tied}

none_left : {A : Type 0} (xs : List A) → length xs ≡ 0 → xs ≡ []
none_left [] h = refl
none_left (x ∷ xs) h = absurd (omega arith)

pub told_is_real : (told real : Pressed) → IsBounded told → IsBounded real → is_told told real ≡ true → told ≡ real
told_is_real told real told_bounded real_bounded h =
    let none = none_left (changes told real) ((Decides-eqb (length (changes told real)) 0).0 h) in
    ap (after told) (sym none) ∙ changes_mend told real told_bounded real_bounded

no_codes : (codes : List ℕ) → ((q : ℕ) → among q codes ≡ false) → codes ≡ []
no_codes [] h = refl
no_codes (code ∷ codes) h =
    let here : among code (code ∷ codes) ≡ true = ap (λ b. b || among code codes) (tied code code refl) in
    let away = h code in
    absurd (cc)

not_only : (o : Option (Unit {0})) → only_first o o ≡ false
not_only None = refl
not_only (Some u) = refl

no_changes_of_keys : (keys : KeySet) → codes_without keys keys ≡ []
no_changes_of_keys keys = no_codes _ (λ q. among-codes_without keys keys q ∙ not_only (finite.get keys q))

no_item : (id : ℕ) (o : Option Contact) → item id o o ≡ []
no_item id None = refl
no_item id (Some c) = ap (λ b. cond b [] (Move id c.x c.y ∷ [])) (is_same_itself c)

no_items : (contacts : ContactMap) (n : ℕ) → items_below contacts contacts n ≡ []
no_items contacts zero = refl
no_items contacts (suc n) = ap (λ es. es ++ item n (finite.get contacts n) (finite.get contacts n)) (no_items contacts n) ∙ no_item n (finite.get contacts n)

no_changes : (p : Pressed) → changes p p ≡ []
no_changes p =
    ap (λ codes. map (Key false) codes ++ (map (Key true) (codes_without p.keys p.keys) ++ items_below p.contacts p.contacts 16)) (no_changes_of_keys p.keys)
    ∙ ap (λ codes. map (Key true) codes ++ items_below p.contacts p.contacts 16) (no_changes_of_keys p.keys)
    ∙ no_items p.contacts 16

pub real_is_told : (told real : Pressed) → told ≡ real → is_told told real ≡ true
real_is_told told real same =
    subst (λ p. is_told p real ≡ true) (sym same) ((Decides-eqb (length (changes real real)) 0).1 (ap length (no_changes real)))

-- a repair of a SYN alone
pub nothing_said : (told real : Pressed) → IsBounded told → IsBounded real → length (repair_of told real) ≤ 1 → told ≡ real
nothing_said told real told_bounded real_bounded few =
    let none = none_left (changes told real) (omega (arith, length-append (changes told real) (Syn ∷ []))) in
    ap (after told) (sym none) ∙ changes_mend told real told_bounded real_bounded

-- and of more
pub something_said : (told real : Pressed) → 1 < length (repair_of told real) → told ≡ real → ⊥
something_said told real more same =
    let none = (Decides-eqb (length (changes told real)) 0).0 (real_is_told told real same) in
    omega (arith, length-append (changes told real) (Syn ∷ []), none)
