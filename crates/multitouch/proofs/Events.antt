-- Events one after another: what two lists of them make, and what stays bounded.
use Rattle.std.proofs.Common.{◌≡◌, ℕ, ◌+◌, ◌-◌, ◌<◌, ◌≤◌, Bool, true, false, cond, List, [], ◌∷◌, ◌++◌, nat_lt, length, drop, get_or, drop-cons, add-one, Option, Some, None, refl, sym, ap, ◌∙◌, subst, arith}
use Rattle.std.proofs.lemmas.Bool.{ltb-true}
use Rattle.std.specs.Cmp.{nat_cmp_total}
use Rattle.std.specs.FinMap as finite
use Rattle.kbd_wire.specs.declared.Event.{Event}
use Rattle.kbd_wire.specs.declared.Event.TheVariants.{Motion, Key, Position, Down, Up, Move, Syn}
use Rattle.pv_words.specs.declared.device.HostRefusal.TheVariants.{KeyIsDown, TooMany, TooManyKeys}
use Rattle.multitouch.specs.declared.contact.Contact.{Contact}
use Rattle.multitouch.specs.Panel.{with_contact}
use Rattle.multitouch.specs.Pressed.{ContactMap, KeySet, Pressed, after, after_event, is_key_down, press_refusal, refusal_of, Accepts, IsBounded}
use Rattle.multitouch.proofs.Slots.{apart, get-with_contact}

pub after-append : (p : Pressed) (xs ys : List Event) → after p (xs ++ ys) ≡ after (after p xs) ys
after-append p [] ys = refl
after-append p (e ∷ xs) ys = after-append (after_event p e) xs ys

pub accepts_both : (p : Pressed) (xs ys : List Event) → Accepts p xs → Accepts (after p xs) ys → Accepts p (xs ++ ys)
accepts_both p [] ys first rest = rest
accepts_both p (e ∷ xs) ys first rest = (first.0, accepts_both (after_event p e) xs ys first.1 rest)

pub accepts_first : (p : Pressed) (xs ys : List Event) → Accepts p (xs ++ ys) → Accepts p xs
accepts_first p [] ys all = tt
accepts_first p (e ∷ xs) ys all = (all.0, accepts_first (after_event p e) xs ys all.1)

pub accepts_rest : (p : Pressed) (xs ys : List Event) → Accepts p (xs ++ ys) → Accepts (after p xs) ys
accepts_rest p [] ys all = all
accepts_rest p (e ∷ xs) ys all = accepts_rest (after_event p e) xs ys all.1

passed : {A : Type 0} (b : Bool) (o : Option A) (why : A) → cond b o (Some why) ≡ None → b ≡ true
passed true o why h = refl
passed false o why h = absurd (cc)

-- a contact below 16 changes
keeps_contacts : (contacts : ContactMap) (id : ℕ) (o : Option Contact) → ((q : ℕ) → 16 ≤ q → finite.get contacts q ≡ None) → nat_lt id 16 ≡ true → (q : ℕ) → 16 ≤ q → finite.get (with_contact contacts id o) q ≡ None
keeps_contacts contacts id o bounded below q h =
    let few = ltb-true id 16 below in
    get-with_contact contacts id q o ∙ ap (λ b. cond b o (finite.get contacts q)) (apart q id (λ e. omega arith)) ∙ bounded q h

-- a key for which there is room goes down
press_bounds : (keys : KeySet) (code : ℕ) → finite.contains_key keys code ≡ false → nat_lt (finite.len keys) 16 ≡ true → finite.len (finite.insert keys code tt) ≤ 16
press_bounds keys code up room =
    let now = finite.len-insert nat_cmp_total keys code tt ∙ ap (λ b. cond b (finite.len keys) (finite.len keys + 1)) up in
    let few = ltb-true (finite.len keys) 16 room in
    omega (arith, now, few)

less_one : (b : Bool) (n : ℕ) → cond b (n - 1) n ≤ n
less_one true n = omega arith
less_one false n = omega arith

release_bounds : (keys : KeySet) (code : ℕ) → finite.len keys ≤ 16 → finite.len (finite.remove keys code) ≤ 16
release_bounds keys code few = omega (arith, few, finite.len-remove nat_cmp_total keys code, less_one (finite.contains_key keys code) (finite.len keys))

pub pressable : (p : Pressed) (code : ℕ) → press_refusal p code ≡ None → (is_key_down p code ≡ false) × (nat_lt (finite.len p.keys) 16 ≡ true)
pressable p code h = both (is_key_down p code) (nat_lt (finite.len p.keys) 16) h
  where
    both : (down room : Bool) → cond down (Some (KeyIsDown code)) (cond room None (Some (TooManyKeys code))) ≡ None → (down ≡ false) × (room ≡ true)
    both true room h = absurd (cc)
    both false true h = (refl, refl)
    both false false h = absurd (cc)

pub bounded_event : (p : Pressed) (e : Event) → IsBounded p → refusal_of p e ≡ None → IsBounded (after_event p e)
bounded_event p (Down id x y) bounded fits = record {
  contacts = keeps_contacts p.contacts id (Some (record { x = x; y = y })) bounded.contacts (passed _ _ (TooMany id) fits);
  keys = bounded.keys;
}
bounded_event p (Move id x y) bounded fits = record {
  contacts = keeps_contacts p.contacts id (Some (record { x = x; y = y })) bounded.contacts (passed _ _ (TooMany id) fits);
  keys = bounded.keys;
}
bounded_event p (Up id) bounded fits = record { contacts = keeps_contacts p.contacts id None bounded.contacts (passed _ _ (TooMany id) fits); keys = bounded.keys }
bounded_event p (Key true code) bounded fits =
    let can = pressable p code fits in
    record { contacts = bounded.contacts; keys = press_bounds p.keys code can.0 can.1 }
bounded_event p (Key false code) bounded fits = record { contacts = bounded.contacts; keys = release_bounds p.keys code bounded.keys }
bounded_event p (Motion x y z) bounded fits = bounded
bounded_event p (Position x y z) bounded fits = bounded
bounded_event p Syn bounded fits = bounded

pub bounded_after : (p : Pressed) (es : List Event) → IsBounded p → Accepts p es → IsBounded (after p es)
bounded_after p [] bounded fits = bounded
bounded_after p (e ∷ es) bounded fits = bounded_after (after_event p e) es (bounded_event p e bounded fits.0) fits.1

module _ (p : Pressed) (es : List Event) (i : ℕ) (e : Event) (within : i < length es) where
  next : drop i es ≡ get_or es i e ∷ drop (i + 1) es
  next = rw add-one (drop-cons es i e within)

  pub next_can_be : Accepts p (drop i es) → refusal_of p (get_or es i e) ≡ None
  next_can_be fits = (subst (Accepts p) next fits).0

  pub rest_can_be : Accepts p (drop i es) → Accepts (after_event p (get_or es i e)) (drop (i + 1) es)
  rest_can_be fits = (subst (Accepts p) next fits).1

  pub after_next : after (after_event p (get_or es i e)) (drop (i + 1) es) ≡ after p (drop i es)
  after_next = ap (after p) (sym next)
