-- What is said of contacts, one after another.
use Rattle.std.proofs.Common.{◌≡◌, ℕ, zero, suc, ◌<◌, ◌≤◌, Bool, true, false, cond, ◌&&◌, ◌==◌, [], ◌∷◌, nat_lt, Option, Some, None, is_some, refl, sym, ap, ◌∙◌, subst, arith, int_eq}
use Rattle.std.proofs.lemmas.Bool.{lt-ltb, le-ltb}
use Rattle.std.proofs.lemmas.Bool.Decides.{Decides-eqb, Decides-int_eq, nat_tests}
use Rattle.std.specs.FinMap as finite
use Rattle.kbd_wire.specs.declared.Event.TheVariants.{Move}
use Rattle.pv_words.specs.declared.device.HostRefusal.TheVariants.{AlreadyDown, NotDown, TooMany}
use Rattle.multitouch.specs.declared.contact.Contact.{Contact}
use Rattle.multitouch.specs.Pressed.{ContactMap, Pressed, after, is_down, lift_refusal, Accepts}
use Rattle.multitouch.specs.Repair.{is_same, item, items_below}
use Rattle.multitouch.proofs.Events.{after-append, accepts_both}
use Rattle.multitouch.proofs.Slots.{get-with_contact}

and_both : (a b : Bool) → (a && b) ≡ true → (a ≡ true) × (b ≡ true)
and_both true true h = (refl, refl)
and_both true false h = absurd (cc)
and_both false b h = absurd (cc)

pub same_contact : (a b : Contact) → is_same a b ≡ true → a ≡ b
same_contact a b h =
    let parts = and_both _ _ h in
    let x = (Decides-int_eq a.x b.x).0 parts.0 in
    let y = (Decides-int_eq a.y b.y).0 parts.1 in
    λ i. record { x = x i; y = y i }

pub is_same_itself : (a : Contact) → is_same a a ≡ true
is_same_itself a = ap (λ b. b && int_eq a.y a.y) ((Decides-int_eq a.x a.x).1 refl) ∙ (Decides-int_eq a.y a.y).1 refl

-- where the one contact is what it was
unchanged : (contacts : ContactMap) (id q : ℕ) (o : Option Contact) → finite.get contacts id ≡ o → finite.get contacts q ≡ cond (q == id) o (finite.get contacts q)
unchanged contacts id q o h =
    elim (q == id) as (λ b. (q == id) ≡ b → finite.get contacts q ≡ cond b o (finite.get contacts q)) [
      | true ↦ λ e. ap (finite.get contacts) ((Decides-eqb q id).0 e) ∙ h
      | false ↦ λ e. refl
    ] refl

-- what is said of a contact takes it from what was told to what is real, and changes nothing else
pub record Changes (p q : Pressed) (id : ℕ) (o : Option Contact) : Type 0 where
  pub keys : q.keys ≡ p.keys
  pub contacts : (other : ℕ) → finite.get q.contacts other ≡ cond (other == id) o (finite.get p.contacts other)

pub item_changes : (p : Pressed) (id : ℕ) (told real : Option Contact) → finite.get p.contacts id ≡ told → Changes p (after p (item id told real)) id real
item_changes p id None None h = record { keys = refl; contacts = λ q. unchanged p.contacts id q None h }
item_changes p id (Some t) None h = record { keys = refl; contacts = λ q. get-with_contact p.contacts id q None }
item_changes p id None (Some r) h = record { keys = refl; contacts = λ q. get-with_contact p.contacts id q (Some r) }
item_changes p id (Some t) (Some r) h =
    elim (is_same t r) as (λ b. is_same t r ≡ b → Changes p (after p (cond b [] (Move id r.x r.y ∷ []))) id (Some r)) [
      | true ↦ λ e. record { keys = refl; contacts = λ q. unchanged p.contacts id q (Some r) (h ∙ ap Some (same_contact t r e)) }
      | false ↦ λ e. record { keys = refl; contacts = λ q. get-with_contact p.contacts id q (Some r) }
    ] refl

lift_can_be : (p : Pressed) (id : ℕ) → nat_lt id 16 ≡ true → is_down p id ≡ true → lift_refusal p id ≡ None
lift_can_be p id few down =
    ap (λ b. cond b (cond (is_down p id) None (Some (NotDown id))) (Some (TooMany id))) few ∙ ap (λ b. cond b None (Some (NotDown id))) down

pub item_accepted : (p : Pressed) (id : ℕ) (told real : Option Contact) → id < 16 → finite.get p.contacts id ≡ told → Accepts p (item id told real)
item_accepted p id None None few h = tt
item_accepted p id (Some t) None few h = (lift_can_be p id (lt-ltb _ _ few) (ap is_some h), tt)
item_accepted p id None (Some r) few h = (
  ap (λ b. cond b (cond (is_down p id) (Some (AlreadyDown id)) None) (Some (TooMany id))) (lt-ltb _ _ few)
      ∙ ap (λ b. cond b (Some (AlreadyDown id)) None) (ap is_some h),
  tt,
)
item_accepted p id (Some t) (Some r) few h =
    elim (is_same t r) as (λ b. Accepts p (cond b [] (Move id r.x r.y ∷ []))) [
      | true ↦ tt
      | false ↦ (lift_can_be p id (lt-ltb _ _ few) (ap is_some h), tt)
    ]

-- what was said of the contacts below a number
pub record Said (p q : Pressed) (told real : ContactMap) (n : ℕ) : Type 0 where
  pub keys : q.keys ≡ p.keys
  pub contacts : (other : ℕ) → finite.get q.contacts other ≡ cond (nat_lt other n) (finite.get real other) (finite.get told other)

pub items_said : (p : Pressed) (told real : ContactMap) (n : ℕ) → p.contacts ≡ told → Said p (after p (items_below told real n)) told real n
items_said p told real zero h = record { keys = refl; contacts = λ q. ap (λ m. finite.get m q) h ∙ sym (ap (λ b. cond b (finite.get real q) (finite.get told q)) (le-ltb _ _ (omega arith))) }
items_said p told real (suc n) h =
    let before = items_said p told real n h in
    let r = after p (items_below told real n) in
    let es = item n (finite.get told n) (finite.get real n) in
    let here : finite.get r.contacts n ≡ finite.get told n = before.contacts n ∙ ap (λ b. cond b (finite.get real n) (finite.get told n)) (le-ltb _ _ (omega arith)) in
    let one = item_changes r n (finite.get told n) (finite.get real n) here in
    let joined : after p (items_below told real (suc n)) ≡ after r es = after-append p (items_below told real n) es in
    subst (λ s. Said p s told real (suc n)) (sym joined) (record {
      keys = one.keys ∙ before.keys;
      contacts = λ q. one.contacts q ∙ ap (cond (q == n) (finite.get real n)) (before.contacts q) ∙ next q n;
    })
  where
    next : (q n : ℕ) → cond (q == n) (finite.get real n) (cond (nat_lt q n) (finite.get real q) (finite.get told q)) ≡ cond (nat_lt q (suc n)) (finite.get real q) (finite.get told q)
    next q n =
        elim (q == n) as (λ b. (q == n) ≡ b → cond b (finite.get real n) (cond (nat_lt q n) (finite.get real q) (finite.get told q)) ≡ cond (nat_lt q (suc n)) (finite.get real q) (finite.get told q)) [
          | true ↦ λ e.
              let same = (Decides-eqb q n).0 e in
              ap (finite.get real) (sym same) ∙ sym (ap (λ b. cond b (finite.get real q) (finite.get told q)) (lt-ltb _ _ (omega arith)))
          | false ↦ λ e. ap (λ b. cond b (finite.get real q) (finite.get told q)) (lower q n e)
        ] refl
      where
        lower : (q n : ℕ) → (q == n) ≡ false → nat_lt q n ≡ nat_lt q (suc n)
        lower q n e = grind (arith, nat_tests)

pub items_accepted : (p : Pressed) (told real : ContactMap) (n : ℕ) → n ≤ 16 → p.contacts ≡ told → Accepts p (items_below told real n)
items_accepted p told real zero few h = tt
items_accepted p told real (suc n) few h =
    let r = after p (items_below told real n) in
    let here : finite.get r.contacts n ≡ finite.get told n = (items_said p told real n h).contacts n ∙ ap (λ b. cond b (finite.get real n) (finite.get told n)) (le-ltb _ _ (omega arith)) in
    accepts_both p (items_below told real n) (item n (finite.get told n) (finite.get real n))
    (items_accepted p told real n (omega arith) h)
    (item_accepted r n (finite.get told n) (finite.get real n) (omega arith) here)
