-- What is down, as a panel keeps it: a slot for each contact, and the codes of keys in rising order.
use Rattle.std.specs.Prelude.{ℕ, suc, List, [], ◌∷◌, map, Option, Some, None, IsTrue, count_by, nat_lt, if◌then◌else◌, not}
use Rattle.std.specs.Ordering.{nat_cmp}
use Rattle.std.specs.FinMap as finite
use Rattle.multitouch.specs.declared.contact.Contact.{Contact}
use Rattle.multitouch.specs.Pressed.{ContactMap, KeySet, Pressed, is_key_down}

-- the contacts in slots, numbered from n on
abbrev pub entries_from : ℕ → List (Option Contact) → List (ℕ × Contact)
entries_from n [] = []
entries_from n (None ∷ slots) = entries_from (suc n) slots
entries_from n (Some c ∷ slots) = (n, c) ∷ entries_from (suc n) slots

abbrev pub contacts_of : List (Option Contact) → ContactMap
contacts_of slots = finite.from_entries (entries_from 0 slots)

abbrev pub marked : List ℕ → List (ℕ × Unit {0})
marked codes = map (λ code. (code, tt)) codes

abbrev pub keys_of : List ℕ → KeySet
keys_of codes = finite.from_sorted (marked codes)

-- the codes strictly rise
abbrev pub IsRising : List ℕ → Type 0
IsRising codes = IsTrue (finite.is_sorted nat_cmp (marked codes))

-- how many of these codes are below one
abbrev pub place : ℕ → List ℕ → ℕ
place code codes = count_by (λ other. nat_lt other code) codes

-- a contact comes or changes, or goes
abbrev pub with_contact : ContactMap → ℕ → Option Contact → ContactMap
with_contact contacts id (Some c) = finite.insert contacts id c
with_contact contacts id None = finite.remove contacts id

-- a key's code, unless it is down there
abbrev pub code_unless : Pressed → ℕ → List ℕ
code_unless those code = if not (is_key_down those code) then code ∷ [] else []
