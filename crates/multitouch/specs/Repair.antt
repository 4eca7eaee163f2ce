-- The events that take what was told to what is real.
use Rattle.std.specs.Prelude.{ℕ, suc, zero, Bool, true, false, not, List, [], ◌∷◌, ◌++◌, map, length, Option, Some, None, if◌then◌else◌, ◌&&◌, ◌==◌}
use Rattle.std.specs.Ordering.{int_eq}
use Rattle.std.specs.FinMap as finite
use Rattle.kbd_wire.specs.declared.Event.{Event}
use Rattle.kbd_wire.specs.declared.Event.TheVariants.{Key, Down, Up, Move, Syn}
use Rattle.multitouch.specs.declared.contact.Contact.{Contact}
use Rattle.multitouch.specs.Pressed.{Pressed, KeySet, ContactMap}

-- the codes of the keys that are in one set and not in the other, rising
abbrev pub codes_without : KeySet → KeySet → List ℕ
codes_without these those = finite.keys (finite.retain_keys these (λ code. not (finite.contains_key those code)))

abbrev pub is_same : Contact → Contact → Bool
is_same a b = int_eq a.x b.x && int_eq a.y b.y

-- what there is to say of a contact, as it was told and as it is
abbrev pub item : ℕ → Option Contact → Option Contact → List Event
item id None None = []
item id (Some told) None = Up id ∷ []
item id None (Some real) = Down id real.x real.y ∷ []
item id (Some told) (Some real) = if is_same told real then [] else Move id real.x real.y ∷ []

-- of each contact below a number, rising
abbrev pub items_below : ContactMap → ContactMap → ℕ → List Event
items_below told real zero = []
items_below told real (suc n) = items_below told real n ++ item n (finite.get told n) (finite.get real n)

-- what there is to say: the keys that were told and are up, the keys that are down and weren't told, and each contact
abbrev pub changes : Pressed → Pressed → List Event
changes told real =
    map (Key false) (codes_without told.keys real.keys)
    ++ (map (Key true) (codes_without real.keys told.keys)
    ++ items_below told.contacts real.contacts 16)

-- the group that says so
abbrev pub repair_of : Pressed → Pressed → List Event
repair_of told real = changes told real ++ Syn ∷ []

-- whether there is nothing to say
abbrev pub is_told : Pressed → Pressed → Bool
is_told told real = length (changes told real) == 0
