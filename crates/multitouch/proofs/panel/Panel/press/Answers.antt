use Rattle.std.proofs.Common.{◌≡◌, false, sym, ap, ◌∙◌, subst, arith, length, List, ℕ, nat_lt}
use Rattle.std.proofs.lemmas.List.Sums.{count_by-le-length}
use Rattle.std.specs.FinMap as map
use Rattle.multitouch.specs.Panel.{contacts_of, keys_of, place, IsRising}
use Rattle.multitouch.specs.Pressed.{Pressed, is_key_down}
use Rattle.multitouch.proofs.Codes.{keys_of-insert, len-keys_of, rising-insert}
use Rattle.multitouch.proofs.panel.Panel.press.Goals as goal

pub insert-requires : goal.insert-requires
insert-requires c =
    let count = len-keys_of c.self.inside.codes.items c.self.invariant.0 in
    let now = ap (λ (p : Pressed). map.len p.keys) c.self.view_is in
    let few = count_by-le-length (λ other. nat_lt other c.args.code) c.as_slice.result.now in
    (omega arith, (omega (arith, c.place_of-at.ensures, few, ap length c.as_slice.ensures.value), omega (arith, count, now, c.requires.room)))

at_place : (c : goal.After-insert) → c.place_of-at.result ≡ place c.args.code c.self.inside.codes.items
at_place c = c.place_of-at.ensures ∙ ap (place c.args.code) c.as_slice.ensures.value

up : (c : goal.After-insert) → map.contains_key (keys_of c.self.inside.codes.items) c.args.code ≡ false
up c = ap (λ (p : Pressed). is_key_down p c.args.code) c.self.view_is ∙ c.requires.up

pub invariant_of-self : goal.invariant_of-self
invariant_of-self c = (
  subst IsRising (sym c.insert.ensures.items) (rising-insert c.self.inside.codes.items c.args.code c.place_of-at.result c.self.invariant.0 (at_place c) (up c)),
  omega (arith, c.insert.ensures.len, len-keys_of c.self.inside.codes.items c.self.invariant.0, ap (λ (p : Pressed). map.len p.keys) c.self.view_is, c.requires.room),
  c.self.invariant.2,
)

pub returns : goal.returns
returns c =
    ap (λ (codes : List ℕ). record { contacts = contacts_of c.self.inside.slots; keys = keys_of codes }) c.insert.ensures.items
    ∙ ap (λ keys. record { contacts = contacts_of c.self.inside.slots; keys = keys }) (keys_of-insert c.self.inside.codes.items c.args.code c.place_of-at.result c.self.invariant.0 (at_place c) (up c))
    ∙ ap (λ (p : Pressed). record p { keys = map.insert p.keys c.args.code tt }) c.self.view_is
