use Rattle.std.proofs.Common.{◌≡◌, true, sym, ap, ◌∙◌, subst, arith, List, ℕ}
use Rattle.std.specs.FinMap as map
use Rattle.multitouch.specs.Panel.{contacts_of, keys_of, place, IsRising}
use Rattle.multitouch.specs.Pressed.{Pressed, is_key_down}
use Rattle.multitouch.proofs.Codes.{at_inside, keys_of-remove, rising-remove}
use Rattle.multitouch.proofs.panel.Panel.release.Goals as goal

pub remove-requires : goal.remove-requires
remove-requires c =
    let at = c.place_of-at.ensures ∙ ap (place c.args.code) c.as_slice.ensures.value in
    let present = ap (λ (p : Pressed). is_key_down p c.args.code) c.self.view_is ∙ c.requires in
    (omega arith, at_inside c.self.inside.codes.items c.args.code c.place_of-at.result c.self.invariant.0 at present)

at_place : (c : goal.After-remove) → c.place_of-at.result ≡ place c.args.code c.self.inside.codes.items
at_place c = c.place_of-at.ensures ∙ ap (place c.args.code) c.as_slice.ensures.value

present : (c : goal.After-remove) → map.contains_key (keys_of c.self.inside.codes.items) c.args.code ≡ true
present c = ap (λ (p : Pressed). is_key_down p c.args.code) c.self.view_is ∙ c.requires

pub invariant_of-self : goal.invariant_of-self
invariant_of-self c = (
  subst IsRising (sym c.remove.ensures.items) (rising-remove c.self.inside.codes.items c.args.code c.place_of-at.result c.self.invariant.0 (at_place c) (present c)),
  omega (arith, c.remove.ensures.len, c.self.invariant.1),
  c.self.invariant.2,
)

pub returns : goal.returns
returns c =
    ap (λ (codes : List ℕ). record { contacts = contacts_of c.self.inside.slots; keys = keys_of codes }) c.remove.ensures.items
    ∙ ap (λ keys. record { contacts = contacts_of c.self.inside.slots; keys = keys }) (keys_of-remove c.self.inside.codes.items c.args.code c.place_of-at.result c.self.invariant.0 (at_place c) (present c))
    ∙ ap (λ (p : Pressed). record p { keys = map.remove p.keys c.args.code }) c.self.view_is
