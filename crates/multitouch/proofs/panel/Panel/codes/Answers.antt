use Rattle.std.proofs.Common.{sym, ap, ◌∙◌}
use Rattle.std.specs.FinMap as map
use Rattle.multitouch.specs.Pressed.{Pressed}
use Rattle.multitouch.proofs.Codes.{keys-keys_of}
use Rattle.multitouch.proofs.panel.Panel.codes.Goals as goal

pub returns-clause-codes : goal.returns-clause-codes
returns-clause-codes c =
    c.as_slice.ensures.value
    ∙ sym (keys-keys_of c.self.inside.codes.items c.self.invariant.0)
    ∙ ap (λ (p : Pressed). map.keys p.keys) c.self.view_is
