use Rattle.std.proofs.Common.{sym, ap, ◌∙◌, nat_eq}
use Rattle.std.specs.List.{list_any}
use Rattle.multitouch.specs.Pressed.{Pressed, is_key_down}
use Rattle.multitouch.proofs.Codes.{contains-keys_of}
use Rattle.multitouch.proofs.panel.Panel.is_key_down.Goals as goal

pub returns : goal.returns
returns c =
    c.contains.ensures.value
    ∙ ap (list_any (λ y. nat_eq y c.args.code)) c.as_slice.ensures.value
    ∙ sym (contains-keys_of c.self.inside.codes.items c.args.code c.self.invariant.0)
    ∙ ap (λ (p : Pressed). is_key_down p c.args.code) c.self.view_is
