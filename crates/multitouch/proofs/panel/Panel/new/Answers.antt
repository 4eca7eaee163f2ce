use Rattle.std.proofs.Common.{ap, ◌∙◌}
use Rattle.std.specs.FinMap as finite
use Rattle.multitouch.specs.Panel.{keys_of}
use Rattle.multitouch.proofs.Codes.{no_keys}
use Rattle.multitouch.proofs.panel.Panel.new.Goals as goal

pub returns : goal.returns
returns c = ap (λ codes. record { contacts = finite.empty; keys = keys_of codes }) c.new.ensures ∙ ap (λ keys. record { contacts = finite.empty; keys = keys }) no_keys
