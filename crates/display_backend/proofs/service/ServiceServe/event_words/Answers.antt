use Rattle.std.proofs.Common.{sym, ap, ◌∙◌}
use Rattle.device_service.specs.Operating.{words_of}
use Rattle.display_backend.specs.Known.{known_of}
use Rattle.display_backend.specs.Service.{event_for}
use Rattle.display_backend.specs.Showing.{scene_of}
use Rattle.display_backend.specs.Scene.{pending_at}
use Rattle.display_backend.proofs.Events.{blank_words}
use Rattle.display_backend.proofs.service.ServiceServe.event_words.Goals as goal

pub returns-in-Blank : goal.returns-in-Blank
returns-in-Blank c =
    let d = c.args.self.now in
    let part = c.in-Blank.part in
    c.flip_words.ensures
    ∙ blank_words part c.args.prod (pending_at (scene_of d.scene) part)
    ∙ ap (λ e. words_of (event_for (known_of d) e) c.args.prod) (sym c.in-Blank.is)
