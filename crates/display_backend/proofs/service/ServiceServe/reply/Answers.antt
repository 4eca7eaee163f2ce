use Rattle.std.proofs.Common.{rules, ap, ◌∙◌}
use mir.Syntax.{w32}
use mir.Val.{SFits}
use Rattle.std.proofs.lemmas.Int.{to_z-of_z}
use Rattle.display_backend.specs.Reply.{reply_to}
use Rattle.display_backend.specs.Showing.{scene_of}
use Rattle.display_buffers.specs.Store.{stock_of}
use Rattle.display_backend.proofs.Serviced.{reply_is}
use Rattle.display_backend.proofs.service.ServiceServe.reply.Goals as goal

pub returns : goal.returns
returns c =
    let d = c.args.self.now in
    let q = c.in-Some.request in
    let status = c.status_at-status.result in
    let fits_in : SFits w32 status = search rules in
    c.encode_reply.ensures
    ∙ (ap (reply_to q) (to_z-of_z w32 status fits_in)
    ∙ reply_is d.course q d.hand d.progress (stock_of d.store) (scene_of d.scene) status c.in-Some.is c.status_at-status.ensures)
