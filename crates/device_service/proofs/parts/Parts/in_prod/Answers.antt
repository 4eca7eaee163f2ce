use Rattle.std.proofs.Common.{◌<◌, length, ap, ◌∙◌, arith}
use Rattle.link_core.specs.Activities.{Joined}
use Rattle.device_service.specs.Parts.{count_of, doing_of, joined_of}
use Rattle.device_service.proofs.Holding.Held.{here}
use Rattle.device_service.proofs.Opened.{joined_here}
use Rattle.device_service.proofs.parts.Parts.in_prod.Goals as goal

pub index-requires : goal.index-requires
unfolding count_of
index-requires c = let lt : c.args.part < length c.args.self.now.links.items = c.requires.0 in omega arith

pub returns : goal.returns
unfolding count_of doing_of joined_of
returns c = λ j e.
    let p = c.args.self.now in
    let l = c.index.result.now in
    let at = here p.links.items c.args.part l _ c.requires.0 c.index.ensures in
    c.in_prod.ensures ∙ ap (λ (x : Joined). x.prod) (joined_here p.doing p.links.items c.args.part l j c.requires.1 at e)
