use Rattle.std.proofs.Common.{sym, ap, ◌∙◌, arith, length, slice_get}
use Rattle.sound_backend.specs.Held.{list_at}
use Rattle.sound_backend.proofs.Lists.{list_got, list_within, page_there}
use Rattle.sound_backend.proofs.held.PageLists.get.Goals as goal

pub returns : goal.returns
returns c =
    let lists = c.args.self.now in
    let kept = c.self.inside.lists.items in
    let k = c.find-k.result.0 in
    let j = c.find-k.result.1 in
    let within = list_within lists k (omega (arith, c.find-k.ensures.0)) in
    let here = ap (λ ls. list_at ls k) (sym c.self.view_is) ∙ list_got kept k c.index.result.now (omega (arith, within, ap length c.self.view_is)) c.index.ensures in
    page_there lists c.args.i k j c.find-k.ensures ∙ (ap (λ hs. slice_get hs j) here ∙ c.get.ensures)
