use Rattle.std.proofs.Common.{sym, ap, ◌∙◌}
use Rattle.page_directory.proofs.Releases.{drops_as, may_as}
use Rattle.display_buffers.specs.Stock.{buffer_pages, has_pages}
use Rattle.display_buffers.specs.Left.{pages_at}
use Rattle.display_buffers.proofs.Order.{first_in}
use Rattle.display_buffers.proofs.Places.{first_alike, first_there, less_place}
use Rattle.display_buffers.proofs.left.LeftBuffers.unmap_first.Goals as goal

pub unmap_at-requires-clause-may : goal.unmap_at-requires-clause-may
unmap_at-requires-clause-may g c =
    let bs = c.args.self.now in
    let same = first_alike bs c.find-k.result.0 c.find-k.result.1 c.find-k.ensures in
    may_as (g.W.Words.may c.args.words.now) (buffer_pages bs) (pages_at bs c.find-k.result.0) same c.requires.may

pub returns-clause-less : goal.returns-clause-less
returns-clause-less g c =
    let bs = c.args.self.now in
    let k = c.find-k.result.0 in
    c.unmap_at.ensures.less ∙ less_place has_pages bs k (first_there bs k c.find-k.result.1 c.find-k.ensures)

pub returns-clause-drops : goal.returns-clause-drops
returns-clause-drops g c =
    let bs = c.args.self.now in
    let new = c.unmap_at.new.self in
    let k = c.find-k.result.0 in
    let same = sym (first_alike bs k c.find-k.result.1 c.find-k.ensures) in
    let less = c.unmap_at.ensures.less ∙ less_place has_pages bs k (first_there bs k c.find-k.result.1 c.find-k.ensures) in
    drops_as (pages_at bs k) (buffer_pages bs) (pages_at new k) (buffer_pages new) c.unmap_at.result same c.unmap_at.ensures.drops (ap buffer_pages less ∙ first_in bs)
