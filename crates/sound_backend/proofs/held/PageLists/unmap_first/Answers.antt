use Rattle.std.proofs.Common.{sym, ap, ◌∙◌}
use Rattle.page_directory.proofs.Releases.{drops_as, may_as}
use Rattle.sound_backend.specs.Held.{list_at, pages_in}
use Rattle.sound_backend.proofs.Lists.{first_in, first_there}
use Rattle.sound_backend.proofs.held.PageLists.unmap_first.Goals as goal

pub unmap_at-requires-clause-some : goal.unmap_at-requires-clause-some
unmap_at-requires-clause-some g c = (first_there c.args.self.now c.find-k.result.0 c.find-k.result.1 c.find-k.ensures).2

pub unmap_at-requires-clause-may : goal.unmap_at-requires-clause-may
unmap_at-requires-clause-may g c =
    let lists = c.args.self.now in
    let k = c.find-k.result.0 in
    may_as (g.W.Words.may c.args.words.now) (pages_in lists) (list_at lists k) (first_there lists k c.find-k.result.1 c.find-k.ensures).1 c.requires.may

pub returns-clause-less : goal.returns-clause-less
returns-clause-less g c =
    let lists = c.args.self.now in
    let k = c.find-k.result.0 in
    c.unmap_at.ensures.less ∙ sym (first_there lists k c.find-k.result.1 c.find-k.ensures).0

pub returns-clause-drops : goal.returns-clause-drops
returns-clause-drops g c =
    let lists = c.args.self.now in
    let new = c.unmap_at.new.self in
    let k = c.find-k.result.0 in
    let first = first_there lists k c.find-k.result.1 c.find-k.ensures in
    let less = c.unmap_at.ensures.less ∙ sym first.0 in
    drops_as (list_at lists k) (pages_in lists) (list_at new k) (pages_in new) c.unmap_at.result (sym first.1) c.unmap_at.ensures.drops (ap pages_in less ∙ first_in lists)
