use Rattle.std.proofs.Common.{◌<◌, List, arith, ap, ◌∙◌, length, slice_get, subst}
use Rattle.pv_words.specs.Release.{MayDrop}
use Rattle.page_directory.specs.Release.{left_of}
use Rattle.page_directory.proofs.Releases.{drops_as}
use Rattle.display_buffers.specs.Buffers.{has_cookie}
use Rattle.display_buffers.specs.Stock.{Stock, Held, pages_under}
use Rattle.display_buffers.specs.Left.{pages_at}
use Rattle.display_buffers.specs.Store.{stock_of}
use Rattle.display_buffers.proofs.Order.{first_of_one}
use Rattle.display_buffers.proofs.Places.{less_place, under_none, under_place}
use Rattle.display_buffers.proofs.store.Store.unmap_of.Goals as goal

pub unreachable-requires : goal.unreachable-requires
unfolding stock_of
unreachable-requires g c =
    let none = ap length (under_none c.args.cookie c.args.self.now.buffers c.in_default.ensures.place) in
    let some : 0 < length (pages_under c.args.cookie c.args.self.now.buffers) = c.requires.some in
    omega (arith, some, none)

pub unmap_at-requires-clause-some : goal.unmap_at-requires-clause-some
unfolding stock_of
unmap_at-requires-clause-some g c =
    let here = ap length (under_place c.args.cookie c.args.self.now.buffers c.in-Some.k c.in-Some.ensures.place) in
    let some : 0 < length (pages_under c.args.cookie c.args.self.now.buffers) = c.requires.some in
    omega (arith, some, here)

pub unmap_at-requires-clause-may : goal.unmap_at-requires-clause-may
unfolding stock_of
unmap_at-requires-clause-may g c =
    let here = under_place c.args.cookie c.args.self.now.buffers c.in-Some.k c.in-Some.ensures.place in
    subst (MayDrop (g.W.Words.may c.args.words.now)) here c.requires.may

pub returns-clause-drops : goal.returns-clause-drops
unfolding stock_of
returns-clause-drops g c =
    let bs = c.args.self.now.buffers in
    let new = c.unmap_at.new.self in
    let k = c.in-Some.k in
    let cookie = c.args.cookie in
    let here = under_place cookie bs k c.in-Some.ensures.place in
    let less = c.unmap_at.ensures.less ∙ less_place (has_cookie cookie) bs k c.in-Some.ensures.place in
    drops_as (pages_at bs k) (pages_under cookie bs) (pages_at new k) (pages_under cookie new) c.unmap_at.result (ap (λ hs. slice_get hs 0) here) c.unmap_at.ensures.drops
    (ap (pages_under cookie) less ∙ first_of_one cookie bs)

pub returns-clause-stock : goal.returns-clause-stock
unfolding stock_of
returns-clause-stock g c =
    let old = c.args.self.now in
    ap (λ (bs : List Held). let s : Stock = record { mapped = left_of old.release old.mapped; buffers = bs } in s)
    (c.unmap_at.ensures.less ∙ less_place (has_cookie c.args.cookie) old.buffers c.in-Some.k c.in-Some.ensures.place)
