use Rattle.std.proofs.Common.{sym, ap, ◌∙◌, length}
use Rattle.display_buffers.specs.Buffers.{has_cookie}
use Rattle.display_buffers.specs.Store.{stock_of}
use Rattle.display_buffers.proofs.Places.{first_within, under_none, under_place}
use Rattle.display_buffers.proofs.store.Store.held_of.Goals as goal

pub held_at-requires : goal.held_at-requires
held_at-requires c = first_within (has_cookie c.args.cookie) c.args.self.now.buffers c.in-Some.k c.in-Some.ensures.place

pub returns-in-Some : goal.returns-in-Some
unfolding stock_of
returns-in-Some c =
    c.held_at.ensures.count
    ∙ ap length (sym (under_place c.args.cookie c.args.self.now.buffers c.in-Some.k c.in-Some.ensures.place))

pub returns-in-None : goal.returns-in-None
unfolding stock_of
returns-in-None c = ap length (sym (under_none c.args.cookie c.args.self.now.buffers c.in-None.ensures.place))
