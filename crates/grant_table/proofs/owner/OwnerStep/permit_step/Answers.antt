use Rattle.std.proofs.Common.{Some, None, ap}
use Rattle.pv_words.specs.declared.access.Access.TheVariants as access
use Rattle.grant_table.specs.declared.owner.Owned.TheVariants.{AlreadyOpen}
use Rattle.pv_words.specs.Flags.{flags_place, frame_place}
use Rattle.grant_table.specs.Owning.{name_plan, open_plan}
use Rattle.grant_table.specs.OwnerLeft.{permit_left, no_more}
use Rattle.pv_words.proofs.Plans.{may_from, turns_as}
use Rattle.grant_table.proofs.Owns.{start_head, start_refuses, start_goes_on, name_head, name_goes_on, open_head, open_ends, no_permit}
use Rattle.grant_table.proofs.owner.OwnerStep.permit_step.Goals as goal

pub load-word-requires : goal.load-word-requires
unfolding permit_left
load-word-requires g c =
    let o = c.args.self.now in
    may_from _ _ _ _ _ (start_head o.dom.0 o.gref.0 o.stage c.in-Start.frame c.in-Start.mode c.in-Start.is) c.requires.may

pub returns-then-word-eq0-clause-turns : goal.returns-then-word-eq0-clause-turns
unfolding permit_left
returns-then-word-eq0-clause-turns g c =
    let o = c.args.self.now in
    turns_as (permit_left o) c.goes_on.result.access (Some (access.Load (flags_place o.dom.0 o.gref.0) c.load-word.result)) c.goes_on.result.done (None) (permit_left c.goes_on.new.self) (name_plan o.dom.0 o.gref.0 c.in-Start.frame.0 c.in-Start.mode) c.goes_on.ensures.access c.goes_on.ensures.done (ap permit_left c.goes_on.ensures.left) (start_goes_on o.dom.0 o.gref.0 o.stage c.in-Start.frame c.in-Start.mode c.load-word.result c.in-Start.is c.if-word-eq0.true)

pub returns-else-word-eq0-clause-turns : goal.returns-else-word-eq0-clause-turns
unfolding permit_left
returns-else-word-eq0-clause-turns g c =
    let o = c.args.self.now in
    turns_as (permit_left o) c.ends.result.access (Some (access.Load (flags_place o.dom.0 o.gref.0) c.load-word.result)) c.ends.result.done (Some (AlreadyOpen c.load-word.result)) (permit_left c.ends.new.self) (no_more) c.ends.ensures.access c.ends.ensures.done (ap permit_left c.ends.ensures.left) (start_refuses o.dom.0 o.gref.0 o.stage c.in-Start.frame c.in-Start.mode c.load-word.result no_more c.in-Start.is c.if-word-eq0.false)

pub store-requires : goal.store-requires
unfolding permit_left
store-requires g c =
    let o = c.args.self.now in
    may_from _ _ _ _ _ (name_head o.dom.0 o.gref.0 o.stage c.in-Name.frame c.in-Name.mode c.in-Name.is) c.requires.may

pub returns-in-Name-clause-turns : goal.returns-in-Name-clause-turns
unfolding permit_left
returns-in-Name-clause-turns g c =
    let o = c.args.self.now in
    turns_as (permit_left o) c.goes_on-in-Name.result.access (Some (access.Store (frame_place o.dom.0 o.gref.0) c.in-Name.frame.0)) c.goes_on-in-Name.result.done (None) (permit_left c.goes_on-in-Name.new.self) (open_plan o.dom.0 o.gref.0 c.in-Name.mode) c.goes_on-in-Name.ensures.access c.goes_on-in-Name.ensures.done (ap permit_left c.goes_on-in-Name.ensures.left) (name_goes_on o.dom.0 o.gref.0 o.stage c.in-Name.frame c.in-Name.mode c.in-Name.is)

pub swap_if-seen-requires : goal.swap_if-seen-requires
unfolding permit_left
swap_if-seen-requires g c =
    let o = c.args.self.now in
    may_from _ _ _ _ _ (open_head o.dom.0 o.gref.0 o.stage c.in-Open.mode c.granting-new.result c.in-Open.is c.granting-new.ensures) c.requires.may

pub returns-in-Open-clause-turns : goal.returns-in-Open-clause-turns
unfolding permit_left
returns-in-Open-clause-turns g c =
    let o = c.args.self.now in
    turns_as (permit_left o) c.ends-in-Open.result.access (Some (access.Cas (flags_place o.dom.0 o.gref.0) 0 c.granting-new.result c.swap_if-seen.result)) c.ends-in-Open.result.done (Some c.opened_at.result) (permit_left c.ends-in-Open.new.self) (no_more) c.ends-in-Open.ensures.access c.ends-in-Open.ensures.done (ap permit_left c.ends-in-Open.ensures.left) (open_ends o.dom.0 o.gref.0 o.stage c.in-Open.mode c.granting-new.result c.swap_if-seen.result c.opened_at.result no_more c.in-Open.is c.granting-new.ensures c.opened_at.ensures)

pub unreachable-requires : goal.unreachable-requires
unfolding permit_left
unreachable-requires g c =
    let o = c.args.self.now in
    no_permit o.dom.0 o.gref.0 o.stage c.in_default.not-Start c.in_default.not-Name c.in_default.not-Open c.requires.live
