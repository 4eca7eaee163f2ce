use Rattle.std.proofs.Common.{Some, None, ap}
use Rattle.pv_words.specs.declared.access.Access.TheVariants as access
use Rattle.pv_words.specs.Memory.{without}
use Rattle.pv_words.specs.Flags.{flags_place, used}
use Rattle.grant_table.specs.Owning.{close_plan}
use Rattle.grant_table.specs.OwnerLeft.{end_left, no_more}
use Rattle.pv_words.proofs.Plans.{may_from, turns_as}
use Rattle.grant_table.proofs.Owns.{check_head, check_goes_on, close_head, close_ends, no_end}
use Rattle.grant_table.proofs.owner.OwnerStep.end_step.Goals as goal

pub load-word-requires : goal.load-word-requires
unfolding end_left
load-word-requires g c =
    let o = c.args.self.now in
    may_from _ _ _ _ _ (check_head o.dom.0 o.gref.0 o.stage c.in-Check.is) c.requires.may

pub returns-in-Check-clause-turns : goal.returns-in-Check-clause-turns
unfolding end_left
returns-in-Check-clause-turns g c =
    let o = c.args.self.now in
    turns_as (end_left o) c.goes_on.result.access (Some (access.Load (flags_place o.dom.0 o.gref.0) c.load-word.result)) c.goes_on.result.done (None) (end_left c.goes_on.new.self) (close_plan o.dom.0 o.gref.0 c.load-word.result) c.goes_on.ensures.access c.goes_on.ensures.done (ap end_left c.goes_on.ensures.left) (check_goes_on o.dom.0 o.gref.0 o.stage c.load-word.result c.in-Check.is)

pub swap_if-seen-requires : goal.swap_if-seen-requires
unfolding end_left
swap_if-seen-requires g c =
    let o = c.args.self.now in
    may_from _ _ _ _ _ (close_head o.dom.0 o.gref.0 o.stage c.in-Close.word c.in-Close.is) c.requires.may

pub returns-in-Close-clause-turns : goal.returns-in-Close-clause-turns
unfolding end_left
returns-in-Close-clause-turns g c =
    let o = c.args.self.now in
    turns_as (end_left o) c.ends.result.access (Some (access.Cas (flags_place o.dom.0 o.gref.0) (without c.in-Close.word used) 0 c.swap_if-seen.result)) c.ends.result.done (Some c.ended_at.result) (end_left c.ends.new.self) (no_more) c.ends.ensures.access c.ends.ensures.done (ap end_left c.ends.ensures.left) (close_ends o.dom.0 o.gref.0 o.stage c.in-Close.word c.swap_if-seen.result c.ended_at.result no_more c.in-Close.is c.ended_at.ensures)

pub unreachable-requires : goal.unreachable-requires
unfolding end_left
unreachable-requires g c =
    let o = c.args.self.now in
    no_end o.dom.0 o.gref.0 o.stage c.in_default.not-Check c.in_default.not-Close c.requires.live
