use Rattle.std.proofs.Common.{Bool, Ok, subst, ap, ◌∙◌, ◌++◌}
use Rattle.std.proofs.lemmas.Result.{err_from_is_err_and}
use Rattle.pv_world.specs.Owner.{OwnsOn, left_of}
use Rattle.pv_world.specs.World.{devices_of, memory_of}
use Rattle.pv_world.proofs.Seen.{seen}
use Rattle.pv_world.proofs.Owners.{owns_on, owns_all, owns_stopped}
use Rattle.pv_world.proofs.world.World.own.Goals as goal

pub returns-in_err-own_turn-clause-owns : goal.returns-in_err-own_turn-clause-owns
returns-in_err-own_turn-clause-owns g c = λ frames grants m st e.
    let p = err_from_is_err_and c.from_residual.result c.from_residual.ensures.1 in
    rw (p.1, p.2) (owns_stopped (seen g.W.Words g.W.Machine) frames grants (memory_of c.owning.self) (memory_of c.own_turn.new.self) (devices_of c.owning.self) (devices_of c.own_turn.new.self) c.args.dom c.args.gref (left_of c.args.owning) (left_of c.owning.owning) (left_of c.own_turn.new.owning) c.owning.journal.entries c.own_turn.new.journal.entries m c.in_err-own_turn.field-0.0 (c.owning.invariant.steps frames grants m st e) (λ n s d. c.in_err-own_turn.ensures.owns frames grants n s d))

pub owning-preserved : goal.owning-preserved
owning-preserved g c =
    let more = c.in_ok-own_turn.ensures.live (ap Ok c.if-branch.true) in
    let s = c.owning.invariant.standing in
    let a = subst (λ (b : Bool). OwnsOn (seen g.W.Words g.W.Machine) s.0 s.1 (memory_of c.own_turn.new.self) (devices_of c.own_turn.new.self) c.args.dom c.args.gref (left_of c.owning.owning) (left_of c.own_turn.new.owning) c.own_turn.new.journal.entries s.2 (Ok b)) c.if-branch.true (c.in_ok-own_turn.ensures.owns s.0 s.1 s.2 s.3 s.4) in
    record {
      standing = (s.0, s.1, s.2 ++ a.0, a.3, a.4);
      live = more.0;
      goes = more.1;
      grants = c.own_turn.ensures.range ∙ c.owning.invariant.grants;
      same = c.own_turn.ensures.same ∙ c.owning.invariant.same;
      keeps = λ dom. c.own_turn.ensures.keeps dom ∙ c.owning.invariant.keeps dom;
      steps = λ frames grants m st e.
          owns_on (seen g.W.Words g.W.Machine) frames grants (memory_of c.owning.self) (memory_of c.own_turn.new.self) (devices_of c.owning.self) (devices_of c.own_turn.new.self) c.args.dom c.args.gref (left_of c.args.owning) (left_of c.owning.owning) (left_of c.own_turn.new.owning) c.owning.journal.entries c.own_turn.new.journal.entries m (c.owning.invariant.steps frames grants m st e)
          (λ n t d. subst (λ (b : Bool). OwnsOn (seen g.W.Words g.W.Machine) frames grants (memory_of c.own_turn.new.self) (devices_of c.own_turn.new.self) c.args.dom c.args.gref (left_of c.owning.owning) (left_of c.own_turn.new.owning) c.own_turn.new.journal.entries n (Ok b)) c.if-branch.true (c.in_ok-own_turn.ensures.owns frames grants n t d));
    }

pub returns-clause-owns : goal.returns-clause-owns
returns-clause-owns g c = λ frames grants m st e.
    owns_all (seen g.W.Words g.W.Machine) frames grants (tt {0}) (memory_of c.owning.self) (memory_of c.own_turn.new.self) (devices_of c.owning.self) (devices_of c.own_turn.new.self) c.args.dom c.args.gref (left_of c.args.owning) (left_of c.owning.owning) (left_of c.own_turn.new.owning) c.owning.journal.entries c.own_turn.new.journal.entries m (c.owning.invariant.steps frames grants m st e)
    (λ n t d. subst (λ (b : Bool). OwnsOn (seen g.W.Words g.W.Machine) frames grants (memory_of c.own_turn.new.self) (devices_of c.own_turn.new.self) c.args.dom c.args.gref (left_of c.owning.owning) (left_of c.own_turn.new.owning) c.own_turn.new.journal.entries n (Ok b)) c.if-branch.false (c.in_ok-own_turn.ensures.owns frames grants n t d))
