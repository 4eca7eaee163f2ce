use Rattle.std.proofs.Common.{◌≡◌, ℕ, ◌+◌, ◌≤◌, ◌++◌, Bool, List, length, Option, Some, None, Ok, true, false, arith, subst, sym, ap, ◌∙◌}
use Rattle.std.proofs.lemmas.Result.{err_from_is_err_and}
use Rattle.backend_core.specs.Marked.{Item, entries, items_of}
use Rattle.pv_world.specs.Record.{Grows, IsLonger}
use Rattle.pv_world.specs.World.{Advanced, Standing, Stands, devices_of, memory_of}
use Rattle.pv_world.proofs.Seen.{seen}
use Rattle.pv_world.proofs.Serving.{accessed, all_asked, fewer_still, made_all, rested, said_more, stopped}
use Rattle.pv_world.proofs.world.World.back.Given.{Over}
use Rattle.pv_world.proofs.world.World.back.Goals.{In_ok-accessed}
use Rattle.pv_world.proofs.world.World.back.Goals as goal

-- what the step made of the world, where it made an access, said something alone, or was idle
advanced : (g : Over) (c : In_ok-accessed g) (did : Option Bool) → c.in_ok-accessed.field-0 ≡ did → (frames grants : ℕ → ℕ) (n : List Item) → Stands (seen g.W.Words g.W.Machine) frames grants (memory_of c.stepping.self) (devices_of c.stepping.self) n → entries n ≡ c.stepping.journal.entries → Advanced (seen g.W.Words g.W.Machine) frames grants (memory_of c.advance.new.self) (devices_of c.advance.new.self) c.args.dev c.advance.new.journal.entries n (Ok did)
advanced g c did is frames grants n s d =
    let sees = seen g.W.Words g.W.Machine in
    subst (λ (x : Option Bool). Advanced sees frames grants (memory_of c.advance.new.self) (devices_of c.advance.new.self) c.args.dev c.advance.new.journal.entries n (Ok x)) is (c.in_ok-accessed.ensures.advanced frames grants n s d)

-- after a step that wasn't idle the world stands, and the journal is longer
goes_on : (g : Over) (c : In_ok-accessed g) (b : Bool) → c.in_ok-accessed.field-0 ≡ Some b → Standing (seen g.W.Words g.W.Machine) (memory_of c.advance.new.self) (devices_of c.advance.new.self) c.advance.new.journal.entries × (c.stepping.made + 1 ≤ length c.advance.new.journal.entries)
goes_on g c b is =
    let s = c.stepping.invariant.standing in
    let x = advanced g c (Some b) is s.0 s.1 s.2 s.3 s.4 in
    let grown : IsLonger c.stepping.journal.entries c.advance.new.journal.entries = subst (λ (did : Option Bool). Grows (Ok did) c.stepping.journal.entries c.advance.new.journal.entries) is c.in_ok-accessed.ensures.grows in
    let counted = c.stepping.invariant.counted in
    let longer = grown.longer in
    ((s.0, s.1, s.2 ++ items_of c.args.dev x.0 x.1, x.3, x.4), omega (arith, counted, longer))

pub returns-in_err-accessed-clause-stepped : goal.returns-in_err-accessed-clause-stepped
returns-in_err-accessed-clause-stepped g c = λ frames grants m st e.
    let sees = seen g.W.Words g.W.Machine in
    let p = err_from_is_err_and c.from_residual.result c.from_residual.ensures.1 in
    rw (p.1, p.2) (stopped sees frames grants (memory_of c.stepping.self) (memory_of c.advance.new.self) (devices_of c.stepping.self) (devices_of c.advance.new.self) c.args.dev c.args.most c.stepping.made c.in_err-accessed.field-0.0 c.stepping.journal.entries c.advance.new.journal.entries m c.stepping.invariant.fewer (c.stepping.invariant.steps frames grants m st e) (λ n s d. c.in_err-accessed.ensures.advanced frames grants n s d))

pub returns-then-eq-clause-stepped : goal.returns-then-eq-clause-stepped
returns-then-eq-clause-stepped g c = λ frames grants m st e.
    let sees = seen g.W.Words g.W.Machine in
    let did = c.in-Some.is ∙ ap (λ (b : Bool). Some b) c.if-accessed.true in
    let after = (goal.at.returns-then-eq-clause-stepped g c).In_ok-accessed in
    made_all sees frames grants (tt {0}) (memory_of c.stepping.self) (memory_of c.advance.new.self) (devices_of c.stepping.self) (devices_of c.advance.new.self) c.args.dev c.args.most c.stepping.made c.stepping.journal.entries c.advance.new.journal.entries m (all_asked c.args.most (c.stepping.made + 1) (sym c.eq.ensures ∙ c.if-eq.true)) (c.stepping.invariant.steps frames grants m st e) (λ n s d. advanced g after (Some true) did frames grants n s d)

pub stepping-preserved-else-eq : goal.stepping-preserved-else-eq
stepping-preserved-else-eq g c =
    let sees = seen g.W.Words g.W.Machine in
    let did = c.in-Some.is ∙ ap (λ (b : Bool). Some b) c.if-accessed.true in
    let after = (goal.at.stepping-preserved-else-eq g c).In_ok-accessed in
    let on = goes_on g after true did in
    record {
      standing = on.0;
      at = c.advance.ensures.at;
      devices = c.advance.ensures.devices ∙ c.stepping.invariant.devices;
      keeps = λ dom. c.advance.ensures.keeps dom ∙ c.stepping.invariant.keeps dom;
      fewer = fewer_still c.args.most c.stepping.made c.stepping.invariant.fewer (sym c.eq.ensures ∙ c.if-eq.false);
      counted = on.1;
      steps = λ frames grants m st e.
          accessed sees frames grants (memory_of c.stepping.self) (memory_of c.advance.new.self) (devices_of c.stepping.self) (devices_of c.advance.new.self) c.args.dev c.stepping.made c.stepping.journal.entries c.advance.new.journal.entries m (c.stepping.invariant.steps frames grants m st e) (λ n t d. advanced g after (Some true) did frames grants n t d);
    }

pub stepping-preserved : goal.stepping-preserved
stepping-preserved g c =
    let sees = seen g.W.Words g.W.Machine in
    let did = c.in-Some.is ∙ ap (λ (b : Bool). Some b) c.if-accessed.false in
    let after = (goal.at.stepping-preserved g c).In_ok-accessed in
    let on = goes_on g after false did in
    let longer = on.1 in
    record {
      standing = on.0;
      at = c.advance.ensures.at;
      devices = c.advance.ensures.devices ∙ c.stepping.invariant.devices;
      keeps = λ dom. c.advance.ensures.keeps dom ∙ c.stepping.invariant.keeps dom;
      fewer = c.stepping.invariant.fewer;
      counted = omega (arith, longer);
      steps = λ frames grants m st e.
          said_more sees frames grants (memory_of c.stepping.self) (memory_of c.advance.new.self) (devices_of c.stepping.self) (devices_of c.advance.new.self) c.args.dev c.stepping.made c.stepping.journal.entries c.advance.new.journal.entries m (c.stepping.invariant.steps frames grants m st e) (λ n t d. advanced g after (Some false) did frames grants n t d);
    }

pub returns-clause-stepped : goal.returns-clause-stepped
returns-clause-stepped g c = λ frames grants m st e.
    let sees = seen g.W.Words g.W.Machine in
    let after = (goal.at.returns-clause-stepped g c).In_ok-accessed in
    rested sees frames grants (tt {0}) (memory_of c.stepping.self) (memory_of c.advance.new.self) (devices_of c.stepping.self) (devices_of c.advance.new.self) c.args.dev c.args.most c.stepping.made c.stepping.journal.entries c.advance.new.journal.entries m c.stepping.invariant.fewer (c.stepping.invariant.steps frames grants m st e) (λ n s d. advanced g after None c.in_default.is frames grants n s d)
