use Rattle.std.proofs.Common.{◌≡◌, ◌∙◌, ◌+◌, ◌-◌, ◌≤◌, length, take, drop, arith, length-drop, length-take, vec_len}
use Rattle.scenario_io.specs.declared.script.TheConstants.{SCRIPT_LIMIT}
use Rattle.scenario_io.proofs.Buffer.{Gave-refill, GaveAtMost-append, take-longer}
use Rattle.scenario_io.proofs.script.read_script.Goals as goal

pub loop-len-preserved : goal.loop-len-preserved
loop-len-preserved g c =
    let len = c.loop-len.len in
    let held = c.deref_mut.result.now in
    let room : length c.fill.new.into + len ≡ vec_len c.grow.new.buffer = omega (arith, c.fill.auto.into, c.deref_mut.ensures.len, c.in_ok-grow.ensures.longer, c.loop-len.invariant.within, length-take (length held - len) (drop len held), length-drop len held) in
    let kept : take len c.loop-len.buffer.items ≡ take len held = take-longer _ _ _ _ _ c.loop-len.invariant.within c.in_ok-grow.ensures.kept c.deref_mut.ensures.value in
    let below : len + c.in_ok-len.field-0 ≤ vec_len c.grow.new.buffer = omega (arith, c.in_ok-len.ensures.fits) in
    record {
      within = below;
      small = omega (arith, c.in_ok-grow.ensures.within);
      blocks = λ small. c.in_ok-grow.ensures.blocks (c.loop-len.invariant.blocks (omega arith)) (omega arith);
      gave = Gave-refill _ _ _ _ _ _ _ _ _ _ (omega (arith, c.deref_mut.ensures.len)) c.in_ok-len.ensures.fits below (rw kept at c.loop-len.invariant.gave) c.in_ok-len.ensures.gave;
      end = λ short. c.in_ok-len.ensures.end (omega arith);
      steady = c.in_ok-len.ensures.cause.passed ∙ c.loop-len.invariant.steady;
    }

pub returns-in_err-len-clause-failed : goal.returns-in_err-len-clause-failed
returns-in_err-len-clause-failed g c = λ is.
    let len = c.loop-len.len in
    let held = c.deref_mut.result.now in
    let fits : len + (length (take (length held - len) (drop len held)) - 1) ≤ SCRIPT_LIMIT = omega (arith, c.deref_mut.ensures.len, c.in_ok-grow.ensures.longer, c.in_ok-grow.ensures.within, c.loop-len.invariant.within, length-take (length held - len) (drop len held), length-drop len held) in
    GaveAtMost-append _ _ _ _ _ _ _ fits c.loop-len.invariant.gave c.in_err-len.ensures.err

pub returns-in_err-len-clause-takes : goal.returns-in_err-len-clause-takes
returns-in_err-len-clause-takes g c =
    let len = c.loop-len.len in
    let held = c.deref_mut.result.now in
    let fits : len + (length (take (length held - len) (drop len held)) - 1) ≤ SCRIPT_LIMIT + 1 = omega (arith, c.deref_mut.ensures.len, c.in_ok-grow.ensures.longer, c.in_ok-grow.ensures.within, c.loop-len.invariant.within, length-take (length held - len) (drop len held), length-drop len held) in
    GaveAtMost-append _ _ _ _ _ _ _ fits c.loop-len.invariant.gave c.in_err-len.ensures.err
