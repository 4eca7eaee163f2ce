use Rattle.std.proofs.Common.{◌≢◌, ◌+◌, length, refl, sym, ◌∙◌, inr, arith}
use Rattle.std.specs.List.{position_or_len}
use Rattle.std.proofs.lemmas.Bool.{eqb-true, eqb-false}
use Rattle.std.proofs.lemmas.Result.{err_from_is_err_and}
use Rattle.std.proofs.lemmas.List.{length-drop}
use Rattle.script_tokens.specs.Lines.{is_line_end}
use Rattle.scenario_text.specs.Scenario.{drafted}
use Rattle.scenario_text.specs.Reading.{scenario_of}
use Rattle.scenario_text.proofs.ReadLemmas.{begins, goes_on, stops, is_over, item_held, held_on}
use Rattle.scenario_text.proofs.reading.read.Goals as goal

pub loop-rest-init : goal.loop-rest-init
loop-rest-init c = record { first = omega arith; short = omega arith; same = rw c.new-draft.ensures (begins c.args.text.now); held = inr (c.new-draft.ensures, refl) }

pub split_line-requires : goal.split_line-requires
split_line-requires c = omega arith

pub returns-in-Err : goal.returns-in-Err
returns-in-Err c =
    let some : length c.loop-rest.rest.now ≢ 0 = eqb-false _ _ (sym c.is_empty.ensures ∙ c.loop-rest-test.true) in
    stops c.loop-rest.line c.loop-rest.rest.now (drafted c.loop-rest.draft) c.in-Err.field-0 (scenario_of c.args.text.now) some c.in-Err.ensures.item c.loop-rest.invariant.same

pub loop-rest-preserved : goal.loop-rest-preserved
loop-rest-preserved c =
    let some : length c.loop-rest.rest.now ≢ 0 = eqb-false _ _ (sym c.is_empty.ensures ∙ c.loop-rest-test.true) in
    let shorter = length-drop (position_or_len is_line_end c.loop-rest.rest.now + 1) c.loop-rest.rest.now in
    record {
      first = omega arith;
      short = rw c.in-Ok.ensures.rest (omega (arith, shorter, some, c.loop-rest.invariant.short));
      same = rw (c.in-Ok.ensures.rest, c.in_ok-push.ensures.ok) (goes_on c.loop-rest.line c.loop-rest.rest.now (drafted c.loop-rest.draft) c.in-Ok.found.0 (scenario_of c.args.text.now) some c.in-Ok.ensures.item c.loop-rest.invariant.same);
      held = rw (c.in-Ok.ensures.rest, c.in_ok-push.ensures.ok) (held_on c.args.text.now c.loop-rest.rest.now (drafted c.loop-rest.draft) c.in-Ok.found.0 some c.in-Ok.ensures.item c.loop-rest.invariant.held);
    }

pub returns : goal.returns
returns c = is_over c.loop-rest.line c.loop-rest.rest.now (drafted c.loop-rest.draft) (scenario_of c.args.text.now) (eqb-true _ _ (sym c.is_empty.ensures ∙ c.loop-rest-test.false)) c.loop-rest.invariant.same

pub returns-in_err-push : goal.returns-in_err-push
returns-in_err-push c =
    let some : length c.loop-rest.rest.now ≢ 0 = eqb-false _ _ (sym c.is_empty.ensures ∙ c.loop-rest-test.true) in
    let held = item_held c.args.text.now c.loop-rest.rest.now (drafted c.loop-rest.draft) c.in-Ok.found.0 some c.in-Ok.ensures.item c.loop-rest.invariant.held c.in_err-push.ensures.needed in
    let failed = err_from_is_err_and c.from_residual.result c.from_residual.ensures.1 in
    rw (failed.1, failed.2, c.in_err-push.ensures.err) held
