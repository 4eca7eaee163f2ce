use Rattle.std.proofs.Common.{◌≡◌, ◌∙◌, ◌-◌, length, take, drop, arith, length-drop}
use Rattle.std.proofs.lemmas.Result.{err_from_is_err_and}
use Rattle.std.proofs.lemmas.Slice.{between_to_end}
use Rattle.pv_ports.proofs.Octets.{Appended-take, AppendedPrefix-take}
use Rattle.pv_ports.proofs.port.write_all.Goals as goal

pub returns-in_err-done-clause-err : goal.returns-in_err-done-clause-err
returns-in_err-done-clause-err g c =
    let failed = err_from_is_err_and c.from_residual.result c.from_residual.ensures.1 in
    rw failed.1 (AppendedPrefix-take _ _ _ _ _ c.loop-done.invariant.appended c.in_err-done.ensures.err)

pub loop-done-preserved : goal.loop-done-preserved
loop-done-preserved g c =
    let piece = c.args.piece.now in
    let done = c.loop-done.done in
    let rest : take (length piece - done) (drop done piece) ≡ drop done piece = between_to_end piece done (length piece) (omega arith) in
    record {
      within = let fits = rw rest at c.in_ok-done.ensures.fits in omega (arith, length-drop done piece);
      appended = Appended-take _ _ _ _ _ _ c.loop-done.invariant.appended (rw rest at c.in_ok-done.ensures.appended);
      steady = c.in_ok-done.ensures.cause.passed ∙ c.loop-done.invariant.steady;
    }
