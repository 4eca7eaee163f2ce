use Rattle.std.proofs.Common.{◌∙◌, [], ◌∷◌, sym}
use Rattle.std.proofs.lemmas.List.{append-nil}
use Rattle.std.proofs.lemmas.Result.{err_from_is_err_and}
use Rattle.pv_words.specs.declared.entry.Entry.TheVariants as entry
use Rattle.backend_core.specs.Marked.{Entered, entry_of}
use Rattle.backend_core.proofs.Items.{access_first, said_second, said_alone, rest_of}
use Rattle.pv_world.proofs.world.record.Goals as goal

pub returns-in_err-enter-clause-records : goal.returns-in_err-enter-clause-records
returns-in_err-enter-clause-records c =
    let p = err_from_is_err_and c.from_residual.result c.from_residual.ensures.1 in
    let step = c.args.step.now in
    rw (p.1, p.2) (record {
      done = [];
      due = entry.Back c.args.dev c.in-Some.access;
      rest = rest_of c.args.dev step.said;
      split = access_first c.args.dev c.in-Some.access step.access step.said c.in-Some.is;
      entered = c.in_err-enter.ensures.err ∙ sym (append-nil c.args.journal.now.entries);
      full = c.in_err-enter.ensures.full.0;
      limit = c.in_err-enter.ensures.full.1;
    })

pub returns-in_err-enter-2-clause-records : goal.returns-in_err-enter-2-clause-records
returns-in_err-enter-2-clause-records c =
    let p = err_from_is_err_and c.from_residual-in_err-enter-2.result c.from_residual-in_err-enter-2.ensures.1 in
    let step = c.args.step.now in
    rw (p.1, p.2) (record {
      done = Entered (entry.Back c.args.dev c.in-Some.access) ∷ [];
      due = entry_of c.args.dev c.in-Some-said.said;
      rest = [];
      split = said_second c.args.dev c.in-Some.access c.in-Some-said.said step.access step.said c.in-Some.is c.in-Some-said.is;
      entered = c.in_err-enter-2.ensures.err ∙ c.in_ok-enter.ensures.ok;
      full = c.in_err-enter-2.ensures.full.0;
      limit = c.in_err-enter-2.ensures.full.1;
    })

pub returns-in_err-enter-3-clause-records : goal.returns-in_err-enter-3-clause-records
returns-in_err-enter-3-clause-records c =
    let p = err_from_is_err_and c.from_residual-in_err-enter-3.result c.from_residual-in_err-enter-3.ensures.1 in
    let step = c.args.step.now in
    rw (p.1, p.2) (record {
      done = [];
      due = entry_of c.args.dev c.in-Some-said-2.said;
      rest = [];
      split = said_alone c.args.dev c.in-Some-said-2.said step.access step.said c.in_default.is c.in-Some-said-2.is;
      entered = c.in_err-enter-3.ensures.err ∙ sym (append-nil c.args.journal.now.entries);
      full = c.in_err-enter-3.ensures.full.0;
      limit = c.in_err-enter-3.ensures.full.1;
    })
