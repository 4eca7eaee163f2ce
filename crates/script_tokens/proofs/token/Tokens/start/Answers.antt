use Rattle.std.proofs.Common.{◌≡◌, ◌+◌, sym, ◌∙◌, arith}
use Rattle.std.proofs.lemmas.Bool.{eqb-true, eqb-false}
use Rattle.script_tokens.proofs.TokenLemmas.{none_left, stands_at}
use Rattle.script_tokens.proofs.token.Tokens.start.Goals as goal

pub returns-then-is_empty-clause-at : goal.returns-then-is_empty-clause-at
returns-then-is_empty-clause-at c = rw (← c.split_at.ensures.back)
    (none_left _ _ _ _ c.blank_len-skipped.ensures.value c.split_at-2.ensures.back (eqb-true _ _ (sym c.is_empty.ensures ∙ c.if-is_empty.true)))

pub returns-clause-at : goal.returns-clause-at
returns-clause-at c =
    let e : c.args.self.read + c.blank_len-skipped.result + 1 ≡ c.args.self.read + 1 + c.blank_len-skipped.result = omega arith in
    rw (e, ← c.split_at.ensures.back) (stands_at _ _ _ _ c.blank_len-skipped.ensures.value c.split_at-2.ensures.back (eqb-false _ _ (sym c.is_empty.ensures ∙ c.if-is_empty.false)))
