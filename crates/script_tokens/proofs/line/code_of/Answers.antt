use Rattle.std.proofs.Common.{inl, inr, arith}
use Rattle.script_tokens.proofs.LineLemmas.{code_is_ok, code_is_fault}
use Rattle.script_tokens.proofs.line.code_of.Goals as goal
use Rattle.script_tokens.proofs.line.code_of.Goals.{else-len-text-via-then-len-text+then-text-len-ne10+else-text-len-ne35, else-len-text-via-then-len-text+else-text-len-ne10, else-len-text-via-else-len-text}

pub returns-then-text-len-ne35-clause-code : goal.returns-then-text-len-ne35-clause-code
returns-then-text-len-ne35-clause-code c = code_is_fault c.args.text.now c.code_len-len.result c.code_len-len.ensures.value c.if-len-text.true c.if-text-len-ne10.true c.if-text-len-ne35.true

pub returns-clause-code : goal.returns-clause-code
returns-clause-code c =
    code_is_ok c.args.text.now c.code_len-len.result c.code_len-len.ensures.value (λ lt.
    elim c.else-len-text.branch [
      | else-len-text-via-then-len-text+then-text-len-ne10+else-text-len-ne35 w ↦ inr w.if-text-len-ne35.false
      | else-len-text-via-then-len-text+else-text-len-ne10 w ↦ inl w.if-text-len-ne10.false
      | else-len-text-via-else-len-text w ↦ absurd (omega arith)
    ])
