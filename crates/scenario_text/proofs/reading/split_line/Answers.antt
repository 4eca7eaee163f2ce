use Rattle.std.proofs.Common.{length, ap, ◌∙◌}
use Rattle.std.specs.List.{after_first}
use Rattle.script_tokens.specs.Lines.{is_line_end}
use Rattle.script_tokens.proofs.LineLemmas.{after_within, code_within}
use Rattle.scenario_text.proofs.reading.split_line.Goals as goal

pub returns-clause-rest : goal.returns-clause-rest
returns-clause-rest c =
    c.after_line.ensures ∙ ap (after_first is_line_end) c.split_at.ensures.back
    ∙ after_within c.args.text.now (length c.in_ok-code.code.now) (code_within c.args.text.now c.in_ok-code.code.now c.in_ok-code.ensures.code)
