use Rattle.report_text.proofs.Parts.{plain_is_part}
use Rattle.report_text.proofs.laws.plain_reports_are_parts.Goals as goal

pub returns : goal.returns
returns c = plain_is_part
