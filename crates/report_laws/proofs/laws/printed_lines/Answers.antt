use Rattle.report_laws.proofs.Texts as all
use Rattle.report_laws.proofs.laws.printed_lines.Goals as goal

pub returns : goal.returns
returns c = all.printed_lines
