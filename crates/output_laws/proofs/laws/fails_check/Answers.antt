use Rattle.output_laws.proofs.Whole as law
use Rattle.output_laws.proofs.laws.fails_check.Goals as goal

pub returns : goal.returns
returns c settings text = law.fails_check c.own_report.ensures c.open_report.ensures c.printed_lines.ensures settings text
