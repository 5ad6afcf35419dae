use Rattle.report_laws.proofs.Whole as all
use Rattle.report_laws.proofs.laws.own_report.Goals as goal

pub returns : goal.returns
returns c plan rule percent rows each script drains room d last = all.own_report plan rule percent rows each script drains room d last
