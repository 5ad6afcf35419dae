use Rattle.std.proofs.Common.{true, refl}
use Rattle.report_laws.proofs.Whole as all
use Rattle.report_laws.proofs.laws.open_report.Goals as goal

pub returns : goal.returns
returns c plan rule percent rows script drains room d last = all.open_report plan rule percent rows true script drains room d refl last
