use Rattle.serial_check.proofs.HeldReports as all
use Rattle.serial_check.proofs.laws.held.Goals as goal

pub returns : goal.returns
returns c plan report rows script h = all.held plan report rows script h
