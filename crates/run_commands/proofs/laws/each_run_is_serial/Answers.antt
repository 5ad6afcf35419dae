use Rattle.run_commands.proofs.Serial as law
use Rattle.run_commands.proofs.laws.each_run_is_serial.Goals as goal

pub returns : goal.returns
returns c = law.each_run_is_serial
