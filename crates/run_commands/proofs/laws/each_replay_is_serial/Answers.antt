use Rattle.run_commands.proofs.Serial as law
use Rattle.run_commands.proofs.laws.each_replay_is_serial.Goals as goal

pub returns : goal.returns
returns c = law.each_replay_is_serial
