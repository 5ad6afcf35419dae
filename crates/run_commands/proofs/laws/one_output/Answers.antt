use Rattle.run_commands.proofs.Serial as law
use Rattle.run_commands.proofs.laws.one_output.Goals as goal

pub returns : goal.returns
returns c = law.one_output
