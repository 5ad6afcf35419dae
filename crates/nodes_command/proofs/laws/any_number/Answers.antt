use Rattle.nodes_command.proofs.Printed as law
use Rattle.nodes_command.proofs.laws.any_number.Goals as goal

pub returns : goal.returns
returns c = law.any_number
