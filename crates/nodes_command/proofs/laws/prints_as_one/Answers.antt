use Rattle.nodes_command.proofs.Printed as law
use Rattle.nodes_command.proofs.laws.prints_as_one.Goals as goal

pub returns : goal.returns
returns c = law.prints_as_one
