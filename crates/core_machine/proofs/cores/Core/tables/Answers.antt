use Rattle.core_machine.proofs.Taking.{tables_settled}
use Rattle.core_machine.proofs.cores.Core.tables.Goals as goal

pub returns : goal.returns
returns c = λ b es taken end. tables_settled b es c.args.self.now taken end
