use Rattle.std.proofs.Common.{◌∙◌}
use Rattle.core_machine.proofs.Taking.{verdicts_settled}
use Rattle.core_machine.proofs.cores.Core.verdicts.Goals as goal

pub returns : goal.returns
returns c = λ b es taken end. c.as_slice.ensures.value ∙ verdicts_settled b es c.args.self.now taken end
