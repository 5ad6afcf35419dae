use Rattle.std.proofs.Common.{rules}
use Rattle.serial_check.proofs.OrderSteps.{taken_out}
use Rattle.serial_check.proofs.orders.take.Goals as goal

pub returns-clause-left : goal.returns-clause-left
returns-clause-left c = λ other. taken_out c.args.token.now _ other _ _ (c.remove.ensures.updates.0 other) (search rules)
