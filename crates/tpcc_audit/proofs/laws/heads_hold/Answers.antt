use Rattle.aria_base.specs.Draws.{standing}
use Rattle.tpcc_audit.proofs.Audited.{head-holds}
use Rattle.tpcc_audit.proofs.laws.heads_hold.Goals as goal

pub returns : goal.returns
returns c = record { each = λ s within. head-holds s within (standing s.number 1 0) }
