use Rattle.std.proofs.Common.{sym, ◌∙◌}
use Rattle.core_machine.proofs.Having.{can_take}
use Rattle.core_machine.proofs.Taking.{turn_due, other_due}
use Rattle.core_machine.proofs.cores.Core.is_due.Goals as goal

pub returns-in-Turn-clause-due : goal.returns-in-Turn-clause-due
returns-in-Turn-clause-due c = λ b es taken. rw c.in-Turn.is (turn_due b es c.args.self.now taken c.has_all.result c.has_all.ensures)

pub returns : goal.returns
returns c = record {
  due = λ b es taken. other_due b es c.args.self.now taken c.args.event c.in_default.not-Turn c.is_open.result c.is_open.ensures;
  possible = λ said. can_take c.args.self.now c.args.event (sym c.is_open.ensures ∙ said);
}
