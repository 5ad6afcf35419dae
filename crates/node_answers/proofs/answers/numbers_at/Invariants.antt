use Rattle.std.proofs.Common.{◌≡◌, map, take}
use Rattle.batch_core.specs.Steps.{number_at}
use Rattle.node_answers.specs.Merges.{list_in}
use Rattle.node_answers.proofs.answers.numbers_at.Given as goal

abbrev pub invariant-loop-tid : goal.invariant-loop-tid
invariant-loop-tid l = l.order.items ≡ map (number_at (list_in l.entries)) (take l.tid-index l.tids)
