use Rattle.std.proofs.Common.{◌≡◌, List, ◌++◌, take}
use Rattle.core_machine.specs.Cores.{Course, HasTaken}
use Rattle.core_machine.specs.declared.events.Event.{Event}
use Rattle.core_machine.proofs.event_runs.run.Given as goal

abbrev pub invariant-loop-at : goal.invariant-loop-at
invariant-loop-at l = (b : Course) (es : List Event) → HasTaken b es l.initial.core → HasTaken b (es ++ take l.at l.events) l.core
