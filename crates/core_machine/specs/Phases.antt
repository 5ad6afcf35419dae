-- How many phases have ended.
use Rattle.std.specs.Prelude.{ℕ}
use Rattle.core_machine.specs.declared.phases.Phase.{Phase}
use Rattle.core_machine.specs.declared.phases.Phase.TheVariants.{Executing, Marking, Deciding, Installing, Settled}

abbrev pub ended : Phase → ℕ
ended Executing = 0
ended Marking = 1
ended Deciding = 2
ended Installing = 3
ended Settled = 4
