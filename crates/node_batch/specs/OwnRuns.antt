-- What a request was told, as a database.
use Rattle.std.specs.Prelude.{List, Option}
use Rattle.std.specs.FinMap as fin
use Rattle.aria_base.specs.Orders.{Cells, Database}
use Rattle.aria_base.specs.declared.keys.Key.{Key}
use Rattle.batch_rules.specs.Touches.{overwritten}
use Rattle.node_batch.specs.declared.own_runs.OwnRun.{OwnRun}

abbrev pub rows_of : List (Key × Option Cells) → Database
rows_of told = overwritten fin.empty told

-- the rows, in the order in which they were told
abbrev pub told_of : OwnRun → List (Key × Option Cells)
told_of run = run.told.items
