use Rattle.std.proofs.Common.{◌≡◌, take, fold}
use Rattle.std.specs.Option.{option_map_or}
use Rattle.std.specs.FinMap as fin
use Rattle.std.specs.FinMap.{empty}
use Rattle.batch_rules.specs.Plays.{after_read, after_write}
use Rattle.batch_rules.specs.Touches.{nothing}
use Rattle.proc_exec.specs.Steppings.{Window}
use Rattle.worked_runs.proofs.windows.WindowAccess.read.Given as goal

abbrev pub invariant-loop-visit : goal.invariant-loop-visit
invariant-loop-visit l =
    let none : Window = record { map = empty; noted = nothing } in
    l.found ≡ fin.get (fold (λ s v. option_map_or (after_write s v.0) v.1 (after_read s v.0)) none (take l.visit-index l.visit-items)).map l.key
