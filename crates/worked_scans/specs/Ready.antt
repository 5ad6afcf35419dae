-- When a test may run a batch.
use Rattle.std.specs.Prelude.{◌≡◌, ◌≤◌, ◌<◌, ◌+◌, pos, true, List, length}
use Rattle.std.specs.List.{All}
use Rattle.aria_base.specs.Schemas.{Fits}
use Rattle.aria_base.specs.declared.limits.TheConstants.{GREATEST_NUMBER}
use Rattle.aria_base.specs.declared.schemas.Table.{Table}
use Rattle.range_rules.specs.declared.routines.Work.{Work}
use Rattle.range_rules.specs.declared.routines.TheConstants.{MOST_WORKS}
use Rattle.range_suits.specs.Suits.{is_taken}
use Rattle.range_resv.specs.Engines.{Between}
use Rattle.worked_scans.specs.Steps.{longest, number_row, pair, takes_any, under_text}

-- table 0 is there, and has keys of two numbers and rows of one; table 1 likewise has keys of a text and a number
pub record HasTables (schema : List Table) : Type 0 where
  pub pairs : Fits schema (pair (pos 0) (pos 0)) (number_row (pos 0))
  pub texts : Fits schema (under_text longest (pos 0)) (number_row (pos 0))

-- the engine has these tables, takes these works and those that wait, and has room for them
pub record MayRun (engine : Between) (works : List Work) : Type 0 where
  pub tables : HasTables engine.plan.tables
  pub old : All (λ w. is_taken engine.plan takes_any w.work ≡ true) engine.carried
  pub new : All (λ work. is_taken engine.plan takes_any work ≡ true) works
  pub room : length engine.carried + length works ≤ MOST_WORKS
  pub batches : engine.batches < GREATEST_NUMBER
  pub requests : engine.requests + length works ≤ GREATEST_NUMBER
