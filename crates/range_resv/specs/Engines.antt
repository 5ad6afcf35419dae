-- An engine between two batches.
use Rattle.std.specs.Prelude.{◌≤◌, ⊤, ℕ, List, length, Option, Some, None, refl}
use Rattle.std.specs.Coded.{Coded, code_by, coded×, coded_ℕ, coded_list}
use Rattle.aria_base.specs.Codes.{database_code}
use Rattle.aria_base.specs.Orders.{Database}
use Rattle.aria_base.specs.Schemas.{IsConsistent}
use Rattle.aria_base.specs.declared.limits.TheConstants.{GREATEST_NUMBER}
use Rattle.batch_core.specs.Serial.{RiseWithin}
use Rattle.batch_rules.specs.declared.verdicts.Rule.{Rule}
use Rattle.proc_lang.specs.CatalogCodes.{plan_code}
use Rattle.proc_lang.specs.Catalogs.{Plan, run_of}
use Rattle.range_rules.specs.contracts.routines.NumberedWork as numbered_work
use Rattle.range_rules.specs.declared.routines.Action.{Action}
use Rattle.range_rules.specs.declared.routines.NumberedWork.{NumberedWork}
use Rattle.range_rules.specs.declared.routines.RoutineCall.{RoutineCall}
use Rattle.range_rules.specs.declared.routines.Seen.{Seen}
use Rattle.range_rules.specs.declared.routines.Work.{Work}
use Rattle.range_rules.specs.declared.routines.TheConstants.{MOST_WORKS}
use Rattle.range_rules.specs.Batches.{Outcome, batch_of, list_of}
use Rattle.range_runs.specs.Indexes.{Listed, IsIndexOf}

-- its catalogue, its rows, the works that wait, and how many batches were run and requests numbered
pub record Between : Type 0 where
  pub plan : Plan
  pub rows : Database
  pub carried : List NumberedWork
  pub batches : ℕ
  pub requests : ℕ

abbrev pub between_code : Coded Between
between_code = code_by ((Plan × Database) × (List NumberedWork × (ℕ × ℕ)))
    (coded× (coded× plan_code database_code) (coded× (coded_list (numbered_work.the_row).coded) (coded× coded_ℕ coded_ℕ)))
    (λ e. ((e.plan, e.rows), (e.carried, (e.batches, e.requests))))
    (λ p. record { plan = p.0.0; rows = p.0.1; carried = p.1.0; batches = p.1.1.0; requests = p.1.1.1 })
    (λ _. refl)

-- what is true of every engine
pub record IsReady (plan : Plan) (rows : Database) (carried : List NumberedWork) (batches requests : ℕ) : Type 0 where
  pub consistent : IsConsistent plan.tables rows
  pub numbered : RiseWithin (λ w. w.q) 0 carried requests
  pub few : length carried ≤ MOST_WORKS
  pub batches_within : batches ≤ GREATEST_NUMBER
  pub requests_within : requests ≤ GREATEST_NUMBER

-- where there is an index, it has the keys of these rows
abbrev pub IsIndexIn : Option Listed → Database → Type 0
IsIndexIn None rows = ⊤
IsIndexIn (Some index) rows = IsIndexOf index rows

-- the list of the next batch
abbrev pub list_from : Between → List Work → List NumberedWork
list_from engine new = list_of engine.carried engine.requests new

-- and what that batch comes to, with these routines
abbrev pub batch_from : (ℕ → RoutineCall → List Seen → Action) → Rule → Between → List Work → Outcome
batch_from act rule engine new = batch_of (run_of engine.plan) act rule engine.rows (list_from engine new)
