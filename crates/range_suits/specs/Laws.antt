-- What is proved of the run of a work that is taken.
use Rattle.std.specs.Prelude.{◌≡◌, ℕ, ◌+◌, ◌≤◌, List, length, Bool, true}
use Rattle.aria_base.specs.Orders.{Database}
use Rattle.aria_base.specs.Schemas.{IsConsistent}
use Rattle.aria_base.specs.declared.limits.TheConstants.{GREATEST_NUMBER}
use Rattle.proc_lang.specs.Catalogs.{Plan, IsCatalog, run_of}
use Rattle.range_rules.specs.declared.routines.Action.{Action}
use Rattle.range_rules.specs.declared.routines.NumberedWork.{NumberedWork}
use Rattle.range_rules.specs.declared.routines.RoutineCall.{RoutineCall}
use Rattle.range_rules.specs.declared.routines.Seen.{Seen}
use Rattle.range_rules.specs.declared.routines.TheConstants.{MOST_ACTIONS}
use Rattle.range_rules.specs.Courses.{ran_on, left_on}
use Rattle.range_suits.specs.Suits.{Suits, is_taken, FitsRan}

module _ (plan : Plan) (taken : RoutineCall → Bool) (act : ℕ → RoutineCall → List Seen → Action) (w : NumberedWork) (db : Database) where
  -- its keys and prefixes fit; together they are no more than a routine may ask for actions; and it leaves consistent rows
  pub record IsWell : Type 0 where
    pub fits : FitsRan plan.tables (ran_on (run_of plan) act db w)
    pub few : length (ran_on (run_of plan) act db w).reads + length (ran_on (run_of plan) act db w).writes
        + length (ran_on (run_of plan) act db w).scans ≤ MOST_ACTIONS
    pub leaves : IsConsistent plan.tables (left_on (run_of plan) act db w)

  abbrev pub Behaves : Type 0
  Behaves = IsCatalog plan → Suits plan.tables taken act → is_taken plan taken w.work ≡ true → 1 ≤ w.q → w.q ≤ GREATEST_NUMBER
      → IsConsistent plan.tables db → IsWell
