-- What the routine does, and when a batch may be run.
use Rattle.std.specs.Prelude.{◌≡◌, ◌≤◌, ◌<◌, ◌+◌, ℤ, pos, nat_lt, List, [], ◌∷◌, ◌++◌, length, Bool, true, nat_eq, if◌then◌else◌}
use Rattle.std.specs.List.{All}
use Rattle.aria_base.specs.Orders.{Cells}
use Rattle.aria_base.specs.Schemas.{Fits}
use Rattle.aria_base.specs.declared.keys.Key.{Key}
use Rattle.aria_base.specs.declared.keys.Part.TheVariants as part
use Rattle.aria_base.specs.declared.limits.TheConstants.{GREATEST_NUMBER}
use Rattle.aria_base.specs.declared.schemas.Table.{Table}
use Rattle.aria_base.specs.declared.values.Value.TheVariants as value
use Rattle.proc_lang.specs.declared.ends.End.{End}
use Rattle.proc_lang.specs.declared.ends.End.TheVariants as end
use Rattle.proc_lang.specs.declared.ends.Trap.TheVariants.{Absent, Many}
use Rattle.proc_lang.specs.declared.limits.TheConstants.{MOST_GIVEN}
use Rattle.range_resv.specs.Engines.{Between}
use Rattle.range_rules.specs.Walks.{Walk, Stops, Scans}
use Rattle.range_rules.specs.declared.routines.RoutineCall.{RoutineCall}
use Rattle.range_rules.specs.declared.routines.TheConstants.{MOST_WORKS}
use Rattle.range_rules.specs.declared.routines.Work.{Work}
use Rattle.range_suits.specs.Suits.{is_taken}

-- all that the rows hold, one after the other
abbrev pub told : List (Key × Cells) → Cells
told [] = []
told (e ∷ es) = e.1 ++ told es

-- a run gives so many values at most
abbrev pub done : Cells → End
done values = if nat_lt MOST_GIVEN (length values) then end.Trap Many else end.Done values

-- the orders of a customer are scanned, and told
abbrev pub orders_of : ℤ → Walk
orders_of customer = Scans (record { table = 0; parts = part.Int customer ∷ [] }) (λ rows. Stops (done (told rows)))

-- the routine by its numbers
abbrev pub open_orders : List ℤ → Walk
open_orders [] = Stops (end.Trap Absent)
open_orders (customer ∷ []) = orders_of customer
open_orders (customer ∷ more ∷ rest) = Stops (end.Trap Absent)

abbrev pub has_customer : RoutineCall → Bool
has_customer call = nat_eq (length call.nums) 1

-- table 0 is there, and has keys of two numbers and rows of one: this one fits
abbrev pub HasOrders : List Table → Type 0
HasOrders schema = Fits schema (record { table = 0; parts = part.Int (pos 7) ∷ part.Int (pos 1) ∷ [] }) (value.Int (pos 250) ∷ [])

-- the engine takes these works, and has room and numbers for them
pub record MayRun (engine : Between) (works : List Work) : Type 0 where
  pub taken : All (λ work. is_taken engine.plan has_customer work ≡ true) works
  pub room : length engine.carried + length works ≤ MOST_WORKS
  pub batches : engine.batches < GREATEST_NUMBER
  pub requests : engine.requests + length works ≤ GREATEST_NUMBER
