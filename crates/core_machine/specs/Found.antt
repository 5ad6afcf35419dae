-- What stands with a TID: the place of a list from 1.
use Rattle.std.specs.Prelude.{ℕ, ◌-◌, ◌==◌, List, slice_get, Option, Some, None, Bool, false, if◌then◌else◌}
use Rattle.aria_base.specs.Orders.{Cells}
use Rattle.aria_base.specs.declared.keys.Key.{Key}
use Rattle.batch_rules.specs.declared.verdicts.Verdict.{Verdict}
use Rattle.batch_rules.specs.Verdicts.{finishes}
use Rattle.proc_exec.specs.declared.outcomes.Outcome.{Outcome}
use Rattle.core_machine.specs.Machines.{and_then}

abbrev pub at_tid : {X : Type 0} → List X → ℕ → Option X
at_tid xs tid = if tid == 0 then None else slice_get xs (tid - 1)

abbrev pub outcome_of : List (Option Outcome) → ℕ → Option Outcome
outcome_of outcomes tid = and_then (at_tid outcomes tid) (λ o. o)

-- the key at a place of its read set, and the key and row at one of its write set
abbrev pub read_at : List (Option Outcome) → ℕ → ℕ → Option Key
read_at outcomes tid place = and_then (outcome_of outcomes tid) (λ o. slice_get o.reads place)

abbrev pub write_at : List (Option Outcome) → ℕ → ℕ → Option (Key × Option Cells)
write_at outcomes tid place = and_then (outcome_of outcomes tid) (λ o. slice_get o.writes place)

abbrev pub finishes_by : Option Verdict → Bool
finishes_by None = false
finishes_by (Some v) = finishes v
