-- The requests of a batch, apart by what the commit phase decided of them.
use Rattle.std.specs.Prelude.{ℕ, ◌+◌, List, [], ◌∷◌, Option}
use Rattle.aria_base.specs.Orders.{Cells}
use Rattle.aria_base.specs.declared.keys.Key.{Key}
use Rattle.aria_base.specs.declared.calls.Request.{Request}
use Rattle.batch_rules.specs.declared.verdicts.Verdict.{Verdict}
use Rattle.batch_rules.specs.declared.verdicts.Verdict.TheVariants.{Finish, Wait}
use Rattle.dep_rules.specs.declared.sets.Sets.{Sets}
use Rattle.batch_rules.specs.Touches.{keys_of}
use Rattle.proc_exec.specs.declared.outcomes.Outcome.{Outcome}
use Rattle.proc_exec.specs.declared.outcomes.Waiting.{Waiting}

-- the keys of an outcome
abbrev pub sets_in : Outcome → Sets
sets_in outcome = record { reads = outcome.reads; writes = keys_of outcome.writes }

-- a request that waits, with the keys that it touched
abbrev pub waiting_with : Request → Sets → Waiting
waiting_with request sets = record { request = request; declared = record { reads = sets.reads; writes = sets.writes } }

-- those that wait, in the order of the list
abbrev pub waiting_among : List Request → List Sets → List Verdict → List Waiting
waiting_among (request ∷ requests) (sets ∷ more) (Finish raw ∷ verdicts) = waiting_among requests more verdicts
waiting_among (request ∷ requests) (sets ∷ more) (Wait cause ∷ verdicts) = waiting_with request sets ∷ waiting_among requests more verdicts
waiting_among requests sets verdicts = []

-- the TIDs of those that wait, where the first request has this one
abbrev pub tids_among : ℕ → List Verdict → List ℕ
tids_among tid [] = []
tids_among tid (Finish raw ∷ verdicts) = tids_among (tid + 1) verdicts
tids_among tid (Wait cause ∷ verdicts) = tid ∷ tids_among (tid + 1) verdicts

-- the rows that each writes that finishes; one that waits writes none yet
abbrev pub counting : List (List (Key × Option Cells)) → List Verdict → List (List (Key × Option Cells))
counting (rows ∷ more) (Finish raw ∷ verdicts) = rows ∷ counting more verdicts
counting (rows ∷ more) (Wait cause ∷ verdicts) = [] ∷ counting more verdicts
counting more verdicts = []
