-- The report of a script: what its batches print one after the other, then batches without new calls, then the listing.
use Rattle.std.specs.Prelude.{◌≡◌, ◌<◌, ◌≤◌, ◌+◌, ◌^◌, ⊤, ℕ, nat_le, Bool, false, if◌then◌else◌, List, [], ◌∷◌, ◌++◌, length, map}
use Rattle.aria_base.specs.Orders.{Database}
use Rattle.aria_base.specs.declared.calls.Call.{Call}
use Rattle.aria_base.specs.declared.limits.TheConstants.{MOST_REQUESTS}
use Rattle.batch_core.specs.Steps.{State, Handed, step, answer, run}
use Rattle.batch_rules.specs.declared.verdicts.Rule.{Rule}
use Rattle.proc_lang.specs.Catalogs.{Plan, run_of}
use Rattle.serial_check.specs.Lines.{kept_line}
use Rattle.report_laws.specs.Printed.{answer_lines, state_lines}

-- the batches of a script, each with its number: what the check of a report is told of them
abbrev pub calls_of : List (ℕ × Handed) → List (ℕ × List Call)
calls_of script = map (λ batch. (batch.0, batch.1.calls)) script

-- before the first batch
abbrev pub fresh : Rule → ℕ → Database → State
fresh rule percent rows = record { rule = rule; percent = percent; rows = rows; waiting = []; batches = 0; requests = 0 }

-- the batch with this number was run before
abbrev pub is_kept : State → ℕ × Handed → Bool
is_kept state batch = nat_le batch.0 state.batches

module _ (plan : Plan) where
  -- the state behind a batch of the script, and behind all of them
  abbrev pub next : State → ℕ × Handed → State
  next state batch = if is_kept state batch then state else step (run_of plan) state batch.1

  abbrev pub left : State → List (ℕ × Handed) → State
  left state [] = state
  left state (batch ∷ more) = left (next state batch) more

  -- each batch that is to be run has room for its requests beside those that wait, and their numbers are of 64 bits
  abbrev pub HaveRoom : State → List (ℕ × Handed) → Type 0
  HaveRoom state [] = ⊤
  HaveRoom state (batch ∷ more) =
      (is_kept state batch ≡ false → (length state.waiting + length batch.1.calls ≤ MOST_REQUESTS)
      × (state.requests + length batch.1.calls < 2 ^ 64))
      × HaveRoom (next state batch) more

  -- batches without new calls, each while something waits
  abbrev pub AreDrains : State → List Handed → Type 0
  AreDrains state [] = ⊤
  AreDrains state (handed ∷ more) =
      (handed.calls ≡ []) × (0 < length state.waiting) × AreDrains (step (run_of plan) state handed) more

  -- `each` tells whether a listing follows each answer
  module _ (each : Bool) where
    abbrev pub batch_lines : State → Handed → List (List ℕ)
    batch_lines state handed =
        answer_lines plan.tables (answer (run_of plan) state handed)
        ++ (if each then state_lines plan (step (run_of plan) state handed) else [])

    abbrev pub script_lines : State → List (ℕ × Handed) → List (List ℕ)
    script_lines state [] = []
    script_lines state (batch ∷ more) =
        (if is_kept state batch then kept_line batch.0 ∷ [] else batch_lines state batch.1) ++ script_lines (next state batch) more

    abbrev pub drain_lines : State → List Handed → List (List ℕ)
    drain_lines state [] = []
    drain_lines state (handed ∷ more) = batch_lines state handed ++ drain_lines (step (run_of plan) state handed) more

    -- whether the last line so far is one of a listing
    abbrev pub listed_script : Bool → State → List (ℕ × Handed) → Bool
    listed_script now state [] = now
    listed_script now state (batch ∷ more) = listed_script (if is_kept state batch then false else each) (next state batch) more

    abbrev pub listed_drains : Bool → List Handed → Bool
    listed_drains now [] = now
    listed_drains now (handed ∷ more) = listed_drains each more

    -- whether a listing stands last where each answer has one and none follows all: the last thing printed is an answer
    abbrev pub ends_listed : State → List (ℕ × Handed) → List Handed → Bool
    ends_listed state script drains = listed_drains (listed_script false state script) drains

    -- all of it; where not each answer has a listing, one follows everything
    abbrev pub report : State → List (ℕ × Handed) → List Handed → List (List ℕ)
    report state script drains =
        script_lines state script ++ drain_lines (left state script) drains
        ++ (if each then [] else state_lines plan (run (run_of plan) (left state script) drains))
