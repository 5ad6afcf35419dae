-- A workload run in memory: which answers its batches have, and the state behind the last one.
use Rattle.std.specs.Prelude.{ℕ, zero, suc, ◌+◌, ◌-◌, ◌==◌, ◌≤◌, min, Bool, if◌then◌else◌, List, [], ◌∷◌, ◌++◌, length}
use Rattle.rand_pcg.specs.Lcg.{Lcg}
use Rattle.aria_base.specs.declared.calls.Call.{Call}
use Rattle.aria_base.specs.declared.limits.TheConstants.{MOST_PERCENT, MOST_REPLICAS, MOST_REQUESTS, MOST_WORKERS}
use Rattle.batch_core.specs.Steps.{State, answer, step}
use Rattle.batch_core.specs.declared.answers.Answer.{Answer}
use Rattle.batch_rules.specs.declared.verdicts.Rule.{Rule}
use Rattle.command_words.specs.declared.settings.Bench.{Bench}
use Rattle.load_gen.specs.Draws.{times}
use Rattle.proc_lang.specs.Catalogs.{Plan, run_of}
use Rattle.serving.specs.Drains.{no_calls}
use Rattle.serving.specs.Lives.{handed_at}
use Rattle.workloads.specs.Generators.{generator_of, plan_of, rows_of, first_draws, request_of}
use Rattle.workloads.specs.Laws.{IsAsked}
use Rattle.workloads.specs.declared.generators.Generator.{Generator}

-- what batches came to: their answers, and the state behind them
pub record Ran : Type 0 where
  pub answers : List Answer
  pub state : State

-- no batch was run
abbrev pub none_ran : State → Ran
none_ran state = record { answers = []; state = state }

-- further batches behind those with these answers
abbrev pub ran_behind : List Answer → Ran → Ran
ran_behind earlier ran = record { answers = earlier ++ ran.answers; state = ran.state }

-- ---- the batches of the workload

-- how many new requests have room beside those that wait
abbrev pub room : State → ℕ
room state = MOST_REQUESTS - length state.waiting

-- the new requests of the next batch
abbrev pub calls_at : Generator → ℕ → State → Lcg → List Call × Lcg
calls_at g size state draws = times (min size (room state)) (request_of g (state.batches + 1)) draws

-- so many batches, each drawn behind the words of the one before
unfoldable pub batches_ran : Generator → ℕ → ℕ → State → Lcg → Ran
batches_ran g size zero state draws = none_ran state
batches_ran g size (suc n) state draws =
    let calls = calls_at g size state draws in
    let handed = handed_at state calls.0 in
    ran_behind (answer (run_of (plan_of g)) state handed ∷ []) (batches_ran g size n (step (run_of (plan_of g)) state handed) calls.1)

-- ---- what waits

-- at most so many batches without new requests, until nothing waits
unfoldable pub drains_ran : Plan → ℕ → State → Ran
drains_ran plan zero state = none_ran state
drains_ran plan (suc n) state =
    if length state.waiting == 0 then none_ran state
    else ran_behind (answer (run_of plan) state (no_calls state) ∷ []) (drains_ran plan n (step (run_of plan) state (no_calls state)))

-- as many as requests wait are enough: each batch finishes one at least
abbrev pub all_drained : Plan → State → Ran
all_drained plan state = drains_ran plan (length state.waiting) state

-- ---- the whole

-- before the first batch
abbrev pub head_state : Generator → Rule → ℕ → State
head_state g rule percent = record { rule = rule; percent = percent; rows = rows_of g; waiting = []; batches = 0; requests = 0 }

abbrev pub with_drains : Bool → Plan → Ran → Ran
with_drains drain plan ran = if drain then ran_behind ran.answers (all_drained plan ran.state) else ran

-- what the settings come to; workers, replicas and batons have no say
abbrev pub ran_of : Bench → Ran
ran_of b =
    let g = generator_of b.workload in
    with_drains b.drain (plan_of g)
    (batches_ran g b.workload.amount.size b.workload.amount.batches (head_state g b.rule b.fallback) (first_draws g))

-- the settings are within their bounds
pub record IsInRange (b : Bench) : Type 0 where
  pub asked : IsAsked b.workload
  pub workers : (1 ≤ b.workers) × (b.workers ≤ MOST_WORKERS)
  pub replicas : (1 ≤ b.replicas) × (b.replicas ≤ MOST_REPLICAS)
  pub fallback : b.fallback ≤ MOST_PERCENT
