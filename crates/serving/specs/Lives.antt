-- The database that is served, and what a batch of it prints and leaves.
use Rattle.std.specs.Prelude.{◌≡◌, ◌≤◌, ◌<◌, ◌+◌, ℕ, Bool, true, if◌then◌else◌, List, [], ◌∷◌, ◌++◌, length}
use Rattle.std.specs.List.{All}
use Rattle.std.specs.FinMap as fin
use Rattle.aria_base.specs.Orders.{Database}
use Rattle.aria_base.specs.declared.calls.Call.{Call}
use Rattle.aria_base.specs.declared.calls.Request.{Request}
use Rattle.aria_base.specs.declared.limits.TheConstants.{GREATEST_NUMBER, MOST_PERCENT, MOST_REQUESTS, MOST_WORKERS}
use Rattle.answer_text.specs.Answers.{answer_text}
use Rattle.answer_text.specs.States.{state_text}
use Rattle.batch_core.specs.Serial.{IsSerialAnswer}
use Rattle.batch_core.specs.Steps.{State, Handed, list_of, step, answer}
use Rattle.batch_core.specs.declared.answers.Answer.{Answer}
use Rattle.batch_engine.specs.Engines.{Between, state_in, handed_by}
use Rattle.batch_engine.specs.Marks.{HasMarked}
use Rattle.dep_rules.specs.declared.configs.Config.{Config}
use Rattle.proc_lang.specs.Catalogs.{Plan, takes, run_of}
use Rattle.serving.specs.declared.lives.Live.{Live}

-- ---- the engines are alike, and there is always one: the first tells of all

-- a catalogue without tables and procedures
abbrev pub no_plan : Plan
no_plan = record { tables = []; procs = [] }

-- the state of these rows, requests that wait, and counts, with these settings
abbrev pub begun_state : Config → Database → List Request → ℕ → ℕ → State
begun_state config rows waiting batches requests =
    record { rule = config.rule; percent = config.fallback; rows = rows; waiting = waiting; batches = batches; requests = requests }

-- the state of no rows before the first batch
abbrev pub blank : Config → State
blank config = begun_state config fin.empty [] 0 0

abbrev pub plan_in : List Between → Plan
plan_in [] = no_plan
plan_in (engine ∷ rest) = engine.plan

abbrev pub first_state : Config → List Between → State
first_state config [] = blank config
first_state config (engine ∷ rest) = state_in config engine

-- the catalogue, and the state with the settings of the next batch
abbrev pub plan_of : Live → Plan
plan_of live = plan_in live.replicas

abbrev pub state_of : Live → State
state_of live = first_state live.config live.replicas

-- ---- a batch

-- the listing of a state
abbrev pub listing : Plan → State → List ℕ
listing plan state = state_text plan.tables state.rows state.batches

-- what a batch prints: its answer, and behind it, where each answer has one, the listing
abbrev pub batch_text : Plan → Bool → State → Handed → List ℕ
batch_text plan each state handed =
    answer_text plan.tables (answer (run_of plan) state handed)
    ++ (if each then listing plan (step (run_of plan) state handed) else [])

-- calls as a batch, by the settings of a state
abbrev pub handed_at : State → List Call → Handed
handed_at state calls = record { rule = state.rule; percent = state.percent; calls = calls }

-- a batch of these calls by the settings of the database
abbrev pub next_handed : Live → List Call → Handed
next_handed live calls = handed_by live.config calls

abbrev pub next_text : Live → List Call → List ℕ
next_text live calls = batch_text (plan_of live) live.each (state_of live) (next_handed live calls)

abbrev pub next_state : Live → List Call → State
next_state live calls = step (run_of (plan_of live)) (state_of live) (next_handed live calls)

abbrev pub next_answer : Live → List Call → Answer
next_answer live calls = answer (run_of (plan_of live)) (state_of live) (next_handed live calls)

-- the answer of a batch of these calls tells a serial run of its list
abbrev pub IsSerialNext : Live → List Call → Type 0
IsSerialNext live calls =
    IsSerialAnswer (run_of (plan_of live)) (state_of live).rows (list_of (state_of live) (next_handed live calls)) (next_answer live calls)
    (next_state live calls)

-- what is true between batches: the bounds of what waits and of the numbers, and the settings within theirs
pub record IsRunnable (live : Live) : Type 0 where
  pub few : length (state_of live).waiting ≤ MOST_REQUESTS
  pub batches_within : (state_of live).batches ≤ GREATEST_NUMBER
  pub requests_within : (state_of live).requests ≤ GREATEST_NUMBER
  pub percent : live.config.fallback ≤ MOST_PERCENT
  pub workers : (1 ≤ live.config.workers) × (live.config.workers ≤ MOST_WORKERS)

-- a batch of these calls may be run
pub record MayServe (live : Live) (calls : List Call) : Type 0 where
  pub fit : All (λ call. takes (plan_of live) call ≡ true) calls
  pub room : length (state_of live).waiting + length calls ≤ MOST_REQUESTS
  pub batches : (state_of live).batches < GREATEST_NUMBER
  pub requests : (state_of live).requests + length calls ≤ GREATEST_NUMBER
  pub percent : live.config.fallback ≤ MOST_PERCENT
  pub workers : (1 ≤ live.config.workers) × (live.config.workers ≤ MOST_WORKERS)

-- the engine stands behind this batch, which it has marked itself
pub record StandsAfter (plan : Plan) (config : Config) (state : State) (handed : Handed) (engine : Between) : Type 0 where
  pub plan_kept : engine.plan ≡ plan
  pub state_after : state_in config engine ≡ step (run_of plan) state handed
  pub marked : HasMarked (run_of plan) state.rows (list_of state handed) engine.marked

-- what a batch of these calls comes to: as many engines, each behind the batch, the same settings, and a serial answer
pub record IsNext (before : Live) (calls : List Call) (after : Live) : Type 0 where
  pub engines : All (StandsAfter (plan_of before) before.config (state_of before) (next_handed before calls)) after.replicas
  pub count : length after.replicas ≡ length before.replicas
  pub plan : plan_of after ≡ plan_of before
  pub state : state_of after ≡ next_state before calls
  pub config : after.config ≡ before.config
  pub each : after.each ≡ before.each
  pub checkpoint : after.checkpoint ≡ before.checkpoint
  pub runnable : IsRunnable after
  pub serial : IsSerialNext before calls

-- the same database further on: its catalogue and its settings stay
pub record IsLike (before after : Live) : Type 0 where
  pub plan : plan_of after ≡ plan_of before
  pub config : after.config ≡ before.config
  pub each : after.each ≡ before.each
  pub checkpoint : after.checkpoint ≡ before.checkpoint
  pub count : length after.replicas ≡ length before.replicas
  pub runnable : IsRunnable after
