-- Engines that stand for one database.
use Rattle.std.specs.Prelude.{◌≡◌, ◌≤◌, ◌<◌, ◌+◌, true, List, None, length}
use Rattle.std.specs.List.{All, AllZip}
use Rattle.aria_base.specs.declared.calls.Call.{Call}
use Rattle.aria_base.specs.declared.limits.TheConstants.{GREATEST_NUMBER, MOST_PERCENT, MOST_REPLICAS, MOST_REQUESTS, MOST_WORKERS}
use Rattle.batch_core.specs.Progress.{IsProgress}
use Rattle.batch_core.specs.Serial.{IsSerialAnswer}
use Rattle.batch_core.specs.Steps.{list_of, step, answer}
use Rattle.batch_core.specs.declared.answers.Answer.{Answer}
use Rattle.dep_rules.specs.declared.configs.Config.{Config}
use Rattle.proc_lang.specs.Catalogs.{takes, run_of}
use Rattle.batch_engine.specs.Engines.{Between, state_in, handed_by}
use Rattle.batch_engine.specs.Marks.{HasMarked}

-- an engine, whatever was marked in its last batch
abbrev pub unmarked : Between → Between
unmarked engine = record engine { marked = None }

-- at least one engine, at most eight, and any two of them alike but for what they marked
pub record AreAlike (engines : List Between) : Type 0 where
  pub some : 1 ≤ length engines
  pub few : length engines ≤ MOST_REPLICAS
  pub alike : All (λ one. All (λ other. unmarked one ≡ unmarked other) engines) engines

-- the engine may run a batch of these calls
pub record MayRun (config : Config) (calls : List Call) (engine : Between) : Type 0 where
  pub fit : All (λ call. takes engine.plan call ≡ true) calls
  pub room : length engine.carried + length calls ≤ MOST_REQUESTS
  pub batches : engine.batches < GREATEST_NUMBER
  pub requests : engine.requests + length calls ≤ GREATEST_NUMBER
  pub percent : config.fallback ≤ MOST_PERCENT
  pub workers : (1 ≤ config.workers) × (config.workers ≤ MOST_WORKERS)

-- the engine is what a batch of these calls leaves of `before`, and has marked that batch itself
pub record IsAfter (config : Config) (calls : List Call) (before after : Between) : Type 0 where
  pub plan : after.plan ≡ before.plan
  pub state : state_in config after ≡ step (run_of before.plan) (state_in config before) (handed_by config calls)
  pub marked : HasMarked (run_of before.plan) before.rows (list_of (state_in config before) (handed_by config calls)) after.marked

-- each engine is what the batch leaves of the one in its place before, and there are as many as before
abbrev pub AreAfter : Config → List Call → List Between → List Between → Type 0
AreAfter config calls = AllZip (IsAfter config calls)

-- the answer of that batch
abbrev pub answer_of : Config → List Call → Between → Answer
answer_of config calls before = answer (run_of before.plan) (state_in config before) (handed_by config calls)

-- it tells a serial run of the batch's list
abbrev pub IsSerialFor : Config → List Call → Answer → Between → Type 0
IsSerialFor config calls found before =
    IsSerialAnswer (run_of before.plan) before.rows (list_of (state_in config before) (handed_by config calls)) found
    (step (run_of before.plan) (state_in config before) (handed_by config calls))

-- its first request finishes, and what it carries stands at smaller places than before
abbrev pub IsProgressFor : Config → List Call → Answer → Between → Type 0
IsProgressFor config calls found before = 0 < length (list_of (state_in config before) (handed_by config calls))
    → IsProgress (run_of before.plan) before.rows (list_of (state_in config before) (handed_by config calls)) found
    (step (run_of before.plan) (state_in config before) (handed_by config calls))
