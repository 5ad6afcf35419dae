-- An engine between two batches.
use Rattle.std.specs.Prelude.{◌≡◌, ◌≤◌, ℕ, true, List, Option, length}
use Rattle.std.specs.List.{All}
use Rattle.aria_base.specs.Orders.{Database}
use Rattle.aria_base.specs.Schemas.{IsConsistent}
use Rattle.aria_base.specs.declared.calls.Call.{Call}
use Rattle.aria_base.specs.declared.calls.Request.{Request}
use Rattle.aria_base.specs.declared.limits.TheConstants.{GREATEST_NUMBER, MOST_REQUESTS}
use Rattle.proc_lang.specs.Catalogs.{Plan, takes}
use Rattle.dep_rules.specs.declared.configs.Config.{Config}
use Rattle.batch_core.specs.Serial.{RiseWithin}
use Rattle.batch_core.specs.Steps.{State, Handed}
use Rattle.batch_engine.specs.Marks.{Marks}

-- its catalogue, its rows, the requests that wait, how many batches were run and requests numbered, and what was marked in the last
-- batch, where one was run on it
pub record Between : Type 0 where
  pub plan : Plan
  pub rows : Database
  pub carried : List Request
  pub batches : ℕ
  pub requests : ℕ
  pub marked : Option Marks

-- the state that it stands for, with these settings
abbrev pub state_in : Config → Between → State
state_in config engine = record {
  rule = config.rule;
  percent = config.fallback;
  rows = engine.rows;
  waiting = engine.carried;
  batches = engine.batches;
  requests = engine.requests;
}

-- new calls with the settings of their batch
abbrev pub handed_by : Config → List Call → Handed
handed_by config calls = record { rule = config.rule; percent = config.fallback; calls = calls }

-- what is true of every engine
pub record IsReady (plan : Plan) (rows : Database) (carried : List Request) (batches requests : ℕ) : Type 0 where
  pub consistent : IsConsistent plan.tables rows
  pub fit : All (λ request. takes plan request.call ≡ true) carried
  pub numbered : RiseWithin (λ request. request.q) 0 carried requests
  pub few : length carried ≤ MOST_REQUESTS
  pub batches_within : batches ≤ GREATEST_NUMBER
  pub requests_within : requests ≤ GREATEST_NUMBER
