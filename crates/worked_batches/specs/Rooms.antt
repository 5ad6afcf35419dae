-- When a test may run a batch.
use Rattle.std.specs.Prelude.{◌≡◌, ◌≤◌, ◌<◌, ◌+◌, true, List, length}
use Rattle.std.specs.List.{All}
use Rattle.aria_base.specs.declared.calls.Call.{Call}
use Rattle.aria_base.specs.declared.limits.TheConstants.{GREATEST_NUMBER, MOST_REQUESTS}
use Rattle.batch_engine.specs.Engines.{Between}
use Rattle.proc_lang.specs.Catalogs.{takes}

-- the engine takes these calls, and has room for them
pub record HasRoom (engine : Between) (calls : List Call) : Type 0 where
  pub fit : All (λ call. takes engine.plan call ≡ true) calls
  pub room : length engine.carried + length calls ≤ MOST_REQUESTS
  pub batches : engine.batches < GREATEST_NUMBER
  pub requests : engine.requests + length calls ≤ GREATEST_NUMBER
