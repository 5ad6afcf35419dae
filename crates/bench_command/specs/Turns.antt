-- A workload between two of its batches, in memory.
use Rattle.std.specs.Prelude.{◌≡◌, ◌≤◌, ◌*◌, List}
use Rattle.aria_base.specs.declared.calls.Call.{Call}
use Rattle.aria_base.specs.declared.limits.TheConstants.{MOST_REQUESTS}
use Rattle.batch_core.specs.Steps.{answer, step}
use Rattle.proc_lang.specs.Catalogs.{Plan, run_of}
use Rattle.serving.specs.Lives.{IsRunnable, handed_at, plan_of, state_of}
use Rattle.bench_command.specs.declared.turns.Turn.{Turn}
use Rattle.bench_command.specs.Benches.{Ran}
use Rattle.bench_command.specs.Tallies.{lines_of, tally_of, with_lines}

-- it stands behind so few batches that nothing runs over: a batch has a bounded number of requests, and a line of each
pub record Stands (under : Plan) (turn : Turn) : Type 0 where
  pub plan : plan_of turn.live ≡ under
  pub runnable : IsRunnable turn.live
  pub requests : (state_of turn.live).requests ≤ MOST_REQUESTS * (state_of turn.live).batches
  pub ok : turn.tally.ok ≤ MOST_REQUESTS * (state_of turn.live).batches
  pub back : turn.tally.back ≤ MOST_REQUESTS * (state_of turn.live).batches
  pub trap : turn.tally.trap ≤ MOST_REQUESTS * (state_of turn.live).batches
  pub waits : turn.tally.waits ≤ MOST_REQUESTS * (state_of turn.live).batches

-- what a batch of these calls makes of it
pub record IsBehind (before : Turn) (calls : List Call) (after : Turn) : Type 0 where
  pub state : state_of after.live ≡ step (run_of (plan_of before.live)) (state_of before.live) (handed_at (state_of before.live) calls)
  pub tally : after.tally
      ≡ with_lines before.tally
      (answer (run_of (plan_of before.live)) (state_of before.live) (handed_at (state_of before.live) calls)).lines
  pub plan : plan_of after.live ≡ plan_of before.live
  pub config : after.live.config ≡ before.live.config

-- what batches make of it that come to this
pub record Came (before : Turn) (ran : Ran) (after : Turn) : Type 0 where
  pub state : state_of after.live ≡ ran.state
  pub tally : after.tally ≡ with_lines before.tally (lines_of ran.answers)

-- what a workload comes to behind its last batch
pub record CameTo (ran : Ran) (turn : Turn) : Type 0 where
  pub state : state_of turn.live ≡ ran.state
  pub tally : turn.tally ≡ tally_of ran.answers
