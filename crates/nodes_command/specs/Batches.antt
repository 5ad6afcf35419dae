-- What a batch makes of nodes.
use Rattle.std.specs.Prelude.{◌≡◌, ◌+◌, ◌-◌, ◌++◌, ℕ, Bool, if◌then◌else◌, List, [], length}
use Rattle.answer_text.specs.Answers.{answer_text}
use Rattle.aria_base.specs.declared.calls.Call.{Call}
use Rattle.batch_core.specs.Steps.{answer, step}
use Rattle.batch_core.specs.declared.answers.Answer.{Answer}
use Rattle.node_world.specs.Steps.{IsFixed}
use Rattle.part_nodes.specs.Asked.{handed_in, state_in}
use Rattle.part_nodes.specs.declared.nodes.Nodes.{Nodes}
use Rattle.proc_lang.specs.Catalogs.{Plan, run_of}
use Rattle.serving.specs.Lives.{handed_at, listing}
use Rattle.nodes_command.specs.Bases.{AreDone, state_now}

-- the answer of the batch behind so many
abbrev pub answer_at : Nodes → ℕ → Answer
answer_at n done = answer (run_of n.world.catalog) (state_in n.start.value n.world done) (handed_in n.start.value n.world done)

-- what the last batch printed
abbrev pub last_text : Plan → Bool → Nodes → List ℕ
last_text plan each n =
    answer_text plan.tables (answer_at n (length n.world.started.items - 1)) ++ (if each then listing plan (state_now n) else [])

-- the nodes behind a batch of these calls: one database has the state that the batch leaves, and its answer is that of the batch
pub record IsNext (before : Nodes) (calls : List Call) (after : Nodes) : Type 0 where
  pub done : AreDone after
  pub fixed : IsFixed before.world after.world
  pub batches : length after.world.started.items ≡ length before.world.started.items + 1
  pub requests : after.world.requests ≡ before.world.requests + length calls
  pub state : state_now after ≡ step (run_of before.world.catalog) (state_now before) (handed_at (state_now before) calls)
  pub answer : answer_at after (length before.world.started.items)
      ≡ answer (run_of before.world.catalog) (state_now before) (handed_at (state_now before) calls)
