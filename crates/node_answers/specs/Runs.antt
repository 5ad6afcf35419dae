-- Nodes and a run of batches: the same states and answers.
use Rattle.std.specs.Prelude.{◌≡◌, ℕ, ◌+◌, ◌<◌, List, [], map, length, take, slice_index_or}
use Rattle.aria_base.specs.Orders.{key_cmp, Cells, Database}
use Rattle.aria_base.specs.declared.calls.Call.{Call}
use Rattle.aria_base.specs.declared.calls.Request.{Request}
use Rattle.batch_rules.specs.declared.verdicts.Rule.{Rule}
use Rattle.batch_core.specs.Steps.{State, Handed, list_of, step, answer_by, answer, run}
use Rattle.proc_lang.specs.Catalogs.{Plan, run_of}
use Rattle.proc_lang.specs.declared.ends.End.{End}
use Rattle.node_rules.specs.Nets.{Net}
use Rattle.node_rules.specs.Truths.{between, course, entries_on}
use Rattle.node_batch.specs.Letters.{Same, net_of}
use Rattle.node_seats.specs.Nodes.{news_of}

-- a percentage at which the late fold never runs
abbrev pub NEVER : ℕ
NEVER = 101

abbrev pub handed : Rule → List Call → Handed
handed rule calls = record { rule = rule; percent = NEVER; calls = calls }

abbrev pub state_at_first : Rule → Database → State
state_at_first rule start = record { rule = rule; percent = NEVER; rows = start; waiting = []; batches = 0; requests = 0 }

module _ (plan : Plan) (rule : Rule) (start : Database) (batches : List (List Call)) where
  -- the state of one database after so many batches, and the batch behind them
  abbrev pub state_after : ℕ → State
  state_after done = run (run_of plan) (state_at_first rule start) (map (handed rule) (take done batches))

  abbrev pub handed_at : ℕ → Handed
  handed_at done = handed rule (slice_index_or batches done [])

module _ (plan : Plan) (rule : Rule) (nodes : ℕ) (same : Same) (start : Database) (batches : List (List Call)) where
  abbrev pub net : Net key_cmp Cells Request End
  net = net_of plan rule nodes same

  abbrev pub started : List (List Request)
  started = news_of 0 batches

  abbrev pub state : ℕ → State
  state done = state_after plan rule start batches done

  -- what nodes have between two batches is that state's; and what becomes of a batch's requests is its answer
  pub record IsRun (done : ℕ) : Type 0 where
    pub rows : (between net start started done).rows ≡ (state done).rows
    pub waiting : (between net start started done).waiting ≡ (state done).waiting
    pub answer : done < length batches
        → answer_by (λ r. r) (done + 1) (course net start started done).list (entries_on net (course net start started done))
        ≡ answer (run_of plan) (state done) (handed_at plan rule start batches done)
    -- one batch more
    pub next : done < length batches → state (done + 1) ≡ step (run_of plan) (state done) (handed_at plan rule start batches done)
    pub list : done < length batches → (course net start started done).list ≡ list_of (state done) (handed_at plan rule start batches done)
