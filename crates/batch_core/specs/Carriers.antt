-- A batch by whatever carries its requests with what their runs on the start came to, as code has it after the execution phase.
use Rattle.std.specs.Prelude.{◌≡◌, ◌+◌, map}
use Rattle.aria_base.specs.Orders.{key_cmp, Cells, Database}
use Rattle.aria_base.specs.declared.keys.Key.{Key}
use Rattle.aria_base.specs.declared.calls.Request.{Request}
use Rattle.proc_lang.specs.declared.ends.End.{End}
use Rattle.proc_lang.specs.Meaning.{is_done}
use Rattle.batch_rules.specs.Trees.{Tree, end_of}
use Rattle.batch_rules.specs.Batches.{Carrier, Batch, reads_at, rows_at, batch_by}
use Rattle.batch_core.specs.Steps.{State, Handed, list_of, state_by, answer_by, step, answer}

-- what `of` makes of a request carries it, with what its run on the start comes to
pub record Carries {O : Type 0} (tree : Request → Tree Key Cells End) (start : Database) (request_of : O → Request)
    (by : Carrier Key Cells End O) (of : Request → O) : Type 0 where
  pub request : (q : Request) → request_of (of q) ≡ q
  pub reads : (q : Request) → by.reads (of q) ≡ reads_at is_done tree start q
  pub rows : (q : Request) → by.rows (of q) ≡ rows_at is_done tree start q
  pub end : (q : Request) → by.end (of q) ≡ end_of (tree q) start

-- such a batch leaves the state after the batch of the requests, and has its answer
pub record IsStep {O : Type 0} (tree : Request → Tree Key Cells End) (request_of : O → Request) (state : State)
    (handed : Handed) (batch : Batch key_cmp Cells O End) : Type 0 where
  pub left : state_by request_of state handed batch ≡ step tree state handed
  pub answer : answer_by request_of (state.batches + 1) (list_of state handed) batch.entries ≡ answer tree state handed

module _ {O : Type 0} (tree : Request → Tree Key Cells End) (request_of : O → Request) (by : Carrier Key Cells End O)
    (of : Request → O) where
  abbrev pub StepsBy : State → Handed → Type 0
  StepsBy state handed = Carries tree state.rows request_of by of
      → IsStep tree request_of state handed
      (batch_by by is_done (λ o. tree (request_of o)) handed.rule handed.percent state.rows (map of (list_of state handed)))
