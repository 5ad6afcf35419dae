-- Batches one after the other: the list of a batch, its answer by request numbers, and the state that it leaves. The section's
-- argument says what a request does.
use Rattle.std.specs.Prelude.{ℕ, ◌+◌, ◌-◌, List, [], ◌∷◌, ◌++◌, map, length, slice_index_or, Option, Some, None}
use Rattle.std.specs.List.{slice_get}
use Rattle.aria_base.specs.Orders.{key_cmp, Cells, Database}
use Rattle.aria_base.specs.declared.keys.Key.{Key}
use Rattle.aria_base.specs.declared.calls.Call.{Call}
use Rattle.aria_base.specs.declared.calls.Request.{Request}
use Rattle.proc_lang.specs.declared.ends.End.{End}
use Rattle.proc_lang.specs.Meaning.{is_done}
use Rattle.batch_rules.specs.declared.verdicts.Rule.{Rule}
use Rattle.batch_rules.specs.declared.verdicts.Cause.{Cause}
use Rattle.batch_rules.specs.declared.verdicts.Cause.TheVariants as cause
use Rattle.batch_rules.specs.Trees.{Tree}
use Rattle.batch_rules.specs.Batches.{Fate, Ended, Waits, Moved, Entry, Batch, batch, ordered, carried}
use Rattle.batch_core.specs.declared.answers.Wait.{Wait}
use Rattle.batch_core.specs.declared.answers.Wait.TheVariants as wait
use Rattle.batch_core.specs.declared.answers.Reply.{Reply}
use Rattle.batch_core.specs.declared.answers.Reply.TheVariants as reply
use Rattle.batch_core.specs.declared.answers.Line.{Line}
use Rattle.batch_core.specs.declared.answers.Answer.{Answer}

-- what stands between two batches: the settings, the rows, the requests that wait, and how many batches were run and requests
-- numbered so far
pub record State : Type 0 where
  pub rule : Rule
  pub percent : ℕ
  pub rows : Database
  pub waiting : List Request
  pub batches : ℕ
  pub requests : ℕ

-- a batch as it is handed in: its settings and its new calls
pub record Handed : Type 0 where
  pub rule : Rule
  pub percent : ℕ
  pub calls : List Call

-- the calls with the request numbers that follow on n
abbrev pub numbered : ℕ → List Call → List Request
numbered n [] = []
numbered n (call ∷ calls) = record { q = n + 1; call = call } ∷ numbered (n + 1) calls

-- the list of a batch: what waits, then what is new
abbrev pub list_of : State → Handed → List Request
list_of state handed = state.waiting ++ numbered state.requests handed.calls

-- the number of the request at a place of the list, from 1
abbrev pub number_or : Option Request → ℕ
number_or None = 0
number_or (Some request) = request.q

abbrev pub number_at : List Request → ℕ → ℕ
number_at list tid = number_or (slice_get list (tid - 1))

-- and where these are the numbers of a list
abbrev pub number_in : List ℕ → ℕ → ℕ
number_in numbers tid = slice_index_or numbers (tid - 1) 0

-- a cause by request numbers, where `number` tells that of each TID
abbrev pub wait_by : (ℕ → ℕ) → Cause → Wait
wait_by number (cause.Waw waw) = wait.Waw (number waw)
wait_by number (cause.Raw raw) = wait.Raw (number raw)
wait_by number (cause.Both raw war) = wait.Both (number raw) (number war)

abbrev pub reply_by : (ℕ → ℕ) → Fate Key End → Reply
reply_by number (Ended end) = reply.Ended end
reply_by number (Waits cause) = reply.Waits (wait_by number cause)
reply_by number (Moved key) = reply.Waits (wait.Moved key)

-- and by those of a list
abbrev pub wait_of : List Request → Cause → Wait
wait_of list = wait_by (number_at list)

abbrev pub reply_of : List Request → Fate Key End → Reply
reply_of list = reply_by (number_at list)

-- O is whatever carries a request with what its run on the batch's start came to
module _ {O : Type 0} (request_of : O → Request) where
  abbrev pub line_of : List Request → Entry Key O End → Line
  line_of list entry = record { q = (request_of entry.judged.request).q; reply = reply_of list entry.fate }

  -- the answer of the batch with this number
  abbrev pub answer_by : ℕ → List Request → List (Entry Key O End) → Answer
  answer_by number list entries = record {
    number = number;
    lines = map (line_of list) entries;
    order = map (λ entry. (request_of entry.judged.request).q) (ordered entries);
  }

  -- the state that a batch leaves, by its outcome
  abbrev pub state_by : State → Handed → Batch key_cmp Cells O End → State
  state_by state handed outcome = record {
    rule = handed.rule;
    percent = handed.percent;
    rows = outcome.map;
    waiting = map (λ entry. request_of entry.judged.request) (carried outcome.entries);
    batches = state.batches + 1;
    requests = state.requests + length handed.calls;
  }

module _ (tree : Request → Tree Key Cells End) where
  abbrev pub outcome : State → Handed → Batch key_cmp Cells Request End
  outcome state handed = batch is_done tree handed.rule handed.percent state.rows (list_of state handed)

  -- the state after one batch
  abbrev pub step : State → Handed → State
  step state handed = state_by (λ request. request) state handed (outcome state handed)

  -- the answer of that batch
  abbrev pub answer : State → Handed → Answer
  answer state handed = answer_by (λ request. request) (state.batches + 1) (list_of state handed) (outcome state handed).entries

  -- the state after batches one after the other
  abbrev pub run : State → List Handed → State
  run state [] = state
  run state (handed ∷ rest) = run (step state handed) rest
