-- What became of a batch's requests, put together from the nodes that have it, and its answer.
use Rattle.std.specs.Prelude.{◌≡◌, ℕ, ◌≤◌, ◌-◌, ◌%◌, ◌==◌, List, [], map, filter, length, slice_get, slice_index_or, Some}
use Rattle.std.specs.List.{range_with_len}
use Rattle.std.specs.Borrow.{Bor}
use Rattle.aria_base.specs.declared.calls.Request.{Request}
use Rattle.aria_base.specs.declared.keys.Key.{Key}
use Rattle.aria_base.specs.declared.limits.TheConstants.{MOST_REQUESTS}
use Rattle.batch_rules.specs.Batches.{Entry as Settled}
use Rattle.batch_core.specs.Steps.{number_at, line_of}
use Rattle.batch_core.specs.declared.answers.Answer.{Answer}
use Rattle.proc_lang.specs.declared.ends.End.{End}
use Rattle.reorder.specs.Orders.{placed_tids}
use Rattle.node_batch.specs.Entries.{entry_of}
use Rattle.node_batch.specs.declared.entries.Entry.{Entry}
use Rattle.node_seats.specs.Nodes.{settled_of}
use Rattle.node_seats.specs.declared.seats.Seat.{Seat}

-- the entries as the definitions speak of them
abbrev pub settled_in : List (Bor Entry) → List (Settled Key Request End)
settled_in es = map (λ e. entry_of e.now) es

-- each node has its own of these entries, whose TIDs are the places of the list
pub record AreShares (seats : List Seat) (batch : ℕ) (entries : List (Settled Key Request End)) : Type 0 where
  pub few : length entries ≤ MOST_REQUESTS
  pub tids : map (λ e. e.judged.tid) entries ≡ range_with_len 1 (length entries)
  pub own : (n : ℕ) (s : Seat) → slice_get seats n ≡ Some s
      → slice_index_or (settled_of s) batch [] ≡ filter (λ e. (e.judged.tid - 1) % length seats == n) entries

-- the requests of a batch, by its entries
abbrev pub list_in : List (Bor Entry) → List Request
list_in es = map (λ e. e.now.request) es

-- the answer of the batch with this number: its order by places of the list
abbrev pub answer_in : ℕ → List (Bor Entry) → Answer
answer_in number es = record {
  number = number;
  lines = map (line_of (λ r. r) (list_in es)) (settled_in es);
  order = map (number_at (list_in es)) (placed_tids (map (λ e. e.judged.verdict) (settled_in es)));
}
