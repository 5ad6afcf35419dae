-- The world of the nodes, and what its events do: batches start, and messages are delivered.
use Rattle.std.specs.Prelude.{ℕ, zero, suc, ◌+◌, ◌-◌, List, [], ◌∷◌, ◌++◌, map, length, filter, slice_get, slice_index_or, Option, Some}
use Rattle.std.specs.Prelude.{None}
use Rattle.std.specs.Prelude.{Bool, false, not, ◌&&◌, if◌then◌else◌, ◌==◌, nat_lt, unwrap_or}
use Rattle.std.specs.declared.cmp.Ordering.{Ordering}
use Rattle.std.specs.List.{list_any, range_with_len}
use Rattle.std.specs.FinMap as fin
use Rattle.std.specs.FinMap.{FinMap}
use Rattle.batch_rules.specs.declared.verdicts.Verdict.{Verdict}
use Rattle.batch_rules.specs.declared.verdicts.Verdict.TheVariants.{Finish, Wait}
use Rattle.batch_rules.specs.Trees.{end_of}
use Rattle.batch_rules.specs.Touches.{installed}
use Rattle.batch_rules.specs.Verdicts.{finishes}
use Rattle.batch_rules.specs.Batches.{Fate, Ended, Waits, Entry}
use Rattle.node_rules.specs.Messages.{Message}
use Rattle.node_rules.specs.Nets.{Net, tids, all_nodes, is_at}
use Rattle.node_rules.specs.Dues.{Desk, all_requests, own_requests, told_rows, sets_of, fate_of, is_over, due}

-- A node: its rows, what it carries to its current batch, how many batches it completed, its own requests' entries in each of them,
-- and the messages of its current batch that were given to it while that batch was current.
pub record Node {K : Type 0} (R : K → K → Ordering) (V Q A : Type 0) : Type 0 where
  pub rows : FinMap R V
  pub carried : List Q
  pub done : ℕ
  pub entries : List (List (Entry K Q A))
  pub given : List (Message K V)

-- the new requests of each started batch, all messages ever sent, and the nodes
pub record World {K : Type 0} (R : K → K → Ordering) (V Q A : Type 0) : Type 0 where
  pub started : List (List Q)
  pub sent : List (Message K V)
  pub node : ℕ → Node R V Q A

pub data NetEvent (Q : Type 0) : Type 0 where
  Start : List Q → NetEvent Q
  Deliver : ℕ → NetEvent Q

abbrev pub finishes_by : Option Verdict → Bool
finishes_by None = false
finishes_by (Some v) = finishes v

-- what becomes of a request without a late fold
abbrev pub fate_by_verdict : {K A : Type 0} → A → Verdict → Fate K A
fate_by_verdict end (Finish raw) = Ended end
fate_by_verdict end (Wait cause) = Waits cause

-- one node changed
abbrev pub with_node : {X : Type 0} → (ℕ → X) → ℕ → X → ℕ → X
with_node nodes i x n = if n == i then x else nodes n

module _ {K V Q A : Type 0} {R : K → K → Ordering} (net : Net R V Q A) where
  -- at first each node has the rows of its keys, and nothing was started
  abbrev pub node_at_first : FinMap R V → ℕ → Node R V Q A
  node_at_first start n =
      record { rows = fin.retain_keys start (is_at net n); carried = []; done = 0; entries = []; given = [] }

  abbrev pub at_first : FinMap R V → World R V Q A
  at_first start = record { started = []; sent = []; node = node_at_first start }

  -- whether this is among the messages
  abbrev pub is_in : List (Message K V) → Message K V → Bool
  is_in ms m = list_any (net.is_same m) ms

  -- one more, where it is new; and all of a list, one after the other
  abbrev pub with_new : List (Message K V) → Message K V → List (Message K V)
  with_new ms m = if is_in ms m then ms else ms ++ m ∷ []

  abbrev pub with_all_new : List (Message K V) → List (Message K V) → List (Message K V)
  with_all_new ms [] = ms
  with_all_new ms (n ∷ ns) = with_all_new (with_new ms n) ns

  -- ---- the end of a batch at a node

  module _ (desk : Desk R V Q) where
    abbrev pub verdict_of : ℕ → Verdict
    verdict_of tid = unwrap_or (fate_of net desk tid) (Finish false)

    abbrev pub entry_of : ℕ × Q → Entry K Q A
    entry_of e = record {
      judged = record { tid = e.0; request = e.1; verdict = verdict_of e.0 };
      fate = fate_by_verdict (end_of (net.tree e.1) (told_rows net desk e.0)) (verdict_of e.0);
    }

    abbrev pub finishing_tids : List ℕ
    finishing_tids = filter (λ tid. finishes_by (fate_of net desk tid)) (tids desk.list)

    abbrev pub rows_left : FinMap R V
    rows_left = installed (λ tid. (sets_of net desk tid).rows) desk.rows finishing_tids

    abbrev pub waiting_left : List Q
    waiting_left = map (λ e. e.1) (filter (λ e. not (finishes_by (fate_of net desk e.0))) (all_requests net desk))

    abbrev pub entries_left : List (Entry K Q A)
    entries_left = map entry_of (own_requests net desk)

  -- ---- a node's turn

  -- a node at the batch that follows on those that it completed
  abbrev pub desk_for : List (List Q) → ℕ → Node R V Q A → Desk R V Q
  desk_for started n x = record {
    node = n;
    rows = x.rows;
    batch = x.done + 1;
    list = x.carried ++ slice_index_or started x.done [];
    given = x.given;
  }

  abbrev pub desk_of : World R V Q A → ℕ → Desk R V Q
  desk_of w n = desk_for w.started n (w.node n)

  -- it sends what is due and was not sent yet
  abbrev pub send : World R V Q A → ℕ → World R V Q A
  send w n = record { started = w.started; sent = with_all_new w.sent (due net (desk_of w n)); node = w.node }

  -- it installs the writes of its keys, and goes on to the next batch
  abbrev pub completed : World R V Q A → ℕ → Node R V Q A
  completed w n = record {
    rows = rows_left (desk_of w n);
    carried = waiting_left (desk_of w n);
    done = (w.node n).done + 1;
    entries = (w.node n).entries ++ entries_left (desk_of w n) ∷ [];
    given = [];
  }

  abbrev pub complete : World R V Q A → ℕ → World R V Q A
  complete w n = record { started = w.started; sent = w.sent; node = with_node w.node n (completed w n) }

  -- the same for so many batches at most, as long as each is over
  abbrev pub turns : ℕ → World R V Q A → ℕ → World R V Q A
  turns zero w n = w
  turns (suc most) w n = if is_over net (desk_of w n) then turns most (complete (send w n) n) n else send w n

  -- for all that were started
  abbrev pub turn : World R V Q A → ℕ → World R V Q A
  turn w n = turns (length w.started - (w.node n).done) w n

  abbrev pub turn_all : World R V Q A → List ℕ → World R V Q A
  turn_all w [] = w
  turn_all w (n ∷ ns) = turn_all (turn w n) ns

  -- ---- events

  -- whether a message is one of the node's current batch
  abbrev pub is_current : World R V Q A → Message K V → Bool
  is_current w m = (m.batch == (w.node m.addressee).done + 1) && nat_lt (w.node m.addressee).done (length w.started)

  abbrev pub given_also : Node R V Q A → Message K V → Node R V Q A
  given_also node m = record {
    rows = node.rows;
    carried = node.carried;
    done = node.done;
    entries = node.entries;
    given =
        with_new node.given m;
  }

  -- a message of the current batch is kept, and else dropped
  abbrev pub keep : World R V Q A → Message K V → World R V Q A
  keep w m = record {
    started = w.started;
    sent = w.sent;
    node = if is_current w m then with_node w.node m.addressee (given_also (w.node m.addressee) m) else w.node;
  }

  abbrev pub deliver : World R V Q A → Option (Message K V) → World R V Q A
  deliver w None = w
  deliver w (Some m) = turn (keep w m) m.addressee

  abbrev pub start : World R V Q A → List Q → World R V Q A
  start w new = turn_all (record { started = w.started ++ new ∷ []; sent = w.sent; node = w.node }) (all_nodes net)

  -- an event. Where no message has that number nothing is done
  abbrev pub step : World R V Q A → NetEvent Q → World R V Q A
  step w (Start new) = start w new
  step w (Deliver k) = deliver w (slice_get w.sent k)

  abbrev pub steps : World R V Q A → List (NetEvent Q) → World R V Q A
  steps w [] = w
  steps w (e ∷ es) = steps (step w e) es

  -- ---- settling

  -- messages delivered one after the other, by their numbers
  abbrev pub deliver_each : World R V Q A → List ℕ → World R V Q A
  deliver_each w [] = w
  deliver_each w (k ∷ ks) = deliver_each (step w (Deliver k)) ks

  -- all that was sent before the pass, in order
  abbrev pub pass : World R V Q A → World R V Q A
  pass w = deliver_each w (range_with_len 0 (length w.sent))

  -- whether a node of these has not completed all that was started
  abbrev pub is_behind : World R V Q A → Bool
  is_behind w = list_any (λ n. nat_lt (w.node n).done (length w.started)) (all_nodes net)
