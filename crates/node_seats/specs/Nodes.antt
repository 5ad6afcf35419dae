-- Nodes in code, as the world of the definitions.
use Rattle.std.specs.Prelude.{◌≡◌, ℕ, ◌+◌, ◌<◌, ◌≤◌, List, [], ◌∷◌, map, length, take, filter_map, slice_get, slice_index_or, Some, None, Bool, true, false, eqb, if◌then◌else◌, ◌==◌}
use Rattle.std.specs.List.{All, list_any}
use Rattle.std.specs.FinMap as fin
use Rattle.aria_base.specs.Orders.{key_cmp, Cells, Database}
use Rattle.aria_base.specs.declared.calls.Call.{Call}
use Rattle.aria_base.specs.declared.calls.Request.{Request}
use Rattle.aria_base.specs.declared.keys.Key.{Key}
use Rattle.aria_base.specs.declared.limits.TheConstants.{MOST_REQUESTS}
use Rattle.batch_rules.specs.declared.verdicts.Rule.{Rule}
use Rattle.batch_rules.specs.Batches.{Entry as Settled}
use Rattle.proc_lang.specs.Catalogs.{Plan}
use Rattle.proc_lang.specs.declared.ends.End.{End}
use Rattle.node_rules.specs.Messages.{Message}
use Rattle.node_rules.specs.Nets.{Net}
use Rattle.node_rules.specs.Worlds.{Node, node_at_first, desk_for}
use Rattle.node_rules.specs.Worlds.{World as Definition}
use Rattle.node_batch.specs.Letters.{net_of}
use Rattle.node_batch.specs.Mails.{node_of as home_of}
use Rattle.node_batch.specs.Sames.{same_message}
use Rattle.node_batch.specs.Entries.{entry_of}
use Rattle.node_batch.specs.NodeBatches.{Shows}
use Rattle.batch_core.specs.Steps.{numbered}
use Rattle.node_seats.specs.declared.seats.Seat.{Seat}
use Rattle.node_seats.specs.Listed.{listed}

-- a batch's own requests at a node
abbrev pub settled_of : Seat → List (List (Settled Key Request End))
settled_of s = map (λ batch. map entry_of batch.items) s.entries.items

-- the new requests of each batch, by its calls
abbrev pub news_of : ℕ → List (List Call) → List (List Request)
news_of n [] = []
news_of n (calls ∷ rest) = numbered n calls ∷ news_of (n + length calls) rest

-- how many requests were started
abbrev pub total : {X : Type 0} → List (List X) → ℕ
total [] = 0
total (new ∷ news) = length new + total news

-- the numbers of the messages that it keeps
abbrev pub given_of : Seat → List ℕ
given_of s = listed s.given.value

-- a node, where these messages were sent
abbrev pub node_of : List (Message Key Cells) → Seat → Node key_cmp Cells Request End
node_of sent s = record {
  rows = s.bench.rows;
  carried = take s.carried s.bench.list.items;
  done = length s.entries.items;
  entries = settled_of s;
  given = filter_map (slice_get sent) (given_of s);
}

module _ (plan : Plan) (rule : Rule) (nodes : ℕ) (start : Database) where
  abbrev pub net : Net key_cmp Cells Request End
  net = net_of plan rule nodes same_message

  abbrev pub nodes_of : List (Message Key Cells) → List Seat → ℕ → Node key_cmp Cells Request End
  nodes_of sent seats n = elim (slice_get seats n) [ None ↦ node_at_first net start n | Some s ↦ node_of sent s ]

  abbrev pub world_of : List (List Request) → List (Message Key Cells) → List Seat → Definition key_cmp Cells Request End
  world_of started sent seats = record { started = started; sent = sent; node = nodes_of sent seats }

  -- the node shows its batch, and keeps messages that were sent
  pub record IsSeat (started : List (List Request)) (sent : List (Message Key Cells)) (n : ℕ) (s : Seat) : Type 0 where
    pub shows : Shows plan rule same_message (desk_for net started n (node_of sent s)) s.bench
    pub site : s.bench.site.nodes ≡ nodes
    pub within : s.carried ≤ length s.bench.list.items
    pub numbers : All (λ k. k < length sent) (given_of s)

  -- whether message k was given to its node while its batch was the node's: the flag says it, for no later batch than the current one
  pub record IsFlagged (k : ℕ) (m : Message Key Cells) (s : Seat) (flag : Bool) : Type 0 where
    pub past : flag ≡ true → m.batch ≤ length s.entries.items + 1
    pub now : m.batch ≡ length s.entries.items + 1 → flag ≡ list_any (eqb k) (given_of s)

  pub record AreKept (started : List (List Request)) (requests : ℕ) (sent : List (Message Key Cells)) (flags : List Bool)
      (seats : List Seat) : Type 0 where
    pub some_node : 0 < nodes
    pub few_nodes : nodes ≤ 8
    pub many_seats : length seats ≡ nodes
    pub each : (n : ℕ) (s : Seat) → slice_get seats n ≡ Some s → IsSeat started sent n s
    pub many_flags : length flags ≡ length sent
    pub flagged : (k : ℕ) (m : Message Key Cells) (s : Seat) → slice_get sent k ≡ Some m → slice_get seats m.addressee ≡ Some s
        → IsFlagged k m s (slice_index_or flags k false)
    pub numbered : started ≡ news_of 0 (map (map (λ q. q.call)) started)
    pub counted : requests ≡ total started
    pub few : requests ≤ MOST_REQUESTS

-- how many batches a node has completed
abbrev pub done_by : List Seat → ℕ → ℕ
done_by seats n = elim (slice_get seats n) [ None ↦ 0 | Some s ↦ length s.entries.items ]

-- each node has the rows of its keys
abbrev pub ArePartsOf : Database → ℕ → List Seat → Type 0
ArePartsOf whole nodes seats = (n : ℕ) (s : Seat) → slice_get seats n ≡ Some s → (k : Key)
    → fin.get s.bench.rows k ≡ (if home_of nodes k == n then fin.get whole k else None)
