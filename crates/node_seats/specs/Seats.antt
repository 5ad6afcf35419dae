-- A node that completes its batch, in code.
use Rattle.std.specs.Prelude.{◌≡◌, ℕ, ◌<◌, ◌≤◌, ◌+◌, ◌==◌, List, [], ◌∷◌, ◌++◌, length, slice_get, Some}
use Rattle.std.specs.FinMap as fin
use Rattle.aria_base.specs.Orders.{key_cmp, Cells, Database}
use Rattle.aria_base.specs.declared.calls.Request.{Request}
use Rattle.batch_rules.specs.declared.verdicts.Rule.{Rule}
use Rattle.proc_lang.specs.Catalogs.{Plan}
use Rattle.proc_lang.specs.declared.ends.End.{End}
use Rattle.node_rules.specs.Nets.{Net}
use Rattle.node_rules.specs.Dues.{Desk}
use Rattle.node_rules.specs.Worlds.{rows_left, waiting_left, entries_left}
use Rattle.node_batch.specs.Sames.{same_message}
use Rattle.node_batch.specs.NodeBatches.{Shows, IsBare}
use Rattle.node_batch.specs.declared.mails.Site.{Site}
use Rattle.node_seats.specs.Nodes.{given_of, settled_of}
use Rattle.node_batch.specs.Mails.{node_of as home_of}
use Rattle.node_seats.specs.declared.seats.Seat.{Seat}

-- its rows, its list and what became of its own requests are those that the batch leaves, and nothing was given of the next one
pub record IsCompleted (net : Net key_cmp Cells Request End) (desk : Desk key_cmp Cells Request) (new : List Request) (old next : Seat) : Type 0 where
  pub rows : next.bench.rows ≡ rows_left net desk
  pub list : next.bench.list.items ≡ waiting_left net desk ++ new
  pub carried : next.carried ≡ length (waiting_left net desk)
  pub entries : settled_of next ≡ settled_of old ++ entries_left net desk ∷ []
  pub given : given_of next ≡ []
  pub site : next.bench.site ≡ record { batch = old.bench.site.batch + 1; node = old.bench.site.node; nodes = old.bench.site.nodes }
  pub shows : (plan : Plan) (rule : Rule) (after : Desk key_cmp Cells Request) → IsBare after next.bench.site next.bench.rows next.bench.list.items
      → Shows plan rule same_message after next.bench

-- with these rows, before the first batch
pub record IsBegun (here : Site) (db : Database) (s : Seat) : Type 0 where
  pub site : s.bench.site ≡ here
  pub rows : s.bench.rows ≡ db
  pub list : s.bench.list.items ≡ []
  pub carried : s.carried ≡ 0
  pub entries : s.entries.items ≡ []
  pub given : given_of s ≡ []
  pub shows : (plan : Plan) (rule : Rule) (desk : Desk key_cmp Cells Request) → IsBare desk here db [] → Shows plan rule same_message desk s.bench

-- with more requests at the end of its list
pub record IsLonger (new : List Request) (old next : Seat) : Type 0 where
  pub site : next.bench.site ≡ old.bench.site
  pub rows : next.bench.rows ≡ old.bench.rows
  pub list : next.bench.list.items ≡ old.bench.list.items ++ new
  pub carried : next.carried ≡ old.carried
  pub entries : next.entries ≡ old.entries
  pub given : next.given ≡ old.given
  pub shows : (plan : Plan) (rule : Rule) (desk : Desk key_cmp Cells Request) → IsBare desk next.bench.site next.bench.rows next.bench.list.items
      → Shows plan rule same_message desk next.bench

-- where it completed so many batches
pub record IsLengthened (done : ℕ) (new : List Request) (old next : Seat) : Type 0 where
  pub behind : length old.entries.items < done → next ≡ old
  pub rest : done ≤ length old.entries.items → IsLonger new old next

-- ---- before the first event

-- a node with the rows of its keys
abbrev pub IsFirstSeat : ℕ → Database → ℕ → Seat → Type 0
IsFirstSeat nodes db n s = IsBegun (record { batch = 1; node = n; nodes = nodes }) (fin.retain_keys db (λ k. home_of nodes k == n)) s

-- so many of them, from the first one on
pub record AreFirst (nodes : ℕ) (db : Database) (count : ℕ) (seats : List Seat) : Type 0 where
  pub many : length seats ≡ count
  pub each : (n : ℕ) (s : Seat) → slice_get seats n ≡ Some s → IsFirstSeat nodes db n s
