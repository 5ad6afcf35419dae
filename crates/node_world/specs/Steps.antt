-- What the steps of an event do to nodes in code.
use Rattle.std.specs.Prelude.{◌≡◌, ℕ, ◌<◌, ◌⊎◌, length, Some, true, false, slice_get, slice_index_or}
use Rattle.aria_base.specs.Orders.{key_cmp, Cells, Database}
use Rattle.aria_base.specs.declared.calls.Request.{Request}
use Rattle.proc_lang.specs.declared.ends.End.{End}
use Rattle.node_rules.specs.Dues.{is_over}
use Rattle.node_rules.specs.Worlds.{desk_of}
use Rattle.node_rules.specs.Worlds.{World as Definition}
use Rattle.node_rules.specs.Laws.{IsReached}
use Rattle.node_batch.specs.declared.letters.Letter.{Letter}
use Rattle.node_turns.specs.Goings.{IsGoing, IsStarting}
use Rattle.node_world.specs.Worlds.{net_in, world_in, Keeps}
use Rattle.node_seats.specs.declared.seats.Seat.{Seat}
use Rattle.node_world.specs.declared.worlds.World.{World}

-- what no event changes
pub record IsFixed (old new : World) : Type 0 where
  pub catalog : new.catalog ≡ old.catalog
  pub rule : new.rule ≡ old.rule
  pub nodes : new.nodes ≡ old.nodes

-- between two events
pub record IsReady (start : Database) (w : World) : Type 0 where
  pub keeps : Keeps start w
  pub reached : IsReached (net_in w) start (world_in start w)

-- the message is of its node's batch, and was not given to it
abbrev pub IsNew : ℕ → World → Type 0
IsNew k w = (l : Letter) (s : Seat) → slice_get w.sent.items k ≡ Some l → slice_get w.seats.items l.addressee ≡ Some s
    → (slice_index_or w.given.items k false ≡ false) × (l.batch ≡ s.bench.site.batch)

-- or it was given to it, or is of another batch
abbrev pub IsOld : ℕ → World → Type 0
IsOld k w = (l : Letter) (s : Seat) → slice_get w.sent.items k ≡ Some l → slice_get w.seats.items l.addressee ≡ Some s
    → (slice_index_or w.given.items k false ≡ true) ⊎ (l.batch ≡ s.bench.site.batch → ⊥)

-- within an event: the node's turn leads to this end
pub record IsOn (start : Database) (end : Definition key_cmp Cells Request End) (w : World) (n : ℕ) : Type 0 where
  pub keeps : Keeps start w
  pub going : IsGoing (net_in w) start end (world_in start w) n

-- the node's batch was started, and it was told all fates
pub record IsDone (start : Database) (w : World) (n : ℕ) : Type 0 where
  pub behind : ((world_in start w).node n).done < length (world_in start w).started
  pub over : is_over (net_in w) (desk_of (net_in w) (world_in start w) n) ≡ true

-- within the start of the batch behind so many, where the nodes from this one on have not had their turns: their turns lead to this end
pub record IsStarted (start : Database) (end : Definition key_cmp Cells Request End) (w : World) (n old : ℕ) : Type 0 where
  pub keeps : Keeps start w
  pub starting : IsStarting (net_in w) start end (world_in start w) n old
