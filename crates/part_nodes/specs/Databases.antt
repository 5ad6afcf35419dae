-- What is true of nodes at any time.
use Rattle.std.specs.Prelude.{◌≡◌, ℕ, ◌<◌, ◌≤◌, length, None, ◌==◌, if◌then◌else◌}
use Rattle.std.specs.FinMap as fin
use Rattle.aria_base.specs.Orders.{key_cmp, Cells, Database}
use Rattle.aria_base.specs.declared.calls.Request.{Request}
use Rattle.aria_base.specs.declared.keys.Key.{Key}
use Rattle.proc_lang.specs.declared.ends.End.{End}
use Rattle.node_rules.specs.Nets.{IsNet}
use Rattle.node_rules.specs.Laws.{IsReached}
use Rattle.node_rules.specs.Worlds.{Node}
use Rattle.node_batch.specs.Mails.{node_of as home_of}
use Rattle.node_batch.specs.Sames.{same_message}
use Rattle.part_nodes.specs.Asked.{state_in}
use Rattle.node_world.specs.Worlds.{net_in, started_in, world_in, calls_in}
use Rattle.node_seats.specs.Nodes.{news_of}
use Rattle.node_answers.specs.Runs.{IsRun}
use Rattle.node_world.specs.declared.worlds.World.{World}

module _ (start : Database) (w : World) where
  -- A node has the rows of its keys in the state of one database after the batches that it completed, and carries what waits there.
  pub record HasPart (n : ℕ) (x : Node key_cmp Cells Request End) : Type 0 where
    pub done : x.done ≤ length (calls_in w)
    pub rows : (k : Key) → fin.get x.rows k ≡ (if home_of w.nodes k == n then fin.get (state_in start w x.done).rows k else None)
    pub carried : x.carried ≡ (state_in start w x.done).waiting

  -- The nodes are one database: the started batches are the calls by their numbers, each message that was ever sent says what that
  -- database says of its batch, what is due was sent, and each node has its part.
  pub record IsOneDatabase : Type 0 where
    pub net : IsNet (net_in w)
    pub started : started_in w ≡ news_of 0 (calls_in w)
    pub reached : IsReached (net_in w) start (world_in start w)
    pub runs : (done : ℕ) → done ≤ length (calls_in w) → IsRun w.catalog w.rule w.nodes same_message start (calls_in w) done
    -- it has run so many batches, and numbered all requests that were started
    pub counted : (done : ℕ) → done ≤ length (calls_in w) → (state_in start w done).batches ≡ done
    pub numbered : (state_in start w (length (calls_in w))).requests ≡ w.requests
    pub parts : (n : ℕ) → n < w.nodes → HasPart n ((world_in start w).node n)
