-- Nodes between two events: those that were begun, and that events made of them.
use Rattle.std.specs.Prelude.{◌≡◌, ℕ, ◌<◌, ◌≤◌, length, slice_get, Some}
use Rattle.aria_base.specs.Orders.{key_cmp, Cells}
use Rattle.aria_base.specs.declared.calls.Request.{Request}
use Rattle.aria_base.specs.declared.keys.Key.{Key}
use Rattle.proc_lang.specs.declared.ends.End.{End}
use Rattle.node_rules.specs.Messages.{Message}
use Rattle.node_rules.specs.Worlds.{World}
use Rattle.node_rules.specs.Laws.{IsReached}
use Rattle.node_world.specs.Worlds.{net_in, world_in, Keeps}
use Rattle.part_nodes.specs.declared.nodes.Nodes.{Nodes}

-- so many messages were sent first, all of batches that their nodes have completed
pub record ArePast (many : ℕ) (w : World key_cmp Cells Request End) : Type 0 where
  pub sent : many ≤ length w.sent
  pub past : (k : ℕ) (m : Message Key Cells) → k < many → slice_get w.sent k ≡ Some m → m.batch ≤ (w.node m.addressee).done

-- what `begin`, `step` and `settle` leave, and what each call asks for
pub record AreReady (n : Nodes) : Type 0 where
  pub keeps : Keeps n.start.value n.world
  pub reached : IsReached (net_in n.world) n.start.value (world_in n.start.value n.world)
  pub settled : ArePast n.settled (world_in n.start.value n.world)
