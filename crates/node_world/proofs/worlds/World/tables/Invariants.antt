use Rattle.aria_base.specs.Orders.{Database}
use Rattle.node_seats.specs.Nodes.{ArePartsOf}
use Rattle.node_seats.proofs.Putting.{HasBefore}
use Rattle.node_world.proofs.worlds.World.tables.Given as goal

abbrev pub invariant-loop-node : goal.invariant-loop-node
invariant-loop-node l = (whole : Database) → ArePartsOf whole l.self.nodes l.self.seats.items → HasBefore whole l.self.nodes l.node l.rows
