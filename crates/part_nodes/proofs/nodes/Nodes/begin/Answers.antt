use Rattle.std.proofs.Common.{sym, ap, ◌∙◌, subst}
use Rattle.node_world.specs.Worlds.{world_in}
use Rattle.node_world.specs.Steps.{IsReady}
use Rattle.node_world.proofs.Parts.{begun_ready}
use Rattle.part_nodes.proofs.Skipped.{are_ready, none_past}
use Rattle.part_nodes.proofs.nodes.Nodes.begin.Goals as goal

pub returns-clause-ready : goal.returns-clause-ready
returns-clause-ready c = are_ready _
    (subst (λ db. IsReady db c.in_ok-world.world) (sym c.of.ensures)
    (begun_ready c.args.tables c.in_ok-world.world c.in_ok-world.ensures.kept c.in_ok-world.ensures.world))
    (none_past _)

pub returns-clause-world : goal.returns-clause-world
returns-clause-world c = ap (λ db. world_in db c.in_ok-world.world) c.of.ensures ∙ c.in_ok-world.ensures.world
