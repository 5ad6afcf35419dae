use Rattle.std.proofs.Common.{◌+◌, sym, ap, ◌∙◌, subst}
use Rattle.batch_core.specs.Steps.{numbered}
use Rattle.node_rules.specs.Worlds.{Start}
use Rattle.node_seats.proofs.Lengthening.{numbered_many}
use Rattle.node_world.proofs.Parts.{step_ready, more_requests}
use Rattle.node_world.specs.Worlds.{net_in, world_in}
use Rattle.part_nodes.specs.Ready.{ArePast}
use Rattle.part_nodes.proofs.Skipped.{world_ready, are_ready, step_past}
use Rattle.part_nodes.proofs.nodes.Nodes.start.Goals as goal

pub start-requires-clause-ready : goal.start-requires-clause-ready
start-requires-clause-ready c = (c.args.self.start.value, world_ready _ c.requires.ready)

pub returns-clause-ready : goal.returns-clause-ready
returns-clause-ready c =
    let on = c.in_ok-start.ensures.stepped c.args.self.start.value (world_ready _ c.requires.ready) in
    let event = Start (numbered c.args.self.world.requests c.args.calls.items) in
    are_ready _ (step_ready c.args.self.start.value c.args.self.world c.start.new.self event (world_ready _ c.requires.ready) c.in_ok-start.ensures.fixed on.0
    on.1)
    (subst (ArePast c.args.self.settled) (sym on.1)
    (step_past (net_in c.args.self.world) c.args.self.settled (world_in c.args.self.start.value c.args.self.world) event c.requires.ready.settled))

pub returns-clause-requests : goal.returns-clause-requests
returns-clause-requests c =
    let on = c.in_ok-start.ensures.stepped c.args.self.start.value (world_ready _ c.requires.ready) in
    more_requests c.args.self.start.value c.args.self.world c.start.new.self c.requires.ready.keeps on.0
    (numbered c.args.self.world.requests c.args.calls.items) on.1
    ∙ ap (λ n. c.args.self.world.requests + n) (numbered_many c.args.self.world.requests c.args.calls.items)

pub returns-clause-stepped : goal.returns-clause-stepped
returns-clause-stepped c = (c.in_ok-start.ensures.stepped c.args.self.start.value (world_ready _ c.requires.ready)).1
