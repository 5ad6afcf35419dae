use Rattle.std.proofs.Common.{sym, subst, arith}
use Rattle.node_rules.specs.Worlds.{Deliver}
use Rattle.node_world.proofs.Parts.{fixed_self, step_ready, same_requests}
use Rattle.node_world.proofs.Delivered.{none_sent}
use Rattle.node_world.specs.Worlds.{net_in, world_in}
use Rattle.part_nodes.specs.Ready.{ArePast}
use Rattle.part_nodes.proofs.Skipped.{world_ready, are_ready, step_past}
use Rattle.part_nodes.proofs.nodes.Nodes.deliver.Goals as goal

-- no message has the number
pub returns-then-sent-k-clause-fixed : goal.returns-then-sent-k-clause-fixed
returns-then-sent-k-clause-fixed c = fixed_self c.args.self.world

pub returns-then-sent-k-clause-stepped : goal.returns-then-sent-k-clause-stepped
returns-then-sent-k-clause-stepped c =
    let count = c.sent.ensures.count in
    let le = c.if-sent-k.true in
    none_sent c.args.self.start.value c.args.self.world c.args.k (omega arith)

pub returns-then-sent-k-clause-ready : goal.returns-then-sent-k-clause-ready
returns-then-sent-k-clause-ready c = c.requires.ready

pub deliver-requires-clause-ready : goal.deliver-requires-clause-ready
deliver-requires-clause-ready c = (c.args.self.start.value, world_ready _ c.requires.ready)

pub returns-clause-ready : goal.returns-clause-ready
returns-clause-ready c =
    let on = c.in_ok-deliver.ensures.stepped c.args.self.start.value (world_ready _ c.requires.ready) in
    are_ready _ (step_ready c.args.self.start.value c.args.self.world c.deliver.new.self (Deliver c.args.k) (world_ready _ c.requires.ready)
    c.in_ok-deliver.ensures.fixed on.0 on.1)
    (subst (ArePast c.args.self.settled) (sym on.1)
    (step_past (net_in c.args.self.world) c.args.self.settled (world_in c.args.self.start.value c.args.self.world) (Deliver c.args.k) c.requires.ready.settled))

pub returns-clause-requests : goal.returns-clause-requests
returns-clause-requests c =
    let on = c.in_ok-deliver.ensures.stepped c.args.self.start.value (world_ready _ c.requires.ready) in
    same_requests c.args.self.start.value c.args.self.world c.deliver.new.self c.requires.ready.keeps on.0 c.args.k on.1

pub returns-clause-stepped : goal.returns-clause-stepped
returns-clause-stepped c = (c.in_ok-deliver.ensures.stepped c.args.self.start.value (world_ready _ c.requires.ready)).1
