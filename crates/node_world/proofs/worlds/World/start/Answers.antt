use Rattle.std.proofs.Common.{◌≡◌, length, subst, arith}
use Rattle.batch_core.specs.Steps.{numbered}
use Rattle.node_rules.specs.Worlds.{step, Start}
use Rattle.node_world.specs.Worlds.{net_in, world_in}
use Rattle.node_world.specs.Steps.{IsStarted}
use Rattle.node_world.proofs.Parts.{fixed_both, fixed_self}
use Rattle.node_world.proofs.Turning.{all_turned}
use Rattle.node_world.proofs.worlds.World.start.Goals as goal

pub nodes-init : goal.nodes-init
nodes-init c = record { fixed = fixed_self _; started = λ start end st. st }

pub begin_batch-requires-clause-below : goal.begin_batch-requires-clause-below
begin_batch-requires-clause-below c = let same = c.nodes.invariant.fixed.nodes in let lt = c.nodes-test.true in omega arith

pub begin_batch-requires-clause-started : goal.begin_batch-requires-clause-started
begin_batch-requires-clause-started c =
    let w = c.args.self.now in
    let ready = c.requires.ready in
    let end = step (net_in w) (world_in ready.0 w) (Start (numbered w.requests c.args.calls.items)) in
    let a = c.len-old.ensures in
    let b = w.started.ok.0 in
    let count : length w.started.items ≡ c.len-old.result = omega arith in
    let first = subst (IsStarted ready.0 end c.push_batch.new.self 0) count (c.in_ok-push_batch.ensures.started ready.0 ready.1) in
    (ready.0, end, c.nodes.invariant.started ready.0 end first)

pub nodes-preserved : goal.nodes-preserved
nodes-preserved c = record {
  fixed = fixed_both _ _ _ c.nodes.invariant.fixed c.in_ok-begin_batch.ensures.fixed;
  started = λ start end st. c.in_ok-begin_batch.ensures.started start end (c.nodes.invariant.started start end st);
}

pub returns-clause-fixed : goal.returns-clause-fixed
returns-clause-fixed c = fixed_both _ _ _ c.in_ok-push_batch.ensures.fixed c.nodes.invariant.fixed

pub returns-clause-stepped : goal.returns-clause-stepped
returns-clause-stepped c = λ start ready.
    let w = c.args.self.now in
    let end = step (net_in w) (world_in start w) (Start (numbered w.requests c.args.calls.items)) in
    let same = c.nodes.invariant.fixed.nodes in
    let last = c.nodes-test.false in
    let a = c.len-old.ensures in
    let b = w.started.ok.0 in
    let count : length w.started.items ≡ c.len-old.result = omega arith in
    let first = subst (IsStarted start end c.push_batch.new.self 0) count (c.in_ok-push_batch.ensures.started start ready) in
    all_turned start end c.nodes.self c.nodes.n c.len-old.result (c.nodes.invariant.started start end first) (omega arith)
