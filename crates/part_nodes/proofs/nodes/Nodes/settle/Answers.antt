use Rattle.std.proofs.Common.{◌≡◌, refl, sym, ◌∙◌, subst, arith, false}
use Rattle.node_rules.specs.Worlds.{is_behind}
use Rattle.node_world.specs.Worlds.{net_in, world_in}
use Rattle.node_world.proofs.Parts.{fixed_both, fixed_self, net_fixed}
use Rattle.part_nodes.proofs.Passes.{pass_more, pass_done, on_way, less_left}
use Rattle.part_nodes.proofs.Skipped.{world_ready, are_ready, skipped, all_past}
use Rattle.part_nodes.proofs.Wholes.{all_done, all_level, net_is}
use Rattle.part_nodes.proofs.nodes.Nodes.settle.Goals as goal

pub passes-init : goal.passes-init
passes-init c = record {
  fixed = fixed_self c.args.self.world;
  requests = refl;
  ready = c.requires.ready;
  on = record { same_net = refl; same_start = refl; passes = 0; is = refl; reached = c.requires.ready.reached };
}

pub each-init : goal.each-init
each-init c = record {
  fixed = fixed_self c.passes.nodes.world;
  requests = refl;
  ready = c.passes.invariant.ready;
  in_pass =
      let n = c.passes.nodes in
      let settled = c.passes.invariant.ready.settled in
      let ready = world_ready _ c.passes.invariant.ready in
      record {
        same_net = refl;
        same_start = refl;
        is = sym (skipped (net_in n.world) (net_is n.start.value n.world ready) n.start.value (world_in n.start.value n.world) ready.reached
            n.settled settled n.settled (omega arith));
      };
  all = c.sent-k-end.ensures.sent;
}

pub passes-smaller : goal.passes-smaller
passes-smaller c =
    let p = c.each.invariant.in_pass in
    let low = c.each-test.false in
    let high = c.each.auto.k-end in
    let all = c.each.invariant.all in
    let ready = world_ready _ c.passes.invariant.ready in
    less_left _ _ _ _ _ _ (net_is _ _ ready) ready.reached (sym c.is_behind.ensures ∙ c.passes-test.true) p.same_net p.same_start
    (pass_done _ _ _ _ _ _ c.each.k p (omega arith))

pub passes-preserved : goal.passes-preserved
passes-preserved c =
    let o = c.passes.invariant in
    let p = c.each.invariant.in_pass in
    let low = c.each-test.false in
    let high = c.each.auto.k-end in
    let all = c.each.invariant.all in
    let ready = world_ready _ c.passes.invariant.ready in
    record {
      fixed = fixed_both _ _ _ o.fixed c.each.invariant.fixed;
      requests = c.each.invariant.requests ∙ o.requests;
      ready = c.each.invariant.ready;
      on = on_way _ _ _ _ _ _ _ _ _ (net_is _ _ ready) o.on p.same_net p.same_start (pass_done _ _ _ _ _ _ c.each.k p (omega arith));
    }

pub each-preserved : goal.each-preserved
each-preserved c = record {
  fixed = fixed_both _ _ _ c.each.invariant.fixed c.in_ok-nodes.ensures.fixed;
  requests = c.in_ok-nodes.ensures.requests ∙ c.each.invariant.requests;
  ready = c.in_ok-nodes.ensures.ready;
  in_pass = pass_more _ _ _ _ _ _ c.each.k c.each.invariant.in_pass _ _ _
      (net_fixed _ _ c.in_ok-nodes.ensures.fixed, c.in_ok-nodes.ensures.start, c.in_ok-nodes.ensures.stepped);
  all = c.each.invariant.all;
}

pub returns-clause-start : goal.returns-clause-start
returns-clause-start c = c.passes.invariant.on.same_start

pub returns-clause-settled : goal.returns-clause-settled
returns-clause-settled c =
    let o = c.passes.invariant.on in
    record {
      passes = o.passes;
      is = o.is;
      reached = o.reached;
      done = subst (λ net. is_behind net (world_in c.passes.nodes.start.value c.passes.nodes.world) ≡ false) o.same_net (sym c.is_behind.ensures
          ∙ c.passes-test.false);
    }

pub returns-clause-done : goal.returns-clause-done
returns-clause-done c = all_done _ _ (world_ready _ c.passes.invariant.ready) (sym c.is_behind.ensures ∙ c.passes-test.false)

pub returns-clause-level : goal.returns-clause-level
returns-clause-level c = all_level _ _ (world_ready _ c.passes.invariant.ready) (sym c.is_behind.ensures ∙ c.passes-test.false)

-- all that was sent is of completed batches
pub returns-clause-ready : goal.returns-clause-ready
returns-clause-ready c =
    let n = c.passes.nodes in
    let ready = world_ready _ c.passes.invariant.ready in
    are_ready _ ready (all_past n.start.value n.world ready (sym c.is_behind.ensures ∙ c.passes-test.false) _ c.sent.ensures.sent)
