use Rattle.std.proofs.Common.{length, sym, ap, ◌∙◌, arith}
use Rattle.node_world.proofs.Parts.{fixed_both, fixed_self}
use Rattle.node_world.proofs.Turning.{is_gone, is_done, less_left}
use Rattle.node_world.proofs.worlds.World.go_on.Goals as goal

pub batches-init : goal.batches-init
batches-init c = record { fixed = fixed_self c.args.self.now; on = λ start end on. on }

pub is_over-requires-clause-kept : goal.is_over-requires-clause-kept
is_over-requires-clause-kept c = let on = c.requires.on in (on.0, (c.batches.invariant.on on.0 on.1 on.2).keeps)

pub is_over-requires-clause-below : goal.is_over-requires-clause-below
is_over-requires-clause-below c = let on = c.requires.on in (c.batches.invariant.on on.0 on.1 on.2).going.below

pub next_batch-requires : goal.next_batch-requires
next_batch-requires c =
    let on = c.requires.on in
    let now = c.batches.invariant.on on.0 on.1 on.2 in
    record { on = (on.0, on.1, now, is_done on.0 on.1 c.batches.self c.args.n now (sym (c.is_over.ensures on.0 now.keeps) ∙ c.batches-test.true)) }

pub batches-smaller : goal.batches-smaller
batches-smaller c =
    let on = c.requires.on in
    let now = c.batches.invariant.on on.0 on.1 on.2 in
    let done = is_done on.0 on.1 c.batches.self c.args.n now (sym (c.is_over.ensures on.0 now.keeps) ∙ c.batches-test.true) in
    let left = less_left on.0 on.1 c.batches.self c.args.n now done in
    let more = c.in_ok-next_batch.ensures.more in
    let same = ap length (λ i. (c.in_ok-next_batch.ensures.started i).items) in
    omega arith

pub batches-preserved : goal.batches-preserved
batches-preserved c = record {
  fixed = fixed_both _ _ _ c.batches.invariant.fixed c.in_ok-next_batch.ensures.fixed;
  on = λ start end on.
      let now = c.batches.invariant.on start end on in
      c.in_ok-next_batch.ensures.on start end now
      (is_done start end c.batches.self c.args.n now (sym (c.is_over.ensures start now.keeps) ∙ c.batches-test.true));
}

pub returns-clause-kept : goal.returns-clause-kept
returns-clause-kept c = λ start end on.
    let now = c.batches.invariant.on start end on in
    (now.keeps, is_gone start end c.batches.self c.args.n now (sym (c.is_over.ensures start now.keeps) ∙ c.batches-test.false))
