use Rattle.std.proofs.Common.{◌≡◌, ◌∙◌, ◌+◌, ℕ, ap, sym, arith}
use Rattle.workloads.specs.Generators.{orders_of}
use Rattle.mix_command.specs.Courses.{Stage, behind, first_stage, works_at}
use Rattle.mix_command.specs.Turns.{stage_of}
use Rattle.mix_command.proofs.Bounds.{batches-are, stage-more, stage-none}
use Rattle.mix_command.proofs.commands.run.Goals as goal

pub loop-init : goal.loop-init
loop-init g c =
    let m = c.args.settings.now in
    record {
      stage = c.in_ok-turn.ensures.first ∙ ap first_stage c.orders_of-orders.ensures ∙ sym (stage-none (orders_of m.amount m.stock) m.rule m.amount.size);
      early = c.in_ok-turn.ensures.early;
    }

pub next-requires-clause-batches : goal.next-requires-clause-batches
next-requires-clause-batches g c κs within =
    let m = c.args.settings.now in
    let is : (stage_of c.loop.turn).mix.batches ≡ c.loop.counter =
    ap (λ (s : Stage). s.mix.batches) c.loop.invariant.stage ∙ batches-are (orders_of m.amount m.stock) m.rule m.amount.size c.loop.counter in
    omega (arith, is, c.loop-test.true, c.requires.amount.batches.1)

pub loop-preserved : goal.loop-preserved
loop-preserved g c =
    let m = c.args.settings.now in
    let s = orders_of m.amount m.stock in
    record {
      stage = c.in_ok-turn-2.ensures.behind
          ∙ (λ i. behind m.rule (c.loop.invariant.stage i) (works_at (c.orders_of-orders.ensures i) m.amount.size (c.loop.invariant.stage i)))
          ∙ sym (stage-more s m.rule m.amount.size c.loop.counter);
      early = c.in_ok-turn-2.ensures.early;
    }
