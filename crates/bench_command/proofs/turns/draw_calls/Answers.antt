use Rattle.std.proofs.Common.{◌≡◌, ◌+◌, min, ap, rules}
use Rattle.serving.specs.Lives.{state_of}
use Rattle.bench_command.specs.Benches.{room}
use Rattle.bench_command.proofs.Bounds.{may_drawn}
use Rattle.bench_command.proofs.turns.draw_calls.Goals as goal

pub returns-clause-may : goal.returns-clause-may
returns-clause-may c =
    let many : c.min.result ≡ min c.args.size (room (state_of c.args.live.now)) = search rules in
    may_drawn (λ v. v.items) c.batch.result c.args.live.now c.args.generator.now c.args.size _ _ c.args.draws.now c.batch.ensures.calls c.batch.ensures.fit many
    (ap (λ n. n + 1) c.batches-number.ensures) c.requires.plan c.requires.runnable c.requires.early c.requires.numbered
