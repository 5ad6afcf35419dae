use Rattle.std.proofs.Common.{◌≡◌, rules}
use Rattle.mix_command.specs.Courses.{new_works}
use Rattle.mix_command.proofs.Bounds.{may-run}
use Rattle.mix_command.proofs.turns.draw_works.Goals as goal

pub returns-clause-may : goal.returns-clause-may
returns-clause-may c =
    let many : c.min.result ≡ new_works c.args.size c.args.mix.now = search rules in
    may-run (λ v. v.items) c.more_batch.result c.args.mix.now c.args.size c.min.result _ c.args.orders.now c.args.draws.now
    c.more_batch.ensures.works c.more_batch.ensures.taken many c.ready.ensures.engine.few c.requires.early c.requires.batches
