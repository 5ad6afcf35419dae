use Rattle.std.proofs.Common.{◌≡◌, rules}
use Rattle.worked_more.proofs.Ready.{fit_copy}
use Rattle.worked_more.proofs.batches.copied.Goals as goal

pub returns : goal.returns
returns g c =
    let same : c.expect.result ≡ c.tables.result.now = search rules in
    fit_copy c.args.mix.now.plan c.args.mix.now.rows c.tables.result.now c.expect.result c.ready.ensures.mix.plan c.ready.ensures.engine.consistent same
    c.tables.ensures
