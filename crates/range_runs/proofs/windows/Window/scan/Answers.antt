use Rattle.std.proofs.Common.{ap, ◌∙◌}
use Rattle.std.specs.FinMap as fin
use Rattle.range_rules.specs.Scans.{is_under}
use Rattle.range_runs.specs.Windows.{written_under}
use Rattle.range_runs.proofs.RowsUnder.{written-is}
use Rattle.range_runs.proofs.windows.Window.scan.Goals as goal

pub returns-clause-rows : goal.returns-clause-rows
returns-clause-rows c =
    let p = c.args.prefix in
    let layer = c.self.inside.overlay in
    let found = c.in_ok-found.ensures ∙ ap (λ db. fin.retain_keys db (is_under p)) c.self.invariant.0 in
    rw (← c.self.view_is) (c.in_ok-rows.ensures ∙ ap fin.entries (c.in_ok-make_writes.ensures
    ∙ ap (λ db. written_under p db layer.noted.writes) found ∙ written-is p layer.base layer.noted.writes))
