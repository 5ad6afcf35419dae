use Rattle.std.proofs.Common.{◌∙◌, sym, subst}
use Rattle.nodes_command.specs.Bases.{IsBegun}
use Rattle.nodes_command.specs.declared.bases.Base.{Base}
use Rattle.nodes_command.proofs.States.{begun, begun_runs}
use Rattle.nodes_command.proofs.bases.Base.begun.Goals as goal

pub returns-in_ok-begun-in-Rows : goal.returns-in_ok-begun-in-Rows
returns-in_ok-begun-in-Rows c =
    let n = c.in_ok-begun-in-Rows.begun in
    let e = c.in_ok-begun-in-Rows.ensures in
    subst (λ (b : Base). IsBegun c.args.catalog.now b n) (sym c.in-Rows.is)
    (begun c.args.catalog.now c.in-Rows.tables c.in-Rows.rule n (e.fixed.0 ∙ c.in_ok-catalog-in-Rows.ensures) e.fixed.1 e.start e.requests e.world e.ready)

pub returns-in-Runs : goal.returns-in-Runs
returns-in-Runs c = begun_runs c.args.catalog.now c.args.self c.in-Runs.nodes c.in-Runs.is c.requires.under
