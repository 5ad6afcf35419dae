use Rattle.std.proofs.Common.{◌+◌, take, ap, sym, ◌∙◌}
use Rattle.std.proofs.lemmas.List.Sums.{sum_by_more}
use Rattle.std.specs.List.{sum_by}
use Rattle.aria_base.specs.declared.values.Value.{Value}
use Rattle.bench_command.specs.Tallies.{bits_of}
use Rattle.bench_command.proofs.Totals.{summed}
use Rattle.bench_command.proofs.sums.with_row.Goals as goal

pub loop-column-preserved : goal.loop-column-preserved
loop-column-preserved c =
    let columns = c.args.columns.now in
    let i = c.loop-column.column-index in
    let more = sum_by_more bits_of columns i c.column-item.result c.loop-column-test.true
    ∙ ap (λ (v : Value). sum_by bits_of (take i columns) + bits_of v) (sym c.column-item.is) in
    summed c.args.start _ _ _ _ c.loop-column.sum c.with_column-sum.result c.loop-column.invariant c.with_column-sum.ensures more
