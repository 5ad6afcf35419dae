use Rattle.std.proofs.Common.{◌≡◌}
use Rattle.std.specs.Prelude.{replicate, pos}
use Rattle.aria_base.specs.declared.values.Value.TheVariants as value
use Rattle.load_gen.proofs.heads.row.Given as goal

abbrev pub invariant-loop : goal.invariant-loop
invariant-loop l = l.columns.items ≡ replicate l.counter (value.Int (pos 0))
