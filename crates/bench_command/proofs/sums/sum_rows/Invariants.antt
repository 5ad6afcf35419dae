use Rattle.std.proofs.Common.{◌≡◌, ◌%◌, ◌^◌, take}
use Rattle.std.specs.List.{sum_by}
use Rattle.std.specs.Map.Iter.{deref_pair}
use Rattle.bench_command.specs.Tallies.{bits_of}
use Rattle.bench_command.proofs.sums.sum_rows.Given as goal

abbrev pub invariant-loop-row : goal.invariant-loop-row
invariant-loop-row l = l.sum ≡ sum_by (λ row. sum_by bits_of (deref_pair row).1) (take l.row-index l.rows) % 2 ^ 64
