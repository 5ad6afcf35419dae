use Rattle.std.proofs.Common.{◌≡◌, ◌+◌, ◌%◌, ◌^◌, take}
use Rattle.std.specs.List.{sum_by}
use Rattle.bench_command.specs.Tallies.{bits_of}
use Rattle.bench_command.proofs.sums.with_row.Given as goal

abbrev pub invariant-loop-column : goal.invariant-loop-column
invariant-loop-column l = l.sum ≡ (l.start + sum_by bits_of (take l.column-index l.columns)) % 2 ^ 64
