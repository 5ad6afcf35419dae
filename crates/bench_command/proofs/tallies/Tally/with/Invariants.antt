use Rattle.std.proofs.Common.{◌≡◌, ◌-◌, drop, length}
use Rattle.bench_command.specs.Tallies.{HasRoom, with_lines}
use Rattle.bench_command.proofs.tallies.Tally.with.Given as goal

abbrev pub invariant-loop-line : goal.invariant-loop-line
invariant-loop-line l = record {
  room : HasRoom l.tally (length l.lines - l.line-index);
  leads : with_lines l.tally (drop l.line-index l.lines) ≡ with_lines l.fn.self l.lines;
}
