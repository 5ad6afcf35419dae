use Rattle.std.proofs.Common.{◌≡◌, drop}
use Rattle.range_rules.specs.Scans.{begins}
use Rattle.range_rules.proofs.prefixes.begins.Given as goal

abbrev pub invariant-loop-place : goal.invariant-loop-place
invariant-loop-place l = begins (drop l.place l.front) (drop l.place l.parts) ≡ begins l.front l.parts
