use Rattle.std.proofs.Common.{◌≡◌, drop}
use Rattle.script_text.specs.Cuts.{tokens}
use Rattle.script_text.proofs.cuts.spaces.Given as goal

abbrev pub invariant-loop-at : goal.invariant-loop-at
invariant-loop-at l = tokens (drop l.at l.line) ≡ tokens l.line
