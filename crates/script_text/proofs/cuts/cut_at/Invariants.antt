use Rattle.std.proofs.Common.{take}
use Rattle.script_text.specs.Cuts.{Lacks}
use Rattle.script_text.proofs.cuts.cut_at.Given as goal

abbrev pub invariant-loop-at : goal.invariant-loop-at
invariant-loop-at l = Lacks l.byte (take l.at l.bytes)
