use Rattle.std.proofs.Common.{◌≡◌, length}
use Rattle.aria_base.specs.Reserved.{AreAbove}
use Rattle.worked_phases.specs.declared.decisions.TheConstants.{TAG}
use Rattle.worked_phases.proofs.decisions.words_before.Given as goal

abbrev pub invariant-loop-key : goal.invariant-loop-key
invariant-loop-key l = (length l.old.items ≡ l.key) × AreAbove TAG l.old.items
