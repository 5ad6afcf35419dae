use Rattle.std.proofs.Common.{◌≡◌, drop, None}
use Rattle.batch_rules.specs.Touches.{keys_of}
use Rattle.core_machine.specs.Machines.{least_told}
use Rattle.core_machine.specs.Words.{word_in}
use Rattle.core_machine.specs.declared.decisions.TheConstants.{TAG}
use Rattle.core_machine.proofs.decisions.least_of_rows.Given as goal

abbrev pub invariant-loop-row : goal.invariant-loop-row
invariant-loop-row l = least_told TAG (word_in l.words) l.tid l.least (keys_of (drop l.row-index l.rows)) ≡ least_told TAG (word_in l.words) l.tid None
    (keys_of l.rows)
