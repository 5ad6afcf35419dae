use Rattle.std.proofs.Common.{◌≡◌, drop, None}
use Rattle.core_machine.specs.Machines.{least_told}
use Rattle.core_machine.specs.Words.{word_in}
use Rattle.core_machine.specs.declared.decisions.TheConstants.{TAG}
use Rattle.core_machine.proofs.decisions.least_of_keys.Given as goal

abbrev pub invariant-loop-key : goal.invariant-loop-key
invariant-loop-key l = least_told TAG (word_in l.words) l.tid l.least (drop l.key-index l.keys) ≡ least_told TAG (word_in l.words) l.tid None l.keys
