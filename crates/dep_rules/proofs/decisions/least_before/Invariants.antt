use Rattle.std.proofs.Common.{◌≡◌, drop, None}
use Rattle.dep_rules.specs.Words.{least_of, told}
use Rattle.dep_rules.proofs.decisions.least_before.Given as goal

abbrev pub invariant-loop-key : goal.invariant-loop-key
invariant-loop-key l = least_of (told l.words l.tag l.side l.tid) l.least (drop l.key-index l.keys) ≡ least_of (told l.words l.tag l.side l.tid) None l.keys
