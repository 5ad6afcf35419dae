use Rattle.std.proofs.Common.{◌≡◌, map, take}
use Rattle.node_answers.specs.Merges.{settled_in}
use Rattle.node_answers.proofs.answers.verdicts_of.Given as goal

abbrev pub invariant-loop-entry : goal.invariant-loop-entry
invariant-loop-entry l = l.verdicts.items ≡ map (λ e. e.judged.verdict) (settled_in (take l.entry-index l.entries))
