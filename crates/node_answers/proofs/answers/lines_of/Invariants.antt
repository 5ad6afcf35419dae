use Rattle.std.proofs.Common.{◌≡◌, map, take}
use Rattle.batch_core.specs.Steps.{line_of}
use Rattle.node_answers.specs.Merges.{settled_in, list_in}
use Rattle.node_answers.proofs.answers.lines_of.Given as goal

abbrev pub invariant-loop-entry : goal.invariant-loop-entry
invariant-loop-entry l = l.lines.items ≡ map (line_of (λ r. r) (list_in l.entries)) (settled_in (take l.entry-index l.entries))
