use Rattle.std.proofs.Common.{◌≡◌, [], length}
use Rattle.script_text.specs.Cuts.{tokens}
use Rattle.script_text.specs.Forms.{row_after}
use Rattle.script_text.proofs.forms.read_row.Given as goal

abbrev pub invariant-loop-token : goal.invariant-loop-token
invariant-loop-token l = row_after l.table l.parts.items (tokens l.left) ≡ row_after l.table [] (tokens l.initial.left)

abbrev pub decreases-loop-token : goal.decreases-loop-token
decreases-loop-token l = length l.left
