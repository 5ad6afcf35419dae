use Rattle.std.proofs.Common.{◌≡◌, ◌++◌, take, flat_map}
use Rattle.answer_text.specs.Answers.{line_text}
use Rattle.answer_text.proofs.answers.append_lines.Given as goal

abbrev pub invariant-loop-line : goal.invariant-loop-line
invariant-loop-line l = l.out.items ≡ l.initial.out.items ++ flat_map (line_text l.tables) (take l.line-index l.lines)
