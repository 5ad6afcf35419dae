use Rattle.std.proofs.Common.{◌≡◌, map, drop}
use Rattle.command_words.specs.Lines.{is_given}
use Rattle.command_words.specs.Rows.{given_of}
use Rattle.command_words.proofs.lines.has_name.Given as goal

abbrev pub invariant-loop-row : goal.invariant-loop-row
invariant-loop-row l = is_given (map given_of (drop l.row-index l.given)) l.name ≡ is_given (map given_of l.given) l.name
