use Rattle.std.proofs.Common.{◌≡◌, map, drop}
use Rattle.command_words.specs.Lines.{opt_named}
use Rattle.command_words.specs.Rows.{opt_of}
use Rattle.command_words.proofs.lines.named.Given as goal

abbrev pub invariant-loop-option : goal.invariant-loop-option
invariant-loop-option l = opt_named (map opt_of (drop l.option-index l.table)) l.name ≡ opt_named (map opt_of l.table) l.name
