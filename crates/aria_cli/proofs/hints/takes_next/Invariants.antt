use Rattle.std.proofs.Common.{◌≡◌, map, drop}
use Rattle.command_words.specs.Lines.{opt_named}
use Rattle.command_words.specs.Rows.{opt_of}
use Rattle.aria_cli.proofs.hints.takes_next.Given as goal

abbrev pub invariant-loop-option : goal.invariant-loop-option
invariant-loop-option l = opt_named (map opt_of (drop l.option-index l.options)) l.name ≡ opt_named (map opt_of l.options) l.name
