use Rattle.std.proofs.Common.{◌≡◌, map, drop}
use Rattle.std.specs.Prelude.{find, bytes_eq}
use Rattle.command_words.specs.Rows.{cmd_of}
use Rattle.aria_cli.proofs.hints.options_of.Given as goal

abbrev pub invariant-loop-row : goal.invariant-loop-row
invariant-loop-row l = find (λ c. bytes_eq c.name l.name) (map cmd_of (drop l.row-index l.rows)) ≡ find (λ c. bytes_eq c.name l.name) (map cmd_of l.rows)
