use Rattle.std.proofs.Common.{◌≡◌, ◌≤◌, length, map, string_bytes}
use Rattle.command_words.specs.Rows.{cmd_of}
use Rattle.aria_cli.specs.Told.{longest_below}
use Rattle.aria_cli.proofs.hints.wrong_words.Given as goal

abbrev pub invariant-loop-count : goal.invariant-loop-count
invariant-loop-count l = record {
  within : l.longest ≤ length l.words;
  longest : l.longest ≡ longest_below (map cmd_of l.rows) (map string_bytes l.words) l.count;
}
