use Rattle.std.proofs.Common.{◌≡◌}
use Rattle.clap.specs.Words.{app_of}
use Rattle.command_words.specs.Builds.{so_far}
use Rattle.command_words.proofs.shapes.command.Given as goal

abbrev pub invariant-loop-row : goal.invariant-loop-row
invariant-loop-row l = app_of l.command ≡ so_far l.name l.rows l.row-index
