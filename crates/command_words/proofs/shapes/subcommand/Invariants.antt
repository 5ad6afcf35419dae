use Rattle.std.proofs.Common.{◌≡◌, map, take, [], false}
use Rattle.clap.specs.Words.{app_of}
use Rattle.clap.specs.Simple.{new_shape}
use Rattle.clap.specs.declared.builder.command.Command.TheViews.{out-Command}
use Rattle.command_words.specs.Shapes.{rule_for}
use Rattle.command_words.specs.Rows.{opt_of}
use Rattle.command_words.proofs.shapes.subcommand.Given as goal

abbrev pub invariant-loop-option : goal.invariant-loop-option
invariant-loop-option l =
    (app_of l.command ≡ record {
      top = record (new_shape l.row.name.now) { rules = map rule_for (map opt_of (take l.option-index l.row.options.now)) };
      subs =
          [];
    })
    × ((out-Command l.command).has_globals ≡ false)
