-- The command line's shape, as `clap` has it.
use Rattle.std.specs.Prelude.{ℕ, Bool, true, false, List, map, Some}
use Rattle.clap.specs.Walk.{Rule}
use Rattle.clap.specs.Simple.{App, Shape, new_rule, new_shape}
use Rattle.clap.specs.declared.builder.action.ArgAction.{ArgAction}
use Rattle.clap.specs.declared.builder.action.ArgAction.TheVariants.{Set, SetTrue}
use Rattle.command_words.specs.Lines.{Opt, Cmd}

abbrev pub action_for : Bool → ArgAction
action_for true = SetTrue
action_for false = Set

abbrev pub rule_for : Opt → Rule
rule_for o = record (new_rule o.name) { long = Some o.name; action = Some (action_for o.is_flag) }

abbrev pub shape_for : Cmd → Shape
shape_for c = record (new_shape c.name) { rules = map rule_for c.options }

abbrev pub top_for : List ℕ → Shape
top_for name =
    record (new_shape name) { no_binary_name = true; disable_help_flag = true; disable_help_subcommand = true; is_leaf = false }

abbrev pub app_for : List ℕ → List Cmd → App
app_for name cmds = record { top = top_for name; subs = map shape_for cmds }
