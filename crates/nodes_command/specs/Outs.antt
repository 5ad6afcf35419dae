-- The output of `nodes`.
use Rattle.std.specs.Prelude.{◌≤◌, ℕ, Bool, List}
use Rattle.batch_rules.specs.declared.verdicts.Rule.{Rule}
use Rattle.command_words.specs.declared.settings.Nodes.{Nodes}
use Rattle.node_answers.specs.Runs.{NEVER}
use Rattle.node_world.specs.declared.worlds.TheConstants.{MOST_NODES}
use Rattle.run_commands.specs.Outs.{is_each, no_line, start_by}
use Rattle.script_course.specs.Courses.{Course, Out, told, whole}
use Rattle.nodes_command.specs.Scripts.{Among, on_line, on_end}

-- before the first line: no rows, no batches, and no call; the late fold never runs
abbrev pub start_with : Rule → Bool → Among
start_with rule each = record { doing = start_by rule NEVER each; called = 0 }

abbrev pub start_of : Nodes → Among
start_of settings = start_with settings.rule (is_each settings.listing)

-- what is told of a text as far as it goes, and all that is printed of a whole text. Neither depends on the number of nodes
abbrev pub told_of : Nodes → List ℕ → Course Among
told_of settings text = told on_line no_line (start_of settings) text

abbrev pub out_of : Nodes → List ℕ → Out
out_of settings text = whole on_line (on_end settings.drain) no_line (start_of settings) text

-- the settings are within their bounds
pub record IsInRange (settings : Nodes) : Type 0 where
  pub nodes : (1 ≤ settings.nodes) × (settings.nodes ≤ MOST_NODES)
