-- Nodes print what one database prints, however many they are.
use Rattle.std.specs.Prelude.{◌≡◌, ℕ, List, [], ◌∷◌, Option, Some, None}
use Rattle.command_words.specs.declared.settings.Nodes.{Nodes}
use Rattle.command_words.specs.declared.settings.Once.{Once}
use Rattle.node_answers.specs.Runs.{NEVER}
use Rattle.run_commands.specs.Bases.{counts_of}
use Rattle.run_commands.specs.Outs as once
use Rattle.run_commands.specs.Outs.{no_line}
use Rattle.script_course.specs.Courses.{Course, Goes, Stops}
use Rattle.script_places.specs.Places.{asked}
use Rattle.script_text.specs.Lines.{last_line, scan}
use Rattle.nodes_command.specs.Asks.{asked_among}
use Rattle.nodes_command.specs.Outs.{out_of, start_of, told_of}
use Rattle.nodes_command.specs.Scripts.{Among, on_line}

-- ---- however many they are

-- settings that differ in the number of nodes alone
pub record IsAlike (first second : Nodes) : Type 0 where
  pub rules : first.rule ≡ second.rule
  pub listings : first.listing ≡ second.listing
  pub drains : first.drain ≡ second.drain

-- they tell the same and print the same
abbrev pub AreOne : Nodes → Nodes → List ℕ → Type 0
AreOne first second text = (told_of first text ≡ told_of second text) × (out_of first text ≡ out_of second text)

-- ---- one database

-- the settings of one database: the same, and the late fold never runs
pub record IsOneOf (settings : Nodes) (alone : Once) : Type 0 where
  pub rules : alone.rule ≡ settings.rule
  pub fallbacks : alone.fallback ≡ NEVER
  pub listings : alone.listing ≡ settings.listing
  pub drains : alone.drain ≡ settings.drain

-- a line that nodes are asked as one database is: no settings, and no call past the bound of all calls
abbrev pub IsLineAlike : Among → List ℕ → Type 0
IsLineAlike a line = asked_among a.called a.doing.place (counts_of a.doing.state) line ≡ asked a.doing.place (counts_of a.doing.state) line

-- what holds of the script that goes on
abbrev pub Onward : (Among → Type 0) → Course Among → Type 0
Onward P (Goes bytes a) = P a
Onward P (Stops bytes) = Unit {0}

-- each of these lines, up to one that is refused
abbrev pub AreLinesAlike : List (List ℕ) → Among → Type 0
AreLinesAlike [] a = Unit {0}
AreLinesAlike (line ∷ lines) a = IsLineAlike a line × Onward (AreLinesAlike lines) (on_line a line)

abbrev pub IsLastAlike : Option (List ℕ) → Among → Type 0
IsLastAlike None a = Unit {0}
IsLastAlike (Some line) a = IsLineAlike a line

-- each line of a text
pub record IsTextAlike (settings : Nodes) (text : List ℕ) : Type 0 where
  pub lines : AreLinesAlike (scan no_line text).lines (start_of settings)
  pub last : Onward (IsLastAlike (last_line (scan no_line text).feed)) (told_of settings text)

-- then nodes print what one database prints
abbrev pub PrintsAsOne : Nodes → List ℕ → Type 0
PrintsAsOne settings text = (alone : Once) → IsOneOf settings alone → IsTextAlike settings text → out_of settings text ≡ once.out_of alone text
