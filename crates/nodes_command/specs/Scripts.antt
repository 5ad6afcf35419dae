-- A script that is run on nodes while it is read: what each line prints, which state follows, and what the end prints. Between two of
-- its lines it is a script that is run on one database, and the number of its calls.
use Rattle.std.specs.Prelude.{ℕ, ◌+◌, Bool, if◌then◌else◌, List, Ok, Err}
use Rattle.script_course.specs.Courses.{Course, Goes, Stops, Out, refused_after}
use Rattle.script_places.specs.Places.{Asked}
use Rattle.script_places.specs.declared.deeds.Deed.{Deed}
use Rattle.run_commands.specs.Bases.{counts_of}
use Rattle.run_commands.specs.Onces as onces
use Rattle.run_commands.specs.Onces.{Doing}
use Rattle.nodes_command.specs.Asks.{asked_among, is_call}

-- `called` counts the calls of the whole script so far, also those of batches that were told as kept
pub record Among : Type 0 where
  pub doing : Doing
  pub called : ℕ

-- the calls behind what is asked for
abbrev pub called_behind : ℕ → Deed → ℕ
called_behind called asks = if is_call asks then called + 1 else called

-- a course with the number of its calls
abbrev pub counted : ℕ → Course Doing → Course Among
counted called (Goes bytes d) = Goes bytes (record { doing = d; called = called })
counted called (Stops bytes) = Stops bytes

-- what is asked for is done as on one database
abbrev pub done : Among → Deed → Course Among
done a asks = counted (called_behind a.called asks) (onces.done a.doing asks)

abbrev pub done_by : Among → Asked → Course Among
done_by a (Ok asked) = done (record { doing = record a.doing { place = asked.0 }; called = a.called }) asked.1
done_by a (Err kind) = Stops (refused_after a.doing.place.lines kind)

abbrev pub on_line : Among → List ℕ → Course Among
on_line a line = done_by a (asked_among a.called a.doing.place (counts_of a.doing.state) line)

-- the end prints the same as on one database
abbrev pub on_end : Bool → Among → Out
on_end drain a = onces.on_end drain a.doing
