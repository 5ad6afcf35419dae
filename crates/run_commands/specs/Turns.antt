-- What turns of a script do to its store.
use Rattle.std.specs.Prelude.{◌≡◌, ℕ, List, Option, Result, Err, IfOk}
use Rattle.disk_model.specs.Histories.{History, LeavesAll}
use Rattle.script_course.specs.declared.stops.Stop.{Stop}
use Rattle.script_course.specs.declared.stops.Stop.TheVariants as stop
use Rattle.store_openings.specs.Saved.{Saved}
use Rattle.run_commands.specs.Keeps.{HoldsState, Keeps, LeavesLaid, held_of}
use Rattle.run_commands.specs.Onces.{Running}
use Rattle.run_commands.specs.Passes.{PassesTurns, Turn, held_behind}
use Rattle.run_commands.specs.Saves.{IsLeft, saved_behind}
use Rattle.script_places.specs.Places.{plan_in}

-- what the disk holds of a script over its store; nothing where it has none
abbrev pub HoldsScript : ℕ → Saved → History → Running → Type 0
HoldsScript first saved disk script = HoldsState first saved script.checkpoint disk (plan_in script.doing.place.head) (held_of script) script.store

-- a script further on: it has the same catalogue, lays checkpoints behind as many batches each, and the disk holds its state
pub record Stays (first : ℕ) (saved : Saved) (disk : History) (script next : Running) : Type 0 where
  pub plan : plan_in next.doing.place.head ≡ plan_in script.doing.place.head
  pub checkpoint : next.checkpoint ≡ script.checkpoint
  pub holds : HoldsScript first saved disk next

-- what stands behind turns of a script
abbrev pub saved_over : List Turn → Running → Saved → Saved
saved_over steps script saved = saved_behind script.checkpoint steps script.doing saved

-- These turns were taken, or cut off. A stop at any moment leaves a state that passes in them, and just
-- what stands behind some first ones. The script that goes on holds the state
-- behind them; and where a line was refused, the disk holds the state of those before it.
pub record KeepsTurns (first : ℕ) (saved : Saved) (steps : List Turn) (script : Running) (old new : History)
    (given_old given_new : Option (List ℕ)) (result : Result Running Stop) : Type 0 where
  pub keeps : Keeps (PassesTurns steps script.doing (held_of script)) (plan_in script.doing.place.head) old new given_old given_new
  pub left : LeavesAll old new (IsLeft script.checkpoint steps script.doing saved)
  pub stays : IfOk result (Stays first (saved_over steps script saved) new script)
  pub held : IfOk result (λ next. held_of next ≡ held_behind steps script.doing (held_of script))
  pub refused : result ≡ Err stop.Refused
      → LeavesLaid first (saved_over steps script saved) script.checkpoint new (plan_in script.doing.place.head)
      (held_behind steps script.doing (held_of script))
