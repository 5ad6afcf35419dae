-- The promise of the printed order.
use Rattle.std.specs.Prelude.{ℕ, List, map}
use Rattle.aria_store.specs.Reopens.{Found, Reopens}
use Rattle.batch_core.specs.Serial.{AllSerial}
use Rattle.batch_core.specs.Steps.{Handed}
use Rattle.command_words.specs.declared.settings.Once.{Once}
use Rattle.command_words.specs.declared.settings.Run.{Run}
use Rattle.image_text.specs.Payloads.{Batch}
use Rattle.proc_lang.specs.Catalogs.{run_of}
use Rattle.script_course.specs.Courses.{Course, Goes, Stops}
use Rattle.serving.specs.Stored.{handed_in, state_at}
use Rattle.slot_images.specs.Images.{Checkpoint}
use Rattle.run_commands.specs.Onces.{Doing}
use Rattle.run_commands.specs.Outs.{told_of}
use Rattle.run_commands.specs.Resumes.{start_over, told_from}
use Rattle.script_places.specs.Places.{plan_in}

-- the batches that follow on a script, as many as come and whatever they are handed, are each serialised by the order that its answer
-- prints: one after the other from the batch's start, the requests that it names end as printed and leave the next state's rows, and
-- all others wait
abbrev pub GoesSerially : Course Doing → Type 0
GoesSerially (Goes bytes d) = (batches : List Handed) → AllSerial (run_of (plan_in d.place.head)) d.state batches
GoesSerially (Stops bytes) = Unit {0}

-- so it is behind the whole lines of every text: its next batch is serial, and so are those that drain it
abbrev pub EachIsSerial : Once → List ℕ → Type 0
EachIsSerial settings text = GoesSerially (told_of settings text)

-- and behind those of every text over a store, whatever four files it stands in
abbrev pub EachRunIsSerial : Type 0
EachRunIsSerial =
    (settings : Run) (files : ℕ → List ℕ) (c : Checkpoint) (later : List Batch) (text : List ℕ) → Reopens files (Found c later)
    → GoesSerially (told_from (start_over settings c later) text)

-- and so are the batches of the log, which `replay` answers
abbrev pub EachReplayIsSerial : Type 0
EachReplayIsSerial =
    (files : ℕ → List ℕ) (c : Checkpoint) (later : List Batch) → Reopens files (Found c later)
    → AllSerial (run_of c.plan) (state_at c) (map handed_in later)
