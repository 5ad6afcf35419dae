-- The command `init`: what it prints, and what it leaves of the disk.
use Rattle.std.specs.Prelude.{◌≡◌, ◌≢◌, ◌⊎◌, ℕ, Bool, not, ◌&&◌, if◌then◌else◌, List, [], Option, Some, Result, Ok, Err, IfSome}
use Rattle.std.specs.Io.KnownBytes.{Appends}
use Rattle.aria_base.specs.Orders.{Database}
use Rattle.answer_text.specs.Notices.{ready_text, refused_text}
use Rattle.answer_text.specs.declared.notices.NotDone.TheVariants.{StoreExists}
use Rattle.command_words.specs.declared.settings.Init.{Init}
use Rattle.disk_model.specs.Histories.{History, Still}
use Rattle.proc_lang.specs.Catalogs.{Plan}
use Rattle.script_course.specs.Courses.{Out, ended, refused_after, status_of}
use Rattle.script_course.specs.Served.{Completes, Finishes}
use Rattle.script_course.specs.declared.stops.Stop.{Stop}
use Rattle.script_course.specs.declared.stops.Stop.TheVariants as stop
use Rattle.script_places.specs.Places.{closing}
use Rattle.script_places.specs.declared.places.ScriptPlace.{ScriptPlace}
use Rattle.script_text.specs.declared.refusals.RefusalKind.{RefusalKind}
use Rattle.slot_images.specs.Images.{Checkpoint}
use Rattle.store_files.specs.Attachments.{IsTaken}
use Rattle.aria_store.specs.Stands.{Kept, Stands}
use Rattle.script_rows.specs.declared.drafts.Draft.{Draft}
use Rattle.store_commands.specs.Drafts.{read_of, said_by, told_of}
use Rattle.script_course.specs.declared.statuses.TheConstants.{DONE, STORE_REFUSED}

-- ---- what is printed

-- A head that is read to its end makes a store, unless there is one that may not be written over.
abbrev pub store_out : Init → Bool → Out
store_out settings taken =
    if taken && not settings.over then (record { bytes = refused_text StoreExists; status = STORE_REFUSED })
    else (record { bytes = ready_text; status = DONE })

-- the end of the head, unless it is refused
abbrev pub closed_by : Init → Bool → Draft → Result ScriptPlace RefusalKind → Out
closed_by settings taken d (Ok place) = store_out settings taken
closed_by settings taken d (Err kind) = record { bytes = refused_after d.place.lines kind; status = status_of stop.Refused }

abbrev pub on_end : Init → Bool → Draft → Out
on_end settings taken d = closed_by settings taken d (closing d.place)

-- all that is printed of a whole head, by whether a gate is open before
abbrev pub out_of : Init → Bool → List ℕ → Out
out_of settings taken text = ended (on_end settings taken) (read_of text)

-- ---- what is left of the disk

-- the checkpoint of this catalogue and these rows: the first one, by these settings, before the first batch
abbrev pub first_checkpoint : Init → Plan × Database → Checkpoint
first_checkpoint settings values = record {
  head = record {
    format = 2;
    rule = settings.rule;
    fallback = settings.fallback;
    generation = 1;
    batches = 0;
    requests = 0;
  };
  plan = values.0;
  rows = values.1;
  held = [];
}

-- the disk holds that checkpoint and no batches
pub record IsMadeOf (settings : Init) (values : Plan × Database) (disk : History) : Type 0 where
  pub store : Kept
  pub stands : Stands disk store (first_checkpoint settings values) []

-- what is held is what the text says
pub record IsMade (settings : Init) (left : Option (List ℕ)) (disk : History) : Type 0 where
  pub values : Plan × Database
  pub said : IfSome left (λ text. said_by text ≡ Some values)
  pub holds : IsMadeOf settings values disk

-- Where a store stood that may not be written over, nothing was written; and where the head was not read to its end, no call was
-- made on the disk.
abbrev pub StoppedOn : {D : Type 0} → (D → History) → D → D → Stop → Type 0
StoppedOn history old new stop.Refused = new ≡ old
StoppedOn history old new stop.NoRead = new ≡ old
StoppedOn history old new stop.NoMemory = Unit {0}
StoppedOn history old new stop.NoWrite = Unit {0}
StoppedOn history old new stop.NoDisk = Unit {0}

abbrev pub Leaves : {D : Type 0} → (D → History) → D → D → Result ℕ Stop → Type 0
Leaves history old new (Ok ending) = ending ≡ STORE_REFUSED → Still (history old) (history new)
Leaves history old new (Err why) = StoppedOn history old new why

-- Where the disk failed, nothing was given: no line says that a store was made which then failed.
abbrev pub IsUngiven : Option (List ℕ) → Option (List ℕ) → Result ℕ Stop → Type 0
IsUngiven old new result = result ≡ Err stop.NoDisk → new ≡ old

-- ---- the command

-- The output is that by whether a gate was open. Where its status is not that of a store made, nothing was written, whatever
-- the answer is. Where it is and anything was given, the store is made, whatever the answer is.
pub record Inits (settings : Init) (was is : History) (left rest old new : Option (List ℕ)) (result : Result ℕ Stop) : Type 0 where
  pub taken : Bool
  pub looked : IsTaken was taken
  pub completes : Completes told_of (out_of settings taken) left rest old new result
  pub unwritten : IfSome left (λ text. (out_of settings taken text).status ≢ DONE → Still was is)
  pub stored : IfSome left (λ text. (out_of settings taken text).status ≡ DONE → Appends old new [] ⊎ IsMade settings left is)

-- So it is behind a head that was read to its end: what follows has an output by whether a gate was open, and says what it is that the
-- store is made.
pub record Ends (out : Bool → Out) (made : Type 0) (was is : History) (old new : Option (List ℕ)) (result : Result ℕ Stop) : Type 0 where
  pub taken : Bool
  pub looked : IsTaken was taken
  pub finishes : Finishes (out taken) old new result
  pub unwritten : (out taken).status ≢ DONE → Still was is
  pub stored : (out taken).status ≡ DONE → (new ≡ old) ⊎ made
