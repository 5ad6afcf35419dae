-- What stands in a store: by the bytes of its files, and behind an opening.
use Rattle.std.specs.Prelude.{◌≡◌, ◌==◌, ◌||◌, nat_lt, if◌then◌else◌, ℕ, Bool, List, [], Option, IfSome}
use Rattle.aria_store.specs.Stands.{Kept}
use Rattle.batch_core.specs.Steps.{State}
use Rattle.disk_model.specs.Histories.{History}
use Rattle.image_text.specs.Payloads.{Batch}
use Rattle.input_log.specs.Layout.{Log, Ends, Breaks, log_of}
use Rattle.input_log.specs.declared.limits.TheConstants.{MOST_LOG}
use Rattle.proc_lang.specs.Catalogs.{Plan}
use Rattle.serving.specs.Stored.{Holds, laid_behind, state_behind}
use Rattle.slot_images.specs.Images.{Checkpoint}
use Rattle.store_openings.specs.Openings.{log_in}

-- a checkpoint with the batches behind it, and how many bytes its log has before its end
pub record Saved : Type 0 where
  pub c : Checkpoint
  pub later : List Batch
  pub bytes : ℕ

-- where the first closed gate of a log stands
abbrev pub end_of : Log → ℕ
end_of (Ends payloads end) = end
end_of (Breaks at) = at

-- what stands in four files with these bytes, where they read as this checkpoint with these batches
abbrev pub saved_in : (ℕ → List ℕ) → Checkpoint → List Batch → Saved
saved_in images c later = record { c = c; later = later; bytes = end_of (log_of (images (log_in c))) }

-- It takes no batch as it is: it is of format 1, or its log has more than 2^28 bytes.
abbrev pub is_full : Saved → Bool
is_full saved = saved.c.head.format == 1 || nat_lt MOST_LOG saved.bytes

-- the next checkpoint: of this state, in format 2, with an empty log
abbrev pub laid : Saved → State → Saved
laid saved state = record { c = laid_behind saved.c state; later = []; bytes = 0 }

-- where it is due
abbrev pub laid_where : Bool → Saved → State → Saved
laid_where due saved state = if due then laid saved state else saved

-- Behind an opening the next checkpoint stands where the store takes no batch as it is, and else just what stood there.
abbrev pub renewed : Saved → Saved
renewed saved = laid_where (is_full saved) saved (state_behind saved.c saved.later)

-- the disk holds it as this state, by a store that knows the log's end
pub record HoldsSaved (disk : History) (plan : Plan) (state : State) (store : Option Kept) (saved : Saved) : Type 0 where
  pub holds : Holds disk plan state store saved.c saved.later
  pub bytes : IfSome store (λ kept. kept.files.at ≡ saved.bytes)
