-- Which checkpoint stands while a script runs over a store, and which batches behind it; and what a stop leaves of that.
use Rattle.std.specs.Prelude.{◌≡◌, ◌⊎◌, ℕ, ◌+◌, ◌==◌, if◌then◌else◌, List, [], ◌∷◌, ◌++◌, length, None}
use Rattle.aria_store.specs.Reopens.{Found, Reopens}
use Rattle.batch_core.specs.Steps.{State}
use Rattle.image_text.specs.Payloads.{Batch, payload_text}
use Rattle.script_course.specs.Courses.{Goes}
use Rattle.serving.specs.Stored.{batch_of, crowded, is_due}
use Rattle.slot_images.specs.Images.{Checkpoint}
use Rattle.store_openings.specs.Saved.{Saved, laid_where}
use Rattle.run_commands.specs.Onces.{Doing, handed_in}
use Rattle.run_commands.specs.Passes.{Turn, held_over, on_turn, over}

-- one batch more in the log: a gate of one byte and a length of four stand before its payload
abbrev pub with_batch : Saved → Batch → Saved
with_batch saved batch = record {
  c = saved.c;
  later = saved.later ++ batch ∷ [];
  bytes = saved.bytes + 5 + length (payload_text saved.c.plan batch);
}

-- Where a checkpoint is due behind it, that of the state that it leaves stands.
abbrev pub saved_more : ℕ → Saved → Batch → State → Saved
saved_more checkpoint saved batch after =
    laid_where (is_due checkpoint after.batches (with_batch saved batch).bytes) (with_batch saved batch) after

-- behind a turn: the count of batches tells whether it ran one
abbrev pub saved_then : ℕ → Saved → Doing → Doing → Saved
saved_then checkpoint saved before after =
    if after.state.batches == before.state.batches then saved
    else saved_more checkpoint saved (batch_of (handed_in before)) after.state

-- behind these turns, where a checkpoint is laid behind so many batches each
abbrev pub saved_behind : ℕ → List Turn → Doing → Saved → Saved
saved_behind checkpoint steps d saved = held_over on_turn (saved_then checkpoint) steps d saved

-- ---- what a stop leaves of turns

-- these four files are just this checkpoint with these batches behind it, which all have room
abbrev pub ReadsAs : Checkpoint → List Batch → (ℕ → List ℕ) → Type 0
ReadsAs c later images = Reopens images (Found c later) × (crowded c later ≡ None)

-- the store has what stands behind these first turns
abbrev pub HasFront : ℕ → List Turn → Doing → Saved → (ℕ → List ℕ) → Type 0
HasFront checkpoint front d saved images =
    ReadsAs (saved_behind checkpoint front d saved).c (saved_behind checkpoint front d saved).later images

-- or that with the batch of the next turn in its log, before a checkpoint that is due behind it
pub record HasLogged (checkpoint : ℕ) (front rest : List Turn) (d : Doing) (saved : Saved) (images : ℕ → List ℕ) : Type 0 where
  pub turn : Turn
  pub more : List Turn
  pub rest_is : rest ≡ turn ∷ more
  pub printed : List ℕ
  pub here : Doing
  pub goes : over on_turn front d ≡ Goes printed here
  pub text : List ℕ
  pub next : Doing
  pub runs : on_turn here turn ≡ Goes text next
  pub counted : next.state.batches ≡ here.state.batches + 1
  pub reads : ReadsAs (saved_behind checkpoint front d saved).c ((saved_behind checkpoint front d saved).later ++ batch_of (handed_in here) ∷ []) images

-- some first ones of these turns, all of them or none
pub record IsLeft (checkpoint : ℕ) (steps : List Turn) (d : Doing) (saved : Saved) (images : ℕ → List ℕ) : Type 0 where
  pub front : List Turn
  pub rest : List Turn
  pub are : steps ≡ front ++ rest
  pub reads : HasFront checkpoint front d saved images ⊎ HasLogged checkpoint front rest d saved images
