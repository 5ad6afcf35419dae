-- What a disk holds while a script runs over it.
use Rattle.std.specs.Prelude.{◌≡◌, ◌≤◌, ◌<◌, ◌%◌, ℕ, List, length, Option, None, IfSome}
use Rattle.std.specs.Io.KnownBytes.{Appends}
use Rattle.aria_base.specs.declared.limits.TheConstants.{LONGEST_LINE}
use Rattle.aria_store.specs.Reopens.{Reopens, Found}
use Rattle.aria_store.specs.Stands.{Kept}
use Rattle.batch_core.specs.Steps.{State}
use Rattle.disk_model.specs.Histories.{History, LeavesAll, MayLeave}
use Rattle.image_text.specs.Exactly.{line_of_call}
use Rattle.proc_lang.specs.Catalogs.{Plan}
use Rattle.script_places.specs.Places.{plan_in}
use Rattle.script_places.specs.declared.deeds.Deed.{Deed}
use Rattle.script_places.specs.declared.deeds.Deed.TheVariants as deed
use Rattle.serving.specs.Stored.{GoesOn, HasLines, ReopensTo, crowded, state_behind, told_by}
use Rattle.store_openings.specs.Saved.{HoldsSaved, Saved}
use Rattle.run_commands.specs.Onces.{Running}

-- these four files are the text of a state that passes, whatever was given then
pub record ReopensToPassed (passes : State → List ℕ → Type 0) (plan : Plan) (images : ℕ → List ℕ) : Type 0 where
  pub state : State
  pub given : List ℕ
  pub passed : passes state given
  pub reopens : ReopensTo plan state images

-- and that passes with just these bytes given
pub record ReopensAsGiven (passes : State → List ℕ → Type 0) (plan : Plan) (old new : Option (List ℕ)) (images : ℕ → List ℕ) : Type 0 where
  pub state : State
  pub given : List ℕ
  pub passed : passes state given
  pub appends : Appends old new given
  pub reopens : ReopensTo plan state images

-- A stop at any moment leaves a state that passes; and a stop now one that passes with what was given.
pub record Keeps (passes : State → List ℕ → Type 0) (plan : Plan) (old new : History)
    (given_old given_new : Option (List ℕ)) : Type 0 where
  pub images : LeavesAll old new (ReopensToPassed passes plan)
  pub exit : (images : ℕ → List ℕ) → MayLeave new new.now images → ReopensAsGiven passes plan given_old given_new images

-- What stands is this state, and each batch past the first so many whose number this option divides is in the checkpoint.
pub record HoldsState (first : ℕ) (saved : Saved) (checkpoint : ℕ) (disk : History) (plan : Plan) (state : State) (store : Option Kept) : Type 0 where
  pub stands : HoldsSaved disk plan state store saved
  pub laid : (number : ℕ) → 0 < checkpoint → first < number → number ≤ state.batches → number % checkpoint ≡ 0 → number ≤ saved.c.head.batches

-- These four files are just this checkpoint with these batches behind it, which all have room, and are this state. Each batch past the
-- first so many whose number the option divides is in the checkpoint.
pub record ReopensLaid (first : ℕ) (saved : Saved) (checkpoint : ℕ) (plan : Plan) (state : State) (images : ℕ → List ℕ) : Type 0 where
  pub reopens : Reopens images (Found saved.c saved.later)
  pub roomy : crowded saved.c saved.later ≡ None
  pub plan_is : saved.c.plan ≡ plan
  pub state_is : state_behind saved.c saved.later ≡ state
  pub laid : (number : ℕ) → 0 < checkpoint → first < number → number ≤ state.batches → number % checkpoint ≡ 0 → number ≤ saved.c.head.batches

-- every image that a stop now may leave is that
abbrev pub LeavesLaid : ℕ → Saved → ℕ → History → Plan → State → Type 0
LeavesLaid first saved checkpoint disk plan state =
    (images : ℕ → List ℕ) → MayLeave disk disk.now images → ReopensLaid first saved checkpoint plan state images

-- where a script has a store, that may take a batch, and each open call has a line that goes into its log
pub record IsOpen (disk : History) (script : Running) : Type 0 where
  pub logging : IfSome script.store (GoesOn disk script.doing.state.batches)
  pub lines : IfSome script.store (λ _. HasLines (plan_in script.doing.place.head) script.doing.calls)

-- the state that its store holds: settings that no batch follows are in none
abbrev pub held_of : Running → State
held_of script = told_by script.store script.doing.state

-- a call that is asked for has a line that goes into a log
abbrev pub IsShort : Plan → Deed → Type 0
IsShort plan (deed.Call call) = length (line_of_call plan call) ≤ LONGEST_LINE
IsShort plan deed.Run = Unit {0}
IsShort plan deed.Nothing = Unit {0}
IsShort plan deed.Tell = Unit {0}
IsShort plan (deed.Put key row) = Unit {0}
IsShort plan (deed.Set rule percent) = Unit {0}
IsShort plan (deed.Keep number) = Unit {0}
