-- What a command needs to know of the disk, and what it leaves of it.
use Rattle.std.specs.Prelude.{◌≡◌, ◌≢◌, ◌⊎◌, ℕ, ◌||◌, Bool, List, [], Option, Some, IfSome}
use Rattle.std.specs.Io.KnownBytes.{Appends}
use Rattle.aria_store.specs.Reopens.{Reopened, Reopens}
use Rattle.checkpoint.specs.Slots.{is_open}
use Rattle.command_words.specs.declared.settings.Init.{Init}
use Rattle.command_words.specs.declared.settings.Run.{Run}
use Rattle.disk_model.specs.Histories.{History, LeavesAll, MayLeave, Still}
use Rattle.run_commands.specs.Resumes.{HoldsOver, LeavesOver, StandsOver}
use Rattle.script_course.specs.declared.statuses.TheConstants.{DONE, READ_FAULT, REFUSED, STORE_REFUSED}
use Rattle.store_commands.specs.Inits as init
use Rattle.store_openings.specs.Openings.{ReadsAs, opened}
use Rattle.command_words.specs.declared.settings.Command.{Command}
use Rattle.command_words.specs.declared.settings.Command.TheVariants as command

-- ---- before

-- whether a store stands in these files: one of the two gates is open
abbrev pub is_taken : (ℕ → List ℕ) → Bool
is_taken images = is_open (images 0) || is_open (images 1)

-- The four files have these bytes, and reopen as that, where the task asks for it. Nothing is asked where the disk is not used.
abbrev pub Sees : Option Command → History → (ℕ → List ℕ) → Reopened → Type 0
Sees (Some (command.Init settings)) disk images found = ReadsAs disk images
Sees (Some (command.Run settings)) disk images found = ReadsAs disk images × Reopens images found
Sees (Some (command.Replay settings)) disk images found = ReadsAs disk images × Reopens images found
Sees other disk images found = Unit {0}

-- ---- after

-- A head that does not make a store leaves every file as it was at every moment, whatever the answer is. Where a head makes one and
-- anything was written, the store is made, whatever the answer is. A store that is made is that of the head.
pub record InitLeaves (settings : Init) (taken : Bool) (left : Option (List ℕ)) (was is : History) (old new : Option (List ℕ))
    (status : ℕ) : Type 0 where
  pub refused : (status ≡ REFUSED) ⊎ (status ≡ READ_FAULT) ⊎ (status ≡ STORE_REFUSED) → Still was is
  pub unmade : IfSome left (λ text. (init.out_of settings taken text).status ≢ DONE → Still was is)
  pub stored : IfSome left (λ text. (init.out_of settings taken text).status ≡ DONE → Appends old new [] ⊎ init.IsMade settings left is)
  pub made : status ≡ DONE → init.IsMade settings left is

-- What a stop leaves of a script over a store at any moment, and now; and what the disk holds of a script that was read to its end or to
-- a refused line, by which checkpoint. What was found goes by what the files read as.
pub record RunLeaves (settings : Run) (images : ℕ → List ℕ) (found : Reopened) (left : Option (List ℕ)) (was is : History)
    (old new : Option (List ℕ)) (status : ℕ) : Type 0 where
  pub leaves : IfSome left (λ text. LeavesOver settings (opened images found) text was is old new)
  pub stands : IfSome left (λ text. StandsOver settings images (opened images found) text was is old new)
  pub holds : (status ≡ DONE) ⊎ (status ≡ REFUSED) → IfSome left (λ text. HoldsOver settings images (opened images found) text is)

-- Of the disk is asked what each of these needs to know of it, and of `replay` nothing. A task that does not use the disk has a clause of
-- its own.
abbrev pub LeavesDisk : Option Command → Option (List ℕ) → History → History → Option (List ℕ) → Option (List ℕ) → ℕ → Type 0
LeavesDisk (Some (command.Init settings)) left was is old new status =
    (images : ℕ → List ℕ) → ReadsAs was images → InitLeaves settings (is_taken images) left was is old new status
LeavesDisk (Some (command.Run settings)) left was is old new status =
    (images : ℕ → List ℕ) (found : Reopened) → ReadsAs was images → Reopens images found
    → RunLeaves settings images found left was is old new status
LeavesDisk (Some (command.Replay settings)) left was is old new status = LeavesAll was is (MayLeave was was.now)
LeavesDisk other left was is old new status = Unit {0}
