-- What arguments print, by what they ask for.
use Rattle.std.proofs.Common.{◌≡◌, ◌≢◌, ◌⊎◌, inl, inr, ◌∙◌, sym, subst, ap, ℕ, List, [], Option, Some, None, Bool, true, false, arith}
use Rattle.std.proofs.KnownBytes.{Appends-nil}
use Rattle.std.specs.Io.KnownBytes.{Appends}
use Rattle.std.specs.Option.{IfSome}
use Rattle.std.specs.Prelude.{option_map}
use Rattle.aria_base.specs.Streams.{AppendsFront}
use Rattle.aria_store.specs.Reopens.{Reopened, Reopens, NoStore, Damaged, Found}
use Rattle.disk_model.proofs.Spans.{leaves_still, still_none}
use Rattle.disk_model.specs.Histories.{History, LeavesAll, MayLeave, Still}
use Rattle.script_course.proofs.Turns.{front_none}
use Rattle.script_course.specs.Courses.{Out}
use Rattle.command_words.specs.declared.settings.Run.{Run}
use Rattle.run_commands.specs.Keeps.{ReopensToPassed}
use Rattle.run_commands.specs.Resumes.{IsLeftOver, LeavesOver, PassesOver, StandsOver, start_over}
use Rattle.script_course.specs.declared.statuses.TheConstants.{DONE}
use Rattle.store_commands.specs.Inits as init
use Rattle.store_openings.specs.Openings.{opened}
use Rattle.aria_top.specs.Disks.{LeavesDisk, Sees, is_taken}
use Rattle.aria_top.specs.Out.{IsToldFor, out_by, out_of_task}
use Rattle.aria_top.specs.Tasks.{reads}
use Rattle.command_words.specs.declared.settings.Command.{Command}
use Rattle.command_words.specs.declared.settings.Command.TheVariants as command

-- a task that reads its input
pub by_left : (out : List ℕ → Out) (left : Option (List ℕ)) (P : Out → Type 0) → IfSome left (λ text. P (out text)) → IfSome (option_map out left) P
by_left out None P h = tt
by_left out (Some text) P h = h

module _ (asked : Option Command) (task : Command) (is : asked ≡ Some task) (images : ℕ → List ℕ) (found : Reopened) where
  pub sees_asked : (disk : History) → Sees asked disk images found → Sees (Some task) disk images found
  sees_asked disk h = subst (λ (a : Option Command). Sees a disk images found) is h

  pub out_asked : (left : Option (List ℕ)) (P : Out → Type 0) → IfSome (out_of_task task left images found) P → IfSome (out_by asked left images found) P
  out_asked left P h = subst (λ (a : Option Command). IfSome (out_by a left images found) P) (sym is) h

  pub told_asked : (left rest old new : Option (List ℕ)) → IsToldFor (Some task) images found left rest old new → IsToldFor asked images found left rest old new
  told_asked left rest old new h = subst (λ (a : Option Command). IsToldFor a images found left rest old new) (sym is) h

module _ (asked : Option Command) (task : Command) (is : asked ≡ Some task) where
  pub leaves_asked : (left : Option (List ℕ)) (was is_now : History) (old new : Option (List ℕ)) (status : ℕ)
      → LeavesDisk (Some task) left was is_now old new status → LeavesDisk asked left was is_now old new status
  leaves_asked left was is_now old new status h = subst (λ (a : Option Command). LeavesDisk a left was is_now old new status) (sym is) h

  pub is_asked : asked ≡ None → ⊥
  is_asked none = absurd (let both : Some task ≡ None = sym is ∙ none in cc)

-- ---- arguments that are no command

pub leaves_refused : (asked : Option Command) (left : Option (List ℕ)) (was is_now : History) (old new : Option (List ℕ)) (status : ℕ) → asked ≡ None
    → LeavesDisk asked left was is_now old new status
leaves_refused asked left was is_now old new status is =
    subst (λ (a : Option Command). LeavesDisk a left was is_now old new status) (sym is) tt

-- ---- nothing was done

-- where nothing was written, a prefix of every output was
pub nothing_yet : (out : Option Out) (now : Option (List ℕ)) → IfSome out (λ o. AppendsFront now now o.bytes)
nothing_yet None now = tt
nothing_yet (Some o) now = front_none now o.bytes

-- a disk that was not touched
untouched_all : (disk : History) (Q : (ℕ → List ℕ) → Type 0) → ((images : ℕ → List ℕ) → MayLeave disk disk.now images → Q images) → LeavesAll disk disk Q
untouched_all disk Q all = leaves_still disk disk Q (still_none disk) all

untouched_over : (settings : Run) (found : Reopened) (text : List ℕ) (disk : History) (now : Option (List ℕ)) → LeavesOver settings found text disk disk now now
untouched_over settings NoStore text disk now = untouched_all disk (MayLeave disk disk.now) (λ images may. may)
untouched_over settings (Damaged file at) text disk now = untouched_all disk (MayLeave disk disk.now) (λ images may. may)
untouched_over settings (Found c later) text disk now = record {
  images = untouched_all disk (λ images. MayLeave disk disk.now images
      ⊎ ReopensToPassed (PassesOver settings.drain (start_over settings c later) text) c.plan images) (λ images may. inl may);
  exit = λ images may. inr (may, Appends-nil now);
}

untouched_text : (settings : Run) (found : Reopened) (left : Option (List ℕ)) (disk : History) (now : Option (List ℕ))
    → IfSome left (λ text. LeavesOver settings found text disk disk now now)
untouched_text settings found None disk now = tt
untouched_text settings found (Some text) disk now = untouched_over settings found text disk now

untouched_stands : (settings : Run) (files : ℕ → List ℕ) (found : Reopened) (text : List ℕ) (disk : History) (now : Option (List ℕ))
    → StandsOver settings files found text disk disk now now
untouched_stands settings files NoStore text disk now = tt
untouched_stands settings files (Damaged file at) text disk now = tt
untouched_stands settings files (Found c later) text disk now = record {
  images = untouched_all disk (λ images. MayLeave disk disk.now images ⊎ Reopens images (Found c later)
      ⊎ IsLeftOver settings files c later text images) (λ images may. inl may);
  exit = λ images may. inr (Appends-nil now);
}

each_text : (left : Option (List ℕ)) (P : List ℕ → Type 0) → ((text : List ℕ) → P text) → IfSome left P
each_text None P h = tt
each_text (Some text) P h = h text

-- there was no memory to read the arguments
pub leaves_untouched : (asked : Option Command) (left : Option (List ℕ)) (disk : History) (now : Option (List ℕ))
    → LeavesDisk asked left disk disk now now 7
leaves_untouched None left disk now = tt
leaves_untouched (Some (command.Once settings)) left disk now = tt
leaves_untouched (Some (command.Init settings)) left disk now = λ images reads. record {
  refused = λ e. still_none disk;
  unmade = each_text left (λ text. (init.out_of settings (is_taken images) text).status ≢ DONE → Still disk disk) (λ text other. still_none disk);
  stored = each_text left
      (λ text. (init.out_of settings (is_taken images) text).status ≡ DONE → Appends now now [] ⊎ init.IsMade settings left disk)
      (λ text done. inl (Appends-nil now));
  made = λ e. absurd (omega (arith, e));
}
leaves_untouched (Some (command.Run settings)) left disk now = λ images found reads reopens. record {
  leaves = untouched_text settings (opened images found) left disk now;
  stands = each_text left (λ text. StandsOver settings images (opened images found) text disk disk now now)
      (λ text. untouched_stands settings images (opened images found) text disk now);
  holds = λ e. absurd (grind (arith, e));
}
leaves_untouched (Some (command.Replay settings)) left disk now = untouched_all disk (MayLeave disk disk.now) (λ images may. may)
leaves_untouched (Some (command.Gen settings)) left disk now = tt
leaves_untouched (Some (command.Bench settings)) left disk now = tt
leaves_untouched (Some (command.Mix settings)) left disk now = tt
leaves_untouched (Some (command.Nodes settings)) left disk now = tt
leaves_untouched (Some command.Audit) left disk now = tt
leaves_untouched (Some command.Check) left disk now = tt
