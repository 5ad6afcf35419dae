-- The files that `init` leaves, and runs over them that are stopped.
use Rattle.std.proofs.Common.{◌≡◌, ◌∙◌, ap, refl, ℕ, false, List, [], Some, option_map, subst}
use Rattle.aria_base.specs.Orders.{Database}
use Rattle.aria_store.proofs.Founds.{found_now, reopens_once}
use Rattle.aria_store.specs.Reopens.{Found, Reopened, Reopens}
use Rattle.batch_core.specs.Steps.{State}
use Rattle.command_words.specs.declared.settings.Init.{Init}
use Rattle.disk_model.specs.Histories.{History, MayLeave}
use Rattle.proc_lang.specs.Catalogs.{Plan}
use Rattle.script_course.specs.Courses.{Out}
use Rattle.store_openings.proofs.Readings.{opened_roomy}
use Rattle.store_openings.specs.Openings.{opened}
use Rattle.run_commands.specs.Outs.{is_each}
use Rattle.run_commands.specs.Resumes.{held_over_all, out_from, out_over, resumed}
use Rattle.resume_laws.specs.Resumptions.{EveryStopResumes, later_than}
use Rattle.store_commands.specs.Inits.{IsMadeOf, first_checkpoint}
use Rattle.store_laws.proofs.Held.{script_held}
use Rattle.store_laws.specs.OneRuns.{HoldsAs, FilesAreOneRun, LeftRunsOn, StoppedRunsAreOneRun, new_state}
use Rattle.store_laws.proofs.Together.{script_is_one_run}

-- they read as the first checkpoint without batches, and as nothing else
found_only : (made : Init) (values : Plan × Database) (disk : History) → IsMadeOf made values disk → (images : ℕ → List ℕ) → MayLeave disk disk.now images
    → (found : Reopened) → Reopens images found → found ≡ Found (first_checkpoint made values) []
found_only made values disk is images left found reads =
    reopens_once images found (Found (first_checkpoint made values) []) reads (found_now disk is.store (first_checkpoint made values) [] is.stands images left)

pub files_are_one_run : FilesAreOneRun
files_are_one_run made settings whole alike head script values right disk is images left found reads =
    let one = script_is_one_run made settings whole alike head script values right in
    ap (λ (f : Reopened). out_over settings (opened images f) (Some script)) (found_only made values disk is images left found reads)
    ∙ ap (λ (o : Out). Some o) one.out

pub stopped_runs_are_one_run : EveryStopResumes → StoppedRunsAreOneRun
stopped_runs_are_one_run every_stop_resumes made settings whole alike head script values right between second stops =
    let one = script_is_one_run made settings whole alike head script values right in
    let each = is_each settings.listing in
    let ends = every_stop_resumes each values.0 script (new_state made values) one.printed one.end one.runs between second stops in
    record {
      last = one.last;
      end = ends.end;
      printed = ends.printed;
      leaves = one.leaves;
      runs = ends.runs;
      state = ends.state ∙ one.state;
      held = subst (λ (s : State). HoldsAs (held_over_all false (resumed each values.0 second) script) s) (ends.state ∙ one.state)
          (script_held (resumed each values.0 second) ends.end script ends.printed refl ends.runs);
      answered = ends.answered ∙ ap (λ (l : List (ℕ × List ℕ)). later_than second.batches l) one.answered;
    }

pub left_runs_on : LeftRunsOn
left_runs_on plan state images is found reads settings left =
    let same : found ≡ Found is.c is.later = reopens_once images found (Found is.c is.later) reads is.reopens in
    ap (λ (f : Reopened). out_over settings (opened images f) left) same
    ∙ ap (λ (f : Reopened). out_over settings f left) (opened_roomy images is.c is.later is.roomy)
    ∙ (λ i. option_map (out_from settings.drain (resumed (is_each settings.listing) (is.plan_is i) (is.state_is i))) left)
