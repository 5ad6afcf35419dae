-- A head and a script that are right as one text, and the script over the store of the head.
use Rattle.std.proofs.Common.{◌≡◌, ◌∙◌, sym, ap, refl, ℕ, Bool, false, List, [], ◌++◌, subst}
use Rattle.answer_text.specs.Notices.{at_text}
use Rattle.aria_base.specs.Orders.{Database}
use Rattle.batch_core.specs.Steps.{State}
use Rattle.command_words.specs.declared.settings.Init.{Init}
use Rattle.command_words.specs.declared.settings.Once.{Once}
use Rattle.command_words.specs.declared.settings.Run.{Run}
use Rattle.proc_lang.specs.Catalogs.{Plan}
use Rattle.script_course.specs.Courses.{Course, Goes, Out, ended, out_behind, told_whole}
use Rattle.run_commands.specs.Onces.{Doing, on_end, on_line}
use Rattle.run_commands.specs.Outs.{is_each, no_line, out_of, start_of}
use Rattle.run_commands.specs.Resumes.{held_over_all, out_from, resumed, start_over}
use Rattle.resume_laws.specs.Resumptions.{run_from}
use Rattle.store_commands.specs.Inits.{first_checkpoint}
use Rattle.store_laws.proofs.Held.{script_held}
use Rattle.store_laws.specs.OneRuns.{HoldsAs, AreAlike, AreRight, IsOneRun, ScriptIsOneRun, new_state}
use Rattle.store_laws.proofs.ScriptRuns.{RunsTo, script_over}
use Rattle.store_laws.proofs.Behind.{behind_head}
use Rattle.store_laws.proofs.Joint.{AreBegun, IsEnded, are_begun, ended_done, right_text}

module _ (made : Init) (settings : Run) (mem : Once) (alike : AreAlike made settings mem) (head script : List ℕ) (values : Plan × Database)
    (right : AreRight mem head script values) where
  in_memory : IsEnded mem.drain (told_whole on_line no_line (start_of mem) (head ++ script))
  in_memory = ended_done mem.drain (told_whole on_line no_line (start_of mem) (head ++ script)) right.done

  begun : AreBegun made settings mem alike head script values right.ends right.said
      (right_text (start_of mem) in_memory.end (head ++ script) in_memory.printed in_memory.goes)
  begun = are_begun made settings mem alike head script values right.ends right.said
      (right_text (start_of mem) in_memory.end (head ++ script) in_memory.printed in_memory.goes)

  abbrev From0 : Doing
  From0 = resumed (is_each settings.listing) values.0 (new_state made values)

  runs : RunsTo begun.lines (record From0 { place = behind_head begun.place.head begun.place }) From0 in_memory.printed in_memory.end
  runs = script_over values.0 begun.place.head begun.gives From0 in_memory.end begun.lines 0 begun.place in_memory.printed (begun.opening ∙ right.batches)
      (sym begun.whole ∙ in_memory.goes)

  runs_whole : run_from (is_each settings.listing) values.0 script (new_state made values) ≡ Goes in_memory.printed runs.end
  runs_whole = begun.over_it ∙ runs.goes

  out_is : out_from settings.drain (start_over settings (first_checkpoint made values) []) script ≡ out_behind (at_text 0) (out_of mem (head ++ script))
  out_is =
      ap (λ (c : Course Doing). out_behind (at_text 0) (ended (on_end settings.drain) c)) runs_whole
      ∙ ap (λ (b : Bool). out_behind (at_text 0) (out_behind in_memory.printed (on_end b runs.end))) alike.drains
      ∙ ap (λ (o : Out). out_behind (at_text 0) (out_behind in_memory.printed o)) (runs.like.out mem.drain in_memory.done)
      ∙ ap (λ (c : Course Doing). out_behind (at_text 0) (ended (on_end mem.drain) c)) (sym in_memory.goes)

  is_one_run : IsOneRun made settings mem head script values
  is_one_run = record {
    last = in_memory.end;
    end = runs.end;
    printed = in_memory.printed;
    leaves = (in_memory.printed, in_memory.goes);
    runs = runs_whole;
    state = runs.like.state;
    held = subst (λ (s : State). HoldsAs (held_over_all false From0 script) s) runs.like.state
        (script_held From0 runs.end script in_memory.printed refl runs_whole);
    answered = begun.over_answers ∙ runs.answered ∙ sym begun.whole_answers;
    out = out_is;
  }

pub script_is_one_run : ScriptIsOneRun
script_is_one_run made settings mem alike head script values right = is_one_run made settings mem alike head script values right
