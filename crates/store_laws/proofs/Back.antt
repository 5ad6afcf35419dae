-- A script that `run` reads to its end over the store of a head is right behind that head, as one text.
use Rattle.std.proofs.Common.{◌≡◌, ◌∙◌, sym, ap, subst, refl, ℕ, Bool, true, false, List, [], ◌++◌, map, Option, Some, None, ◌≢◌}
use Rattle.aria_base.specs.Orders.{Database}
use Rattle.aria_base.specs.declared.limits.TheConstants.{LONGEST_LINE}
use Rattle.command_words.specs.declared.settings.Init.{Init}
use Rattle.command_words.specs.declared.settings.Once.{Once}
use Rattle.command_words.specs.declared.settings.Run.{Run}
use Rattle.proc_lang.specs.Catalogs.{Plan}
use Rattle.script_course.specs.Courses.{Course, Goes, Stops, Out, ended, told_whole, with_fault, with_last, with_lines}
use Rattle.script_course.specs.declared.statuses.TheConstants.{DONE}
use Rattle.script_places.specs.declared.heads.ScriptCatalog.{ScriptCatalog}
use Rattle.script_places.specs.declared.heads.ScriptCatalog.TheVariants as head
use Rattle.script_text.specs.Lines.{last_line, scan}
use Rattle.script_text.specs.declared.refusals.Refusal.{Refusal}
use Rattle.serving.specs.Lives.{no_plan}
use Rattle.run_commands.specs.Onces.{Doing, on_end, on_line}
use Rattle.run_commands.specs.Outs.{is_each, no_line}
use Rattle.run_commands.specs.Passes.{Line, last, on_turn, over}
use Rattle.run_commands.specs.Resumes.{resumed}
use Rattle.script_course.specs.declared.readings.TheConstants.{MOST_BYTES}
use Rattle.script_rows.specs.Drafts as drafts
use Rattle.script_rows.specs.declared.drafts.Draft.{Draft}
use Rattle.store_commands.specs.Drafts.{said_by, start, values_of}
use Rattle.store_laws.proofs.ScriptRuns.{script_over}
use Rattle.store_laws.proofs.Behind.{behind_head, Gives, IsNamed}
use Rattle.store_laws.specs.OneRuns.{AreAlike, AreRight, new_state, IsRun, RunIsRight}
use Rattle.store_laws.specs.Texts.{opens}
use Rattle.store_laws.proofs.Ended.{same_state}
use Rattle.store_laws.proofs.Joint.{AreBegun, IsEnded, are_begun, ended_done, right_text}
use Rattle.store_laws.proofs.Parts.{joined}
use Rattle.store_laws.proofs.Refused.{IsStopped, head_stops, script_stops}

-- the text of a head that says a catalogue and rows is right
draft_stopped : (bytes : List ℕ) (o : Option (List ℕ)) (values : Plan × Database) → values_of (with_last drafts.on_line (Stops bytes) o) ≡ Some values → ⊥
draft_stopped bytes None values e = absurd cc
draft_stopped bytes (Some line) values e = absurd cc

said_by_right : (c : Course Draft) (f : Option Refusal) (o : Option (List ℕ)) (values : Plan × Database)
    → values_of (with_last drafts.on_line (with_fault c f) o) ≡ Some values → f ≡ None
said_by_right c None o values e = refl
said_by_right (Goes bytes d) (Some refusal) o values e = absurd (draft_stopped _ o values e)
said_by_right (Stops bytes) (Some refusal) o values e = absurd (draft_stopped bytes o values e)

said_right : (head : List ℕ) (values : Plan × Database) → said_by head ≡ Some values → (scan no_line head).fault ≡ None
said_right head values is =
    let s = scan no_line head in said_by_right (with_lines drafts.on_line (Goes [] start) s.lines) s.fault (last_line s.feed) values is

-- a head whose catalogue has a table or a procedure names one
named_by : (h : ScriptCatalog) (plan : Plan) → plan ≢ no_plan → Gives no_plan h plan → IsNamed h
named_by head.Unnamed plan some gives = some gives
named_by (head.Text text) plan some gives = tt
named_by (head.Ready given) plan some gives = tt

not_stopped : (c d : Course Doing) (bytes : List ℕ) (end : Doing) → c ≡ Goes bytes end → IsStopped d → d ≡ c → ⊥
not_stopped c d bytes end goes stops same = subst IsStopped (same ∙ goes) stops

module _ (made : Init) (settings : Run) (mem : Once) (alike : AreAlike made settings mem) (head script : List ℕ) (values : Plan × Database)
    (run : IsRun made settings head script values) where
  abbrev From0 : Doing
  From0 = resumed (is_each settings.listing) values.0 (new_state made values)

  over_store : IsEnded settings.drain (told_whole on_line no_line From0 script)
  over_store = ended_done settings.drain (told_whole on_line no_line From0 script) run.done

  right_both : (scan no_line (head ++ script)).fault ≡ None
  right_both =
      joined MOST_BYTES LONGEST_LINE head script run.ends (said_right head values run.said)
      (right_text From0 over_store.end script over_store.printed over_store.goes) run.few

  begun : AreBegun made settings mem alike head script values run.ends run.said right_both
  begun = are_begun made settings mem alike head script values run.ends run.said right_both

  abbrev At : Doing
  At = record From0 { place = behind_head begun.place.head begun.place }

  goes_over : over on_turn (map Line begun.lines) From0 ≡ Goes over_store.printed over_store.end
  goes_over = sym begun.over_it ∙ over_store.goes

  opens_by_run : (b : Bool) → opens begun.lines ≡ b → opens begun.lines ≡ true
  opens_by_run true is = is
  opens_by_run false is =
      absurd (not_stopped (over on_turn (map Line begun.lines) From0) (over on_turn (map Line begun.lines) From0) over_store.printed over_store.end goes_over
      (head_stops values.0 From0 begun.lines 0 is) refl)

  opening : opens begun.lines ≡ true
  opening = opens_by_run (opens begun.lines) refl

  -- `once` comes to its end
  goes_both : (printed : List ℕ) (last : Doing) → over on_turn (map Line begun.lines) At ≡ Goes printed last → (on_end mem.drain last).status ≡ DONE
  goes_both printed last goes =
      let runs = script_over values.0 begun.place.head begun.gives From0 last begun.lines 0 begun.place printed opening goes in
      let same : over_store.end ≡ runs.end = same_state over_store.printed printed over_store.end runs.end (sym goes_over ∙ runs.goes) in
      let done : (on_end mem.drain runs.end).status ≡ DONE =
      ap (λ (d : Doing). (on_end mem.drain d).status) (sym same) ∙ ap (λ (b : Bool). (on_end b over_store.end).status) (sym alike.drains) ∙ over_store.done in
      ap (λ (o : Out). o.status) (sym (runs.like.back mem.drain done)) ∙ done

  ends_by : (c : Course Doing) → over on_turn (map Line begun.lines) At ≡ c → (ended (on_end mem.drain) c).status ≡ DONE
  ends_by (Goes printed last) is = goes_both printed last is
  ends_by (Stops bytes) is =
      let stops = script_stops values.0 From0 begun.place.head (named_by begun.place.head values.0 run.named begun.gives) begun.gives begun.lines 0 begun.place
      opening (subst IsStopped (sym is) tt) in
      absurd (not_stopped (over on_turn (map Line begun.lines) From0) (over on_turn (map Line begun.lines) From0) over_store.printed over_store.end goes_over
      stops refl)

  is_right : AreRight mem head script values
  is_right = record {
    ends = run.ends;
    said = run.said;
    batches = sym begun.opening ∙ opening;
    done = ap (λ (c : Course Doing). (ended (on_end mem.drain) c).status) begun.whole ∙ ends_by (over on_turn (map Line begun.lines) At) refl;
  }

pub run_is_right : RunIsRight
run_is_right made settings mem alike head script values run = is_right made settings mem alike head script values run
