-- A head and a script as one text, and the script over the store of the head: behind the head both go through the same lines.
use Rattle.std.proofs.Common.{◌≡◌, ◌∙◌, sym, ap, refl, ℕ, Bool, false, List, [], ◌++◌, map, Option, Some, None, append-nil}
use Rattle.std.specs.Prelude.{option_to_list}
use Rattle.std.proofs.lemmas.List.{map-append}
use Rattle.aria_base.specs.Orders.{Database}
use Rattle.aria_base.specs.declared.limits.TheConstants.{LONGEST_LINE}
use Rattle.command_words.specs.declared.settings.Init.{Init}
use Rattle.command_words.specs.declared.settings.Once.{Once}
use Rattle.command_words.specs.declared.settings.Run.{Run}
use Rattle.proc_lang.specs.Catalogs.{Plan}
use Rattle.script_course.specs.Courses.{Course, Goes, Stops, ended, told_whole, with_fault, with_last, with_lines}
use Rattle.script_course.specs.declared.statuses.TheConstants.{DONE}
use Rattle.script_places.specs.declared.places.ScriptPlace.{ScriptPlace}
use Rattle.script_places.specs.declared.places.Mode.TheVariants as mode
use Rattle.script_text.proofs.Scans.{whole}
use Rattle.script_text.specs.Laws.{all_lines}
use Rattle.script_text.specs.Lines.{Scan, last_line, scan}
use Rattle.script_text.specs.declared.refusals.Refusal.{Refusal}
use Rattle.serving.specs.Lives.{no_plan}
use Rattle.run_commands.proofs.Whole.{whole_over}
use Rattle.run_commands.specs.Onces.{Doing, on_end, on_line}
use Rattle.run_commands.specs.Outs.{is_each, no_line, start_of}
use Rattle.run_commands.specs.Passes.{Line, Turn, last, on_turn, over, past, turns_whole}
use Rattle.run_commands.specs.Resumes.{resumed}
use Rattle.script_course.specs.declared.readings.TheConstants.{MOST_BYTES}
use Rattle.resume_laws.specs.Resumptions.{answers, answers_of, run_from}
use Rattle.script_rows.specs.declared.drafts.Draft.{Draft}
use Rattle.store_commands.specs.Drafts.{said_by, start}
use Rattle.store_laws.proofs.HeadRuns.{ArePut, Begun, IsRead, head_read, puts}
use Rattle.store_laws.proofs.Parts.{Parts, parts}
use Rattle.store_laws.specs.OneRuns.{AreAlike, answers_in, new_state}
use Rattle.store_laws.specs.Texts.{EndsLine, is_script, opens}
use Rattle.store_laws.proofs.Behind.{Gives, behind_head}

-- ---- a text that is right to its end is its lines

line_last : (o : Option (List ℕ)) → last o ≡ map Line (option_to_list o)
line_last None = refl
line_last (Some line) = refl

pub turns_lines : (s : Scan) → s.fault ≡ None → turns_whole s ≡ map Line (all_lines s)
turns_lines s right =
    ap (λ (f : Option Refusal). (map Line s.lines ++ past f) ++ last (last_line s.feed)) right
    ∙ ap (λ (l : List Turn). l ++ last (last_line s.feed)) (append-nil (map Line s.lines))
    ∙ ap (λ (l : List Turn). map Line s.lines ++ l) (line_last (last_line s.feed))
    ∙ sym (map-append Line s.lines (option_to_list (last_line s.feed)))

stopped_last : (bytes printed : List ℕ) (o : Option (List ℕ)) (end : Doing) → with_last on_line (Stops bytes) o ≡ Goes printed end → ⊥
stopped_last bytes printed None end e = absurd cc
stopped_last bytes printed (Some line) end e = absurd cc

no_fault : (c : Course Doing) (f : Option Refusal) (o : Option (List ℕ)) (printed : List ℕ) (end : Doing)
    → with_last on_line (with_fault c f) o ≡ Goes printed end → f ≡ None
no_fault c None o printed end e = refl
no_fault (Goes bytes d) (Some refusal) o printed end e = absurd (stopped_last _ printed o end e)
no_fault (Stops bytes) (Some refusal) o printed end e = absurd (stopped_last bytes printed o end e)

pub right_text : (d end : Doing) (text printed : List ℕ) → told_whole on_line no_line d text ≡ Goes printed end → (scan no_line text).fault ≡ None
right_text d end text printed goes =
    let s = scan no_line text in no_fault (with_lines on_line (Goes [] d) s.lines) s.fault (last_line s.feed) printed end goes

-- ---- an output that is that of the end of the input

pub record IsEnded (drain : Bool) (c : Course Doing) : Type 0 where
  pub end : Doing
  pub printed : List ℕ
  pub goes : c ≡ Goes printed end
  pub done : (on_end drain end).status ≡ DONE

pub ended_done : (drain : Bool) (c : Course Doing) → (ended (on_end drain) c).status ≡ DONE → IsEnded drain c
ended_done drain (Goes bytes d) done = record { end = d; printed = bytes; goes = refl; done = done }
ended_done drain (Stops bytes) done = absurd (cc done)

-- ---- where both begin behind the head

-- a place of a head without an open call
once_place : (e : Draft) → e.place.reports ≡ false → e.place.open_calls ≡ 0 → record e.place { mode = mode.Once } ≡ behind_head e.place.head e.place
once_place e shut none = λ i. record e.place { mode = mode.Once; reports = shut i; open_calls = none i }

module _ (made : Init) (settings : Run) (mem : Once) (alike : AreAlike made settings mem) (head script : List ℕ) (values : Plan × Database)
    (ends : EndsLine head) (said : said_by head ≡ Some values) (right : (scan no_line (head ++ script)).fault ≡ None) where
  -- the script over the new store
  abbrev pub From : Doing
  From = resumed (is_each settings.listing) values.0 (new_state made values)

  in_parts : Parts MOST_BYTES LONGEST_LINE head script
  in_parts = parts MOST_BYTES LONGEST_LINE head script ends right

  the_head : IsRead head values
  the_head = head_read head values in_parts.head_right in_parts.head_ends said

  are_put : ArePut mem.rule mem.fallback (is_each mem.listing) (scan no_line head).lines start the_head.last
  are_put = puts mem.rule mem.fallback (is_each mem.listing) (scan no_line head).lines [] the_head.printed start the_head.last refl the_head.goes

  behind_is : Begun mem.rule mem.fallback (is_each mem.listing) the_head.last ≡ record From { place = behind_head the_head.last.place.head the_head.last.place }
  behind_is =
      let place_is = once_place the_head.last (ap (λ (p : ScriptPlace). p.reports) are_put.place_is) the_head.closed.none_open in
      λ i. record {
        place = place_is i;
        calls = [];
        state = record {
          rule = sym alike.rules i;
          percent = sym alike.fallbacks i;
          rows = the_head.closed.rows_are i;
          waiting = [];
          batches = 0;
          requests =
              0;
        };
        each = is_each (sym alike.listings i);
      }

  turns_are : turns_whole (scan no_line (head ++ script)) ≡ map Line (scan no_line head).lines ++ map Line (all_lines (scan no_line script))
  turns_are =
      turns_lines (scan no_line (head ++ script)) right
      ∙ ap (λ (l : List (List ℕ)). map Line l) in_parts.lines
      ∙ map-append Line (scan no_line head).lines (all_lines (scan no_line script))

  script_is : turns_whole (scan no_line script) ≡ map Line (all_lines (scan no_line script))
  script_is = turns_lines (scan no_line script) in_parts.script_right

  -- Behind the head `once` stands at this place, with the state of the new store, and goes through the same lines as `run`.
  pub record AreBegun : Type 0 where
    pub place : ScriptPlace
    pub gives : Gives no_plan place.head values.0
    pub lines : List (List ℕ)
    pub opening : opens lines ≡ is_script script
    pub whole : told_whole on_line no_line (start_of mem) (head ++ script) ≡ over on_turn (map Line lines)
        (record From { place = behind_head place.head place })
    pub over_it : run_from (is_each settings.listing) values.0 script (new_state made values) ≡ over on_turn (map Line lines) From
    pub whole_answers : answers_in mem (head ++ script) ≡ answers (map Line lines) (record From { place = behind_head place.head place })
    pub over_answers : answers_of (is_each settings.listing) values.0 script (new_state made values) ≡ answers (map Line lines) From

  pub are_begun : AreBegun
  are_begun = record {
    place = the_head.last.place;
    gives = the_head.closed.gives;
    lines = all_lines (scan no_line script);
    opening = ap opens (whole MOST_BYTES LONGEST_LINE script in_parts.script_right);
    whole =
        whole_over (start_of mem) (head ++ script)
        ∙ ap (λ (l : List Turn). over on_turn l (start_of mem)) turns_are
        ∙ are_put.turns (map Line (all_lines (scan no_line script)))
        ∙ ap (λ (d : Doing). over on_turn (map Line (all_lines (scan no_line script))) d) behind_is;
    over_it = whole_over From script ∙ ap (λ (l : List Turn). over on_turn l From) script_is;
    whole_answers =
        ap (λ (l : List Turn). answers l (start_of mem)) turns_are
        ∙ are_put.answered (map Line (all_lines (scan no_line script)))
        ∙ ap (λ (d : Doing). answers (map Line (all_lines (scan no_line script))) d) behind_is;
    over_answers = ap (λ (l : List Turn). answers l From) script_is;
  }
