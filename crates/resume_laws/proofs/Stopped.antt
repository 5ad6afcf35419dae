-- A script whose runs are stopped, and its last run.
use Rattle.std.proofs.Common.{◌≡◌, ◌≢◌, ◌⊎◌, inl, inr, ◌∙◌, sym, ap, subst, refl, ℕ, Bool, true, false, List, [], ◌∷◌, ◌++◌, map, Option, Some, None}
use Rattle.std.specs.Prelude.{Result, Ok, Err}
use Rattle.std.proofs.lemmas.List.{append-nil, map-append}
use Rattle.batch_core.specs.Steps.{State}
use Rattle.proc_lang.specs.Catalogs.{Plan}
use Rattle.script_course.proofs.Turns.{behind-behind, behind_nothing, stopped_lines}
use Rattle.script_course.specs.Courses.{Course, Goes, Stops, behind, with_fault, with_last, with_line, with_lines}
use Rattle.script_places.specs.Places.{closing}
use Rattle.script_places.specs.declared.places.ScriptPlace.{ScriptPlace}
use Rattle.script_text.specs.declared.refusals.RefusalKind.{RefusalKind}
use Rattle.script_text.specs.Lines.{Scan, last_line, scan}
use Rattle.script_text.specs.declared.refusals.Refusal.{Refusal}
use Rattle.run_commands.specs.Onces.{Doing, on_line}
use Rattle.run_commands.specs.Outs.{no_line}
use Rattle.run_commands.specs.Passes.{At, Line, Listed, Turn, ending, ending_behind, last, on_close, past, turns_whole}
use Rattle.run_commands.specs.Resumes.{resumed, turns_over}
use Rattle.resume_laws.specs.Resumptions.{AreStopped, EndsAlike, EveryStopResumes, MayStop, answers, answers_of, later_than, run_from}
use Rattle.resume_laws.proofs.Catches.{Caught, EndsIn, Reaches, ReachesBy, catch, caught_same, ends_behind, goes, goes_by, passes_reach}

-- ---- a text that is right to its end is its lines

-- its lines, with the one at its end that no line feed completes
abbrev lines_with : List (List ℕ) → Option (List ℕ) → List (List ℕ)
lines_with lines None = lines
lines_with lines (Some line) = lines ++ line ∷ []

abbrev lines_of : List ℕ → List (List ℕ)
lines_of text = lines_with (scan no_line text).lines (last_line (scan no_line text).feed)

lines_more : (c : Course Doing) (lines : List (List ℕ)) (line : List ℕ)
    → with_lines on_line c (lines ++ line ∷ []) ≡ with_line on_line (with_lines on_line c lines) line
lines_more c [] line = refl
lines_more c (first ∷ lines) line = lines_more (with_line on_line c first) lines line

last_more : (c : Course Doing) (lines : List (List ℕ)) (o : Option (List ℕ))
    → with_last on_line (with_lines on_line c lines) o ≡ with_lines on_line c (lines_with lines o)
last_more c lines None = refl
last_more c lines (Some line) = sym (lines_more c lines line)

by_goes : (bytes : List ℕ) (lines : List (List ℕ)) (c : Course Doing)
    → ((first : List ℕ) (d : Doing) → with_lines on_line (Goes first d) lines ≡ behind first (goes lines d))
    → with_lines on_line (behind bytes c) lines ≡ behind bytes (goes_by (goes lines) c)
by_goes bytes lines (Goes more next) each = each (bytes ++ more) next ∙ behind-behind bytes more (goes lines next)
by_goes bytes lines (Stops more) each = stopped_lines on_line (bytes ++ more) lines

lines_goes : (bytes : List ℕ) (d : Doing) (lines : List (List ℕ)) → with_lines on_line (Goes bytes d) lines ≡ behind bytes (goes lines d)
lines_goes bytes d [] = ap (λ (b : List ℕ). Goes b d) (sym (append-nil bytes))
lines_goes bytes d (line ∷ lines) = by_goes bytes lines (on_line d line) (λ first e. lines_goes first e lines)

-- where no line passes a bound
told_lines : (d : Doing) (s : Scan) → s.fault ≡ None → with_last on_line (with_fault (with_lines on_line (Goes [] d) s.lines) s.fault)
    (last_line s.feed) ≡ goes (lines_with s.lines (last_line s.feed)) d
told_lines d s none =
    ap (λ (f : Option Refusal). with_last on_line (with_fault (with_lines on_line (Goes [] d) s.lines) f) (last_line s.feed)) none
    ∙ last_more (Goes [] d) s.lines (last_line s.feed)
    ∙ lines_goes [] d (lines_with s.lines (last_line s.feed))
    ∙ behind_nothing (goes (lines_with s.lines (last_line s.feed)) d)

stopped_last : (bytes : List ℕ) (o : Option (List ℕ)) (last : Doing) → EndsIn (with_last on_line (Stops bytes) o) last → ⊥
stopped_last bytes None last e = absurd cc
stopped_last bytes (Some line) last e = absurd cc

no_fault : (c : Course Doing) (f : Option Refusal) (o : Option (List ℕ)) (last : Doing) → EndsIn (with_last on_line (with_fault c f) o) last → f ≡ None
no_fault c None o last e = refl
no_fault (Goes bytes r) (Some refusal) o last e = absurd (stopped_last _ o last e)
no_fault (Stops bytes) (Some refusal) o last e = absurd (stopped_last bytes o last e)

-- its turns

turns_lines : (lines : List (List ℕ)) (o : Option (List ℕ)) → (map Line lines ++ []) ++ last o ≡ map Line (lines_with lines o)
turns_lines lines None = append-nil (map Line lines ++ []) ∙ append-nil (map Line lines)
turns_lines lines (Some line) = ap (λ (l : List Turn). l ++ Line line ∷ []) (append-nil (map Line lines)) ∙ sym (map-append Line lines (line ∷ []))

turns_are : (s : Scan) → s.fault ≡ None → turns_whole s ≡ map Line (lines_with s.lines (last_line s.feed))
turns_are s none = ap (λ (f : Option Refusal). (map Line s.lines ++ past f) ++ last (last_line s.feed)) none ∙ turns_lines s.lines (last_line s.feed)

-- ---- what comes before and behind its lines leaves no state of its own

unclosed : (d : Doing) (r : Result ScriptPlace RefusalKind) (t : State) → ReachesBy d (Reaches (Listed ∷ [])) (on_close d r) t → ⊥
unclosed d (Err why) t h = h
unclosed d (Ok place) t (inl h) = h.0 refl
unclosed d (Ok place) t (inr (inl h)) = h.0 refl
unclosed d (Ok place) t (inr (inr h)) = h

by_in : (lines : List (List ℕ)) (d end : Doing) (t : State) (c : Course Doing)
    → ((next : Doing) → EndsIn (goes lines next) end → Reaches (map Line lines ++ ending 0) next t → Reaches (map Line lines) next t)
    → EndsIn (goes_by (goes lines) c) end
    → ReachesBy d (Reaches (map Line lines ++ ending 0)) c t → ReachesBy d (Reaches (map Line lines)) c t
by_in lines d end t (Stops bytes) each ends h = h
by_in lines d end t (Goes bytes next) each ends (inl h) = inl h
by_in lines d end t (Goes bytes next) each ends (inr h) = inr (each next (ends_behind bytes (goes lines next) end ends) h)

in_lines : (lines : List (List ℕ)) (d end : Doing) (t : State) → EndsIn (goes lines d) end → Reaches (map Line lines ++ ending 0) d t
    → Reaches (map Line lines) d t
in_lines [] d end t ends h = absurd (unclosed d (closing d.place) t h)
in_lines (line ∷ lines) d end t ends h = by_in lines d end t (on_line d line) (λ next k r. in_lines lines next end t k r) ends h

begun : (turns : List Turn) (d : Doing) (t : State) → Reaches (At ∷ turns) d t → Reaches turns d t
begun turns d t (inl h) = absurd (h.0 refl)
begun turns d t (inr h) = h

-- ---- runs

module _ (each : Bool) (plan : Plan) (text : List ℕ) where
  abbrev Lines : List (List ℕ)
  Lines = lines_of text

  abbrev From : State → Doing
  From s = resumed each plan s

  -- a state that some first batches of the text leave
  abbrev IsFirst : State → State → Type 0
  IsFirst s t = (t ≡ s) ⊎ Reaches (map Line Lines) (From s) t

  right_lines : (s : State) (end : Doing) → EndsIn (run_from each plan text s) end → EndsIn (goes Lines (From s)) end
  right_lines s end e =
      let all = scan no_line text in
      let none = no_fault (with_lines on_line (Goes [] (From s)) all.lines) all.fault (last_line all.feed) end e in
      (e.0, sym (told_lines (From s) all none) ∙ e.1)

  whole_lines : (s u : State) (end last : Doing) → EndsIn (run_from each plan text s) end → EndsIn (goes Lines (From u)) last
      → EndsIn (run_from each plan text u) last
  whole_lines s u end last right e =
      let all = scan no_line text in
      let none = no_fault (with_lines on_line (Goes [] (From s)) all.lines) all.fault (last_line all.feed) end right in
      (e.0, told_lines (From u) all none ∙ e.1)

  -- the turns of a text that is right are its lines between the count and the end
  turns_right : (s : State) (end : Doing) → EndsIn (run_from each plan text s) end → turns_over false (From s) text ≡ At ∷ (map Line Lines ++ ending 0)
  turns_right s end e =
      let all = scan no_line text in
      let none = no_fault (with_lines on_line (Goes [] (From s)) all.lines) all.fault (last_line all.feed) end e in
      ap (λ (l : List Turn). At ∷ (l ++ ending_behind false (run_from each plan text s))) (turns_are all none)
      ∙ ap (λ (c : Course Doing). At ∷ (map Line Lines ++ ending_behind false c)) e.1

  first_of : (s t : State) (end : Doing) → EndsIn (run_from each plan text s) end → (t ≡ s) ⊎ Reaches (turns_over false (From s) text) (From s) t → IsFirst s t
  first_of s t end right (inl e) = inl e
  first_of s t end right (inr h) =
      let told = subst (λ (turns : List Turn). Reaches turns (From s) t) (turns_right s end right) h in
      inr (in_lines Lines (From s) end t (right_lines s end right) (begun (map Line Lines ++ ending 0) (From s) t told))

  stop_first : (s t : State) (end : Doing) → EndsIn (run_from each plan text s) end → MayStop each plan text s t → IsFirst s t
  stop_first s t end right h = first_of s t end right (passes_reach (turns_over false (From s) text) (From s) s t h.given h.passes)

  -- such a state goes on to the same end
  caught : (s t : State) (last : Doing) → EndsIn (run_from each plan text s) last → Reaches (map Line Lines) (From s) t → Caught Lines (From s) t (From t) last
  caught s t last right h = catch Lines (From s) t (From t) last refl (inl refl) h (right_lines s last right)

  first_right : (s t : State) (last : Doing) → EndsIn (run_from each plan text s) last → IsFirst s t → EndsIn (run_from each plan text t) last
  first_right s t last right (inl e) = subst (λ (u : State). EndsIn (run_from each plan text u) last) (sym e) right
  first_right s t last right (inr h) = whole_lines s t last last right (caught s t last right h).ends

  first_on : (s t u : State) (last : Doing) → EndsIn (run_from each plan text s) last → IsFirst s t → IsFirst t u → IsFirst s u
  first_on s t u last right (inl e) h = subst (λ (x : State). IsFirst x u) e h
  first_on s t u last right (inr r) (inl e) = inr (subst (λ (x : State). Reaches (map Line Lines) (From s) x) (sym e) r)
  first_on s t u last right (inr r) (inr h) = inr ((caught s t last right r).back u h)

  chain : (between : List State) (s first second : State) (last : Doing) → EndsIn (run_from each plan text s) last → IsFirst s first
      → AreStopped each plan text first between second → IsFirst s second
  chain [] s first second last right h stops = subst (λ (x : State). IsFirst s x) (sym stops) h
  chain (next ∷ between) s first second last right h stops =
      let on = stop_first first next last (first_right s first last right h) stops.0 in
      chain between s next second last right (first_on s first next last right h on) stops.1

  -- ---- the last run

  answers_lines : (s u : State) (end : Doing) → EndsIn (run_from each plan text s) end → answers_of each plan text u ≡ answers (map Line Lines) (From u)
  answers_lines s u end e =
      let all = scan no_line text in
      let none = no_fault (with_lines on_line (Goes [] (From s)) all.lines) all.fault (last_line all.feed) end e in
      ap (λ (l : List Turn). answers l (From u)) (turns_are all none)

  ends_alike : (s t : State) (last : Doing) → EndsIn (run_from each plan text s) last → Caught Lines (From s) t (From t) last
      → EndsAlike each plan text s t last
  ends_alike s t last right c =
      let whole = whole_lines s t last last right c.ends in
      record {
        printed = whole.0;
        end = last;
        runs = whole.1;
        state = refl;
        answered = answers_lines s t last right ∙ c.answered ∙ ap (λ (l : List (ℕ × List ℕ)). later_than t.batches l) (sym (answers_lines s s last right));
      }

  last_run : (s t : State) (last : Doing) → EndsIn (run_from each plan text s) last → IsFirst s t → EndsAlike each plan text s t last
  last_run s t last right (inl e) =
      subst (λ (u : State). EndsAlike each plan text s u last) (sym e)
      (ends_alike s s last right (caught_same Lines (From s) s last refl (right_lines s last right)))
  last_run s t last right (inr h) = ends_alike s t last right (caught s t last right h)

pub every_stop_resumes : EveryStopResumes
every_stop_resumes each plan text first printed last right between second stops =
    last_run each plan text first second last (printed, right) (chain each plan text between first first second last (printed, right) (inl refl) stops)
