-- What a store holds behind a script: what the script ends in, but for settings that no batch followed.
use Rattle.std.proofs.Common.{◌≡◌, ◌∙◌, sym, ap, subst, refl, ℕ, ◌+◌, ◌==◌, true, false, List, [], ◌∷◌, ◌++◌, map, arith}
use Rattle.std.specs.Prelude.{Result, Ok, Err}
use Rattle.std.proofs.lemmas.Bool.{cond-true}
use Rattle.batch_core.specs.Steps.{State}
use Rattle.script_course.specs.Courses.{Course, Goes, Stops, told_whole}
use Rattle.script_places.proofs.Allowed.{follows}
use Rattle.script_places.specs.Follows.{Follows}
use Rattle.script_places.specs.Places.{Asked, asked, closing}
use Rattle.script_places.specs.declared.deeds.Deed.{Deed}
use Rattle.script_places.specs.declared.deeds.Deed.TheVariants as deed
use Rattle.script_places.specs.declared.places.ScriptPlace.{ScriptPlace}
use Rattle.script_text.specs.Laws.{all_lines}
use Rattle.script_text.specs.Lines.{scan}
use Rattle.script_text.specs.declared.refusals.RefusalKind.{RefusalKind}
use Rattle.run_commands.proofs.Whole.{whole_over}
use Rattle.run_commands.proofs.Endings.{held_after, held_listed}
use Rattle.run_commands.proofs.Overs.{IfGoes}
use Rattle.run_commands.proofs.Turns.{held_goes, not_both}
use Rattle.run_commands.specs.Bases.{counts_of}
use Rattle.run_commands.specs.Onces.{Doing, behind_batch, done, done_by, on_line, with_call, with_settings, without_calls}
use Rattle.run_commands.specs.Outs.{no_line}
use Rattle.run_commands.specs.Passes.{Close, Line, Turn, ending, ending_behind, held_behind, held_by_step, held_over, held_then, on_close, on_turn, onward, over}
use Rattle.run_commands.specs.Resumes.{held_over_all}
use Rattle.store_laws.proofs.Joint.{right_text, turns_lines}
use Rattle.store_laws.proofs.Ended.{goes_behind, same_state}
use Rattle.store_laws.specs.OneRuns.{HoldsAs}

-- a turn that runs no batch
held_same : (held : State) (before after : Doing) → after.state.batches ≡ before.state.batches → held_then held before after ≡ held
held_same held before after e =
    let same : (after.state.batches == before.state.batches) ≡ true = grind (arith, e) in
    cond-true (after.state.batches == before.state.batches) held after.state same

holds_own : (state : State) → HoldsAs state state
holds_own state = record { rows = refl; waiting = refl; batches = refl; requests = refl }

-- ---- a line of a script over a store

module _ (e : Doing) (held : State) (k : HoldsAs held e.state) where
  -- what is held behind a turn
  abbrev IsHeld : Doing → Type 0
  IsHeld next = HoldsAs (held_then held e next) next.state

  kept : (next : Doing) → next.state.batches ≡ e.state.batches → HoldsAs held next.state → IsHeld next
  kept next same h = subst (λ (s : State). HoldsAs s next.state) (sym (held_same held e next same)) h

  with_rule : (next : Doing) → next.state.batches ≡ e.state.batches → next.state.rows ≡ e.state.rows → next.state.waiting ≡ e.state.waiting
      → next.state.requests ≡ e.state.requests → IsHeld next
  with_rule next batches rows waiting requests =
      kept next batches (record {
        rows = k.rows ∙ sym rows;
        waiting = k.waiting ∙ sym waiting;
        batches = k.batches ∙ sym batches;
        requests = k.requests
            ∙ sym requests;
      })

  ran : (next : Doing) → next.state.batches ≡ e.state.batches + 1 → IsHeld next
  ran next more = subst (λ (s : State). HoldsAs s next.state) (sym (held_after held e next more)) (holds_own next.state)

  -- no row may stand in a script over a store
  done_held : (after : ScriptPlace) (asks : Deed) → e.place.rows_ended ≡ true → Follows e.place (counts_of e.state) after asks
      → IfGoes (done (record e { place = after }) asks) (λ bytes next. IsHeld next × (next.place.rows_ended ≡ true))
  done_held after deed.Nothing rows f = (with_rule (record e { place = after }) refl refl refl refl, f.allows.rows rows)
  done_held after deed.Tell rows f = (with_rule (record e { place = after }) refl refl refl refl, f.allows.rows rows)
  done_held after (deed.Put key row) rows f = absurd (let both : true ≡ false = sym rows ∙ f.allows.rows in cc)
  done_held after (deed.Call call) rows f = (with_rule (with_call (record e { place = after }) call) refl refl refl refl, f.allows.rows)
  done_held after (deed.Set rule percent) rows f = (with_rule (with_settings (record e { place = after }) rule percent) refl refl refl refl, f.allows.rows)
  done_held after (deed.Keep number) rows f = (with_rule (without_calls (record e { place = after })) refl refl refl refl, f.allows.rows)
  done_held after deed.Run rows f = (ran (behind_batch (record e { place = after })) refl, f.allows.rows)

  line_by : (line : List ℕ) (a : Asked) → e.place.rows_ended ≡ true → asked e.place (counts_of e.state) line ≡ a
      → IfGoes (done_by e a) (λ bytes next. IsHeld next × (next.place.rows_ended ≡ true))
  line_by line (Ok r) rows is = done_held r.0 r.1 rows (follows e.place (counts_of e.state) line r.0 r.1 is)
  line_by line (Err why) rows is = tt

  line_held : (line : List ℕ) → e.place.rows_ended ≡ true → IfGoes (on_line e line) (λ bytes next. IsHeld next × (next.place.rows_ended ≡ true))
  line_held line rows = line_by line (asked e.place (counts_of e.state) line) rows refl

-- ---- lines

abbrev LinesHeld : List (List ℕ) → Type 0
LinesHeld lines = (e end : Doing) (held : State) (printed : List ℕ) → e.place.rows_ended ≡ true → HoldsAs held e.state
    → over on_turn (map Line lines) e ≡ Goes printed end
    → HoldsAs (held_behind (map Line lines) e held) end.state

lines_by : (line : List ℕ) (lines : List (List ℕ)) (e end : Doing) (held : State) (printed : List ℕ) (c : Course Doing)
    → IfGoes c (λ bytes next. HoldsAs (held_then held e next) next.state × (next.place.rows_ended ≡ true))
    → LinesHeld lines → onward (over on_turn (map Line lines)) c ≡ Goes printed end
    → HoldsAs (held_by_step on_turn held_then e held (held_over on_turn held_then (map Line lines)) c) end.state
lines_by line lines e end held printed (Stops bytes) k rest goes = not_both bytes printed end goes
lines_by line lines e end held printed (Goes bytes next) k rest goes =
    let g = goes_behind bytes printed end (over on_turn (map Line lines) next) goes in
    rest next end (held_then held e next) g.more k.1 k.0 g.goes

lines_held : (lines : List (List ℕ)) → LinesHeld lines
lines_held [] e end held printed rows k goes = subst (λ (x : Doing). HoldsAs held x.state) (same_state [] printed e end goes) k
lines_held (line ∷ lines) e end held printed rows k goes = lines_by line lines e end held printed (on_line e line) (line_held e held k line rows)
    (lines_held lines) goes

-- ---- a script: the count before its lines, the end of the input and the listing hold what was held

closed_held : (d : Doing) (held : State) (r : Result ScriptPlace RefusalKind)
    → held_by_step on_turn held_then d held (held_over on_turn held_then []) (on_close d r) ≡ held
closed_held d held (Ok place) = held_same held d (record d { place = place }) refl
closed_held d held (Err why) = refl

ending_held : (d : Doing) (held : State) → held_behind (ending 0) d held ≡ held
ending_held d held = held_listed (Close ∷ []) d held ∙ closed_held d held (closing d.place)

-- behind a script that is right to its end, and that drains nothing
pub script_held : (from end : Doing) (script printed : List ℕ) → from.place.rows_ended ≡ true → told_whole on_line no_line from script ≡ Goes printed end
    → HoldsAs (held_over_all false from script) end.state
script_held from end script printed rows told =
    let lines = all_lines (scan no_line script) in
    let turns = turns_lines (scan no_line script) (right_text from end script printed told) in
    let goes : over on_turn (map Line lines) from ≡ Goes printed end = sym (whole_over from script ∙ ap (λ (l : List Turn). over on_turn l from) turns)
    ∙ told in
    let all : held_over_all false from script ≡ held_behind (map Line lines ++ ending 0) from from.state =
    (λ i. held_behind (turns i ++ ending_behind false (told i)) from (held_same from.state from from refl i)) in
    let split = held_goes on_turn held_then (map Line lines) (ending 0) from from.state printed end goes in
    subst (λ (s : State). HoldsAs s end.state) (sym (all ∙ split ∙ ending_held end (held_behind (map Line lines) from from.state)))
    (lines_held lines from end from.state printed rows (holds_own from.state) goes)
