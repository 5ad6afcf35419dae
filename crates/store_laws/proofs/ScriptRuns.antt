-- A script, line by line: where `once` goes on behind a head, `run` goes on over the store of that head, and prints the same.
use Rattle.std.proofs.Common.{◌≡◌, ◌⊎◌, inl, inr, ◌∙◌, sym, ap, subst, refl, ℕ, ◌==◌, true, false, List, [], ◌∷◌, map}
use Rattle.std.specs.Prelude.{if◌then◌else◌, Ok, Err}
use Rattle.proc_lang.specs.Catalogs.{Plan}
use Rattle.script_course.specs.Courses.{Course, Goes, Stops, behind}
use Rattle.script_places.specs.Places.{Asked, asked, next_line}
use Rattle.script_places.specs.declared.deeds.Deed.{Deed}
use Rattle.script_places.specs.declared.deeds.Deed.TheVariants as deed
use Rattle.script_places.specs.declared.heads.ScriptCatalog.{ScriptCatalog}
use Rattle.script_places.specs.declared.places.ScriptPlace.{ScriptPlace}
use Rattle.script_text.specs.Forms.{said}
use Rattle.script_text.specs.Lines.{line_after}
use Rattle.script_text.specs.declared.items.Item.TheVariants as item
use Rattle.serving.specs.Lives.{no_plan}
use Rattle.run_commands.proofs.Turns.{not_both}
use Rattle.run_commands.specs.Bases.{counts_of}
use Rattle.run_commands.specs.Onces.{Doing, done, done_by, on_line}
use Rattle.run_commands.specs.Passes.{Line, on_turn, onward, over}
use Rattle.resume_laws.specs.Resumptions.{answers, answers_by}
use Rattle.store_laws.proofs.Behind.{Gives, before_batches, begins, behind_head, first_asked, once_skip, run_skip}
use Rattle.store_laws.proofs.Scripts.{IsAskedTo, as_run, batch_asked, in_batches}
use Rattle.store_laws.specs.Texts.{opens, opens_by}
use Rattle.store_laws.proofs.Ended.{EndsLike, ends_batches, ends_behind, goes_behind, runs_as, same_state}

-- ---- a line

-- a course that goes on at another place
abbrev placed : (ScriptPlace → ScriptPlace) → Course Doing → Course Doing
placed f (Goes bytes d) = Goes bytes (record d { place = f d.place })
placed f (Stops bytes) = Stops bytes

abbrev place_or : ScriptPlace → Course Doing → ScriptPlace
place_or p (Goes bytes d) = d.place
place_or p (Stops bytes) = p

-- what is done goes by the catalogue of the place alone
done_run : (d : Doing) (lines : ℕ) (after : ScriptPlace) (asks : Deed)
    → done (record d { place = as_run lines after }) asks ≡ placed (as_run lines) (done (record d { place = after }) asks)
done_run d lines after deed.Nothing = refl
done_run d lines after (deed.Put key row) = refl
done_run d lines after (deed.Call call) = refl
done_run d lines after (deed.Set rule percent) = refl
done_run d lines after (deed.Keep number) = refl
done_run d lines after deed.Run = refl
done_run d lines after deed.Tell = refl

done_place : (d : Doing) (after : ScriptPlace) (asks : Deed) → place_or after (done (record d { place = after }) asks) ≡ after
done_place d after deed.Nothing = refl
done_place d after (deed.Put key row) = refl
done_place d after (deed.Call call) = refl
done_place d after (deed.Set rule percent) = refl
done_place d after (deed.Keep number) = refl
done_place d after deed.Run = refl
done_place d after deed.Tell = refl

-- `run` stands at the place q, behind so many lines
module _ (plan : Plan) (lines : ℕ) (d : Doing) (q : ScriptPlace) where
  pub record IsRun (line bytes : List ℕ) (next : Doing) : Type 0 where
    pub goes : on_line (record d { place = q }) line ≡ Goes bytes (runs_as (line_after lines) next)
    pub place_is : next.place ≡ in_batches plan next.place

  -- a line that `run` takes as `once` does
  abbrev pub AreAsked : List ℕ → Type 0
  AreAsked line = (after : ScriptPlace) (asks : Deed) → asked d.place (counts_of d.state) line ≡ Ok (after, asks)
      → IsAskedTo plan lines q (counts_of d.state) line after asks

  run_by : (line bytes : List ℕ) (next : Doing) (a : Asked) → asked d.place (counts_of d.state) line ≡ a → AreAsked line → done_by d a ≡ Goes bytes next
      → IsRun line bytes next
  run_by line bytes next (Err why) is each goes = not_both _ bytes next goes
  run_by line bytes next (Ok r) is each goes =
      let run = each r.0 r.1 is in
      let place_is : next.place ≡ r.0 = sym (ap (λ (c : Course Doing). place_or r.0 c) goes) ∙ done_place d r.0 r.1 in
      record {
        goes =
            ap (λ (a : Asked). done_by (record d { place = q }) a) run.asked_run
            ∙ done_run d (line_after lines) r.0 r.1
            ∙ ap (λ (c : Course Doing). placed (as_run (line_after lines)) c) goes;
        place_is = place_is ∙ run.place_is ∙ ap (λ (p : ScriptPlace). in_batches plan p) (sym place_is);
      }

  pub run_line : (line bytes : List ℕ) (next : Doing) → AreAsked line → on_line d line ≡ Goes bytes next → IsRun line bytes next
  run_line line bytes next each goes = run_by line bytes next (asked d.place (counts_of d.state) line) refl each goes

-- ---- lines

-- from e on these lines come to what they come to from d on
pub record RunsTo (lines : List (List ℕ)) (d e : Doing) (printed : List ℕ) (last : Doing) : Type 0 where
  pub end : Doing
  pub goes : over on_turn (map Line lines) e ≡ Goes printed end
  pub answered : answers (map Line lines) e ≡ answers (map Line lines) d
  pub like : EndsLike last end

run_then : (line : List ℕ) (lines : List (List ℕ)) (d next : Doing) (q after : ScriptPlace) (bytes printed : List ℕ) (last : Doing)
    → on_line d line ≡ Goes bytes next
    → on_line (record d { place = q }) line ≡ Goes bytes (record next { place = after }) → over on_turn (map Line (line ∷ lines)) d ≡ Goes printed last
    → ((more : List ℕ) → over on_turn (map Line lines) next ≡ Goes more last → RunsTo lines next (record next { place = after }) more last)
    → RunsTo (line ∷ lines) d (record d { place = q }) printed last
run_then line lines d next q after bytes printed last is run goes rest =
    let whole : behind bytes (over on_turn (map Line lines) next) ≡ Goes printed last =
    sym (ap (λ (c : Course Doing). onward (over on_turn (map Line lines)) c) is) ∙ goes in
    let g = goes_behind bytes printed last (over on_turn (map Line lines) next) whole in
    let r = rest g.more g.goes in
    record {
      end = r.end;
      goes =
          ap (λ (c : Course Doing). onward (over on_turn (map Line lines)) c) run
          ∙ ap (λ (c : Course Doing). behind bytes c) r.goes
          ∙ ap (λ (l : List ℕ). Goes l r.end) g.bytes;
      answered =
          ap (λ (c : Course Doing). answers_by (record d { place = q }) (answers (map Line lines)) c) run
          ∙ ap (λ (l : List (ℕ × List ℕ)). if next.state.batches == d.state.batches then l else (next.state.batches, bytes) ∷ l) r.answered
          ∙ sym (ap (λ (c : Course Doing). answers_by d (answers (map Line lines)) c) is);
      like = r.like;
    }

module _ (plan : Plan) where
  -- behind a line of batches
  abbrev BatchesOver : List (List ℕ) → Type 0
  BatchesOver lines = (count : ℕ) (d last : Doing) (printed : List ℕ) → d.place ≡ in_batches plan d.place → over on_turn (map Line lines) d ≡ Goes printed last
      → RunsTo lines d (runs_as count d) printed last

  -- where `run` takes the first of them
  then_batches : (line : List ℕ) (lines : List (List ℕ)) (count : ℕ) (d last : Doing) (q : ScriptPlace) (printed : List ℕ) (c : Course Doing)
      → on_line d line ≡ c
      → AreAsked plan count d q line
      → BatchesOver lines → over on_turn (map Line (line ∷ lines)) d ≡ Goes printed last → RunsTo (line ∷ lines) d (record d { place = q }) printed last
  then_batches line lines count d last q printed (Stops bytes) is each rest goes =
      not_both bytes printed last (sym (ap (λ (x : Course Doing). onward (over on_turn (map Line lines)) x) is) ∙ goes)
  then_batches line lines count d last q printed (Goes bytes next) is each rest goes =
      let r = run_line plan count d q line bytes next each is in
      run_then line lines d next q (as_run (line_after count) next.place) bytes printed last is r.goes goes
      (λ more go. rest (line_after count) next last more r.place_is go)

  batches_none : (count : ℕ) (d last : Doing) (printed : List ℕ) → d.place ≡ in_batches plan d.place → Goes [] d ≡ Goes printed last
      → RunsTo [] d (runs_as count d) printed last
  batches_none count d last printed at goes =
      let here = subst (λ (x : Doing). x.place ≡ in_batches plan x.place) (same_state [] printed d last goes) at in
      record {
        end = runs_as count last;
        goes = ap (λ (c : Course Doing). placed (as_run count) c) goes;
        answered = refl;
        like = ends_batches plan count last here;
      }

  batches_over : (lines : List (List ℕ)) → BatchesOver lines
  batches_over [] count d last printed at goes = batches_none count d last printed at goes
  batches_over (line ∷ lines) count d last printed at goes =
      then_batches line lines count d last (as_run count d.place) printed (on_line d line) refl
      (λ after asks is. batch_asked plan count d.place after (counts_of d.state) line asks at is) (batches_over lines) goes

  -- behind a head
  module _ (h : ScriptCatalog) (gives : Gives no_plan h plan) (d last : Doing) where
    abbrev OnceAt : ScriptPlace → Doing
    OnceAt p = record d { place = behind_head h p }

    abbrev RunAt : ℕ → Doing
    RunAt count = record d { place = before_batches plan count }

    script_none : (count : ℕ) (p : ScriptPlace) (printed : List ℕ) → Goes [] (OnceAt p) ≡ Goes printed last → RunsTo [] (OnceAt p) (RunAt count) printed last
    script_none count p printed goes =
        let q = before_batches plan count in
        let here : EndsLike (OnceAt p) (RunAt count) = ends_behind plan d p h count gives in
        record {
          end = record last { place = q };
          goes = ap (λ (c : Course Doing). placed (λ _. q) c) goes;
          answered = refl;
          like = subst (λ (x : Doing). EndsLike x (record x { place = q })) (same_state [] printed (OnceAt p) last goes) here;
        }

    abbrev ScriptOver : List (List ℕ) → Type 0
    ScriptOver lines = (count : ℕ) (p : ScriptPlace) (printed : List ℕ) → opens lines ≡ true → over on_turn (map Line lines) (OnceAt p) ≡ Goes printed last
        → RunsTo lines (OnceAt p) (RunAt count) printed last

    script_by : (line : List ℕ) (lines : List (List ℕ)) (count : ℕ) (p : ScriptPlace) (printed : List ℕ) → ((said line ≡ Ok item.Skip) × (opens lines ≡ true))
        ⊎ (opens_by false (said line) ≡ true)
        → ScriptOver lines → over on_turn (map Line (line ∷ lines)) (OnceAt p) ≡ Goes printed last → RunsTo (line ∷ lines) (OnceAt p) (RunAt count) printed last
    script_by line lines count p printed (inl skip) rest goes =
        let c = counts_of d.state in
        run_then line lines (OnceAt p) (OnceAt (next_line p)) (before_batches plan count) (before_batches plan (line_after count)) [] printed last
        (ap (λ (a : Asked). done_by (OnceAt p) a) (once_skip plan count c h p line skip.0))
        (ap (λ (a : Asked). done_by (RunAt count) a) (run_skip plan count c line skip.0)) goes
        (λ more go. rest (line_after count) (next_line p) more skip.1 go)
    script_by line lines count p printed (inr first) rest goes =
        then_batches line lines count (OnceAt p) last (before_batches plan count) printed (on_line (OnceAt p) line) refl
        (λ after asks is. first_asked plan count (counts_of d.state) no_plan h p after line asks gives first is) (batches_over lines) goes

    pub script_over : (lines : List (List ℕ)) → ScriptOver lines
    script_over [] count p printed opening goes = script_none count p printed goes
    script_over (line ∷ lines) count p printed opening goes =
        script_by line lines count p printed (begins (opens lines) (said line) opening) (script_over lines) goes
