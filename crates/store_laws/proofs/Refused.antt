-- A script that `once` refuses behind a head that names a catalogue is refused over the store of that head; and so is one that has a line
-- of a head before its first call, end or settings.
use Rattle.std.proofs.Common.{◌≡◌, ◌⊎◌, inl, inr, ◌∙◌, sym, ap, subst, refl, ℕ, true, false, List, [], ◌∷◌, map}
use Rattle.std.specs.Prelude.{Ok, Err}
use Rattle.proc_lang.specs.Catalogs.{Plan}
use Rattle.script_course.specs.Courses.{Course, Goes, Stops, behind}
use Rattle.script_places.specs.Places.{Asked, asked, next_line}
use Rattle.script_places.specs.declared.deeds.Deed.{Deed}
use Rattle.script_places.specs.declared.deeds.Deed.TheVariants as deed
use Rattle.script_places.specs.declared.heads.ScriptCatalog.{ScriptCatalog}
use Rattle.script_places.specs.declared.places.ScriptPlace.{ScriptPlace}
use Rattle.script_text.specs.Forms.{said}
use Rattle.script_text.specs.Lines.{line_after}
use Rattle.script_text.specs.declared.items.Item.TheVariants as item
use Rattle.script_text.specs.declared.refusals.RefusalKind.{RefusalKind}
use Rattle.serving.specs.Lives.{no_plan}
use Rattle.run_commands.specs.Bases.{counts_of}
use Rattle.run_commands.specs.Onces.{Doing, done, done_by, on_line}
use Rattle.run_commands.specs.Passes.{Line, on_turn, onward, over}
use Rattle.store_laws.proofs.Behind.{Gives, IsNamed, before_batches, begins, begins_not, behind_head, first_asked, first_refused, once_skip, run_refuses, run_skip}
use Rattle.store_laws.proofs.Ended.{runs_as}
use Rattle.store_laws.proofs.ScriptRuns.{AreAsked, run_line}
use Rattle.store_laws.proofs.Scripts.{as_run, batch_asked, batch_refused, in_batches}
use Rattle.store_laws.specs.Texts.{opens, opens_by}

abbrev pub IsStopped : Course Doing → Type 0
IsStopped (Goes bytes d) = ⊥
IsStopped (Stops bytes) = Unit {0}

stops_behind : (bytes : List ℕ) (c : Course Doing) → IsStopped c → IsStopped (behind bytes c)
stops_behind bytes (Goes more d) h = h
stops_behind bytes (Stops more) h = h

stops_in : (bytes : List ℕ) (c : Course Doing) → IsStopped (behind bytes c) → IsStopped c
stops_in bytes (Goes more d) h = h
stops_in bytes (Stops more) h = h

-- what is taken goes on
done_goes : (d : Doing) (asks : Deed) → IsStopped (done d asks) → ⊥
done_goes d deed.Nothing h = h
done_goes d (deed.Put key row) h = h
done_goes d (deed.Call call) h = h
done_goes d (deed.Set rule percent) h = h
done_goes d (deed.Keep number) h = h
done_goes d deed.Run h = h
done_goes d deed.Tell h = h

abbrev Lines : List (List ℕ) → Doing → Course Doing
Lines lines d = over on_turn (map Line lines) d

-- a line that goes on in both
goes_both : (line : List ℕ) (lines : List (List ℕ)) (d e next after : Doing) (bytes : List ℕ) → on_line d line ≡ Goes bytes next
    → on_line e line ≡ Goes bytes after
    → (IsStopped (Lines lines next) → IsStopped (Lines lines after)) → IsStopped (Lines (line ∷ lines) d) → IsStopped (Lines (line ∷ lines) e)
goes_both line lines d e next after bytes is runs rest h =
    let whole = subst (λ (c : Course Doing). IsStopped (onward (Lines lines) c)) is h in
    subst (λ (c : Course Doing). IsStopped (onward (Lines lines) c)) (sym runs)
    (stops_behind bytes (Lines lines after) (rest (stops_in bytes (Lines lines next) whole)))

-- a line that is refused
stops_at : (line : List ℕ) (lines : List (List ℕ)) (e : Doing) (why : RefusalKind) → asked e.place (counts_of e.state) line ≡ Err why
    → IsStopped (Lines (line ∷ lines) e)
stops_at line lines e why is = subst (λ (c : Course Doing). IsStopped (onward (Lines lines) c)) (sym (ap (λ (a : Asked). done_by e a) is)) tt

module _ (plan : Plan) where
  abbrev Behind : List (List ℕ) → Type 0
  Behind lines = (count : ℕ) (d : Doing) → d.place ≡ in_batches plan d.place → IsStopped (Lines lines d) → IsStopped (Lines lines (runs_as count d))

  -- `run` stands at the place q
  module _ (line : List ℕ) (lines : List (List ℕ)) (count : ℕ) (d : Doing) (q : ScriptPlace) (each : AreAsked plan count d q line) (rest : Behind lines) where
    abbrev At : Doing
    At = record d { place = q }

    stops_taken : (after : ScriptPlace) (asks : Deed) (c : Course Doing) → asked d.place (counts_of d.state) line ≡ Ok (after, asks) → on_line d line ≡ c
        → IsStopped (Lines (line ∷ lines) d) → IsStopped (Lines (line ∷ lines) At)
    stops_taken after asks (Stops bytes) is goes h =
        let same : done (record d { place = after }) asks ≡ Stops bytes = sym (ap (λ (a : Asked). done_by d a) is) ∙ goes in
        absurd (done_goes (record d { place = after }) asks (subst IsStopped (sym same) tt))
    stops_taken after asks (Goes bytes next) is goes h =
        let r = run_line plan count d q line bytes next each goes in
        goes_both line lines d At next (runs_as (line_after count) next) bytes goes r.goes (λ k. rest (line_after count) next r.place_is k) h

    stops_by : (a : Asked) → asked d.place (counts_of d.state) line ≡ a
        → ((why : RefusalKind) → asked d.place (counts_of d.state) line ≡ Err why → asked q (counts_of d.state) line ≡ Err why)
        → IsStopped (Lines (line ∷ lines) d) → IsStopped (Lines (line ∷ lines) At)
    stops_by (Ok r) is refused h = stops_taken r.0 r.1 (on_line d line) is refl h
    stops_by (Err why) is refused h = stops_at line lines At why (refused why is)

  batches_stop : (lines : List (List ℕ)) → Behind lines
  batches_stop [] count d at h = absurd h
  batches_stop (line ∷ lines) count d at h =
      let c = counts_of d.state in
      stops_by line lines count d (as_run count d.place) (λ after asks is. batch_asked plan count d.place after c line asks at is) (batches_stop lines)
      (asked d.place c line) refl
      (λ why is. batch_refused plan count d.place c line why at is) h

  module _ (d : Doing) where
    abbrev RunAt : ℕ → Doing
    RunAt count = record d { place = before_batches plan count }

    skips : (line : List ℕ) (count : ℕ) → said line ≡ Ok item.Skip → on_line (RunAt count) line ≡ Goes [] (RunAt (line_after count))
    skips line count is = ap (λ (a : Asked). done_by (RunAt count) a) (run_skip plan count (counts_of d.state) line is)

    -- a line of a head
    head_by : (line : List ℕ) (lines : List (List ℕ)) (count : ℕ) → ((said line ≡ Ok item.Skip) × (opens lines ≡ false)) ⊎ (opens_by true (said line) ≡ false)
        → ((count : ℕ) → opens lines ≡ false → IsStopped (Lines lines (RunAt count))) → IsStopped (Lines (line ∷ lines) (RunAt count))
    head_by line lines count (inl skip) rest =
        subst (λ (c : Course Doing). IsStopped (onward (Lines lines) c)) (sym (skips line count skip.0))
        (stops_behind [] (Lines lines (RunAt (line_after count))) (rest (line_after count) skip.1))
    head_by line lines count (inr wrong) rest = stops_at line lines (RunAt count) _ (run_refuses plan count (counts_of d.state) line wrong)

    pub head_stops : (lines : List (List ℕ)) (count : ℕ) → opens lines ≡ false → IsStopped (Lines lines (RunAt count))
    head_stops [] count e = absurd cc
    head_stops (line ∷ lines) count e = head_by line lines count (begins_not (opens lines) (said line) e) (λ more k. head_stops lines more k)

    -- behind a head that names a catalogue
    module _ (h : ScriptCatalog) (named : IsNamed h) (gives : Gives no_plan h plan) where
      abbrev OnceAt : ScriptPlace → Doing
      OnceAt p = record d { place = behind_head h p }

      script_by : (line : List ℕ) (lines : List (List ℕ)) (count : ℕ) (p : ScriptPlace) → ((said line ≡ Ok item.Skip) × (opens lines ≡ true))
          ⊎ (opens_by false (said line) ≡ true)
          → ((count : ℕ) (p : ScriptPlace) → opens lines ≡ true → IsStopped (Lines lines (OnceAt p)) → IsStopped (Lines lines (RunAt count)))
          → IsStopped (Lines (line ∷ lines) (OnceAt p)) → IsStopped (Lines (line ∷ lines) (RunAt count))
      script_by line lines count p (inl skip) rest stops =
          let goes = ap (λ (a : Asked). done_by (OnceAt p) a) (once_skip plan count (counts_of d.state) h p line skip.0) in
          goes_both line lines (OnceAt p) (RunAt count) (OnceAt (next_line p)) (RunAt (line_after count)) [] goes (skips line count skip.0)
          (λ k. rest (line_after count) (next_line p) skip.1 k) stops
      script_by line lines count p (inr first) rest stops =
          let c = counts_of d.state in
          stops_by line lines count (OnceAt p) (before_batches plan count)
          (λ after asks is. first_asked plan count c no_plan h p after line asks gives first is) (batches_stop lines)
          (asked (behind_head h p) c line) refl (λ why is. first_refused plan count c no_plan h p line why named gives first is) stops

      pub script_stops : (lines : List (List ℕ)) (count : ℕ) (p : ScriptPlace) → opens lines ≡ true → IsStopped (Lines lines (OnceAt p))
          → IsStopped (Lines lines (RunAt count))
      script_stops [] count p opening stops = absurd stops
      script_stops (line ∷ lines) count p opening stops =
          script_by line lines count p (begins (opens lines) (said line) opening) (λ more q e k. script_stops lines more q e k) stops
