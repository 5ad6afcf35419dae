-- What the end of a head comes to, by whether a gate was open.
use Rattle.std.proofs.Common.{◌≡◌, ◌≢◌, ◌∙◌, ◌⊎◌, inl, inr, sym, subst, refl, ℕ, Bool, true, false, List, Option, Some, None}
use Rattle.std.specs.Prelude.{not, ◌&&◌, if◌then◌else◌, Result, Ok, Err, IfSome}
use Rattle.std.specs.Option.{IsSomeAnd}
use Rattle.answer_text.specs.Notices.{ready_text, refused_text}
use Rattle.answer_text.specs.declared.notices.NotDone.TheVariants.{StoreExists}
use Rattle.checkpoint.specs.Slots.{is_open}
use Rattle.command_words.specs.declared.settings.Init.{Init}
use Rattle.disk_model.proofs.Spans.{still_none}
use Rattle.disk_model.specs.Files.{File}
use Rattle.disk_model.specs.Histories.{History, current, Still}
use Rattle.script_course.specs.Courses.{Out, status_of}
use Rattle.script_course.specs.Served.{Finishes}
use Rattle.script_course.specs.declared.stops.Stop.{Stop}
use Rattle.script_course.specs.declared.stops.Stop.TheVariants as stop
use Rattle.store_files.specs.Attachments.{IsTaken}
use Rattle.aria_store.specs.Causes.{HasGate}
use Rattle.store_commands.specs.Inits.{Ends, Leaves, closed_by, store_out}
use Rattle.script_rows.specs.declared.drafts.Draft.{Draft}
use Rattle.script_places.specs.declared.places.ScriptPlace.{ScriptPlace}
use Rattle.script_text.specs.declared.refusals.RefusalKind.{RefusalKind}
use Rattle.script_course.specs.declared.statuses.TheConstants.{DONE, STORE_REFUSED}

-- ---- the gates

gate : (told : Option File) → IfSome told (λ f. is_open f.seen ≡ false) ⊎ IsSomeAnd told (λ f. is_open f.seen ≡ true)
gate None = inl tt
gate (Some f) = elim (is_open f.seen) as (λ b. (b ≡ false) ⊎ (b ≡ true)) [ true ↦ inr refl | false ↦ inl refl ]

some_is : (told : Option File) → IsSomeAnd told (λ f. is_open f.seen ≡ true) → IfSome told (λ f. is_open f.seen ≡ true)
some_is None h = absurd h
some_is (Some f) h = h

abbrev Looked : History → Type 0
Looked disk = (taken : Bool) × IsTaken disk taken × (taken ≡ true → HasGate disk)

-- a gate is open, or both are closed; where a file is not told, either is true of it
pub looked : (disk : History) → Looked disk
looked disk = elim (gate (current disk 0)) [
  | inr first ↦ (true, inl (some_is (current disk 0) first), λ e. inl first)
  | inl shut ↦ elim (gate (current disk 1)) [
    | inr second ↦ (true, inr (some_is (current disk 1) second), λ e. inr second)
    | inl both ↦ (false, (shut, both), λ e. absurd (cc e))
  ]
]

-- ---- a head that was read to its end

abbrev pub choice : Bool → Out
choice refused =
    if refused then (record { bytes = refused_text StoreExists; status = STORE_REFUSED }) else (record { bytes = ready_text; status = DONE })

forgiven : (taken over : Bool) → over ≡ true → taken && not over ≡ false
forgiven true over e = rw e refl
forgiven false over e = refl

kept : (over : Bool) → over ≡ false → true && not over ≡ true
kept over e = rw e refl

-- where there was a store in the way, the status is not that of a store made
kept_apart : {X : Type 0} → (choice true).status ≡ DONE → X
kept_apart done = let wrong : STORE_REFUSED ≡ DONE = done in absurd (cc wrong)

module _ (settings : Init) (made : Type 0) (was is : History) (old new : Option (List ℕ)) (result : Result ℕ Stop) where
  abbrev By : Bool → Type 0
  By refused = Finishes (choice refused) old new result × ((choice refused).status ≢ DONE → Still was is)
      × ((choice refused).status ≡ DONE → (new ≡ old) ⊎ made)

  abbrev EndsHere : Type 0
  EndsHere = Ends (store_out settings) made was is old new result

  ends_by : (taken : Bool) → IsTaken was taken → By (taken && not settings.over) → EndsHere
  ends_by taken looks by = record { taken = taken; looked = looks; finishes = by.0; unwritten = by.1; stored = by.2 }

  made_by : (over : Bool) → settings.over ≡ over → (settings.over ≡ false → IsTaken was false) → By false → EndsHere
  made_by true e free by = let l = looked was in ends_by l.0 l.1 (subst By (sym (forgiven l.0 settings.over e)) by)
  made_by false e free by = ends_by false (free e) by

  -- the store was made
  pub ends_made : (settings.over ≡ false → IsTaken was false) → made → Finishes (choice false) old new result → EndsHere
  ends_made free stands all = made_by settings.over refl free (all, λ other. absurd (other refl), λ done. inr stands)

  -- there was one that may not be written over
  pub ends_kept : settings.over ≡ false → IsTaken was true → Still was is → Finishes (choice true) old new result → EndsHere
  ends_kept off taken still all = ends_by true taken (subst By (sym (kept settings.over off)) (all, λ other. still, λ done. kept_apart done))

  cut_by : (taken over : Bool) → (taken ≡ true → HasGate was) → (over ≡ false → HasGate was → Still was is) → new ≡ old
      → ((refused : Bool) → Finishes (choice refused) old new result)
      → By (taken && not over)
  cut_by true true open_gate unwritten same all = (all false, λ other. absurd (other refl), λ done. inl same)
  cut_by true false open_gate unwritten same all = (all true, λ other. unwritten refl (open_gate refl), λ done. inl same)
  cut_by false over open_gate unwritten same all = (all false, λ other. absurd (other refl), λ done. inl same)

  -- it was cut off before anything was given
  pub ends_cut : (settings.over ≡ false → HasGate was → Still was is) → new ≡ old → ((refused : Bool) → Finishes (choice refused) old new result)
      → EndsHere
  ends_cut unwritten same all = let l = looked was in ends_by l.0 l.1 (cut_by l.0 settings.over l.2 unwritten same all)

-- ---- the end of a head

-- the end is refused, or it was cut off before the store was looked at
pub ends_untouched : (out : Bool → Out) (made : Type 0) (was : History) (old new : Option (List ℕ)) (result : Result ℕ Stop)
    → ((taken : Bool) → (out taken).status ≡ DONE → new ≡ old) → ((taken : Bool) → Finishes (out taken) old new result)
    → Ends out made was was old new result
ends_untouched out made was old new result same all =
    let l = looked was in
    record { taken = l.0; looked = l.1; finishes = all l.0; unwritten = λ other. still_none was; stored = λ done. inl (same l.0 done) }

-- where the end is refused, its status is not that of a store made
pub refused_apart : {X : Type 0} (settings : Init) (taken : Bool) (d : Draft) (end : Result ScriptPlace RefusalKind) (kind : RefusalKind) → end ≡ Err kind
    → (closed_by settings taken d end).status ≡ DONE → X
refused_apart settings taken d (Ok place) kind is done = absurd (cc is)
refused_apart settings taken d (Err other) kind is done = let wrong : status_of stop.Refused ≡ DONE = done in absurd (cc wrong)

-- ---- what is left of the disk

pub leaves_made : {D : Type 0} (history : D → History) (was is : D) (old new : Option (List ℕ)) (result : Result ℕ Stop)
    → Finishes (choice false) old new result → result ≢ Err stop.NoRead
    → Leaves history was is result
leaves_made history was is old new (Ok ending) all read = λ e. let wrong : DONE ≡ STORE_REFUSED = all.0 ∙ e in absurd (cc wrong)
leaves_made history was is old new (Err stop.Refused) all read = let wrong : DONE ≡ status_of stop.Refused = all.0 in absurd (cc wrong)
leaves_made history was is old new (Err stop.NoMemory) all read = tt
leaves_made history was is old new (Err stop.NoWrite) all read = tt
leaves_made history was is old new (Err stop.NoDisk) all read = tt
leaves_made history was is old new (Err stop.NoRead) all read = absurd (read refl)

pub ready_given : (bytes : List ℕ) (old new : Option (List ℕ)) (result : Result ℕ Stop) → bytes ≡ ready_text
    → Finishes (record { bytes = bytes; status = DONE }) old new result
    → Finishes (choice false) old new result
ready_given bytes old new result is all = subst (λ (l : List ℕ). Finishes (record { bytes = l; status = DONE }) old new result) is all
