-- The end of the input, and what follows it, over a store.
use Rattle.std.proofs.Common.{◌≡◌, ◌∙◌, sym, ap, subst, refl, ℕ, Bool, true, false, List, [], ◌∷◌, ◌++◌, Option}
use Rattle.std.specs.Prelude.{Result, Ok, Err}
use Rattle.std.proofs.KnownBytes.{Appends-nil}
use Rattle.aria_base.specs.Streams.{AppendsFront}
use Rattle.batch_core.specs.Steps.{State}
use Rattle.aria_store.specs.Stands.{Kept}
use Rattle.disk_model.specs.Histories.{History, LeavesAll}
use Rattle.disk_model.proofs.Spans.{leaves_more}
use Rattle.proc_lang.specs.Catalogs.{Plan}
use Rattle.script_course.proofs.Turns.{front_all}
use Rattle.script_course.specs.Courses.{Course, Goes, Out, Stops, printed, refused_after}
use Rattle.script_course.specs.Served.{Finishes, IsGoing}
use Rattle.script_course.specs.declared.stops.Stop.{Stop}
use Rattle.script_course.specs.declared.stops.Stop.TheVariants as stop
use Rattle.script_places.specs.Places.{closing}
use Rattle.script_places.specs.declared.places.ScriptPlace.{ScriptPlace}
use Rattle.script_text.specs.declared.refusals.RefusalKind.{RefusalKind}
use Rattle.serving.specs.Drains.{drains}
use Rattle.serving.specs.Stored.{LeavesState}
use Rattle.store_openings.specs.Saved.{Saved}
use Rattle.run_commands.specs.Endings.{IsEnd, closing_turns, drains_of}
use Rattle.run_commands.specs.Keeps.{HoldsState, Keeps, LeavesLaid}
use Rattle.run_commands.specs.Onces.{Doing, listed}
use Rattle.run_commands.specs.Passes.{Close, Listed, PassesTurns, Turn, as_doing, held_behind, held_by_step, held_over, held_then, on_close, on_turn, over}
use Rattle.run_commands.specs.Saves.{IsLeft, saved_behind, saved_then}
use Rattle.run_commands.proofs.Draining.{going_is}
use Rattle.run_commands.proofs.Endings.{drains_are, held_listed, held_still, laid_as, saved_listed, saved_still}
use Rattle.run_commands.proofs.Kept.{keeps_cut, keeps_none, keeps_on, keeps_quiet}
use Rattle.run_commands.proofs.Overs.{keeps_append, keeps_front}
use Rattle.run_commands.proofs.Turns.{held_one, left_both, left_more, left_still, onward_none}

-- ---- the listing behind all

finish_front : (out : Out) (old new : Option (List ℕ)) (result : Result ℕ Stop) → Finishes out old new result → AppendsFront old new out.bytes
finish_front out old new (Ok status) h = front_all old new out.bytes h.1
finish_front out old new (Err stop.Refused) h = front_all old new out.bytes h.1
finish_front out old new (Err stop.NoMemory) h = h
finish_front out old new (Err stop.NoWrite) h = h
finish_front out old new (Err stop.NoDisk) h = h
finish_front out old new (Err stop.NoRead) h = h

-- the same refusal of another call
pub refused_as : {A B : Type 0} (s t : Stop) → ◌≡◌ {A = Result A Stop} (Err s) (Err t) → ◌≡◌ {A = Result B Stop} (Err s) (Err t)
refused_as s t e = let same : s ≡ t = cc in ap (λ (k : Stop). Err k) same

same_doing : (bytes more : List ℕ) (d next : Doing) → Goes bytes d ≡ Goes more next → d ≡ next
same_doing bytes more d next e = cc

module _ (plan : Plan) (each : Bool) (line : ℕ) (state : State) (d : Doing) (end : IsEnd plan each line state d) (held : State) where
  listed_keeps : (disk : History) (ga gb : Option (List ℕ)) (result : Result ℕ Stop) → Finishes (listed plan each state) ga gb result
      → LeavesState disk plan held
      → Keeps (PassesTurns (Listed ∷ []) d held) plan disk disk ga gb
  listed_keeps disk ga gb result finishes leaves =
      let same : (listed plan each state).bytes ≡ printed (on_turn d Listed) =
      λ i. (listed (sym end.plan_is i) (sym end.each_is i) (sym end.state_is i)).bytes in
      keeps_quiet on_turn held_then plan Listed d held disk ga gb (Err stop.NoMemory)
      (λ bytes next e. held_still held d next (ap (λ (x : Doing). x.state) (sym (same_doing (printed (on_turn d Listed)) bytes d next e))))
      (subst (λ (l : List ℕ). AppendsFront ga gb l) same (finish_front (listed plan each state) ga gb result finishes)) leaves

  -- ---- what follows where nothing is refused

  -- where nothing is drained
  pub quiet_keeps : (drain : Bool) → drain ≡ false → (disk : History) (ga gb : Option (List ℕ)) (result : Result ℕ Stop)
      → Finishes (listed plan each state) ga gb result
      → LeavesState disk plan held → Keeps (PassesTurns (closing_turns drain state) d held) plan disk disk ga gb
  quiet_keeps true off disk ga gb result finishes leaves = absurd cc
  quiet_keeps false off disk ga gb result finishes leaves = listed_keeps disk ga gb result finishes leaves

  pub quiet_laid : (drain : Bool) → drain ≡ false → (first : ℕ) (saved : Saved) (checkpoint : ℕ) (disk : History)
      → LeavesLaid first saved checkpoint disk plan held
      → LeavesLaid first (saved_behind checkpoint (closing_turns drain state) d saved) checkpoint disk plan (held_behind (closing_turns drain state) d held)
  quiet_laid true off first saved checkpoint disk laid = absurd cc
  quiet_laid false off first saved checkpoint disk laid =
      laid_as first checkpoint disk plan saved (saved_behind checkpoint (Listed ∷ []) d saved) held (held_behind (Listed ∷ []) d held)
      (sym (saved_listed checkpoint [] d saved)) (sym (held_listed [] d held)) laid

  -- what a stop leaves where all was drained, the listing included
  pub drained_left : (drain : Bool) → drain ≡ true → (saved : Saved) (checkpoint : ℕ) (a b : History)
      → LeavesAll a b (IsLeft checkpoint (drains_of state) d saved) → LeavesAll a b (IsLeft checkpoint (closing_turns drain state) d saved)
  drained_left false on saved checkpoint a b h = absurd cc
  drained_left true on saved checkpoint a b h =
      leaves_more a b (IsLeft checkpoint (drains_of state) d saved) (IsLeft checkpoint (drains_of state ++ Listed ∷ []) d saved) h
      (left_more checkpoint (drains_of state) (Listed ∷ []) d saved)

  -- where all was drained
  pub drained_laid : (drain : Bool) → drain ≡ true → (first : ℕ) (saved : Saved) (checkpoint : ℕ) (disk : History)
      → LeavesLaid first (saved_behind checkpoint (drains_of state) d saved) checkpoint disk plan (held_behind (drains_of state) d held)
      → LeavesLaid first (saved_behind checkpoint (closing_turns drain state) d saved) checkpoint disk plan (held_behind (closing_turns drain state) d held)
  drained_laid false on first saved checkpoint disk laid = absurd cc
  drained_laid true on first saved checkpoint disk laid =
      laid_as first checkpoint disk plan (saved_behind checkpoint (drains_of state) d saved) (saved_behind checkpoint (drains_of state ++ Listed ∷ []) d saved)
      (held_behind (drains_of state) d held) (held_behind (drains_of state ++ Listed ∷ []) d held)
      (sym (saved_listed checkpoint (drains_of state) d saved)) (sym (held_listed (drains_of state) d held)) laid

  pub drained_stop : (drain : Bool) → drain ≡ true → (a b : History) (ga gb : Option (List ℕ)) → Keeps (PassesTurns (drains_of state) d held) plan a b ga gb
      → Keeps (PassesTurns (closing_turns drain state) d held) plan a b ga gb
  drained_stop false on a b ga gb k = absurd cc
  drained_stop true on a b ga gb k = keeps_front on_turn held_then plan (drains_of state) (Listed ∷ []) d held a b ga gb k

module _ (plan : Plan) (each : Bool) (line : ℕ) (state : State) (d : Doing) (end : IsEnd plan each line state d) (held kept : State) where
  pub drained_keeps : (drain : Bool) → drain ≡ true → (next : State) (a b : History) (ga gb gc : Option (List ℕ)) (result : Result ℕ Stop)
      → IsGoing next (drains plan each line state) ga gb → Finishes (listed plan each next) gb gc result → held_behind (drains_of state) d held ≡ kept
      → LeavesState b plan kept
      → Keeps (PassesTurns (drains_of state) d held) plan a b ga gb → Keeps (PassesTurns (closing_turns drain state) d held) plan a b ga gc
  drained_keeps false on next a b ga gb gc result goes finishes is leaves k = absurd cc
  drained_keeps true on next a b ga gb gc result goes finishes is leaves k =
      let Next : Doing = record d { state = next } in
      let went = going_is (drains plan each line state) next ga gb goes in
      let printed_is : over on_turn (drains_of state) d ≡ Goes went.0 Next = drains_are plan each line state d end
      ∙ ap (λ (c : Course State). as_doing d c) went.1.0 in
      let end_next : IsEnd plan each line next Next = record {
        plan_is = end.plan_is;
        each_is = end.each_is;
        line_is = end.line_is;
        state_is = refl;
        calls_none = end.calls_none;
      } in
      keeps_append on_turn held_then plan (drains_of state) (Listed ∷ []) d held Next went.0 a b b ga gb gc printed_is went.1.1 k
      (subst (λ (s : State). Keeps (PassesTurns (Listed ∷ []) Next s) plan b b gb gc) (sym is)
      (listed_keeps plan each line next Next end_next kept b gb gc result finishes leaves))

-- ---- the end of the input

-- what a stop leaves of it and of what follows
module _ (d : Doing) (steps : List Turn) (q : ScriptPlace) (is : closing d.place ≡ Ok q) (first : ℕ) (saved : Saved) (checkpoint : ℕ) (a b : History) where
  pub close_left : (plan : Plan) (state : State) (store : Option Kept) → HoldsState first saved checkpoint a plan state store
      → LeavesAll a b (IsLeft checkpoint steps (record d { place = q }) saved) → LeavesAll a b (IsLeft checkpoint (Close ∷ steps) d saved)
  close_left plan state store h l =
      let goes : on_turn d Close ≡ Goes [] (record d { place = q }) = ap (λ (r : Result ScriptPlace RefusalKind). on_close d r) is in
      let behind : saved_behind checkpoint (Close ∷ []) d saved ≡ saved =
      held_one on_turn (saved_then checkpoint) Close d (record d { place = q }) saved [] goes ∙ saved_still checkpoint saved d (record d { place = q }) refl in
      left_both checkpoint (Close ∷ []) steps d (record d { place = q }) saved [] (onward_none on_turn (on_turn d Close) ∙ goes) a a b
      (left_still checkpoint first (Close ∷ []) d saved a plan state store h)
      (subst (λ (s : Saved). LeavesAll a b (IsLeft checkpoint steps (record d { place = q }) s)) (sym behind) l)

module _ (d : Doing) (held : State) (steps : List Turn) where
  module _ (q : ScriptPlace) (is : closing d.place ≡ Ok q) where
    closes_on : on_turn d Close ≡ Goes [] (record d { place = q })
    closes_on = ap (λ (r : Result ScriptPlace RefusalKind). on_close d r) is

    pub close_keeps : (plan : Plan) (a b : History) (ga gb : Option (List ℕ)) → LeavesState a plan held
        → Keeps (PassesTurns steps (record d { place = q }) held) plan a b ga gb
        → Keeps (PassesTurns (Close ∷ steps) d held) plan a b ga gb
    close_keeps plan a b ga gb leaves k =
        keeps_on on_turn held_then plan Close steps d (record d { place = q }) held [] a a b ga ga gb closes_on (Appends-nil ga)
        (keeps_none on_turn held_then plan (Close ∷ []) d held a ga (Appends-nil ga) leaves)
        (subst (λ (s : State). Keeps (PassesTurns steps (record d { place = q }) s) plan a b ga gb) (sym (held_still held d (record d { place = q }) refl)) k)

    close_over : {H : Type 0} (held_by : H → Doing → Doing → H) (kept : H) → held_by kept d (record d { place = q }) ≡ kept
        → held_over on_turn held_by (Close ∷ steps) d kept ≡ held_over on_turn held_by steps (record d { place = q }) kept
    close_over held_by kept same =
        ap (λ (c : Course Doing). held_by_step on_turn held_by d kept (held_over on_turn held_by steps) c) closes_on
        ∙ ap (λ h. held_over on_turn held_by steps (record d { place = q }) h) same

    pub close_laid : (first : ℕ) (saved : Saved) (checkpoint : ℕ) (disk : History) (plan : Plan)
        → LeavesLaid first (saved_behind checkpoint steps (record d { place = q }) saved) checkpoint disk plan (held_behind steps (record d { place = q }) held)
        → LeavesLaid first (saved_behind checkpoint (Close ∷ steps) d saved) checkpoint disk plan (held_behind (Close ∷ steps) d held)
    close_laid first saved checkpoint disk plan laid =
        laid_as first checkpoint disk plan (saved_behind checkpoint steps (record d { place = q }) saved) (saved_behind checkpoint (Close ∷ steps) d saved)
        (held_behind steps (record d { place = q }) held) (held_behind (Close ∷ steps) d held)
        (sym (close_over (saved_then checkpoint) saved (saved_still checkpoint saved d (record d { place = q }) refl)))
        (sym (close_over held_then held (held_still held d (record d { place = q }) refl))) laid

  module _ (kind : RefusalKind) (is : closing d.place ≡ Err kind) where
    stops_on : on_turn d Close ≡ Stops (refused_after d.place.lines kind)
    stops_on = ap (λ (r : Result ScriptPlace RefusalKind). on_close d r) is

    pub refused_keeps : (plan : Plan) (disk : History) (ga gb : Option (List ℕ)) → AppendsFront ga gb (refused_after d.place.lines kind)
        → LeavesState disk plan held
        → Keeps (PassesTurns (Close ∷ steps) d held) plan disk disk ga gb
    refused_keeps plan disk ga gb front leaves =
        keeps_cut on_turn held_then plan Close steps d held disk disk ga gb
        (keeps_quiet on_turn held_then plan Close d held disk ga gb (Err stop.NoMemory)
        (λ bytes next e. absurd (let no : Stops (refused_after d.place.lines kind) ≡ Goes bytes next = sym stops_on ∙ e in cc))
        (subst (λ (c : Course Doing). AppendsFront ga gb (printed c)) (sym stops_on) front) leaves)

    refused_over : {H : Type 0} (held_by : H → Doing → Doing → H) (kept : H) → held_over on_turn held_by (Close ∷ steps) d kept ≡ kept
    refused_over held_by kept = ap (λ (c : Course Doing). held_by_step on_turn held_by d kept (held_over on_turn held_by steps) c) stops_on

    pub refused_laid : (first : ℕ) (saved : Saved) (checkpoint : ℕ) (disk : History) (plan : Plan) → LeavesLaid first saved checkpoint disk plan held
        → LeavesLaid first (saved_behind checkpoint (Close ∷ steps) d saved) checkpoint disk plan (held_behind (Close ∷ steps) d held)
    refused_laid first saved checkpoint disk plan laid =
        laid_as first checkpoint disk plan saved (saved_behind checkpoint (Close ∷ steps) d saved) held (held_behind (Close ∷ steps) d held)
        (sym (refused_over (saved_then checkpoint) saved)) (sym (refused_over held_then held)) laid
