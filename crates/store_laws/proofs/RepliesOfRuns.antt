-- What stands behind a run answers what the run printed, by the states and by the files.
use Rattle.std.proofs.Common.{◌≡◌, ◌⊎◌, inl, inr, ◌∙◌, ◌+◌, sym, ap, subst, refl, ℕ, zero, suc, Bool, true, false, List, [], ◌∷◌, ◌++◌, map, replicate, Option, Some, None, append-nil, arith}
use Rattle.aria_store.specs.Reopens.{Found, Reopened, Reopens}
use Rattle.aria_store.proofs.Founds.{reopens_once}
use Rattle.batch_core.specs.Steps.{State}
use Rattle.command_words.specs.declared.settings.Listing.{Listing}
use Rattle.command_words.specs.declared.settings.Replay.{Replay}
use Rattle.command_words.specs.declared.settings.Run.{Run}
use Rattle.disk_model.specs.Histories.{History, MayLeave}
use Rattle.image_text.specs.Payloads.{Batch}
use Rattle.proc_lang.specs.Catalogs.{run_of}
use Rattle.script_course.specs.Courses.{Course, Goes, Stops, out_behind, told_whole}
use Rattle.script_text.specs.Lines.{Scan, last_line, scan}
use Rattle.script_text.specs.declared.refusals.Refusal.{Refusal}
use Rattle.serving.proofs.Storing.{batches_behind}
use Rattle.script_places.specs.Places.{plan_in}
use Rattle.serving.specs.Stored.{batch_of, crowded, state_at, state_behind}
use Rattle.slot_images.specs.Images.{Checkpoint}
use Rattle.store_openings.specs.Openings.{log_in}
use Rattle.store_openings.specs.Saved.{Saved, is_full, laid_where, saved_in}
use Rattle.run_commands.specs.Onces.{Doing, handed_in, listed, on_line, text_of}
use Rattle.run_commands.specs.Outs.{is_each, no_line}
use Rattle.run_commands.specs.Passes.{At, Close, Drain, Line, Listed, Past, Turn, ending_behind, last, on_turn, past, turns, turns_whole}
use Rattle.run_commands.specs.Saves.{HasFront, HasLogged, ReadsAs}
use Rattle.run_commands.specs.Resumes.{HoldsOver, IsLeftOver, held_over_all, saved_first, saved_over_all, start_over, turns_over}
use Rattle.resume_laws.specs.Resumptions.{answers, later_than}
use Rattle.store_commands.specs.Replays.{crowded_out, out_of}
use Rattle.store_laws.proofs.Replied.{Shape, Tracks, at_work, holds_own, is_replayed, none_later, plan_stays, replayed_as, replies_later, replies_up, tracks_on, turn_to, would_print}
use Rattle.store_laws.specs.Replies.{Prints, PrintsStopped, StandsOver, answers_behind, joined, replies_behind, run_answers, saved_by_turns}

-- ---- the turns of a run

abbrev AreLines : List Turn → Type 0
AreLines [] = Unit {0}
AreLines (Line line ∷ steps) = AreLines steps
AreLines (Past refusal ∷ steps) = AreLines steps
AreLines (At ∷ steps) = ⊥
AreLines (Close ∷ steps) = ⊥
AreLines (Drain ∷ steps) = ⊥
AreLines (Listed ∷ steps) = ⊥

shape_behind : (steps more : List Turn) → AreLines steps → Shape false more → Shape false (steps ++ more)
shape_behind [] more are h = h
shape_behind (Line line ∷ steps) more are h = (refl, shape_behind steps more are h)
shape_behind (Past refusal ∷ steps) more are h = shape_behind steps more are h
shape_behind (At ∷ steps) more are h = absurd are
shape_behind (Close ∷ steps) more are h = absurd are
shape_behind (Drain ∷ steps) more are h = absurd are
shape_behind (Listed ∷ steps) more are h = absurd are

lines_both : (steps more : List Turn) → AreLines steps → AreLines more → AreLines (steps ++ more)
lines_both [] more are h = h
lines_both (Line line ∷ steps) more are h = lines_both steps more are h
lines_both (Past refusal ∷ steps) more are h = lines_both steps more are h
lines_both (At ∷ steps) more are h = absurd are
lines_both (Close ∷ steps) more are h = absurd are
lines_both (Drain ∷ steps) more are h = absurd are
lines_both (Listed ∷ steps) more are h = absurd are

each_line : (lines : List (List ℕ)) → AreLines (map Line lines)
each_line [] = tt
each_line (line ∷ lines) = each_line lines

past_lines : (fault : Option Refusal) → AreLines (past fault)
past_lines None = tt
past_lines (Some refusal) = tt

last_lines : (line : Option (List ℕ)) → AreLines (last line)
last_lines None = tt
last_lines (Some line) = tt

whole_lines : (s : Scan) → AreLines (turns_whole s)
whole_lines s = lines_both (turns s) (last (last_line s.feed)) (lines_both (map Line s.lines) (past s.fault) (each_line s.lines) (past_lines s.fault))
    (last_lines (last_line s.feed))

drains_shape : (n : ℕ) → Shape true (replicate n Drain ++ Listed ∷ [])
drains_shape zero = tt
drains_shape (suc n) = (refl, drains_shape n)

ending_shape : (drain : Bool) (c : Course Doing) → Shape false (ending_behind drain c)
ending_shape true (Goes bytes d) = drains_shape _
ending_shape false (Goes bytes d) = tt
ending_shape drain (Stops bytes) = tt

turns_shape : (drain : Bool) (d : Doing) (text : List ℕ) → Shape false (turns_over drain d text)
turns_shape drain d text = shape_behind (turns_whole (scan no_line text)) (ending_behind drain (told_whole on_line no_line d text))
    (whole_lines (scan no_line text)) (ending_shape drain (told_whole on_line no_line d text))

front_shape : (front rest : List Turn) (closed : Bool) → Shape closed (front ++ rest) → Shape closed front
front_shape [] rest closed h = tt
front_shape (At ∷ front) rest closed h = front_shape front rest closed h
front_shape (Line line ∷ front) rest closed h = (h.0, front_shape front rest false h.1)
front_shape (Past refusal ∷ front) rest closed h = front_shape front rest closed h
front_shape (Close ∷ front) rest closed h = front_shape front rest true h
front_shape (Drain ∷ front) rest closed h = (h.0, front_shape front rest true h.1)
front_shape (Listed ∷ front) rest closed h = front_shape front rest closed h

-- ---- before the first line

module _ (settings : Run) (images : ℕ → List ℕ) (c : Checkpoint) (later : List Batch) where
  abbrev Each : Bool
  Each = is_each settings.listing

  abbrev Before : State
  Before = state_behind c later

  begun_by : (due : Bool) → Tracks c.plan Each false (laid_where due (saved_in images c later) Before) (replies_behind Each c later)
      (start_over settings c later)
  begun_by true = record {
    head_is = refl;
    each_is = refl;
    rows = refl;
    counted = refl;
    shut_is = λ _. refl;
    under = refl;
    holds = holds_own Before;
    answered = sym (none_later Before.batches (replies_behind Each c later) (replies_up c.plan Each (state_at c) later));
    up_to = replies_up c.plan Each (state_at c) later;
    from = omega arith;
  }
  begun_by false = record {
    head_is = refl;
    each_is = refl;
    rows = refl;
    counted = refl;
    shut_is = λ _. refl;
    under = refl;
    holds = holds_own Before;
    answered = sym (replies_later c.plan Each c.head.batches (state_at c) later (omega arith));
    up_to = replies_up c.plan Each (state_at c) later;
    from = let n = batches_behind (run_of c.plan) (state_at c) later in omega (arith, n);
  }

  -- ---- behind the run

  pub run_replayed : (text : List ℕ) (front rest : List Turn) → turns_over settings.drain (start_over settings c later) text ≡ front ++ rest
      → replies_behind Each (saved_by_turns settings images c later front).c (saved_by_turns settings images c later front).later
      ≡ later_than (saved_by_turns settings images c later front).c.head.batches (replies_behind Each c later ++ answers front (start_over settings c later))
  run_replayed text front rest is =
      let start = start_over settings c later in
      is_replayed c.plan Each settings.checkpoint front false
      (front_shape front rest false (subst (λ (steps : List Turn). Shape false steps) is (turns_shape settings.drain start text))) start
      (saved_first images c later) (replies_behind Each c later) (begun_by (is_full (saved_in images c later)))

  -- ---- by the files

  module _ (again : Replay) (same : again.listing ≡ settings.listing) (text : List ℕ) where
    abbrev After : Saved
    After = saved_over_all settings images c later text

    abbrev Held : State
    Held = held_over_all settings.drain (start_over settings c later) text

    abbrev Printed : List ℕ
    Printed = joined (later_than After.c.head.batches (replies_behind Each c later ++ run_answers settings c later text))

    prints : (left : ℕ → List ℕ) → crowded After.c After.later ≡ None → After.c.plan ≡ c.plan → state_behind After.c After.later ≡ Held
        → out_of again left (Found After.c After.later) ≡ out_behind Printed (listed c.plan Each Held)
    prints left roomy under state =
        let steps = turns_over settings.drain (start_over settings c later) text in
        let all = run_replayed text steps [] (sym (append-nil steps)) in
        replayed_as After.c.plan (is_each again.listing) (crowded_out (log_in After.c) (left (log_in After.c))) 0 (state_at After.c) After.later roomy
        ∙ ap (λ (l : Listing). out_behind (joined (replies_behind (is_each l) After.c After.later))
        (listed After.c.plan (is_each l) (state_behind After.c After.later))) same
        ∙ (λ i. out_behind (joined (all i)) (listed (under i) Each (state i)))

    pub replay_prints : (disk : History) → HoldsOver settings images (Found c later) text disk → (left : ℕ → List ℕ) → MayLeave disk disk.now left
        → (found : Reopened) → Reopens left found → out_of again left found ≡ out_behind Printed (listed c.plan Each Held)
    replay_prints disk holds left may found reads =
        let h = holds left may in
        ap (λ (f : Reopened). out_of again left f) (reopens_once left found (Found After.c After.later) reads h.reopens)
        ∙ prints left h.roomy h.plan_is h.state_is

    -- ---- a run that was stopped

    abbrev Start : Doing
    Start = start_over settings c later

    abbrev By : List Turn → Saved
    By front = saved_by_turns settings images c later front

    abbrev Answers : List Turn → List (ℕ × List ℕ)
    Answers front = answers_behind settings images c later front

    -- files that read as that checkpoint with those batches
    as_read : (left : ℕ → List ℕ) (k : Checkpoint) (more : List Batch) (answered : List (ℕ × List ℕ)) → ReadsAs k more left → k.plan ≡ c.plan
        → replies_behind Each k more ≡ answered → (found : Reopened) → Reopens left found
        → Prints again settings left found c.plan answered (state_behind k more)
    as_read left k more answered reads under are found reopens =
        ap (λ (f : Reopened). out_of again left f) (reopens_once left found (Found k more) reopens reads.0)
        ∙ replayed_as k.plan (is_each again.listing) (crowded_out (log_in k) (left (log_in k))) 0 (state_at k) more reads.1
        ∙ ap (λ (l : Listing). out_behind (joined (replies_behind (is_each l) k more)) (listed k.plan (is_each l) (state_behind k more))) same
        ∙ (λ i. out_behind (joined (are i)) (listed (under i) Each (state_behind k more)))

    abbrev Steps : List Turn
    Steps = turns_over settings.drain Start text

    shape_of : (front rest : List Turn) → Steps ≡ front ++ rest → Shape false (front ++ rest)
    shape_of front rest are = subst (λ (steps : List Turn). Shape false steps) are (turns_shape settings.drain Start text)

    plan_kept : (front rest : List Turn) → Steps ≡ front ++ rest → (By front).c.plan ≡ c.plan
    plan_kept front rest are =
        plan_stays c.plan Each settings.checkpoint front false (front_shape front rest false (shape_of front rest are)) Start
        (saved_first images c later) (replies_behind Each c later) (begun_by (is_full (saved_in images c later)))

    pub stop_prints : (left : ℕ → List ℕ) → IsLeftOver settings images c later text left → (found : Reopened) → Reopens left found
        → PrintsStopped settings again images c later text left found
    stop_prints left l found reopens = by l.reads
      where
        by : HasFront settings.checkpoint l.front Start (saved_first images c later) left
            ⊎ HasLogged settings.checkpoint l.front l.rest Start (saved_first images c later) left
            → PrintsStopped settings again images c later text left found
        by (inl reads) = record {
          front = l.front;
          rest = l.rest;
          are = l.are;
          state = state_behind (By l.front).c (By l.front).later;
          prints = inl (as_read left (By l.front).c (By l.front).later (Answers l.front) reads (plan_kept l.front l.rest l.are)
              (run_replayed text l.front l.rest l.are) found reopens);
        }
        by (inr h) =
            let on = tracks_on c.plan Each settings.checkpoint l.front l.rest false (shape_of l.front l.rest l.are) Start h.here (saved_first images c later)
            (replies_behind Each c later) h.printed (begun_by (is_full (saved_in images c later))) h.goes in
            let t = on.tracks in
            let shape = subst (λ (steps : List Turn). Shape on.closed steps) h.rest_is on.shape in
            let to = turn_to c.plan Each h.turn h.more on.closed shape (By l.front) (replies_behind Each c later ++ answers l.front Start) h.here t in
            let answer = at_work c.plan h.here h.next to.0 h.text (on_turn h.here h.turn) to.1 h.runs h.counted t.head_is in
            let batch = batch_of (handed_in h.here) in
            let stands : StandsOver (By l.front).c (By l.front).later h.here =
            record { plan_is = ap plan_in t.head_is ∙ sym t.under; holds = t.holds } in
            let own : replies_behind Each (By l.front).c ((By l.front).later ++ batch ∷ [])
            ≡ replies_behind Each (By l.front).c (By l.front).later ++ (h.here.state.batches + 1, text_of h.here) ∷ [] =
            subst (λ (e : Bool). replies_behind e (By l.front).c ((By l.front).later ++ batch ∷ [])
            ≡ replies_behind e (By l.front).c (By l.front).later ++ (h.here.state.batches + 1, text_of h.here) ∷ []) t.each_is
            (would_print (By l.front).c (By l.front).later h.here stands) in
            let all : replies_behind Each (By l.front).c ((By l.front).later ++ batch ∷ []) ≡ Answers l.front ++ (h.next.state.batches, h.text) ∷ [] =
            own ∙ (λ i. t.answered i ++ (sym h.counted i, answer i) ∷ []) in
            record {
              front = l.front;
              rest = l.rest;
              are = l.are;
              state = state_behind (By l.front).c ((By l.front).later ++ batch ∷ []);
              prints = inr (
                h.here,
                h.next,
                h.turn,
                h.more,
                h.printed,
                h.text,
                h.rest_is,
                h.goes,
                h.runs,
                as_read left (By l.front).c ((By l.front).later ++ batch ∷ []) (Answers l.front ++ (h.next.state.batches, h.text) ∷ []) h.reads t.under all
                    found reopens,
              );
            }
