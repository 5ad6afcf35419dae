-- The loop that drains what waits, over a store.
use Rattle.std.proofs.Common.{◌≡◌, ◌∙◌, sym, ap, subst, refl, ℕ, ◌+◌, ◌-◌, ◌<◌, ◌≤◌, ◌==◌, true, false, List, [], ◌∷◌, length, replicate, Option, Some, None, IsSomeAnd, inl, inr, arith}
use Rattle.std.specs.Prelude.{Result}
use Rattle.std.specs.Io.KnownBytes.{Appends}
use Rattle.std.proofs.KnownBytes.{Appends-nil}
use Rattle.aria_base.specs.Faults.{Rose}
use Rattle.aria_base.specs.declared.calls.Call.{Call}
use Rattle.aria_store.specs.Stands.{Kept}
use Rattle.batch_core.specs.Steps.{State}
use Rattle.disk_model.specs.Histories.{History, LeavesAll}
use Rattle.disk_model.proofs.Spans.{leaves_more}
use Rattle.proc_lang.specs.Catalogs.{Plan}
use Rattle.script_course.specs.Causes.{IsCause}
use Rattle.script_course.specs.Courses.{Course, Goes, Stops}
use Rattle.script_course.specs.Served.{IsGoing, IsStopped, Serves}
use Rattle.script_course.specs.declared.stops.Stop.{Stop}
use Rattle.script_course.specs.declared.stops.Stop.TheVariants as stop
use Rattle.serving.specs.Drains.{drained, drains, no_calls, one_drained}
use Rattle.serving.specs.Lives.{IsLike, IsRunnable, handed_at, plan_of, state_of}
use Rattle.serving.specs.Stored.{batch_of, stored_state}
use Rattle.serving.specs.declared.lives.Live.{Live}
use Rattle.store_openings.specs.Saved.{Saved}
use Rattle.run_commands.specs.Endings.{HoldsLive, IsEnd, drains_of}
use Rattle.run_commands.specs.Keeps.{Keeps, LeavesLaid}
use Rattle.run_commands.specs.Onces.{Doing, handed_in}
use Rattle.run_commands.specs.Passes.{Drain, PassesTurns, Turn, as_doing, held_behind, held_by_step, held_over, held_then, on_drain, on_turn, over}
use Rattle.run_commands.specs.Saves.{IsLeft, saved_behind, saved_more, saved_then}
use Rattle.run_commands.proofs.Drained.{fuel}
use Rattle.run_commands.proofs.Endings.{drain_is, held_after, holds_laid, holds_leave, none_held, none_saved, ran_then}
use Rattle.run_commands.proofs.Kept.{keeps_cut, keeps_none, keeps_on}
use Rattle.run_commands.proofs.Turns.{held_one, left_both, left_more, onward_none}

-- ---- faults

rose_on : (a b c : ℕ) → a ≤ b → Rose b c → Rose a c
rose_on a b c le (inl less) = inl (omega (arith, le, less))
rose_on a b c le (inr last) = inr last

disk_on : (start now : Option Kept) (a b c : ℕ) → (start ≡ None → now ≡ None) → a ≤ b → IsSomeAnd now (λ _. Rose b c) → IsSomeAnd start (λ _. Rose a c)
disk_on None now a b c none le h = absurd (subst (λ (s : Option Kept). IsSomeAnd s (λ _. Rose b c)) (none refl) h)
disk_on (Some store) None a b c none le h = absurd h
disk_on (Some store) (Some now) a b c none le h = rose_on a b c le h

-- a fault of a later call is one of all
pub cause_on : (start now : Option Kept) (why : Stop) (sa sb sc da db dc : ℕ) → (start ≡ None → now ≡ None) → sa ≤ sb → da ≤ db
    → IsCause why (Rose sb sc) (IsSomeAnd now (λ _. Rose db dc))
    → IsCause why (Rose sa sc) (IsSomeAnd start (λ _. Rose da dc))
cause_on start now stop.Refused sa sb sc da db dc none s d h = tt
cause_on start now stop.NoMemory sa sb sc da db dc none s d h = tt
cause_on start now stop.NoWrite sa sb sc da db dc none s d h = rose_on sa sb sc s h
cause_on start now stop.NoDisk sa sb sc da db dc none s d h = disk_on start now da db dc none d h
cause_on start now stop.NoRead sa sb sc da db dc none s d h = absurd h

-- ---- the first turn of those that are left

pub going_is : (c : Course State) (next : State) (ga gb : Option (List ℕ)) → IsGoing next c ga gb
    → (bytes : List ℕ) × ((c ≡ Goes bytes next) × Appends ga gb bytes)
going_is (Goes bytes s) next ga gb h = (bytes, (ap (λ (q : State). Goes bytes q) (sym h.0), h.1))
going_is (Stops bytes) next ga gb h = absurd h

stopped_is : (c : Course State) (ga gb : Option (List ℕ)) → IsStopped c ga gb → (bytes : List ℕ) × (c ≡ Stops bytes)
stopped_is (Goes bytes s) ga gb h = absurd h
stopped_is (Stops bytes) ga gb h = (bytes, refl)

module _ (start live : Live) (line n i : ℕ) (d : Doing) (end : IsEnd (plan_of start) start.each line (state_of start) d) (like : IsLike start live) where
  abbrev Here : Doing
  Here = record d { state = state_of live }

  pub here_end : IsEnd (plan_of live) live.each line (state_of live) Here
  here_end = record {
    plan_is = end.plan_is ∙ sym like.plan;
    each_is = end.each_is ∙ sym like.each;
    line_is = end.line_is;
    state_is = refl;
    calls_none =
        end.calls_none;
  }

  -- nothing more is done
  pub keeps_here : (first : ℕ) (saved : Saved) (steps : List Turn) (disk : History) (g : Option (List ℕ)) → HoldsLive first saved disk live
      → Keeps (PassesTurns steps Here (stored_state live)) (plan_of start) disk disk g g
  keeps_here first saved steps disk g h =
      subst (λ (p : Plan). Keeps (PassesTurns steps Here (stored_state live)) p disk disk g g) like.plan
      (keeps_none on_turn held_then (plan_of live) steps Here (stored_state live) disk g (Appends-nil g)
      (holds_leave first saved live.checkpoint disk (plan_of live) (stored_state live) live.store h))

  pub none_left : (length (state_of live).waiting == 0) ≡ true → held_behind (replicate (n - i) Drain) Here (stored_state live) ≡ stored_state live
  none_left none = none_held (n - i) Here (stored_state live) none

  pub saved_left : (saved : Saved) → (length (state_of live).waiting == 0) ≡ true → saved_behind start.checkpoint (replicate (n - i) Drain) Here saved ≡ saved
  saved_left saved none = none_saved start.checkpoint (n - i) Here saved none

  module _ (within : i < n) (some : (length (state_of live).waiting == 0) ≡ false) where
    abbrev Rest : List Turn
    Rest = replicate (n - (i + 1)) Drain

    turns_next : replicate (n - i) Drain ≡ Drain ∷ Rest
    turns_next = ap (λ (m : ℕ). replicate m Drain) (fuel n i within)

    drain_here : on_drain Here ≡ as_doing Here (one_drained (plan_of live) live.each line (state_of live))
    drain_here = drain_is (plan_of live) live.each line (state_of live) Here here_end some

    module _ (next : Live) (ga gb : Option (List ℕ)) (counted : (state_of next).batches ≡ (state_of live).batches + 1)
        (told : stored_state next ≡ state_of next)
        (serves : IsGoing (state_of next) (one_drained (plan_of live) live.each line (state_of live)) ga gb) where
      abbrev Next : Doing
      Next = record d { state = state_of next }

      abbrev Printed : List ℕ
      Printed = (going_is (one_drained (plan_of live) live.each line (state_of live)) (state_of next) ga gb serves).0

      next_is : on_drain Here ≡ Goes Printed Next
      next_is = drain_here ∙ ap (λ (c : Course State). as_doing Here c)
          (going_is (one_drained (plan_of live) live.each line (state_of live)) (state_of next) ga gb serves).1.0

      next_held : held_then (stored_state live) Here Next ≡ stored_state next
      next_held = held_after (stored_state live) Here Next counted ∙ sym told

      -- what stands behind the batch
      abbrev One : Saved → Saved
      One saved = saved_more live.checkpoint saved (batch_of (no_calls (state_of live))) (state_of next)

      next_saved : (saved : Saved) → saved_then start.checkpoint saved Here Next ≡ One saved
      next_saved saved =
          ran_then saved (saved_more start.checkpoint saved (batch_of (handed_in Here)) (state_of next)) Here Next counted
          ∙ ap (λ (l : List Call). saved_more start.checkpoint saved (batch_of (handed_at (state_of live) l)) (state_of next)) end.calls_none
          ∙ ap (λ (k : ℕ). saved_more k saved (batch_of (no_calls (state_of live))) (state_of next)) (sym like.checkpoint)

      -- what is held behind all is held behind those that are left
      over_next : {H : Type 0} (held_by : H → Doing → Doing → H) (held : H) → held_over on_turn held_by Rest Next (held_by held Here Next)
          ≡ held_over on_turn held_by (replicate (n - i) Drain) Here held
      over_next held_by held =
          ap (λ (c : Course Doing). held_by_step on_turn held_by Here held (held_over on_turn held_by Rest) c) (sym next_is)
          ∙ ap (λ (steps : List Turn). held_over on_turn held_by steps Here held) (sym turns_next)

      pub saved_next : (saved : Saved) → saved_behind start.checkpoint Rest Next (One saved)
          ≡ saved_behind start.checkpoint (replicate (n - i) Drain) Here saved
      saved_next saved = ap (λ (x : Saved). saved_behind start.checkpoint Rest Next x) (sym (next_saved saved)) ∙ over_next (saved_then start.checkpoint) saved

      pub held_next : held_behind Rest Next (stored_state next) ≡ held_behind (replicate (n - i) Drain) Here (stored_state live)
      held_next =
          ap (λ (s : State). held_behind Rest Next s) (sym next_held) ∙ over_next held_then (stored_state live)

      pub keeps_next : (a b c : History) (gc : Option (List ℕ)) → Keeps (PassesTurns (Drain ∷ []) Here (stored_state live)) (plan_of live) a b ga gb
          → Keeps (PassesTurns Rest Next (stored_state next)) (plan_of start) b c gb gc
          → Keeps (PassesTurns (replicate (n - i) Drain) Here (stored_state live)) (plan_of start) a c ga gc
      keeps_next a b c gc k l =
          subst (λ (steps : List Turn). Keeps (PassesTurns steps Here (stored_state live)) (plan_of start) a c ga gc) (sym turns_next)
          (keeps_on on_turn held_then (plan_of start) Drain Rest Here Next (stored_state live) Printed a b c ga gb gc next_is
          (going_is (one_drained (plan_of live) live.each line (state_of live)) (state_of next) ga gb serves).1.1
          (subst (λ (p : Plan). Keeps (PassesTurns (Drain ∷ []) Here (stored_state live)) p a b ga gb) like.plan k)
          (subst (λ (s : State). Keeps (PassesTurns Rest Next s) (plan_of start) b c gb gc) (sym next_held) l))

    -- one that was cut off
    pub keeps_stop : (a b : History) (ga gb : Option (List ℕ)) → Keeps (PassesTurns (Drain ∷ []) Here (stored_state live)) (plan_of live) a b ga gb
        → Keeps (PassesTurns (replicate (n - i) Drain) Here (stored_state live)) (plan_of start) a b ga gb
    keeps_stop a b ga gb k =
        subst (λ (steps : List Turn). Keeps (PassesTurns steps Here (stored_state live)) (plan_of start) a b ga gb) (sym turns_next)
        (keeps_cut on_turn held_then (plan_of start) Drain Rest Here (stored_state live) a b ga gb
        (subst (λ (p : Plan). Keeps (PassesTurns (Drain ∷ []) Here (stored_state live)) p a b ga gb) like.plan k))

    -- one that was refused
    pub over_refused : {H : Type 0} (held_by : H → Doing → Doing → H) (held : H) (ga gb : Option (List ℕ))
        → IsStopped (one_drained (plan_of live) live.each line (state_of live)) ga gb
        → held_over on_turn held_by (replicate (n - i) Drain) Here held ≡ held
    over_refused held_by held ga gb h =
        let stops = stopped_is (one_drained (plan_of live) live.each line (state_of live)) ga gb h in
        let is : on_drain Here ≡ Stops stops.0 = drain_here ∙ ap (λ (c : Course State). as_doing Here c) stops.1 in
        ap (λ (steps : List Turn). held_over on_turn held_by steps Here held) turns_next
        ∙ ap (λ (c : Course Doing). held_by_step on_turn held_by Here held (held_over on_turn held_by Rest) c) is

    -- what is left of it and of those behind it
    pub left_next : (next : Live) (ga gb : Option (List ℕ)) (counted : (state_of next).batches ≡ (state_of live).batches + 1)
        (told : stored_state next ≡ state_of next)
        (serves : IsGoing (state_of next) (one_drained (plan_of live) live.each line (state_of live)) ga gb) (here : Saved) (a b c : History)
        → LeavesAll a b (IsLeft live.checkpoint (Drain ∷ []) Here here)
        → LeavesAll b c (IsLeft start.checkpoint Rest (record d { state = state_of next })
        (saved_more live.checkpoint here (batch_of (no_calls (state_of live))) (state_of next)))
        → LeavesAll a c (IsLeft start.checkpoint (replicate (n - i) Drain) Here here)
    left_next next ga gb counted told serves here a b c first second =
        let went = going_is (one_drained (plan_of live) live.each line (state_of live)) (state_of next) ga gb serves in
        let is : over on_turn (Drain ∷ []) Here ≡ Goes went.0 (record d { state = state_of next }) =
        onward_none on_turn (on_drain Here) ∙ next_is next ga gb counted told serves in
        let behind : saved_behind start.checkpoint (Drain ∷ []) Here here
        ≡ saved_more live.checkpoint here (batch_of (no_calls (state_of live))) (state_of next) =
        held_one on_turn (saved_then start.checkpoint) Drain Here (record d { state = state_of next }) here went.0 (next_is next ga gb counted told serves)
        ∙ next_saved next ga gb counted told serves here in
        subst (λ (steps : List Turn). LeavesAll a c (IsLeft start.checkpoint steps Here here)) (sym turns_next)
        (left_both start.checkpoint (Drain ∷ []) Rest Here (record d { state = state_of next }) here went.0 is a b c
        (subst (λ (k : ℕ). LeavesAll a b (IsLeft k (Drain ∷ []) Here here)) like.checkpoint first)
        (subst (λ (s : Saved). LeavesAll b c (IsLeft start.checkpoint Rest (record d { state = state_of next }) s)) (sym behind) second))

    -- of one that was cut off, whatever follows
    pub left_stop : (here : Saved) (a b : History) → LeavesAll a b (IsLeft live.checkpoint (Drain ∷ []) Here here)
        → LeavesAll a b (IsLeft start.checkpoint (replicate (n - i) Drain) Here here)
    left_stop here a b first =
        subst (λ (steps : List Turn). LeavesAll a b (IsLeft start.checkpoint steps Here here)) (sym turns_next)
        (leaves_more a b (IsLeft start.checkpoint (Drain ∷ []) Here here) (IsLeft start.checkpoint (Drain ∷ Rest) Here here)
        (subst (λ (k : ℕ). LeavesAll a b (IsLeft k (Drain ∷ []) Here here)) like.checkpoint first)
        (left_more start.checkpoint (Drain ∷ []) Rest Here here))

-- ---- before the first turn

pub like_self : (live : Live) → IsRunnable live → IsLike live live
like_self live runnable = record { plan = refl; config = refl; each = refl; checkpoint = refl; count = refl; runnable = runnable }

less_none : (n : ℕ) → n - 0 ≡ n
less_none n = omega arith

pub leads_init : (start : Live) (line : ℕ) (now new : Option (List ℕ)) (result : Result State Stop)
    → Serves (drained (plan_of start) start.each line (length (state_of start).waiting - 0) (state_of start)) now new result
    → Serves (drains (plan_of start) start.each line (state_of start)) now new result
leads_init start line now new result h =
    subst (λ (m : ℕ). Serves (drained (plan_of start) start.each line m (state_of start)) now new result) (less_none (length (state_of start).waiting)) h

module _ (start : Live) (line : ℕ) (d : Doing) (end : IsEnd (plan_of start) start.each line (state_of start) d) where
  doing_init : record d { state = state_of start } ≡ d
  doing_init = ap (λ (s : State). record d { state = s }) (sym end.state_is)

  pub over_init : {H : Type 0} (held_by : H → Doing → Doing → H) (held : H)
      → held_over on_turn held_by (replicate (length (state_of start).waiting - 0) Drain) (record d { state = state_of start }) held
      ≡ held_over on_turn held_by (drains_of (state_of start)) d held
  over_init held_by held =
      ap (λ (m : ℕ). held_over on_turn held_by (replicate m Drain) (record d { state = state_of start }) held) (less_none (length (state_of start).waiting))
      ∙ ap (λ (x : Doing). held_over on_turn held_by (drains_of (state_of start)) x held) doing_init

  pub left_init : (saved : Saved) (a b : History)
      → LeavesAll a b (IsLeft start.checkpoint (replicate (length (state_of start).waiting - 0) Drain) (record d { state = state_of start }) saved)
      → LeavesAll a b (IsLeft start.checkpoint (drains_of (state_of start)) d saved)
  left_init saved a b h =
      subst (λ (x : Doing). LeavesAll a b (IsLeft start.checkpoint (drains_of (state_of start)) x saved)) doing_init
      (subst (λ (m : ℕ). LeavesAll a b (IsLeft start.checkpoint (replicate m Drain) (record d { state = state_of start }) saved))
      (less_none (length (state_of start).waiting)) h)

  pub keeps_init : (a b : History) (ga gb : Option (List ℕ))
      → Keeps (PassesTurns (replicate (length (state_of start).waiting - 0) Drain) (record d { state = state_of start }) (stored_state start))
      (plan_of start) a b ga gb
      → Keeps (PassesTurns (drains_of (state_of start)) d (stored_state start)) (plan_of start) a b ga gb
  keeps_init a b ga gb k =
      subst (λ (x : Doing). Keeps (PassesTurns (drains_of (state_of start)) x (stored_state start)) (plan_of start) a b ga gb) doing_init
      (subst (λ (m : ℕ). Keeps (PassesTurns (replicate m Drain) (record d { state = state_of start }) (stored_state start)) (plan_of start) a b ga gb)
      (less_none (length (state_of start).waiting)) k)

-- ---- what a disk holds of a database that stands further on

pub laid_here : (first : ℕ) (saved : Saved) (start live : Live) (disk : History) → IsLike start live → HoldsLive first saved disk live
    → LeavesLaid first saved start.checkpoint disk (plan_of start) (stored_state live)
laid_here first saved start live disk like h =
    subst (λ (n : ℕ). LeavesLaid first saved n disk (plan_of start) (stored_state live)) like.checkpoint
    (subst (λ (p : Plan). LeavesLaid first saved live.checkpoint disk p (stored_state live)) like.plan
    (holds_laid first saved live.checkpoint disk (plan_of live) (stored_state live) live.store h))
