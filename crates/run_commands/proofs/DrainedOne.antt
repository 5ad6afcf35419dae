-- One batch without new calls, as a part of a script.
use Rattle.std.proofs.Common.{◌≡◌, ◌≢◌, ◌∙◌, inl, inr, sym, ap, subst, refl, ℕ, ◌+◌, ◌<◌, ◌==◌, Bool, false, List, [], ◌∷◌, length, Option, Some, None, option_map, arith}
use Rattle.std.specs.Prelude.{Err}
use Rattle.aria_base.specs.declared.calls.Call.{Call}
use Rattle.aria_base.specs.declared.limits.TheConstants.{GREATEST_NUMBER}
use Rattle.aria_store.specs.Stands.{Kept, added}
use Rattle.batch_core.specs.Steps.{State, Handed}
use Rattle.disk_model.specs.Histories.{History, LeavesAll, MayLeave}
use Rattle.disk_model.proofs.Spans.{leaves_more}
use Rattle.image_text.specs.Payloads.{Batch}
use Rattle.script_course.specs.Courses.{Course}
use Rattle.script_course.specs.Served.{IsGoing, Serves}
use Rattle.script_course.specs.declared.stops.Stop.{Stop}
use Rattle.script_course.specs.declared.stops.Stop.TheVariants as stop
use Rattle.serving.specs.Drains.{no_calls, one_drained}
use Rattle.serving.specs.Deliveries.{IfTold, IsAnswered, Tells}
use Rattle.serving.proofs.Storing.{by_state, way_states}
use Rattle.serving.specs.Lives.{IsLike, IsNext, handed_at, next_state, next_text, plan_of, state_of}
use Rattle.serving.specs.Stored.{Holds, HoldsTurned, LeavesState, ReopensBy, ReopensOnWay, ReopensToEither, batch_of, next_batch, next_due, next_store, stored_state, turned_by, with_logged}
use Rattle.serving.specs.declared.batches.Delivery.{Delivery}
use Rattle.serving.specs.declared.batches.Delivery.TheVariants as delivery
use Rattle.serving.specs.declared.lives.Live.{Live}
use Rattle.slot_images.specs.Images.{Checkpoint}
use Rattle.store_openings.specs.Saved.{Saved}
use Rattle.run_commands.specs.Endings.{HoldsLive, IsEnd}
use Rattle.run_commands.specs.Keeps.{Keeps}
use Rattle.run_commands.specs.Onces.{Doing, handed_in}
use Rattle.run_commands.specs.Passes.{Drain, PassesTurns}
use Rattle.run_commands.specs.Saves.{IsLeft, saved_more}
use Rattle.run_commands.specs.Stops.{IsStopFor}
use Rattle.run_commands.proofs.Drained.{handed_none, one_is}
use Rattle.run_commands.proofs.Endings.{drain_cut, drain_goes, drain_told}
use Rattle.run_commands.proofs.Lefts.{batch_left}
use Rattle.run_commands.proofs.Told.{cut_front, cut_serves, if_told, told_all, told_is}
use Rattle.run_commands.proofs.Turned.{told_next, turned_next, turned_on}

-- something waits
pub some_waits : (n : ℕ) → 0 < n → (n == 0) ≡ false
some_waits n some = grind (arith, some)

-- a batch that was not told is not refused
pub not_refused : (why : Delivery) (s : Stop) → IsStopFor why s → s ≢ stop.Refused
not_refused delivery.Told s k = absurd k
not_refused delivery.NoMemory s k = λ e. absurd (let no : stop.NoMemory ≡ stop.Refused = sym k ∙ e in cc)
not_refused delivery.NoWrite s k = λ e. absurd (let no : stop.NoWrite ≡ stop.Refused = sym k ∙ e in cc)
not_refused delivery.NoDisk s k = λ e. absurd (let no : stop.NoDisk ≡ stop.Refused = sym k ∙ e in cc)

module _ (live : Live) (calls : List Call) (none : calls ≡ []) (line : ℕ) (below : (state_of live).batches < GREATEST_NUMBER) (ga gb : Option (List ℕ))
    (r : Option Live × Delivery)
    (tells : Tells (next_text live calls) (IsNext live calls) ga gb r) where
  pub one_told : (next : Live) → r.0 ≡ Some next → IsGoing (state_of next) (one_drained (plan_of live) live.each line (state_of live)) ga gb
  one_told next e =
      let told = told_all (next_text live calls) (IsNext live calls) ga gb r next e tells in
      subst (λ (c : Course State). IsGoing (state_of next) c ga gb) (sym (one_is live calls none line below)) (told.1.state, told.0)

  pub one_cut : (s : Stop) → r.0 ≡ None → IsStopFor r.1 s → Serves {R = State} (one_drained (plan_of live) live.each line (state_of live)) ga gb (Err s)
  one_cut s e k =
      subst (λ (c : Course State). Serves {R = State} c ga gb (Err s)) (sym (one_is live calls none line below))
      (cut_serves (next_text live calls) (IsNext live calls) ga gb (next_state live calls) r s e tells k)

  -- ---- the database that goes on

  module _ (next : Live) (e : r.0 ≡ Some next) where
    pub next_here : IsNext live calls next
    next_here = (told_all (next_text live calls) (IsNext live calls) ga gb r next e tells).1

    pub told_here : (P : Live → Type 0) → IfTold r P → P next
    told_here P p = if_told (next_text live calls) (IsNext live calls) ga gb P r next e tells p

    pub like_next : IsLike live next
    like_next = record {
      plan = next_here.plan;
      config = next_here.config;
      each = next_here.each;
      checkpoint = next_here.checkpoint;
      count = next_here.count;
      runnable = next_here.runnable;
    }

    pub counted_next : (state_of next).batches ≡ (state_of live).batches + 1
    counted_next = ap (λ (s : State). s.batches) next_here.state

    module _ (kept : IfTold r (λ (n : Live). n.store ≡ next_store live calls)) where
      store_is : next.store ≡ next_store live calls
      store_is = told_here (λ (n : Live). n.store ≡ next_store live calls) kept

      pub stored_next : stored_state next ≡ state_of next
      stored_next = told_next live next calls next_here store_is ∙ sym next_here.state

      pub none_next : live.store ≡ None → next.store ≡ None
      none_next off =
          store_is ∙ ap (λ (s : Option Kept). turned_by (next_due live calls) (next_state live calls)
          (option_map (with_logged (plan_of live) (next_batch live calls)) s)) off

      -- what stands behind the batch
      saved_one : (saved : Saved) → saved_more live.checkpoint saved (next_batch live calls) (next_state live calls)
          ≡ saved_more live.checkpoint saved (batch_of (no_calls (state_of live))) (state_of next)
      saved_one saved =
          ap (λ (h : Handed). saved_more live.checkpoint saved (batch_of h) (next_state live calls)) (handed_none live calls none)
          ∙ ap (λ (s : State). saved_more live.checkpoint saved (batch_of (no_calls (state_of live))) s) (sym next_here.state)

      pub holds_next : (first : ℕ) (saved : Saved) (old new : History)
          → IfTold r (λ (n : Live). (c : Checkpoint) (later : List Batch) → Holds old (plan_of live) (stored_state live) live.store c later
          → HoldsTurned (next_due live calls) new (plan_of live) (next_state live calls) n.store c (added later live.config.rule live.config.fallback calls))
          → HoldsLive first saved old live
          → HoldsLive first (saved_more live.checkpoint saved (batch_of (no_calls (state_of live))) (state_of next)) new next
      holds_next first saved old new turns h =
          subst (λ (x : Saved). HoldsLive first x new next) (saved_one saved)
          (turned_next first (saved_more live.checkpoint saved (next_batch live calls) (next_state live calls)) live next calls new next_here store_is
          (turned_on first saved live calls old new next.store store_is h
          (told_here (λ (n : Live). (c : Checkpoint) (later : List Batch) → Holds old (plan_of live) (stored_state live) live.store c later
          → HoldsTurned (next_due live calls) new (plan_of live) (next_state live calls) n.store c (added later live.config.rule live.config.fallback calls))
          turns)))

  -- ---- what is kept

  -- what is left, as states
  module _ (due : Bool) (c : Checkpoint) (later more : List Batch) where
    pub as_either : (a b : History) → LeavesAll a b (ReopensOnWay due c later more (plan_of live) (stored_state live) (next_state live calls))
        → LeavesAll a b (ReopensToEither (plan_of live) (stored_state live) (next_state live calls))
    as_either a b all =
        leaves_more a b (ReopensOnWay due c later more (plan_of live) (stored_state live) (next_state live calls))
        (ReopensToEither (plan_of live) (stored_state live) (next_state live calls)) all
        (way_states due c later more (plan_of live) (stored_state live) (next_state live calls))

    pub as_after : (answered : Type 0) (b : History)
        → (answered → (images : ℕ → List ℕ) → MayLeave b b.now images → ReopensBy due c more (plan_of live) (next_state live calls) images)
        → answered → LeavesState b (plan_of live) (next_state live calls)
    as_after answered b given told images left = by_state due c more (plan_of live) (next_state live calls) images (given told images left)

  pub drain_left : (some : (length (state_of live).waiting == 0) ≡ false) (first : ℕ) (saved : Saved) (d : Doing)
      → IsEnd (plan_of live) live.each line (state_of live) d → (a b : History) → HoldsLive first saved a live
      → LeavesAll a b (ReopensOnWay (next_due live calls) saved.c saved.later (added saved.later live.config.rule live.config.fallback calls)
      (plan_of live) (stored_state live) (next_state live calls))
      → LeavesAll a b (IsLeft live.checkpoint (Drain ∷ []) d saved)
  drain_left some first saved d end a b h all =
      let is = drain_goes (plan_of live) live.each line (state_of live) d end some (stored_state live) (next_state live calls) (next_text live calls)
      (one_is live calls none line below) refl a b ga gb in
      let batch : next_batch live calls ≡ batch_of (handed_in d) =
      ap batch_of (handed_none live calls none) ∙ (λ i. batch_of (handed_at (sym end.state_is i) (sym end.calls_none i))) in
      batch_left live calls Drain d (record d { state = next_state live calls }) (next_text live calls) is refl
      (ap (λ (s : State). s.batches + 1) (sym end.state_is)) batch a saved h.stands b all

  module _ (some : (length (state_of live).waiting == 0) ≡ false) (d : Doing) (end : IsEnd (plan_of live) live.each line (state_of live) d) (a b : History)
      (all : LeavesAll a b (ReopensToEither (plan_of live) (stored_state live) (next_state live calls)))
      (given : IsAnswered ga gb r.1 → LeavesState b (plan_of live) (next_state live calls)) where
    pub keeps_told : (next : Live) → r.0 ≡ Some next → Keeps (PassesTurns (Drain ∷ []) d (stored_state live)) (plan_of live) a b ga gb
    keeps_told next e =
        let whole = (told_all (next_text live calls) (IsNext live calls) ga gb r next e tells).0 in
        drain_told (plan_of live) live.each line (state_of live) d end some (stored_state live) (next_state live calls) (next_text live calls)
        (one_is live calls none line below) refl a b ga gb
        whole all (given (inl (told_is (next_text live calls) (IsNext live calls) ga gb r next e tells)))

    pub keeps_cut : r.0 ≡ None → Keeps (PassesTurns (Drain ∷ []) d (stored_state live)) (plan_of live) a b ga gb
    keeps_cut e =
        drain_cut (plan_of live) live.each line (state_of live) d end some (stored_state live) (next_state live calls) (next_text live calls)
        (one_is live calls none line below) refl a b ga gb
        (cut_front (next_text live calls) (IsNext live calls) ga gb r e tells) all (λ other. given (inr other))
