-- A line over a store: what the script that goes on holds behind it.
use Rattle.std.proofs.Common.{◌≡◌, ◌≢◌, ◌∙◌, sym, ap, subst, refl, ℕ, ◌+◌, false, List, [], ◌∷◌, Option, Some, None, IfSome}
use Rattle.std.specs.Prelude.{Result, Ok, Err, IfOk}
use Rattle.aria_base.specs.declared.calls.Call.{Call}
use Rattle.aria_store.specs.Stands.{Kept, added}
use Rattle.batch_core.specs.Steps.{State}
use Rattle.batch_rules.specs.declared.verdicts.Rule.{Rule}
use Rattle.disk_model.specs.Histories.{History, LeavesAll}
use Rattle.image_text.specs.Payloads.{Batch}
use Rattle.proc_lang.specs.Catalogs.{Plan}
use Rattle.script_course.specs.Courses.{Goes, Stops}
use Rattle.script_course.specs.Served.{Serves}
use Rattle.script_course.specs.declared.stops.Stop.{Stop}
use Rattle.script_places.proofs.Allowed.{follows}
use Rattle.script_places.specs.Follows.{HeadStays}
use Rattle.script_places.specs.Places.{asked, plan_in}
use Rattle.script_places.specs.declared.deeds.Deed.{Deed}
use Rattle.script_places.specs.declared.deeds.Deed.TheVariants as deed
use Rattle.script_places.specs.declared.heads.ScriptCatalog.{ScriptCatalog}
use Rattle.script_places.specs.declared.heads.ScriptCatalog.TheVariants as head
use Rattle.script_places.specs.declared.places.Counts.{Counts}
use Rattle.script_places.specs.declared.places.ScriptPlace.{ScriptPlace}
use Rattle.serving.proofs.Nexts.{handed_is}
use Rattle.serving.specs.Lives.{IsNext, handed_at, next_state, plan_of}
use Rattle.serving.specs.Stored.{HasLines, Holds, HoldsTurned, ReopensOnWay, batch_of, next_batch, next_due, next_store, stored_state, told_by}
use Rattle.serving.specs.declared.lives.Live.{Live}
use Rattle.slot_images.specs.Images.{Checkpoint}
use Rattle.store_openings.specs.Saved.{Saved}
use Rattle.run_commands.specs.Bases.{IsBegun, IsHead, checkpoint_in, counts_of, state_in, store_in}
use Rattle.run_commands.specs.Keeps.{HoldsState, IsOpen, Keeps, held_of}
use Rattle.run_commands.specs.Onces.{Doing, Running, behind_batch, doing_result, done, handed_in, text_of, on_line, with_call, with_settings, without_calls}
use Rattle.run_commands.specs.Passes.{Line, PassesTurns, held_then, on_turn}
use Rattle.run_commands.specs.Saves.{IsLeft, saved_more, saved_then}
use Rattle.run_commands.specs.Standing.{IsOf, MayDo, Stands, doing_of, running_of, runs_batch}
use Rattle.run_commands.specs.Turns.{HoldsScript, KeepsTurns, Stays}
use Rattle.run_commands.specs.declared.bases.Base.{Base}
use Rattle.run_commands.specs.declared.bases.Base.TheVariants as base
use Rattle.run_commands.specs.declared.works.Work.{Work}
use Rattle.run_commands.proofs.Asked.{line_is}
use Rattle.run_commands.proofs.Deeds.{state_is}
use Rattle.run_commands.proofs.Lefts.{batch_left}
use Rattle.run_commands.proofs.Endings.{held_after, ran_then, still_then}
use Rattle.run_commands.proofs.Ran.{held_is}
use Rattle.run_commands.proofs.Stepped.{quiet_count}
use Rattle.run_commands.proofs.Turned.{told_next, turned_next, turned_on}
use Rattle.run_commands.proofs.Turns.{goes_to, held_one, not_both, stop_in, stops_to}

-- ---- only with a store something is held

store_some : (first : ℕ) (saved : Saved) (checkpoint : ℕ) (disk : History) (plan : Plan) (state : State) (store : Option Kept)
    → HoldsState first saved checkpoint disk plan state store → store ≢ None
store_some first saved checkpoint disk plan state None h = absurd h.stands.holds
store_some first saved checkpoint disk plan state (Some store) h = λ e. absurd cc

-- settings alone are in no store
told_set : (store : Option Kept) (state : State) (rule : Rule) (percent : ℕ) → store ≢ None
    → told_by store (record state { rule = rule; percent = percent }) ≡ told_by store state
told_set None state rule percent some = absurd (some refl)
told_set (Some store) state rule percent some = refl

-- rows come before the first batch, and so without a store
head_none : (b : Base) → IsHead b → store_in b ≡ None
head_none (base.Rows tables config) h = refl
head_none (base.Runs live) h = absurd h

-- ---- a line that runs no batch

module _ (place : ScriptPlace) (work : Work) (ga gb : Option (List ℕ)) where
  abbrev Store : Option Kept
  Store = store_in work.base

  abbrev Here : Running
  Here = running_of place work

  -- the catalogue stays, and what is held
  abbrev IsQuiet : Running → Type 0
  IsQuiet next = (plan_in next.doing.place.head ≡ plan_in place.head) × (held_of next ≡ held_of Here)

  quiet_as : (e : Doing) (next : Running) → next.doing ≡ e → next.store ≡ Store → plan_in e.place.head ≡ plan_in place.head
      → told_by Store e.state ≡ held_of Here → IsQuiet next
  quiet_as e next same kept plan held = (
    ap (λ (d : Doing). plan_in d.place.head) same ∙ plan,
    ap (λ (k : Option Kept). told_by k next.doing.state) kept ∙ ap (λ (d : Doing). told_by Store d.state) same ∙ held,
  )

  quiet_next : (asks : Deed) → runs_batch asks ≡ false → MayDo place work asks → Store ≢ None → (next : Running) → next.store ≡ Store
      → Serves (done Here.doing asks) ga gb (Ok next.doing) → IsQuiet next
  quiet_next deed.Run q may some next kept h = absurd cc
  quiet_next deed.Nothing q may some next kept h = quiet_as Here.doing next h.0 kept refl refl
  quiet_next deed.Tell q may some next kept h = quiet_as Here.doing next h.0 kept refl refl
  quiet_next (deed.Put key row) q may some next kept h = absurd (some (head_none work.base may.before_all))
  quiet_next (deed.Call call) q may some next kept h = quiet_as (with_call Here.doing call) next h.0 kept refl refl
  quiet_next (deed.Set rule percent) q may some next kept h =
      quiet_as (with_settings Here.doing rule percent) next h.0 kept refl (told_set Store (state_in work.base) rule percent some)
  quiet_next (deed.Keep number) q may some next kept h = quiet_as (without_calls Here.doing) next h.0 kept refl refl

  module _ (first : ℕ) (saved : Saved) (disk : History) (h : HoldsScript first saved disk Here) (asks : Deed) (quiet : runs_batch asks ≡ false)
      (may : MayDo place work asks) where
    quiet_is : (next : Running) → next.store ≡ Store → Serves (done Here.doing asks) ga gb (Ok next.doing) → IsQuiet next
    quiet_is next kept serves = quiet_next asks quiet may (store_some first saved Here.checkpoint disk (plan_in place.head) (held_of Here) Store h)
        next kept serves

    stays_by : (next : Running) → IsQuiet next → next.store ≡ Store → next.checkpoint ≡ Here.checkpoint → Stays first saved disk Here next
    stays_by next q kept n = record {
      plan = q.0;
      checkpoint = n;
      holds = subst (λ (k : ℕ). HoldsState first saved k disk (plan_in next.doing.place.head) (held_of next) next.store) (sym n)
          (subst (λ (p : Plan). HoldsState first saved Here.checkpoint disk p (held_of next) next.store) (sym q.0)
          (subst (λ (s : State). HoldsState first saved Here.checkpoint disk (plan_in place.head) s next.store) (sym q.1)
          (subst (λ (k : Option Kept). HoldsState first saved Here.checkpoint disk (plan_in place.head) (held_of Here) k) (sym kept) h)));
    }

    module _ (before : Doing) (same : before.state ≡ state_in work.base) where
      count_is : (next : Running) → Serves (done Here.doing asks) ga gb (Ok next.doing) → next.doing.state.batches ≡ before.state.batches
      count_is next serves =
          let went = goes_to (done Here.doing asks) next.doing ga gb serves in
          quiet_count Here.doing asks quiet went.0 next.doing went.1 ∙ ap (λ (s : State). s.batches) (sym same)

      pub quiet_stays : (result : Result Running Stop) → IfOk result (λ next. next.store ≡ Store)
          → IfOk result (λ next. next.checkpoint ≡ checkpoint_in work.base)
          → Serves (done Here.doing asks) ga gb (doing_result result)
          → IfOk result (λ next. Stays first (saved_then Here.checkpoint saved before next.doing) disk Here next)
      quiet_stays (Ok next) kept n serves =
          subst (λ (s : Saved). Stays first s disk Here next)
          (sym (still_then saved (saved_more Here.checkpoint saved (batch_of (handed_in before)) next.doing.state) before next.doing (count_is next serves)))
          (stays_by next (quiet_is next kept serves) kept n)
      quiet_stays (Err why) kept n serves = tt

      pub quiet_held : (result : Result Running Stop) → IfOk result (λ next. next.store ≡ Store)
          → Serves (done Here.doing asks) ga gb (doing_result result) → IfOk result (λ next. held_of next ≡ held_then (held_of Here) before next.doing)
      quiet_held (Ok next) kept serves =
          (quiet_is next kept serves).1 ∙ sym (still_then (held_of Here) next.doing.state before next.doing (count_is next serves))
      quiet_held (Err why) kept serves = tt

-- ---- a batch

module _ (place : ScriptPlace) (work : Work) (live : Live) (begun : IsBegun place.head work.base work.each live) where
  abbrev Calls : List Call
  Calls = work.calls.items

  abbrev Script : Running
  Script = running_of place work

  begun_state : (first : ℕ) (saved : Saved) (disk : History) → HoldsScript first saved disk Script
      → HoldsState first saved live.checkpoint disk (plan_of live) (stored_state live) live.store
  begun_state first saved disk h =
      subst (λ (n : ℕ). HoldsState first saved n disk (plan_of live) (stored_state live) live.store) (sym begun.checkpoint)
      (subst (λ (p : Plan). HoldsState first saved Script.checkpoint disk p (stored_state live) live.store) (sym begun.plan)
      (subst (λ (s : State). HoldsState first saved Script.checkpoint disk (plan_in place.head) s live.store) (sym (held_is place work live begun))
      (subst (λ (k : Option Kept). HoldsState first saved Script.checkpoint disk (plan_in place.head) (held_of Script) k) (sym begun.store) h)))

  -- the batch that goes into the log is that of the script's open calls
  batch_is : (before : Doing) → before.state ≡ state_in work.base → before.calls ≡ Calls → next_batch live Calls ≡ batch_of (handed_in before)
  batch_is before same calls =
      ap batch_of (handed_is live Calls)
      ∙ ap (λ (s : State). batch_of (handed_at s Calls)) (begun.state ∙ sym same)
      ∙ ap (λ (l : List Call). batch_of (handed_at before.state l)) (sym calls)

  -- what a stop leaves of it
  pub ran_left : (first : ℕ) (saved : Saved) (old new : History) → HoldsScript first saved old Script
      → (before : Doing) (line : List ℕ) → before.state ≡ state_in work.base → before.calls ≡ Calls
      → on_line before line ≡ Goes (text_of Script.doing) (behind_batch Script.doing)
      → LeavesAll old new (ReopensOnWay (next_due live Calls) saved.c saved.later (added saved.later live.config.rule live.config.fallback Calls)
      (plan_of live) (stored_state live) (next_state live Calls))
      → LeavesAll old new (IsLeft Script.checkpoint (Line line ∷ []) before saved)
  ran_left first saved old new h before line same calls is all =
      let after = behind_batch Script.doing in
      let state : after.state ≡ next_state live Calls = sym (state_is place work live begun) in
      let counted : after.state.batches ≡ before.state.batches + 1 = ap (λ (s : State). s.batches + 1) (sym same) in
      subst (λ (k : ℕ). LeavesAll old new (IsLeft k (Line line ∷ []) before saved)) begun.checkpoint
      (batch_left live Calls (Line line) before after (text_of Script.doing) is state counted (batch_is before same calls) old saved
      (begun_state first saved old h).stands new all)

  module _ (next : Live) (is : IsNext live Calls next) (kept : next.store ≡ next_store live Calls) (n : Work) (b : n.base ≡ base.Runs next) where
    state_next : state_in n.base ≡ next_state live Calls
    state_next = ap state_in b ∙ is.state

    count_next : (before : Doing) → before.state ≡ state_in work.base → (doing_of place n).state.batches ≡ before.state.batches + 1
    count_next before same = ap (λ (s : State). s.batches) state_next ∙ ap (λ (s : State). s.batches + 1) (begun.state ∙ sym same)

    saved_next : (saved : Saved) (before : Doing) → before.state ≡ state_in work.base → before.calls ≡ Calls
        → saved_more live.checkpoint saved (next_batch live Calls) (next_state live Calls) ≡ saved_then Script.checkpoint saved before (doing_of place n)
    saved_next saved before same calls =
        ap (λ (k : ℕ). saved_more k saved (next_batch live Calls) (next_state live Calls)) begun.checkpoint
        ∙ ap (λ (x : Batch). saved_more Script.checkpoint saved x (next_state live Calls)) (batch_is before same calls)
        ∙ ap (λ (s : State). saved_more Script.checkpoint saved (batch_of (handed_in before)) s) (sym state_next)
        ∙ sym (ran_then saved (saved_more Script.checkpoint saved (batch_of (handed_in before)) (doing_of place n).state) before (doing_of place n)
        (count_next before same))

    pub ran_stays : (first : ℕ) (saved : Saved) (old new : History) → HoldsScript first saved old Script
        → ((c : Checkpoint) (later : List Batch) → Holds old (plan_of live) (stored_state live) live.store c later
        → HoldsTurned (next_due live Calls) new (plan_of live) (next_state live Calls) next.store c (added later live.config.rule live.config.fallback Calls))
        → (before : Doing) → before.state ≡ state_in work.base → before.calls ≡ Calls
        → Stays first (saved_then Script.checkpoint saved before (doing_of place n)) new Script (running_of place n)
    ran_stays first saved old new h turns before same calls =
        let after = saved_more live.checkpoint saved (next_batch live Calls) (next_state live Calls) in
        let held = turned_next first after live next Calls new is kept
        (turned_on first saved live Calls old new next.store kept (begun_state first saved old h) turns) in
        subst (λ (x : Saved). Stays first x new Script (running_of place n)) (saved_next saved before same calls) (record {
          plan = refl;
          checkpoint = ap checkpoint_in b ∙ is.checkpoint ∙ begun.checkpoint;
          holds = subst (λ (x : Base). HoldsState first after (checkpoint_in x) new (plan_in place.head) (told_by (store_in x) (state_in x)) (store_in x))
              (sym b)
              (subst (λ (p : Plan). HoldsState first after next.checkpoint new p (stored_state next) next.store) (is.plan ∙ begun.plan) held);
        })

    pub ran_held : (before : Doing) → before.state ≡ state_in work.base → held_of (running_of place n) ≡ held_then (held_of Script) before (doing_of place n)
    ran_held before same =
        ap (λ (x : Base). told_by (store_in x) (state_in x)) b
        ∙ told_next live next Calls is kept
        ∙ sym state_next
        ∙ sym (held_after (held_of Script) before (doing_of place n) (count_next before same))

-- ---- a line as a whole

-- the catalogue of a database that runs stays
head_plan : (h next : ScriptCatalog) (calls : List Call) (b : Base) → HeadStays h next → IsOf h calls b → store_in b ≢ None → plan_in next ≡ plan_in h
head_plan h next calls (base.Rows tables config) on of some = absurd (some refl)
head_plan head.Unnamed next calls (base.Runs live) on of some = absurd of.1
head_plan (head.Text text) next calls (base.Runs live) on of some = absurd of.1
head_plan (head.Ready plan) next calls (base.Runs live) on of some = ap plan_in on

lines_on : (p q : Plan) (calls : List Call) (store : Option Kept) → (store ≢ None → q ≡ p) → IfSome store (λ _. HasLines p calls)
    → IfSome store (λ _. HasLines q calls)
lines_on p q calls None same h = tt
lines_on p q calls (Some store) same h = subst (λ (x : Plan). HasLines x calls) (sym (same (λ e. absurd cc))) h

pub if_any : (store : Option Kept) (P : Type 0) → P → IfSome store (λ _. P)
if_any None P h = tt
if_any (Some store) P h = h

done_goes : {X : Type 0} (d : Doing) (asks : Deed) (bytes : List ℕ) → done d asks ≡ Stops bytes → X
done_goes d deed.Run bytes e = not_both bytes _ _ (sym e)
done_goes d deed.Nothing bytes e = not_both bytes _ _ (sym e)
done_goes d deed.Tell bytes e = not_both bytes _ _ (sym e)
done_goes d (deed.Put key row) bytes e = not_both bytes _ _ (sym e)
done_goes d (deed.Call call) bytes e = not_both bytes _ _ (sym e)
done_goes d (deed.Set rule percent) bytes e = not_both bytes _ _ (sym e)
done_goes d (deed.Keep number) bytes e = not_both bytes _ _ (sym e)

module _ (place after : ScriptPlace) (work : Work) (stands : Stands place work) (counts : Counts) (same : counts ≡ counts_of (state_in work.base))
    (line : List ℕ)
    (asks : Deed)
    (is : asked place counts line ≡ Ok (after, asks)) where
  abbrev From : Running
  From = running_of place work

  abbrev To : Running
  To = running_of after work

  ask_plan : store_in work.base ≢ None → plan_in after.head ≡ plan_in place.head
  ask_plan some = head_plan place.head after.head work.calls.items work.base (follows place counts line after asks is).head_stays stands.holds.of_head some

  pub ask_open : (disk : History) → IsOpen disk From → IsOpen disk To
  ask_open disk o = record {
    logging = o.logging;
    lines = lines_on (plan_in place.head) (plan_in after.head) work.calls.items
        (store_in work.base) ask_plan o.lines;
  }

  module _ (first : ℕ) (saved : Saved) (old : History) (h : HoldsScript first saved old From) where
    plan_is : plan_in after.head ≡ plan_in place.head
    plan_is = ask_plan (store_some first saved From.checkpoint old (plan_in place.head) (held_of From) (store_in work.base) h)

    pub ask_holds : HoldsScript first saved old To
    ask_holds = subst (λ (p : Plan). HoldsState first saved From.checkpoint old p (held_of From) (store_in work.base)) (sym plan_is) h

    pub line_kept : (new : History) (ga gb : Option (List ℕ)) (result : Result Running Stop) → Serves (on_line From.doing line) ga gb (doing_result result)
        → Keeps (PassesTurns (Line line ∷ []) From.doing (held_of To)) (plan_in after.head) old new ga gb
        → IfOk result (λ next. Stays first (saved_then To.checkpoint saved From.doing next.doing) new To next)
        → IfOk result (λ next. held_of next ≡ held_then (held_of To) From.doing next.doing)
        → LeavesAll old new (IsLeft To.checkpoint (Line line ∷ []) From.doing saved)
        → KeepsTurns first saved (Line line ∷ []) From old new ga gb result
    line_kept new ga gb (Ok next) serves keeps stays held left =
        let went = goes_to (on_line From.doing line) next.doing ga gb serves in
        record {
          keeps = subst (λ (p : Plan). Keeps (PassesTurns (Line line ∷ []) From.doing (held_of From)) p old new ga gb) plan_is keeps;
          left = left;
          stays = record {
            plan = stays.plan ∙ plan_is;
            checkpoint = stays.checkpoint;
            holds = subst (λ (x : Saved). HoldsScript first x new next)
                (sym (held_one on_turn (saved_then From.checkpoint) (Line line) From.doing next.doing saved went.0 went.1)) stays.holds;
          };
          held = held ∙ sym (held_one on_turn held_then (Line line) From.doing next.doing (held_of From) went.0 went.1);
          refused = λ e. absurd cc;
        }
    line_kept new ga gb (Err why) serves keeps stays held left = record {
      keeps = subst (λ (p : Plan). Keeps (PassesTurns (Line line ∷ []) From.doing (held_of From)) p old new ga gb) plan_is keeps;
      left = left;
      stays = tt;
      held = tt;
      refused = λ e.
          let stopped = stops_to (on_line From.doing line) ga gb (subst (λ (s : Stop). Serves (on_line From.doing line) ga gb (Err s)) (ap stop_in e) serves) in
          done_goes To.doing asks stopped.0 (sym (line_is place work counts line same (Ok (after, asks)) is) ∙ stopped.1);
    }
