-- A line of a script, as its store sees it.
use Rattle.std.proofs.Common.{◌≡◌, ◌≢◌, inl, inr, ◌∙◌, sym, ap, subst, refl, ℕ, ◌+◌, ◌≤◌, ◌==◌, Bool, true, false, List, [], ◌∷◌, length, Option, Some, None, IfSome, arith}
use Rattle.std.specs.Prelude.{if◌then◌else◌}
use Rattle.std.specs.Io.KnownBytes.{Appends}
use Rattle.std.proofs.lemmas.List.Elements.{All-nil}
use Rattle.aria_base.specs.Streams.{AppendsFront}
use Rattle.aria_base.specs.declared.calls.Call.{Call}
use Rattle.aria_base.specs.declared.limits.TheConstants.{LONGEST_LINE}
use Rattle.aria_store.specs.Stands.{Kept}
use Rattle.batch_core.specs.Steps.{State}
use Rattle.disk_model.specs.Histories.{History, LeavesAll, MayLeave}
use Rattle.disk_model.proofs.Spans.{leaves_more}
use Rattle.image_text.specs.Exactly.{line_of_call}
use Rattle.image_text.specs.Payloads.{Batch}
use Rattle.proc_lang.specs.Catalogs.{Plan}
use Rattle.script_course.specs.Courses.{Goes}
use Rattle.script_places.specs.Places.{plan_in}
use Rattle.script_places.specs.declared.places.ScriptPlace.{ScriptPlace}
use Rattle.serving.specs.Deliveries.{IsAnswered, Tells}
use Rattle.serving.specs.Lives.{IsNext, next_state, next_text, plan_of, state_of}
use Rattle.serving.specs.Stored.{GoesOn, HasLines, Holds, IsLogging, LeavesState, MayLog, ReopensBy, ReopensOnWay, ReopensToEither, stored_state, told_by}
use Rattle.serving.specs.declared.batches.Delivery.{Delivery}
use Rattle.serving.specs.declared.lives.Live.{Live}
use Rattle.serving.proofs.Storing.{by_state, held_leaves, way_states}
use Rattle.slot_images.specs.Images.{Checkpoint}
use Rattle.run_commands.specs.Bases.{IsBegun, state_in, store_in}
use Rattle.run_commands.specs.Keeps.{IsOpen, Keeps, held_of}
use Rattle.run_commands.specs.Onces.{Doing, Running, behind_batch, on_line, text_of}
use Rattle.run_commands.specs.Passes.{Line, PassesTurns, held_then, on_turn}
use Rattle.run_commands.specs.Standing.{doing_of, running_of}
use Rattle.run_commands.specs.declared.bases.Base.{Base}
use Rattle.run_commands.specs.declared.bases.Base.TheVariants as base
use Rattle.run_commands.specs.declared.works.Work.{Work}
use Rattle.run_commands.proofs.Deeds.{state_is, text_is}
use Rattle.run_commands.proofs.Kept.{keeps_batch, keeps_told}
use Rattle.run_commands.proofs.Told.{cut_front, told_all, told_is}

when_false : (b : Bool) (x y : State) → b ≡ false → (if b then x else y) ≡ y
when_false false x y e = refl
when_false true x y e = absurd cc

other_count : (n m : ℕ) → n ≡ m → ((m + 1) == n) ≡ false
other_count n m e = grind (arith, e)

-- the state behind a batch is held then
batch_held : (held : State) (before d : Doing) → before.state ≡ d.state → held_then held before (behind_batch d) ≡ (behind_batch d).state
batch_held held before d same =
    when_false ((behind_batch d).state.batches == before.state.batches) held (behind_batch d).state
    (other_count before.state.batches d.state.batches (ap (λ (s : State). s.batches) same))

module _ (plan : Plan) (line : List ℕ) (before d : Doing) (held : State) (same : before.state ≡ d.state)
    (is : on_line before line ≡ Goes (text_of d) (behind_batch d))
    (a b : History) (ga gb : Option (List ℕ)) where
  abbrev After : State
  After = (behind_batch d).state

  -- a batch that was cut off
  pub line_cut : AppendsFront ga gb (text_of d) → LeavesAll a b (ReopensToEither plan held After) → ((gb ≢ ga) → LeavesState b plan After)
      → Keeps (PassesTurns (Line line ∷ []) before held) plan a b ga gb
  line_cut front all given =
      let at = batch_held held before d same in
      keeps_batch on_turn held_then plan (Line line) before (behind_batch d) held (text_of d) is a b ga gb front
      (subst (λ (s : State). LeavesAll a b (ReopensToEither plan held s)) (sym at) all)
      (λ other. subst (λ (s : State). LeavesState b plan s) (sym at) (given other))

  -- one that was told
  pub line_told : Appends ga gb (text_of d) → LeavesAll a b (ReopensToEither plan held After) → LeavesState b plan After
      → Keeps (PassesTurns (Line line ∷ []) before held) plan a b ga gb
  line_told whole all leaves =
      let at = batch_held held before d same in
      keeps_told on_turn held_then plan (Line line) before (behind_batch d) held (text_of d) is a b ga gb whole
      (subst (λ (s : State). LeavesAll a b (ReopensToEither plan held s)) (sym at) all) (subst (λ (s : State). LeavesState b plan s) (sym at) leaves)

-- ---- what a batch of the database is for the script

-- what a store holds is what a stop leaves
pub held_leaves_all : (disk : History) (plan : Plan) (state : State) (store : Option Kept) (c : Checkpoint) (later : List Batch)
    → Holds disk plan state store c later → LeavesState disk plan state
held_leaves_all disk plan state None c later h = absurd h
held_leaves_all disk plan state (Some store) c later h = held_leaves disk plan state store c later h

pub no_lines : (plan : Plan) (calls : List Call) (store : Option Kept) → calls ≡ [] → IfSome store (λ _. HasLines plan calls)
no_lines plan calls None e = tt
no_lines plan calls (Some store) e = subst (λ (l : List Call). HasLines plan l) (sym e)
    (All-nil (λ (call : Call). length (line_of_call plan call) ≤ LONGEST_LINE))

pub open_without : (disk : History) (script : Running) → script.store ≡ None → IsOpen disk script
open_without disk script e = record {
  logging = subst (λ (s : Option Kept). IfSome s (GoesOn disk script.doing.state.batches)) (sym e) tt;
  lines = subst (λ (s : Option Kept). IfSome s (λ _. HasLines (plan_in script.doing.place.head) script.doing.calls)) (sym e) tt;
}

-- behind a batch
pub open_behind : (disk : History) (place : ScriptPlace) (next : Work) (live : Live) → next.base ≡ base.Runs live → next.calls.items ≡ [] → IsLogging disk live
    → IsOpen disk (running_of place next)
open_behind disk place next live b none logging = record {
  logging = subst (λ (x : Base). IfSome (store_in x) (GoesOn disk (state_in x).batches)) (sym b) logging;
  lines = no_lines (plan_in place.head) next.calls.items (store_in next.base) none;
}

module _ (place : ScriptPlace) (work : Work) (live : Live) (begun : IsBegun place.head work.base work.each live) where
  abbrev Calls : List Call
  Calls = work.calls.items

  abbrev Ran : Doing
  Ran = doing_of place work

  abbrev Held : State
  Held = held_of (running_of place work)

  pub may_log : (disk : History) → IsOpen disk (running_of place work) → MayLog live Calls disk
  may_log disk o = record {
    logging = subst (λ (s : Option Kept). IfSome s (GoesOn disk (state_of live).batches)) (sym begun.store)
        (subst (λ (s : State). IfSome (store_in work.base) (GoesOn disk s.batches)) (sym begun.state) o.logging);
    lines = subst (λ (s : Option Kept). IfSome s (λ _. HasLines (plan_of live) Calls)) (sym begun.store)
        (subst (λ (p : Plan). IfSome (store_in work.base) (λ _. HasLines p Calls)) (sym begun.plan) o.lines);
  }

  pub held_is : stored_state live ≡ Held
  held_is = ap (λ (s : State). told_by live.store s) begun.state ∙ ap (λ (k : Option Kept). told_by k (state_in work.base)) begun.store

  pub begun_holds : (disk : History) (c : Checkpoint) (later : List Batch) → Holds disk (plan_in place.head) Held (store_in work.base) c later
      → Holds disk (plan_of live) (stored_state live) live.store c later
  begun_holds disk c later h =
      subst (λ (p : Plan). Holds disk p (stored_state live) live.store c later) (sym begun.plan)
      (subst (λ (s : State). Holds disk (plan_in place.head) s live.store c later) (sym held_is)
      (subst (λ (k : Option Kept). Holds disk (plan_in place.head) Held k c later) (sym begun.store) h))

  -- what is left of it, as states
  module _ (due : Bool) (c : Checkpoint) (later more : List Batch) where
    pub as_either : (a b : History) → LeavesAll a b (ReopensOnWay due c later more (plan_of live) (stored_state live) (next_state live Calls))
        → LeavesAll a b (ReopensToEither (plan_of live) (stored_state live) (next_state live Calls))
    as_either a b all =
        leaves_more a b (ReopensOnWay due c later more (plan_of live) (stored_state live) (next_state live Calls))
        (ReopensToEither (plan_of live) (stored_state live) (next_state live Calls)) all
        (way_states due c later more (plan_of live) (stored_state live) (next_state live Calls))

    pub as_after : (answered : Type 0) (b : History)
        → (answered → (images : ℕ → List ℕ) → MayLeave b b.now images → ReopensBy due c more (plan_of live) (next_state live Calls) images)
        → answered → LeavesState b (plan_of live) (next_state live Calls)
    as_after answered b given told images left = by_state due c more (plan_of live) (next_state live Calls) images (given told images left)

  either_is : (a b : History) → LeavesAll a b (ReopensToEither (plan_of live) (stored_state live) (next_state live Calls))
      → LeavesAll a b (ReopensToEither (plan_in place.head) Held (behind_batch Ran).state)
  either_is a b all =
      subst (λ (s : State). LeavesAll a b (ReopensToEither (plan_in place.head) Held s)) (state_is place work live begun)
      (subst (λ (s : State). LeavesAll a b (ReopensToEither (plan_in place.head) s (next_state live Calls))) held_is
      (subst (λ (p : Plan). LeavesAll a b (ReopensToEither p (stored_state live) (next_state live Calls))) begun.plan all))

  after_is : (b : History) → LeavesState b (plan_of live) (next_state live Calls) → LeavesState b (plan_in place.head) (behind_batch Ran).state
  after_is b leaves =
      subst (λ (s : State). LeavesState b (plan_in place.head) s) (state_is place work live begun)
      (subst (λ (p : Plan). LeavesState b p (next_state live Calls)) begun.plan leaves)

  module _ (line : List ℕ) (before : Doing) (same : before.state ≡ Ran.state) (is : on_line before line ≡ Goes (text_of Ran) (behind_batch Ran))
      (a b : History) (ga gb : Option (List ℕ)) (r : Option Live × Delivery)
      (tells : Tells (next_text live Calls) (IsNext live Calls) ga gb r)
      (all : LeavesAll a b (ReopensToEither (plan_of live) (stored_state live) (next_state live Calls)))
      (given : IsAnswered ga gb r.1 → LeavesState b (plan_of live) (next_state live Calls)) where
    pub ran_told : (next : Live) → r.0 ≡ Some next → Keeps (PassesTurns (Line line ∷ []) before Held) (plan_in place.head) a b ga gb
    ran_told next e =
        let whole = (told_all (next_text live Calls) (IsNext live Calls) ga gb r next e tells).0 in
        line_told (plan_in place.head) line before Ran Held same is a b ga gb
        (subst (λ (text : List ℕ). Appends ga gb text) (text_is place work live begun) whole)
        (either_is a b all) (after_is b (given (inl (told_is (next_text live Calls) (IsNext live Calls) ga gb r next e tells))))

    pub ran_cut : r.0 ≡ None → Keeps (PassesTurns (Line line ∷ []) before Held) (plan_in place.head) a b ga gb
    ran_cut e =
        line_cut (plan_in place.head) line before Ran Held same is a b ga gb
        (subst (λ (text : List ℕ). AppendsFront ga gb text) (text_is place work live begun)
        (cut_front (next_text live Calls) (IsNext live Calls) ga gb r e tells))
        (either_is a b all) (λ other. after_is b (given (inr other)))
