-- What was found may be run.
use Rattle.std.proofs.Common.{◌≡◌, sym, ◌∙◌, ap, subst, refl, ℕ, ◌+◌, ◌-◌, ◌≤◌, nat_lt, Bool, true, false, List, [], ◌∷◌, length, arith}
use Rattle.std.proofs.lemmas.Bool.Decides.{nat_tests}
use Rattle.std.proofs.lemmas.List.Elements.{All-weaker}
use Rattle.std.specs.Prelude.{◌==◌}
use Rattle.std.specs.List.{All}
use Rattle.aria_base.specs.Orders.{Cells}
use Rattle.aria_base.specs.declared.calls.Call.{Call}
use Rattle.aria_base.specs.declared.calls.Request.{Request}
use Rattle.aria_base.specs.declared.keys.Key.{Key}
use Rattle.aria_base.specs.declared.limits.TheConstants.{MOST_PERCENT, MOST_REQUESTS}
use Rattle.aria_store.specs.Records.{AreBatches, SaysIn}
use Rattle.batch_core.specs.Steps.{Handed, State, step}
use Rattle.batch_engine.specs.Engines.{Between, IsReady}
use Rattle.batch_rules.specs.Trees.{Tree}
use Rattle.dep_rules.specs.declared.configs.Config.{Config}
use Rattle.image_text.specs.Exactly.{IsCallOf}
use Rattle.image_text.specs.Payloads.{Batch}
use Rattle.input_log.specs.declared.logs.Payload.{Payload}
use Rattle.proc_lang.specs.Catalogs.{Plan, run_of, takes}
use Rattle.proc_lang.specs.declared.ends.End.{End}
use Rattle.serving.specs.Lives.{IsNext, IsRunnable, MayServe, first_state, plan_of, state_of}
use Rattle.serving.specs.Stored.{handed_in, is_crowded}
use Rattle.serving.specs.declared.lives.Live.{Live}
use Rattle.slot_images.specs.Images.{Checkpoint}
use Rattle.slot_images.specs.Said.{IsInOrder}
use Rattle.store_openings.specs.Openings.{AreRunnable, MayFollow}
use Rattle.store_openings.specs.Runs.{IsStepped}

-- ---- a checkpoint

pub ready_of : (slot : ℕ) (c : Checkpoint) → IsInOrder slot c → IsReady c.plan c.rows c.held c.head.batches c.head.requests
ready_of slot c is = record {
  consistent = is.fits.consistent;
  fit = is.fits.fit;
  numbered = is.fits.carried.numbered;
  few = is.fits.carried.few;
  batches_within = is.batches;
  requests_within = is.requests;
}

-- ---- the batches of a log

fits_all : (plan : Plan) (calls : List Call) → All (IsCallOf plan) calls → All (λ call. takes plan call ≡ true) calls
fits_all plan calls all = All-weaker (IsCallOf plan) (λ (call : Call). takes plan call ≡ true) (λ call is. is.fit) calls all

fit_by : (first : Bool) (c : Checkpoint) (bytes : List ℕ) (batch : Batch) → SaysIn first c bytes batch
    → All (λ call. takes c.plan call ≡ true) batch.calls
fit_by true c bytes batch says = fits_all c.plan batch.calls says.2.fit
fit_by false c bytes batch says = fits_all c.plan batch.calls says.fit

fallback_by : (first : Bool) (c : Checkpoint) (bytes : List ℕ) (batch : Batch) → c.head.fallback ≤ MOST_PERCENT → SaysIn first c bytes batch
    → batch.fallback ≤ MOST_PERCENT
fallback_by true c bytes batch bound says = subst (λ (n : ℕ). n ≤ MOST_PERCENT) (sym says.1) bound
fallback_by false c bytes batch bound says = says.fallback

-- behind a checkpoint each may be run
pub runnable : (c : Checkpoint) (batches requests : ℕ) (payloads : List Payload) (later : List Batch) → c.head.fallback ≤ MOST_PERCENT
    → AreBatches c batches requests payloads later → AreRunnable c.plan batches requests later
runnable c batches requests [] [] bound are = tt
runnable c batches requests [] (batch ∷ later) bound are = absurd are
runnable c batches requests (payload ∷ payloads) [] bound are = absurd are
runnable c batches requests (payload ∷ payloads) (batch ∷ later) bound are = (
  record {
    fit = fit_by (c.head.format == 1) c payload.bytes batch are.0.0;
    fallback = fallback_by (c.head.format == 1) c payload.bytes batch bound are.0.0;
    within = are.0.1;
  },
  runnable c (batches + 1) (requests + length batch.calls) payloads later bound are.1,
)

-- ---- one batch by its own settings

-- engines under other settings: the state differs in these alone, and a batch under its own comes to the same
set_by : (a b : Config) (engines : List Between) → first_state a engines ≡ record (first_state b engines) { rule = a.rule; percent = a.fallback }
set_by a b [] = refl
set_by a b (engine ∷ rest) = refl

step_by : (tree : Request → Tree Key Cells End) (a b : Config) (engines : List Between) (handed : Handed)
    → step tree (first_state a engines) handed ≡ step tree (first_state b engines) handed
step_by tree a b [] handed = refl
step_by tree a b (engine ∷ rest) handed = refl

module _ (live : Live) (batch : Batch) where
  abbrev pub settled : Live
  settled = record live { config = record live.config { rule = batch.rule; fallback = batch.fallback } }

  set_is : state_of settled ≡ record (state_of live) { rule = batch.rule; percent = batch.fallback }
  set_is = set_by settled.config live.config live.replicas

  pub may_serve : IsRunnable live → MayFollow (plan_of live) (state_of live).batches (state_of live).requests batch → is_crowded (state_of live) batch ≡ false
      → MayServe settled batch.calls
  may_serve runs may roomy =
      let waits : (state_of settled).waiting ≡ (state_of live).waiting = ap (λ (s : State). s.waiting) set_is in
      let ran : (state_of settled).batches ≡ (state_of live).batches = ap (λ (s : State). s.batches) set_is in
      let given : (state_of settled).requests ≡ (state_of live).requests = ap (λ (s : State). s.requests) set_is in
      let room : length (state_of live).waiting + length batch.calls ≤ MOST_REQUESTS = grind (arith, nat_tests, roomy) in
      record {
        fit = may.fit;
        room = subst (λ (l : List Request). length l + length batch.calls ≤ MOST_REQUESTS) (sym waits) room;
        batches = omega (arith, ran, may.within.batches);
        requests = omega (arith, given, may.within.requests);
        percent = may.fallback;
        workers = runs.workers;
      }

  pub stepped : (next : Live) → IsNext settled batch.calls next → next.store ≡ live.store → IsStepped live batch next
  stepped next is store = record {
    plan = is.plan;
    state = is.state ∙ step_by (run_of (plan_of live)) settled.config live.config live.replicas (handed_in batch);
    alike = record {
      store = store;
      each = is.each;
      checkpoint = is.checkpoint;
      count = is.count;
      workers = ap (λ (c : Config). c.workers) is.config;
    };
    runnable = is.runnable;
  }

-- how many calls still have room
pub room_left : (waiting calls : ℕ) → waiting ≤ MOST_REQUESTS → nat_lt (MOST_REQUESTS - waiting) calls ≡ nat_lt MOST_REQUESTS (waiting + calls)
room_left waiting calls few = grind (arith, nat_tests, few)
