-- What a batch on all engines says of the database.
use Rattle.std.proofs.Common.{◌≡◌, sym, ap, subst, refl, ◌+◌, ◌<◌, ◌≤◌, List, [], ◌∷◌, length, Some, true, arith}
use Rattle.std.specs.List.{All, AllZip, slice_get}
use Rattle.std.proofs.lemmas.List.Elements.{All-head, All-weaker, length_all_zip}
use Rattle.aria_base.specs.declared.calls.Call.{Call}
use Rattle.aria_base.specs.declared.limits.TheConstants.{GREATEST_NUMBER, MOST_REQUESTS}
use Rattle.batch_core.specs.Serial.{IsSerialAnswer}
use Rattle.batch_core.specs.Steps.{State, Handed, list_of, step, answer}
use Rattle.batch_core.specs.declared.answers.Answer.{Answer}
use Rattle.batch_engine.specs.Engines.{Between, state_in, handed_by}
use Rattle.dep_rules.specs.declared.configs.Config.{Config}
use Rattle.proc_lang.specs.Catalogs.{Plan, takes, run_of}
use Rattle.replica_run.specs.Replicas.{MayRun, IsAfter, IsSerialFor, answer_of, unmarked}
use Rattle.replica_run.proofs.Pairs.{all_second}
use Rattle.serving.specs.Lives.{IsNext, MayServe, StandsAfter, first_state, handed_at, next_handed, next_state, plan_in, plan_of, state_of}
use Rattle.serving.proofs.Bounds.{runnable}
use Rattle.serving.specs.declared.lives.Live.{Live}

-- the first engine tells the catalogue and the state
pub plan_is : (engines : List Between) (first : Between) → slice_get engines 0 ≡ Some first → plan_in engines ≡ first.plan
plan_is [] first e = absurd cc
plan_is (engine ∷ rest) first e = let same : engine ≡ first = cc in ap (λ (b : Between). b.plan) same

pub state_is : (config : Config) (engines : List Between) (first : Between) → slice_get engines 0 ≡ Some first
    → first_state config engines ≡ state_in config first
state_is config [] first e = absurd cc
state_is config (engine ∷ rest) first e = let same : engine ≡ first = cc in ap (λ (b : Between). state_in config b) same

-- each engine may run what the first one may
may_run : (config : Config) (calls : List Call) (engine first : Between) → unmarked engine ≡ unmarked first → MayRun config calls first
    → MayRun config calls engine
may_run config calls engine first same h =
    let there : MayRun config calls (unmarked first) = record {
      fit = h.fit;
      room = h.room;
      batches = h.batches;
      requests = h.requests;
      percent = h.percent;
      workers = h.workers;
    } in
    let here : MayRun config calls (unmarked engine) = subst (λ (b : Between). MayRun config calls b) (sym same) there in
    record { fit = here.fit; room = here.room; batches = here.batches; requests = here.requests; percent = here.percent; workers = here.workers }

first_may : (live : Live) (calls : List Call) (first : Between) → slice_get live.replicas 0 ≡ Some first → MayServe live calls → MayRun live.config calls first
first_may live calls first e h =
    let p = plan_is live.replicas first e in
    let s = state_is live.config live.replicas first e in
    record {
      fit = subst (λ (plan : Plan). All (λ call. takes plan call ≡ true) calls) p h.fit;
      room = subst (λ (state : State). length state.waiting + length calls ≤ MOST_REQUESTS) s h.room;
      batches = subst (λ (state : State). state.batches < GREATEST_NUMBER) s h.batches;
      requests = subst (λ (state : State). state.requests + length calls ≤ GREATEST_NUMBER) s h.requests;
      percent = h.percent;
      workers = h.workers;
    }

pub all_may : (live : Live) (calls : List Call) (first : Between) → slice_get live.replicas 0 ≡ Some first
    → All (λ engine. unmarked engine ≡ unmarked first) live.replicas
    → MayServe live calls → All (MayRun live.config calls) live.replicas
all_may live calls first e alike h =
    All-weaker (λ (engine : Between). unmarked engine ≡ unmarked first) (MayRun live.config calls)
    (λ engine same. may_run live.config calls engine first same (first_may live calls first e h)) live.replicas alike

module _ (config : Config) (calls : List Call) where
  abbrev handed : Handed
  handed = handed_by config calls

  -- the first engine after the batch
  pub next_is : (before after : List Between) (first : Between) → slice_get before 0 ≡ Some first → AllZip (IsAfter config calls) before after
      → (plan_in after ≡ plan_in before) × (first_state config after ≡ step (run_of (plan_in before)) (first_state config before) handed)
  next_is [] after first e z = absurd cc
  next_is (b ∷ before) [] first e z = elim z [ ]
  next_is (b ∷ before) (a ∷ after) first e z = (z.0.plan, z.0.state)

  pub answer_is : (before : List Between) (first : Between) (found : Answer) → slice_get before 0 ≡ Some first
      → All (λ b. found ≡ answer_of config calls b) before
      → found ≡ answer (run_of (plan_in before)) (first_state config before) handed
  answer_is [] first found e all = absurd cc
  answer_is (b ∷ before) first found e all = All-head (λ (b : Between). found ≡ answer_of config calls b) b before all

  pub serial_is : (before : List Between) (first : Between) (found : Answer) → slice_get before 0 ≡ Some first → All (IsSerialFor config calls found) before
      → IsSerialAnswer (run_of (plan_in before)) (first_state config before).rows (list_of (first_state config before) handed) found
      (step (run_of (plan_in before)) (first_state config before) handed)
  serial_is [] first found e all = absurd cc
  serial_is (b ∷ before) first found e all = All-head (IsSerialFor config calls found) b before all

  -- all engines after the batch, by the first one before it
  stands_by : (first before after : Between) → IsAfter config calls before after → unmarked before ≡ unmarked first
      → StandsAfter first.plan config (state_in config first) handed after
  stands_by first before after h same =
      let there : StandsAfter (unmarked before).plan config (state_in config (unmarked before)) handed after =
      record { plan_kept = h.plan; state_after = h.state; marked = h.marked } in
      subst (λ (b : Between). StandsAfter b.plan config (state_in config b) handed after) same there

  pub all_stand : (before after : List Between) (first : Between) → slice_get before 0 ≡ Some first → All (λ engine. unmarked engine ≡ unmarked first) before
      → AllZip (IsAfter config calls) before after → All (StandsAfter (plan_in before) config (first_state config before) handed) after
  all_stand before after first e alike z =
      subst (λ (plan : Plan). All (StandsAfter plan config (first_state config before) handed) after) (sym (plan_is before first e))
      (subst (λ (state : State). All (StandsAfter first.plan config state handed) after) (sym (state_is config before first e))
      (all_second (IsAfter config calls) (λ b a h same. stands_by first b a h same) before after z alike))

-- the settings of a database are those of its state
first_handed : (config : Config) (calls : List Call) (engines : List Between) → handed_by config calls ≡ handed_at (first_state config engines) calls
first_handed config calls [] = refl
first_handed config calls (engine ∷ rest) = refl

pub handed_is : (live : Live) (calls : List Call) → next_handed live calls ≡ handed_at (state_of live) calls
handed_is live calls = first_handed live.config calls live.replicas

abbrev with_engines : Live → List Between → Live
with_engines before engines = record { store = before.store; replicas = engines; config = before.config; each = before.each; checkpoint = before.checkpoint }

pub next_after : (before : Live) (calls : List Call) (engines : List Between) (first : Between) (found : Answer) → MayServe before calls
    → slice_get before.replicas 0 ≡ Some first
    → All (λ engine. unmarked engine ≡ unmarked first) before.replicas → AllZip (IsAfter before.config calls) before.replicas engines
    → All (λ b. found ≡ answer_of before.config calls b) before.replicas → All (IsSerialFor before.config calls found) before.replicas
    → IsNext before calls (with_engines before engines)
next_after before calls engines first found may e alike z same serial =
    let on = next_is before.config calls before.replicas engines first e z in
    let size = length_all_zip (IsAfter before.config calls) before.replicas engines z in
    let told = serial_is before.config calls before.replicas first found e serial in
    record {
      engines = all_stand before.config calls before.replicas engines first e alike z;
      count = omega (arith, size);
      plan = on.0;
      state = on.1;
      config = refl;
      each = refl;
      checkpoint = refl;
      runnable = runnable before (with_engines before engines) calls found may on.1 refl told;
      serial = subst (λ (a : Answer). IsSerialAnswer (run_of (plan_of before)) (state_of before).rows (list_of (state_of before) (next_handed before calls)) a
          (next_state before calls))
          (answer_is before.config calls before.replicas first found e same) told;
    }
