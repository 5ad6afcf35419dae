-- An engine before its first batch, and what engines that are alike may run.
use Rattle.std.proofs.Common.{◌≡◌, ◌∙◌, sym, subst, Bool, true, List, [], length, ◌+◌, ◌<◌, ◌≤◌, arith}
use Rattle.std.specs.List.{All, list_all}
use Rattle.std.proofs.lemmas.List.Elements.{All-nil}
use Rattle.std.proofs.lemmas.List.Sums.{AllPass-from_list_all}
use Rattle.aria_base.specs.Orders.{Database}
use Rattle.aria_base.specs.Schemas.{IsConsistent}
use Rattle.aria_base.specs.declared.calls.Call.{Call}
use Rattle.aria_base.specs.declared.calls.Request.{Request}
use Rattle.aria_base.specs.declared.limits.TheConstants.{GREATEST_NUMBER, MOST_PERCENT, MOST_REQUESTS, MOST_WORKERS}
use Rattle.batch_engine.specs.Engines.{Between, IsReady}
use Rattle.dep_rules.specs.declared.configs.Config.{Config}
use Rattle.replica_run.specs.Replicas.{MayRun, unmarked}
use Rattle.worked_batches.specs.Rooms.{HasRoom}
use Rattle.proc_lang.specs.Catalogs.{Plan, takes}

pub all_taken : (plan named : Plan) (calls slice : List Call) (taken : Bool) → taken ≡ list_all (takes named) slice → named ≡ plan → slice ≡ calls
    → taken ≡ true
    → All (λ call. takes plan call ≡ true) calls
all_taken plan named calls slice taken is p s holds = AllPass-from_list_all (takes plan) calls (sym (λ i. list_all (takes (p i)) (s i)) ∙ sym is ∙ holds)

pub ready_at_first : (plan : Plan) (rows : Database) (carried : List Request) → IsConsistent plan.tables rows → carried ≡ [] → IsReady plan rows carried 0 0
ready_at_first plan rows carried fit none = subst (λ (l : List Request). IsReady plan rows l 0 0) (sym none) (record {
  consistent = fit;
  fit = All-nil (λ request. takes plan request.call ≡ true);
  numbered = omega arith;
  few = omega arith;
  batches_within = omega arith;
  requests_within = omega arith;
})

-- what the first of engines that are alike may run, all of them may
may_run_alike : (config : Config) (calls : List Call) (engine first : Between) → unmarked engine ≡ unmarked first
    → HasRoom first calls → config.fallback ≤ MOST_PERCENT → (1 ≤ config.workers) × (config.workers ≤ MOST_WORKERS) → MayRun config calls engine
may_run_alike config calls engine first alike has percent workers = record {
  fit = subst (λ (e : Between). All (λ call. takes e.plan call ≡ true) calls) (sym alike) has.fit;
  room = subst (λ (e : Between). length e.carried + length calls ≤ MOST_REQUESTS) (sym alike) has.room;
  batches = subst (λ (e : Between). e.batches < GREATEST_NUMBER) (sym alike) has.batches;
  requests = subst (λ (e : Between). e.requests + length calls ≤ GREATEST_NUMBER) (sym alike) has.requests;
  percent = percent;
  workers = workers;
}

pub all_may_run : (config : Config) (calls : List Call) (engines : List Between) (first : Between) → All (λ engine. unmarked engine ≡ unmarked first) engines
    → HasRoom first calls → config.fallback ≤ MOST_PERCENT → (1 ≤ config.workers) × (config.workers ≤ MOST_WORKERS) → All (MayRun config calls) engines
all_may_run config calls engines first alike has percent workers k d h = may_run_alike config calls _ first (alike k d h) has percent workers
