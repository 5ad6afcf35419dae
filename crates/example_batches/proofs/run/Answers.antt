use Rattle.std.proofs.Common.{◌≡◌, sym, subst, true, List, [], arith}
use Rattle.std.specs.FinMap as fin
use Rattle.std.proofs.lemmas.List.Elements.{All-nil}
use Rattle.aria_base.proofs.Fitting.{none_fit}
use Rattle.aria_base.specs.Orders.{Database}
use Rattle.aria_base.specs.declared.calls.Request.{Request}
use Rattle.batch_engine.specs.Engines.{IsReady}
use Rattle.proc_lang.specs.Catalogs.{Plan, takes}
use Rattle.example_batches.proofs.run.Goals as goal

-- an engine without rows and requests is ready for its first batch
ready_at_first : (plan : Plan) (rows : Database) (carried : List Request) → rows ≡ fin.empty → carried ≡ [] → IsReady plan rows carried 0 0
ready_at_first plan rows carried empty none = subst (λ (l : List Request). IsReady plan rows l 0 0) (sym none) (record {
  consistent = none_fit plan.tables rows empty;
  fit = All-nil (λ request. takes plan request.call ≡ true);
  numbered = omega arith;
  few = omega arith;
  batches_within = omega arith;
  requests_within = omega arith;
})

pub begin-first-requires : goal.begin-first-requires
begin-first-requires g c = ready_at_first c.in_ok-catalog.catalog c.in_ok-new.field-0 c.new-2.result.items c.in_ok-new.ensures c.new-2.ensures.items
