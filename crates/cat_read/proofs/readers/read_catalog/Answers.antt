use Rattle.std.proofs.Common.{sym, subst, List}
use Rattle.std.specs.List.{All}
use Rattle.aria_base.specs.declared.schemas.Table.{Table}
use Rattle.serde_json.specs.View.{view}
use Rattle.proc_lang.specs.declared.procs.Proc.{Proc}
use Rattle.proc_lang.specs.Catalogs.{Plan, IsCatalog}
use Rattle.proc_lang.specs.Typing.{IsWellTyped}
use Rattle.cat_read.proofs.PlanLimits.{plan_limits, is_catalog}
use Rattle.cat_read.proofs.readers.read_catalog.Goals as goal

pub sealed-requires-clause-fit : goal.sealed-requires-clause-fit
sealed-requires-clause-fit c =
    (plan_limits (view c.in-Ok.value) (record { tables = c.in_ok-tables.tables.items; procs = c.in_ok-tables.procs.items }) c.in_ok-tables.ensures).procs.fit

pub sealed-requires-clause-few : goal.sealed-requires-clause-few
sealed-requires-clause-few c =
    (plan_limits (view c.in-Ok.value) (record { tables = c.in_ok-tables.tables.items; procs = c.in_ok-tables.procs.items }) c.in_ok-tables.ensures).few_procs

pub of-requires : goal.of-requires
of-requires c =
    let plan : Plan = record { tables = c.in_ok-tables.tables.items; procs = c.in_ok-tables.procs.items } in
    let typed : All (IsWellTyped c.from_vec-schema.result) c.in_ok-tables.procs.items = c.in_ok-procs.ensures.typed in
    let typed_all : All (IsWellTyped plan.tables) plan.procs =
    subst (λ (ts : List Table). All (IsWellTyped ts) c.in_ok-tables.procs.items) c.from_vec-schema.ensures typed in
    let is : IsCatalog plan = is_catalog (view c.in-Ok.value) plan c.in_ok-tables.ensures typed_all in
    let tables = subst (λ (ts : List Table). IsCatalog (record { tables = ts; procs = c.in_ok-tables.procs.items })) (sym c.from_vec-schema.ensures) is in
    subst (λ (ps : List Proc). IsCatalog (record { tables = c.from_vec-schema.result; procs = ps })) (sym c.in_ok-procs.ensures.sealed) tables
