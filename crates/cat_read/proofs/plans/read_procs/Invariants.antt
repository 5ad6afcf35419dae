use Rattle.std.proofs.Common.{◌≡◌, drop}
use Rattle.serde_json.specs.View.{view, items_view}
use Rattle.cat_forms.specs.PlanWalks.{procs_after, procs_at}
use Rattle.cat_read.specs.Places.{path_of}
use Rattle.cat_read.proofs.plans.read_procs.Given as goal

abbrev pub invariant-loop-at : goal.invariant-loop-at
invariant-loop-at l = procs_after l.tables (path_of l.place) l.at l.procs.items (items_view (drop l.at l.item-items)) ≡ procs_at l.fn.tables
    (path_of l.fn.place) (view l.fn.value)
