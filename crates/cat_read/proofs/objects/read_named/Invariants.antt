use Rattle.std.proofs.Common.{◌≡◌, drop}
use Rattle.serde_json.specs.View.{view, items_view}
use Rattle.cat_forms.specs.PlanWalks.{named_after, named_at}
use Rattle.cat_read.specs.Places.{path_of}
use Rattle.cat_read.proofs.objects.read_named.Given as goal

abbrev pub invariant-loop-at : goal.invariant-loop-at
invariant-loop-at g l = named_after g.K.Called.named (path_of l.place) l.at l.found.items (items_view (drop l.at l.item-items)) ≡ named_at g.K.Called.named
    (path_of l.fn.place) l.fn.low l.fn.high (view l.fn.value)
