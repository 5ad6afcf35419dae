use Rattle.std.proofs.Common.{◌≡◌, drop}
use Rattle.serde_json.specs.View.{view, items_view}
use Rattle.cat_forms.specs.StepWalks.{indexes, indexes_after}
use Rattle.cat_read.proofs.statements.indexes.Given as goal

abbrev pub invariant-loop-item : goal.invariant-loop-item
invariant-loop-item l = indexes_after l.numbers.items (items_view (drop l.item-index l.item-items)) ≡ indexes (view l.fn.value)
