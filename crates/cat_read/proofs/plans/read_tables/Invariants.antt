use Rattle.std.proofs.Common.{◌≡◌, ◌≤◌, drop, length}
use Rattle.serde_json.specs.View.{view, items_view}
use Rattle.proc_lang.specs.declared.limits.TheConstants.{MOST_TABLES}
use Rattle.cat_forms.specs.PlanWalks.{tables_after, tables_at}
use Rattle.cat_read.specs.Places.{path_of}
use Rattle.cat_read.proofs.plans.read_tables.Given as goal

abbrev pub invariant-loop-at : goal.invariant-loop-at
invariant-loop-at l = record {
  left : tables_after (path_of l.place) l.at l.tables.items (items_view (drop l.at l.item-items)) ≡ tables_at (path_of l.fn.place) (view l.fn.value);
  counted : length l.tables.items ≡ l.at;
  few : length l.item-items ≤ MOST_TABLES;
}
