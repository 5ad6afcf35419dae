use Rattle.std.proofs.Common.{◌≡◌, ℕ, drop, map}
use Rattle.std.specs.BTreeMap as tree
use Rattle.std.specs.Map.Iter.{deref}
use Rattle.std.specs.Ordering.{nat_cmp}
use Rattle.std.specs.Option.{option_or}
use Rattle.batch_rules.specs.Serials.{serial_map}
use Rattle.proc_lang.specs.Catalogs.{run_of}
use Rattle.proc_lang.specs.Meaning.{is_done}
use Rattle.serial_check.specs.Runs.{end_in}
use Rattle.serial_check.proofs.serial_runs.run_in_order.Given as goal

abbrev pub invariant-loop-request : goal.invariant-loop-request
invariant-loop-request l = record {
  ends : (q : ℕ) → option_or (end_in (run_of l.catalog) l.tables (map deref (drop l.request-index l.order)) q) (tree.get nat_cmp l.ends q) ≡ end_in
      (run_of l.catalog) l.fn.tables (map deref l.order) q;
  rows : serial_map is_done (run_of l.catalog) l.tables (map deref (drop l.request-index l.order)) ≡ serial_map is_done (run_of l.catalog) l.fn.tables
      (map deref l.order);
}
