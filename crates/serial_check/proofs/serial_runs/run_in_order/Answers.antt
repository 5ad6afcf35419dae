use Rattle.std.proofs.Common.{map, ap, sym, ◌∙◌}
use Rattle.std.proofs.Math.Path.{fun_ext}
use Rattle.std.proofs.lemmas.List.{drop_all}
use Rattle.std.specs.BTreeMap as tree
use Rattle.std.specs.Map.Iter.{deref}
use Rattle.std.specs.Option.{option_or}
use Rattle.std.specs.Ordering.{nat_cmp}
use Rattle.proc_lang.specs.Catalogs.{run_of}
use Rattle.serial_check.specs.Runs.{end_in}
use Rattle.serial_check.proofs.serial_runs.run_in_order.Goals as goal

pub returns-clause-ends : goal.returns-clause-ends
returns-clause-ends c = fun_ext (λ q.
    sym (ap (λ rest. option_or (end_in (run_of c.args.catalog.now) c.loop-request.tables (map deref rest) q) (tree.get nat_cmp c.loop-request.ends q))
    (drop_all c.loop-request.request-index c.args.order.now c.loop-request-test.false))
    ∙ c.loop-request.invariant.ends q)
