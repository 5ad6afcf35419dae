use Rattle.std.proofs.Common.{◌≡◌, map, Ok, ap, sym, ◌∙◌}
use Rattle.std.specs.BTreeMap as tree
use Rattle.std.specs.Map.Iter.{deref}
use Rattle.std.specs.Ordering.{nat_cmp}
use Rattle.batch_rules.specs.Serials.{serial_map}
use Rattle.proc_lang.specs.Catalogs.{run_of}
use Rattle.proc_lang.specs.Meaning.{is_done}
use Rattle.serial_check.specs.Reports.{◌>>=◌, run_from}
use Rattle.serial_check.specs.Runs.{end_in}
use Rattle.serial_check.proofs.answers.expect_run.Goals as goal

pub returns : goal.returns
returns c =
    let order = map deref c.in_ok-order.order.items in
    let ends : tree.get nat_cmp c.in_ok-ends.ends ≡ end_in (run_of c.args.catalog.now) c.args.tables.now (map deref c.in_ok-order.order.items)
    = c.in_ok-ends.ensures.ends ∙ ap (λ items. end_in (run_of c.args.catalog.now) c.args.tables.now (map deref items)) c.deref.ensures.value in
    let rows : c.run_in_order.new.tables ≡ serial_map is_done (run_of c.args.catalog.now) c.args.tables.now (map deref c.in_ok-order.order.items)
    = c.in_ok-ends.ensures.rows ∙ ap (λ items. serial_map is_done (run_of c.args.catalog.now) c.args.tables.now (map deref items)) c.deref.ensures.value in
    ap (λ r. r >>= (λ order. Ok (run_from c.args.catalog.now c.args.tables.now order))) c.in_ok-order.ensures
    ∙ (λ i. Ok (sym ends i, sym rows i))
