use Rattle.std.proofs.Common.{◌≡◌, ◌∙◌, sym, ap, subst, take, length}
use Rattle.aria_base.proofs.Orders.{key_cmp_total, key_cmp-IsAntisymmetric}
use Rattle.batch_rules.specs.Trees.{trace_of}
use Rattle.proc_exec.specs.Endings.{EndsWithin}
use Rattle.proc_exec.specs.Limits.{touchable}
use Rattle.proc_lang.specs.Catalogs.{run_of}
use Rattle.tbl_snapshot.specs.Layers.{seen_of}
use Rattle.row_batons.specs.Windows.{AreAt}
use Rattle.row_batons.proofs.Fronts.{still_at}
use Rattle.row_batons.proofs.windows.run_on.Goals as goal

pub rows_back-requires-clause-front : goal.rows_back-requires-clause-front
rows_back-requires-clause-front c =
    let run = run_of c.args.catalog.now c.args.one.now.request in
    let old = seen_of c.fill.new.window in
    let new = seen_of c.interpret_lent_within.new.access in
    let ended = subst (EndsWithin (touchable c.args.one.now.declared) run old new) c.in-Ended.is c.in_ok-end.ensures in
    subst (AreAt c.args.keys.now c.args.touched.now) (sym (ap (λ s. take (length c.args.touched.now) s.noted.writes) ended.1.1))
    (still_at key_cmp_total key_cmp-IsAntisymmetric c.args.keys.now c.requires.apart c.args.touched.now old.noted
    (trace_of run old.map) c.in_ok-fill.ensures.front)
