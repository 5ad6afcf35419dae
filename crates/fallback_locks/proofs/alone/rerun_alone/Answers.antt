use Rattle.std.proofs.Common.{◌∙◌, ap, sym}
use Rattle.aria_base.proofs.Orders.{key_cmp_total, key_cmp-IsAntisymmetric}
use Rattle.batch_rules.specs.Touches.{overwritten}
use Rattle.batch_rules.specs.Waves.{late_rows}
use Rattle.batch_rules.proofs.Within.{late_map-is}
use Rattle.proc_lang.specs.Catalogs.{run_of}
use Rattle.proc_lang.specs.Meaning.{is_done}
use Rattle.proc_exec.specs.Limits.{touchable}
use Rattle.fallback_locks.specs.declared.dones.Done.{Done}
use Rattle.fallback_locks.proofs.alone.rerun_alone.Goals as goal

pub returns-clause-rows : goal.returns-clause-rows
returns-clause-rows c =
    let request = run_of c.args.catalog.now c.args.one.now.request in
    let declared = touchable c.args.one.now.declared in
    c.in_ok-put_changes.ensures ∙ ap (λ (d : Done). overwritten c.args.tables.now d.rows) c.in_ok-done.ensures
    ∙ ap (λ db. overwritten c.args.tables.now (late_rows is_done declared request db)) c.of.ensures
    ∙ sym (late_map-is key_cmp_total key_cmp-IsAntisymmetric is_done declared request c.args.tables.now)
