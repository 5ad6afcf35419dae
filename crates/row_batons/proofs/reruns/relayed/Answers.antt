use denote.Param.Send.{sendable}
use Rattle.std.proofs.Crossing.{crosses}
use Rattle.std.proofs.Common.{◌≡◌, ◌∙◌, ℕ, ap, sym, refl, subst, List}
use Rattle.tbl_snapshot.proofs.snapshots.Snapshot.TheSendSync as snapshot
use Rattle.proc_exec.proofs.outcomes.Waiting.TheSendSync as one
use Rattle.aria_base.proofs.keys.Key.TheSendSync as key
use Rattle.aria_base.proofs.Orders.{key_cmp_total, key_cmp-IsAntisymmetric}
use Rattle.batch_rules.specs.Touches.{overwritten}
use Rattle.proc_lang.specs.Catalogs.{run_of}
use Rattle.proc_lang.specs.Meaning.{is_done}
use Rattle.proc_lang.proofs.Crosses.{catalog_sync}
use Rattle.proc_exec.specs.Lates.{IsLateFold}
use Rattle.proc_exec.specs.Limits.{touchable}
use Rattle.row_batons.specs.Fallbacks.{touches_in}
use Rattle.row_batons.specs.Windows.{paired, rows_in}
use Rattle.row_batons.proofs.Folds.{is_course}
use Rattle.row_batons.proofs.Handed.{first_are, fold_is, both_ok}
use Rattle.row_batons.proofs.reruns.relayed.Goals as goal

pub relay-requires-sync-W : goal.relay-requires-sync-W
relay-requires-sync-W g c κs within = search (one.the_sync, snapshot.the_sync, key.the_sync, catalog_sync, crosses, sendable) depth 30

pub relay-requires-clause-course : goal.relay-requires-clause-course
relay-requires-clause-course g c κs within = is_course key_cmp_total key_cmp-IsAntisymmetric is_done (λ w. touchable w.declared)
    (λ w. run_of c.args.catalog.now w.request) c.of.result c.args.waiting.now c.args.keys.now (touches_in c.args.touches.now) c.requires.laid

pub relay-requires-clause-rows : goal.relay-requires-clause-rows
relay-requires-clause-rows g c κs within = first_are (run_of c.args.catalog.now) c.of.result c.args.waiting.now c.args.keys.now
    (touches_in c.args.touches.now) c.in_ok-rows.rows.items
    (c.in_ok-rows.ensures ∙ ap (λ d. rows_in d c.args.keys.now) (sym c.of.ensures))

pub returns-clause-fold : goal.returns-clause-fold
returns-clause-fold g c = both_ok c.relay.result _ _ _ (λ r are given.
    subst (λ d. IsLateFold (run_of c.args.catalog.now) d c.args.waiting.now r.1.items (overwritten d (paired c.args.keys.now r.0.items))) c.of.ensures
    (fold_is (run_of c.args.catalog.now) c.of.result c.args.waiting.now c.args.keys.now (touches_in c.args.touches.now) c.requires.laid r.0.items r.1.items are
    given))
    c.relay.ensures.rows c.relay.ensures.given
