use Rattle.std.proofs.Common.{◌≡◌, ◌++◌, map}
use Rattle.std.specs.Vec.Iter.{into_iter_items}
use Rattle.batch_rules.specs.Batches.{late_fates, late_left}
use Rattle.proc_lang.specs.Catalogs.{run_of}
use Rattle.proc_lang.specs.Meaning.{is_done}
use Rattle.proc_exec.specs.Lates.{fate_of}
use Rattle.proc_exec.specs.Limits.{touchable}
use Rattle.batch_engine.specs.Answers.{still_waiting}
use Rattle.batch_engine.proofs.lates.rerun_in_turn.Given as goal

abbrev pub invariant-loop-one : goal.invariant-loop-one
invariant-loop-one g l =
    (goal.iterator-loop-one g).can_next l.one-iterator ×
    (goal.iterator-loop-one g).is_finite l.one-iterator ×
    (map fate_of l.lates.items ++ late_fates is_done (λ w. touchable w.declared) (λ w. run_of l.catalog w.request) l.tables (into_iter_items l.one-iterator)
    ≡ late_fates is_done (λ w. touchable w.declared) (λ w. run_of l.catalog w.request) l.fn.tables l.fn.waiting.items) ×
    (late_left is_done (λ w. touchable w.declared) (λ w. run_of l.catalog w.request) l.tables (into_iter_items l.one-iterator)
    ≡ late_left is_done (λ w. touchable w.declared) (λ w. run_of l.catalog w.request) l.fn.tables l.fn.waiting.items) ×
    (l.carried.items ++ still_waiting (into_iter_items l.one-iterator)
    (late_fates is_done (λ w. touchable w.declared) (λ w. run_of l.catalog w.request) l.tables (into_iter_items l.one-iterator))
    ≡ still_waiting l.fn.waiting.items (late_fates is_done (λ w. touchable w.declared) (λ w. run_of l.catalog w.request) l.fn.tables l.fn.waiting.items))
