-- Rows of a catalogue stay so behind a late run, in whatever way it is made.
use Rattle.std.proofs.Common.{List, sym, subst}
use Rattle.aria_base.specs.Orders.{Database}
use Rattle.aria_base.specs.Schemas.{IsConsistent}
use Rattle.proc_exec.specs.Lates.{IsLateFold}
use Rattle.proc_exec.specs.declared.outcomes.Waiting.{Waiting}
use Rattle.proc_exec.specs.declared.outcomes.Late.{Late}
use Rattle.proc_lang.specs.Catalogs.{Plan, run_of}
use Rattle.proc_sound.proofs.Runs.{catalog_stays_consistent_is}
use Rattle.fallback_locks.specs.Reruns.{AllFit}
use Rattle.fallback_locks.proofs.Filling.{late_keeps}

pub rows_still_fit : (plan : Plan) (waiting : List Waiting) (before after : Database) (lates : List Late)
    → IsLateFold (run_of plan) before waiting lates after → AllFit plan waiting before → IsConsistent plan.tables after
rows_still_fit plan waiting before after lates fold fits =
    subst (IsConsistent plan.tables) (sym fold.rows)
    (late_keeps (run_of plan) (IsConsistent plan.tables) waiting before
    (λ k d below rows before. (catalog_stays_consistent_is plan _ rows fits.catalog (fits.calls k d below) before).after) fits.rows_fit)
