-- The late fold over the types of the code: waiting requests run again one after the other, each on what the ones before it left.
use Rattle.std.specs.Prelude.{◌≡◌, List, map}
use Rattle.aria_base.specs.Orders.{Cells, Database}
use Rattle.aria_base.specs.declared.keys.Key.{Key}
use Rattle.aria_base.specs.declared.calls.Request.{Request}
use Rattle.batch_rules.specs.Trees.{Tree}
use Rattle.batch_rules.specs.Batches.{Fate, Ended, Moved, late_fates, late_left}
use Rattle.proc_lang.specs.declared.ends.End.{End}
use Rattle.proc_lang.specs.Meaning.{is_done}
use Rattle.proc_exec.specs.declared.outcomes.Waiting.{Waiting}
use Rattle.proc_exec.specs.declared.outcomes.Late.{Late}
use Rattle.proc_exec.specs.declared.outcomes.Late.TheVariants as late
use Rattle.proc_exec.specs.Limits.{touchable}

-- what became of a request that was run again, as the rules of a batch name it
abbrev pub fate_of : Late → Fate Key End
fate_of (late.Finished end) = Ended end
fate_of (late.Moved key) = Moved key

-- Run again on `start`, the waiting requests have these results, in their order, and leave this database. A result is told by its
-- fate, and no two results have one fate.
pub record IsLateFold (tree : Request → Tree Key Cells End) (start : Database) (waiting : List Waiting)
    (results : List Late) (left : Database) : Type 0 where
  pub fates : map fate_of results ≡ late_fates is_done (λ w. touchable w.declared) (λ w. tree w.request) start waiting
  pub rows : left ≡ late_left is_done (λ w. touchable w.declared) (λ w. tree w.request) start waiting
