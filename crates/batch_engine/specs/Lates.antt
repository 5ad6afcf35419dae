-- The late run at the end of a batch.
use Rattle.std.specs.Prelude.{◌≡◌, ℕ, ◌*◌, ◌&&◌, nat_lt, nat_le, List, [], Bool, if◌then◌else◌}
use Rattle.aria_base.specs.Orders.{Cells, Database}
use Rattle.aria_base.specs.declared.calls.Request.{Request}
use Rattle.aria_base.specs.declared.keys.Key.{Key}
use Rattle.batch_rules.specs.Trees.{Tree}
use Rattle.batch_rules.specs.Batches.{Fate, late_fates, late_left}
use Rattle.proc_lang.specs.declared.ends.End.{End}
use Rattle.proc_lang.specs.Meaning.{is_done}
use Rattle.proc_exec.specs.declared.outcomes.Waiting.{Waiting}
use Rattle.proc_exec.specs.Limits.{touchable}

-- of so many requests at least one waits, and of a hundred at least `percent`
abbrev pub is_due : ℕ → ℕ → ℕ → Bool
is_due percent waiting size = nat_lt 0 waiting && nat_le (percent * size) (waiting * 100)

-- where it is due, the requests that wait have these fates and leave these rows, each run again within the keys that it touched
pub record LateRun (tree : Request → Tree Key Cells End) (due : Bool) (start : Database) (waiting : List Waiting)
    (left : Database) (results : List (Fate Key End)) : Type 0 where
  pub rows : left ≡ (if due then late_left is_done (λ w. touchable w.declared) (λ w. tree w.request) start waiting else start)
  pub fates : results ≡ (if due then late_fates is_done (λ w. touchable w.declared) (λ w. tree w.request) start waiting else [])
