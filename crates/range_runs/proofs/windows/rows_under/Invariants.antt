use Rattle.std.proofs.Common.{◌≡◌, map, take, cond, None}
use Rattle.std.specs.FinMap as fin
use Rattle.aria_base.specs.Orders.{key_cmp}
use Rattle.aria_base.specs.declared.keys.Key.{Key}
use Rattle.batch_rules.specs.Touches.{is_among}
use Rattle.range_runs.proofs.windows.rows_under.Given as goal

abbrev pub invariant-loop-key : goal.invariant-loop-key
invariant-loop-key l = (q : Key) → fin.get l.found q ≡ cond (is_among key_cmp (map (λ k. k.now) (take l.key-index l.key-items)) q) (fin.get l.snapshot q) None
