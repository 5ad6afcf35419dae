use Rattle.std.proofs.Common.{◌≡◌, map, take, cond}
use Rattle.std.specs.FinMap as fin
use Rattle.aria_base.specs.Orders.{key_cmp}
use Rattle.aria_base.specs.declared.keys.Key.{Key}
use Rattle.batch_rules.specs.Touches.{is_among, overwritten}
use Rattle.range_runs.proofs.overlays.make_listed.Given as goal

abbrev pub invariant-loop-key : goal.invariant-loop-key
invariant-loop-key l = (q : Key) → fin.get l.found q
    ≡ cond (is_among key_cmp (map (λ k. k.now) (take l.key-index l.key-items)) q) (fin.get (overwritten l.overlay.base l.overlay.noted.writes) q)
    (fin.get l.initial.found q)
