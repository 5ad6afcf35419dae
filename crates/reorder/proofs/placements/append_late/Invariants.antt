use Rattle.std.proofs.Common.{◌≡◌, ◌+◌, ◌++◌, map, drop}
use Rattle.std.specs.List.{filter}
use Rattle.batch_rules.specs.Batches.{is_late}
use Rattle.reorder.specs.Orders.{bare_from}
use Rattle.reorder.proofs.placements.append_late.Given as goal

abbrev pub invariant-loop-place : goal.invariant-loop-place
invariant-loop-place l = l.tids.items ++ map (λ e. e.judged.tid) (filter is_late (bare_from (l.place + 1) (drop l.place l.verdicts) (drop l.place l.ended)))
    ≡ l.initial.tids.items ++ map (λ e. e.judged.tid) (filter is_late (bare_from 1 l.verdicts l.ended))
