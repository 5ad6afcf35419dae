use Rattle.std.proofs.Common.{◌≡◌, ◌+◌, ◌++◌, map, drop}
use Rattle.std.specs.List.{filter, enumerate_from}
use Rattle.reorder.specs.Orders.{finishes_with}
use Rattle.reorder.proofs.placements.append_finishing.Given as goal

abbrev pub invariant-loop-verdict : goal.invariant-loop-verdict
invariant-loop-verdict l = (l.tid ≡ l.verdict-index)
    × (l.tids.items ++ map (λ p. p.0) (filter (λ p. finishes_with l.raw p.1) (enumerate_from (l.tid + 1) (drop l.verdict-index l.verdicts)))
    ≡ l.initial.tids.items ++ map (λ p. p.0) (filter (λ p. finishes_with l.raw p.1) (enumerate_from 1 l.verdicts)))
