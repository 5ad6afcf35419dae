use Rattle.std.proofs.Common.{◌≡◌, drop}
use Rattle.std.specs.List.{list_all}
use Rattle.range_suits.specs.Suits.{is_taken}
use Rattle.worked_scans.specs.Steps.{takes_any}
use Rattle.worked_scans.proofs.engines.waiting_taken.Given as goal

abbrev pub invariant-loop-one : goal.invariant-loop-one
invariant-loop-one l = list_all (λ w. is_taken l.engine.plan takes_any w.work) (drop l.one-index l.waiting)
    ≡ list_all (λ w. is_taken l.engine.plan takes_any w.work) l.waiting
