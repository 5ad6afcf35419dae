use Rattle.std.proofs.Common.{◌≡◌, drop}
use Rattle.std.specs.List.{list_all}
use Rattle.range_suits.specs.Suits.{is_taken}
use Rattle.worked_scans.specs.Steps.{takes_any}
use Rattle.worked_scans.proofs.engines.are_taken.Given as goal

abbrev pub invariant-loop-work : goal.invariant-loop-work
invariant-loop-work l = list_all (is_taken l.engine.plan takes_any) (drop l.work-index l.works)
    ≡ list_all (is_taken l.engine.plan takes_any) l.works
