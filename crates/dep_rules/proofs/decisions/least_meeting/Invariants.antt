use Rattle.std.proofs.Common.{◌≡◌, ◌+◌, drop}
use Rattle.std.specs.List.{position_from}
use Rattle.aria_base.specs.Orders.{key_cmp}
use Rattle.batch_rules.specs.Verdicts.{meets}
use Rattle.dep_rules.specs.Decisions.{side_of}
use Rattle.dep_rules.proofs.decisions.least_meeting.Given as goal

abbrev pub invariant-loop-other : goal.invariant-loop-other
invariant-loop-other l = (l.tid ≡ l.other-index)
    × (position_from (λ other. meets key_cmp l.keys (side_of l.side other)) (l.tid + 1) (drop l.other-index l.earlier)
    ≡ position_from (λ other. meets key_cmp l.keys (side_of l.side other)) 1 l.earlier)
