use Rattle.std.proofs.Common.{◌≡◌, ◌++◌, drop}
use Rattle.baton_crew.specs.Plans.{looked_up}
use Rattle.baton_crew.proofs.plans.look_up.Given as goal

abbrev pub invariant-loop-slot : goal.invariant-loop-slot
invariant-loop-slot l = l.list.items ++ looked_up l.firsts (drop l.slot-index l.touched) ≡ looked_up l.firsts l.touched
