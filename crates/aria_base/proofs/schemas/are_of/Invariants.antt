use Rattle.std.proofs.Common.{◌≡◌, map, take}
use Rattle.aria_base.proofs.schemas.are_of.Given as goal

abbrev pub invariant-loop-at : goal.invariant-loop-at
invariant-loop-at g l = map g.T.Kinded.kind_of (take l.at l.items) ≡ take l.at l.kinds
