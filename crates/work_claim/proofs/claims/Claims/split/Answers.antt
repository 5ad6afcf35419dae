use Rattle.std.proofs.Common.{rules}
use Rattle.work_claim.proofs.Keeps.{splits, below-key}
use Rattle.work_claim.proofs.claims.Claims.split.Goals as goal

pub split_seat-other-requires : goal.split_seat-other-requires
split_seat-other-requires c =
    (search rules, search rules, splits _ _ _ (search rules) (below-key _ _ _ _ _ c.self.view_is c.seat.view_is c.self.invariant.same_bound c.requires.below))
