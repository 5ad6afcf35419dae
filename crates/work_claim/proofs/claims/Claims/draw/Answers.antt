use Rattle.std.proofs.Common.{rules, arith}
use Rattle.work_claim.proofs.Keeps.{draws, below-key}
use Rattle.work_claim.proofs.claims.Claims.draw.Goals as goal

pub fetch_add-next-requires : goal.fetch_add-next-requires
fetch_add-next-requires c = (
  search rules,
  search rules,
  draws _ _ _ _ (search rules) (omega (arith, c.self.invariant.fits, c.self.invariant.same_bound))
      (below-key _ _ _ _ _ c.self.view_is c.seat.view_is c.self.invariant.same_bound c.requires.below),
)
