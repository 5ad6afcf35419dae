use Rattle.std.proofs.Common.{◌≡◌, ◌≤◌, ◌<◌, ◌-◌, ℕ, All}
use Rattle.work_crew.specs.Hands.{places_of}
use Rattle.work_crew.proofs.crews.labour.Given as goal

abbrev pub invariant-loop-place : goal.invariant-loop-place
invariant-loop-place g l = record {
  table : l.seat.table ≡ l.fn.seat.table;
  share : l.seat.share ≡ l.fn.seat.share;
  below : All (λ x. x < l.claims.bound) l.seat.drawn;
  least : l.least ≤ l.claims.bound;
  rising : (x : ℕ) → All (λ y. y < x) l.seat.drawn → l.least ≤ x;
  did : g.W.Work.did l.work l.hand l.seat.share (places_of l.claims.bound l.seat.drawn);
}

abbrev pub decreases-loop-place : goal.decreases-loop-place
decreases-loop-place g l = l.claims.bound - l.least
