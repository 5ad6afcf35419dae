use Rattle.std.proofs.Common.{◌≡◌, ◌<◌, All}
use Rattle.worked_phases.proofs.claims.draw_all.Given as goal

abbrev pub invariant-loop : goal.invariant-loop
invariant-loop l = record {
  own : l.seat.table ≡ l.claims.table;
  share : l.seat.share ≡ l.fn.seat.share;
  below : All (λ x. x < l.claims.bound) l.seat.drawn;
}
