use Rattle.std.proofs.Common.{◌≡◌, ℕ, ◌<◌, ◌≤◌, length, Some}
use Rattle.std.specs.Prelude.{slice_get}
use Rattle.node_seats.specs.Seats.{IsLengthened}
use Rattle.node_seats.specs.declared.seats.Seat.{Seat}
use Rattle.node_seats.proofs.all_seats.lengthen_all.Given as goal

abbrev pub invariant-loop-place : goal.invariant-loop-place
invariant-loop-place l = record {
  many : length l.seats.items ≡ length l.initial.seats.items;
  each : (n : ℕ) (s t : Seat) → slice_get l.initial.seats.items n ≡ Some s → slice_get l.seats.items n ≡ Some t
      → (n < l.place → IsLengthened l.done l.new s t) × (l.place ≤ n → t ≡ s);
}
