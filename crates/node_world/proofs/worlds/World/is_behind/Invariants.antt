use Rattle.std.proofs.Common.{◌≡◌, length, drop}
use Rattle.std.specs.Prelude.{nat_lt}
use Rattle.std.specs.List.{list_any}
use Rattle.node_world.proofs.worlds.World.is_behind.Given as goal

abbrev pub invariant-loop-seat : goal.invariant-loop-seat
invariant-loop-seat l = list_any (λ s. nat_lt (length s.entries.items) (length l.self.started.items)) (drop l.seat-index l.self.seats.items)
    ≡ list_any (λ s. nat_lt (length s.entries.items) (length l.self.started.items)) l.self.seats.items
