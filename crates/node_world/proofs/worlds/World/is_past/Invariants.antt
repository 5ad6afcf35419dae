use Rattle.std.proofs.Common.{◌≡◌, length, drop}
use Rattle.std.specs.Prelude.{nat_le}
use Rattle.std.specs.List.{list_all}
use Rattle.node_world.proofs.worlds.World.is_past.Given as goal

abbrev pub invariant-loop-seat : goal.invariant-loop-seat
invariant-loop-seat l = list_all (λ s. nat_le l.batches (length s.entries.items)) (drop l.seat-index l.self.seats.items)
    ≡ list_all (λ s. nat_le l.batches (length s.entries.items)) l.self.seats.items
