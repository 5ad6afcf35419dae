use Rattle.std.proofs.Common.{◌≡◌, ◌++◌, false}
use Rattle.std.specs.Prelude.{replicate}
use Rattle.node_world.proofs.worlds.push_flags.Given as goal

abbrev pub invariant-loop : goal.invariant-loop
invariant-loop l = l.flags.items ≡ l.initial.flags.items ++ replicate l.counter false
