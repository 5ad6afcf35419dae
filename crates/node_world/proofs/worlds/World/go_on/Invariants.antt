use Rattle.std.proofs.Common.{length, ◌-◌}
use Rattle.aria_base.specs.Orders.{key_cmp, Cells, Database}
use Rattle.aria_base.specs.declared.calls.Request.{Request}
use Rattle.proc_lang.specs.declared.ends.End.{End}
use Rattle.node_rules.specs.Worlds.{World as Definition}
use Rattle.node_world.specs.Worlds.{done_in}
use Rattle.node_world.specs.Steps.{IsFixed, IsOn}
use Rattle.node_world.proofs.worlds.World.go_on.Given as goal

abbrev pub invariant-batches : goal.invariant-batches
invariant-batches l = record {
  fixed : IsFixed l.initial.self l.self;
  on : (start : Database) (end : Definition key_cmp Cells Request End) → IsOn start end l.initial.self l.n → IsOn start end l.self l.n;
}

abbrev pub decreases-batches : goal.decreases-batches
decreases-batches l = length l.self.started.items - done_in l.self l.n
