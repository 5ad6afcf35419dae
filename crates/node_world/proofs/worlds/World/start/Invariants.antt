use Rattle.aria_base.specs.Orders.{key_cmp, Cells, Database}
use Rattle.aria_base.specs.declared.calls.Request.{Request}
use Rattle.proc_lang.specs.declared.ends.End.{End}
use Rattle.node_rules.specs.Worlds.{World as Definition}
use Rattle.node_world.specs.Steps.{IsFixed, IsStarted}
use Rattle.node_world.proofs.worlds.World.start.Given as goal

abbrev pub invariant-nodes : goal.invariant-nodes
invariant-nodes l = record {
  fixed : IsFixed l.initial.self l.self;
  started : (start : Database) (end : Definition key_cmp Cells Request End) → IsStarted start end l.initial.self 0 l.old
      → IsStarted start end l.self l.n l.old;
}
