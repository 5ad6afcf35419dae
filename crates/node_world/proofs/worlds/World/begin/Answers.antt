use Rattle.std.proofs.Common.{refl, arith}
use Rattle.node_world.specs.declared.worlds.World.{World}
use Rattle.node_world.proofs.Begun.{begun_kept, begun_world}
use Rattle.node_world.proofs.worlds.World.begin.Goals as goal

pub returns-clause-kept : goal.returns-clause-kept
returns-clause-kept c =
    let w : World = record {
      catalog = c.args.catalog;
      rule = c.args.rule;
      nodes = c.args.nodes;
      started = c.new.result;
      requests = 0;
      sent = c.new-2.result;
      given = c.new-3.result;
      seats = c.in_ok-seats.seats;
    } in
    begun_kept w c.args.rows.now c.new.ensures.items c.new-2.ensures.items c.new-3.ensures.items refl c.in_ok-seats.ensures (omega arith) (omega arith)

pub returns-clause-world : goal.returns-clause-world
returns-clause-world c =
    let w : World = record {
      catalog = c.args.catalog;
      rule = c.args.rule;
      nodes = c.args.nodes;
      started = c.new.result;
      requests = 0;
      sent = c.new-2.result;
      given = c.new-3.result;
      seats = c.in_ok-seats.seats;
    } in
    begun_world w c.args.rows.now c.new.ensures.items c.new-2.ensures.items c.new-3.ensures.items refl c.in_ok-seats.ensures
