use Rattle.std.proofs.Common.{refl}
use Rattle.install_phase.specs.Installs.{written}
use Rattle.install_phase.proofs.Installing.{count_after, numbered_after, together}
use Rattle.install_phase.proofs.installs.install_by.Goals as goal

pub gather-requires-clause-count : goal.gather-requires-clause-count
gather-requires-clause-count g c =
    count_after c.split.result.items c.in_ok-shards.shards.items (written 1 c.args.list.now c.args.verdicts.now) c.split.ensures.whole c.in_ok-shards.ensures

pub gather-requires-clause-numbered : goal.gather-requires-clause-numbered
gather-requires-clause-numbered g c =
    numbered_after c.split.result.items c.in_ok-shards.shards.items (written 1 c.args.list.now c.args.verdicts.now) c.split.ensures.whole c.in_ok-shards.ensures

pub returns : goal.returns
returns g c =
    together c.split.result.items c.in_ok-shards.shards.items (written 1 c.args.list.now c.args.verdicts.now) c.split.ensures.whole c.in_ok-shards.ensures
    c.gather.result c.args.tables 1 c.args.list.now c.args.verdicts.now refl c.split.ensures.each c.gather.ensures.each
