use Rattle.std.proofs.Common.{ap, arith, length}
use Rattle.tbl_rows.specs.Shards.{IsWhole}
use Rattle.tbl_rows.proofs.Together.{get-joined}
use Rattle.tbl_rows.proofs.tables.Tables.gather.Goals as goal

pub returns-clause-each : goal.returns-clause-each
returns-clause-each c =
    let whole : IsWhole c.args.shards.items = record {
      count = c.requires.count;
      numbered = c.requires.numbered;
      own = λ i d below. rw c.deref-shard-items.ensures.value at (c.loop-shard.invariant i d
          (omega (arith, below, c.loop-shard-test.false, ap length c.deref-shard-items.ensures.value)));
    } in
    get-joined c.args.shards.items whole
