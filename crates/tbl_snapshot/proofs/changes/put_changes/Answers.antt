use Rattle.tbl_snapshot.proofs.Changing.{last_put}
use Rattle.tbl_snapshot.proofs.changes.put_changes.Goals as goal

pub loop-key-preserved : goal.loop-key-preserved
loop-key-preserved c =
    last_put c.loop-key.tables c.put_change.new.tables _ c.loop-key.changes.items c.pop.new.self.items c.in-Some.key c.in-Some.row
    c.in-Some.ensures.items c.in_ok-put_change.ensures c.loop-key.invariant
