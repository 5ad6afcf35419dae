use Rattle.tbl_snapshot.proofs.Changing.{last_put}
use Rattle.install_phase.proofs.puts.put_all.Goals as goal

pub loop-key-preserved : goal.loop-key-preserved
loop-key-preserved g c =
    last_put c.loop-key.tables c.put_change.new.tables _ c.loop-key.changes.items c.pop.new.self.items c.in-Some.key c.in-Some.row
    c.in-Some.ensures.items c.in_ok-put_change.ensures c.loop-key.invariant
