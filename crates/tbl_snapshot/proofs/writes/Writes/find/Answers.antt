use Rattle.tbl_snapshot.proofs.Marked.{found_at}
use Rattle.tbl_snapshot.proofs.writes.Writes.find.Goals as goal

pub returns-in-Some : goal.returns-in-Some
returns-in-Some c = rw (← c.self.view_is) (found_at c.self.inside.rows.items c.args.key.now c.in-Some.place c.index.result.now
    (rw (← c.self.view_is) at c.in-Some.ensures) c.index.ensures)
