use Rattle.tbl_snapshot.proofs.Marked.{has-some, has-none}
use Rattle.tbl_snapshot.proofs.writes.Writes.has.Goals as goal

pub returns-in-Some : goal.returns-in-Some
returns-in-Some c = has-some c.args.self.now c.args.key.now _ c.in-Some.ensures

pub returns-in-None : goal.returns-in-None
returns-in-None c = has-none c.args.self.now c.args.key.now c.in-None.ensures
