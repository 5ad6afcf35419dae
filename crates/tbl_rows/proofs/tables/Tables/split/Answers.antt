use Rattle.std.proofs.Common.{sym}
use Rattle.tbl_rows.proofs.Together.{get-joined}
use Rattle.tbl_rows.proofs.tables.Tables.split.Goals as goal

pub returns-clause-each : goal.returns-clause-each
returns-clause-each c = λ q. rw (← c.self.view_is) (sym (get-joined _ c.self.invariant q))
