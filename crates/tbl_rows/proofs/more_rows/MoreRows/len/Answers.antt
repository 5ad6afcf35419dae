use Rattle.std.proofs.Common.{arith}
use Rattle.tbl_rows.proofs.Listed.{len-listed}
use Rattle.tbl_rows.proofs.more_rows.MoreRows.len.Goals as goal

pub returns : goal.returns
returns c = rw (← c.self.view_is) (omega (arith, c.len.ensures, c.self.inside.entries.ok.0, len-listed c.self.inside.entries.items c.self.invariant))
