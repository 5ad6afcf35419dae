use Rattle.tbl_rows.proofs.Beside.{apart-near, apart-far}
use Rattle.tbl_rows.proofs.rows.overflows.Goals as goal

pub returns-then-is_crowded : goal.returns-then-is_crowded
returns-then-is_crowded c = rw c.is_some.ensures (apart-near _ _ _ _ c.requires.apart c.get.ensures)

pub returns : goal.returns
returns c = rw c.is_some-2.ensures (apart-far _ _ _ _ c.requires.apart c.get-2.ensures)
