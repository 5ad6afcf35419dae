use Rattle.std.proofs.Common.{◌≡◌, drop, take}
use Rattle.row_batons.specs.Windows.{laid, AreAt}
use Rattle.row_batons.proofs.windows.fill.Given as goal

abbrev pub invariant-loop-slot : goal.invariant-loop-slot
invariant-loop-slot g l =
    (laid (g.A.Access.seen l.window).map l.keys (drop l.slot-index l.touched) (drop l.slot-index l.rows) ≡ laid
    (g.A.Access.seen l.fn.window).map l.keys l.touched l.rows)
    × (l.index ≡ l.slot-index)
    × AreAt l.keys (take l.slot-index l.touched) (g.A.Access.seen l.window).noted.writes
