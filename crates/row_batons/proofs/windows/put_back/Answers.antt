use Rattle.std.proofs.Common.{◌≡◌, ◌∙◌, sym, ap, arith}
use Rattle.row_batons.proofs.Fronts.{one_back}
use Rattle.row_batons.proofs.windows.put_back.Goals as goal

pub loop-write-preserved : goal.loop-write-preserved
loop-write-preserved c =
    one_back (λ w. w.1) c.loop-write.writes.items c.pop.new.self.items c.in-Some.write c.loop-write.rows.items c.set_row.new.rows.items _ c.len.result
    c.in-Some.ensures.items
    (let e = c.len.ensures in let v = c.pop.new.self.ok.0 in omega arith) c.set_row.ensures c.loop-write.invariant.1 c.loop-write.invariant.0
