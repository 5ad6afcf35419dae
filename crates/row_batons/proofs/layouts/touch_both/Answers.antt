use Rattle.std.proofs.Common.{◌≡◌, ◌∙◌, ◌<◌, arith, length}
use Rattle.row_batons.proofs.Touching.{all_still}
use Rattle.row_batons.proofs.layouts.touch_both.Goals as goal

pub returns-clause-touch : goal.returns-clause-touch
returns-clause-touch c =
    let first = c.in_ok-touch_all.ensures in
    let second = c.in_ok-touch_all-2.ensures in
    record {
      once = second.stamped.once;
      within = λ k there. let lt = second.stamped.within k there in let one = first.length in let two = second.length in omega arith;
      reads_touched = second.all;
      writes_touched = all_still c.args.table.now c.args.writes.now c.touch_all.new.touched.items c.touch_all-2.new.touched.items second.kept first.all;
    }
