use Rattle.std.proofs.Common.{◌≡◌, ◌∙◌, ◌≤◌, arith}
use Rattle.row_batons.proofs.Touching.{one_more, all_of_them}
use Rattle.row_batons.proofs.layouts.touch_all.Goals as goal

pub loop-number-preserved : goal.loop-number-preserved
loop-number-preserved c =
    let kept = c.loop-number.invariant in
    let now = c.in_ok-touch_one.ensures in
    record {
      length = now.length ∙ kept.length;
      stamped = now.stamped;
      kept = λ k there. now.kept k (kept.kept k there);
      so_far = one_more c.args.table.now c.args.numbers.now c.loop-number.number-index c.loop-number.touched.items c.touch_one.new.touched.items kept.so_far
          now.kept now.there;
    }

pub returns-clause-all : goal.returns-clause-all
returns-clause-all c = all_of_them c.args.table.now c.args.numbers.now c.loop-number.number-index c.loop-number.touched.items
    (let end = c.loop-number-test.false in omega arith) c.loop-number.invariant.so_far
