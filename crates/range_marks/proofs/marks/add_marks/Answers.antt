use Rattle.std.proofs.Common.{◌++◌, [], ◌∷◌, sym, ap, ◌∙◌, append_assoc}
use Rattle.std.specs.Prelude.{if◌then◌else◌}
use Rattle.std.specs.FinMap as fin
use Rattle.range_marks.specs.Marks.{fronts_below}
use Rattle.range_marks.proofs.Marking.{fronts_more}
use Rattle.range_marks.proofs.marks.add_marks.Goals as goal

pub loop-count-preserved : goal.loop-count-preserved
loop-count-preserved c =
    let scanned = c.args.scanned.now in
    let k = c.args.key.now in
    let n = c.loop-count.count in
    let before = c.args.marks.now.items in
    let front = c.in_ok-front.ensures in
    let there = c.contains-there.ensures ∙ ap (fin.contains_key scanned) front in
    c.in_ok-push_if.ensures ∙ (λ i. c.loop-count.invariant i ++ (if there i then front i ∷ [] else []))
    ∙ append_assoc before (fronts_below scanned k n) _ ∙ ap (λ l. before ++ l) (sym (fronts_more scanned k n))
