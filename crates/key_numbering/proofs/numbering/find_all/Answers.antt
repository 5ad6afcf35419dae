use Rattle.std.proofs.Common.{◌<◌, ◌≡◌, length, arith}
use Rattle.key_numbering.proofs.Settling.{found_more, found_all}
use Rattle.key_numbering.proofs.numbering.find_all.Goals as goal

pub loop-set-preserved : goal.loop-set-preserved
loop-set-preserved c =
    let below : c.loop-set.set-index < length c.args.sets.now = omega arith in
    found_more _ _ _ _ c.set-item.result c.in_ok-find.field-0 _ c.loop-set.invariant below c.set-item.is c.in_ok-find.ensures c.in_ok-push.ensures.items

pub returns : goal.returns
returns c =
    let whole : length c.args.sets.now ≡ c.loop-set.set-index = omega arith in
    found_all _ _ _ _ c.loop-set.invariant whole
