use Rattle.std.proofs.Common.{◌≤◌, ◌<◌, ◌-◌, ◌^◌, length, arith}
use Rattle.std.proofs.lemmas.Bool.{leb-true}
use Rattle.key_numbering.proofs.Growing.{few_touched}
use Rattle.key_numbering.proofs.numbering.may_be_numbered.Goals as goal

pub returns-then-sets-le-MOST_REQUESTS-clause-touched : goal.returns-then-sets-le-MOST_REQUESTS-clause-touched
returns-then-sets-le-MOST_REQUESTS-clause-touched c fits =
    let ended : length c.args.sets.now ≤ c.loop-set.set-index = omega arith in
    let below : 2560000 < 2 ^ 64 - 1 = omega arith in
    few_touched (2 ^ 64 - 1) c.loop-set.touched 2560000 c.args.sets.now c.loop-set.set-index below ended c.loop-set.invariant
    (leb-true c.loop-set.touched 2560000 fits)
