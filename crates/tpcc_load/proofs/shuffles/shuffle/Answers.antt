use Rattle.std.proofs.Common.{◌∙◌, arith}
use Rattle.tpcc_load.proofs.Layings.{shuffled-step, shuffled-end}
use Rattle.tpcc_load.proofs.shuffles.shuffle.Goals as goal

pub loop-last-preserved : goal.loop-last-preserved
loop-last-preserved c =
    let inv = c.loop-last.invariant in
    let same = c.change.ensures.count in
    let some = c.loop-last-test.true in (
      omega (arith, same, some, inv.0),
      omega (arith, some, inv.1),
      same ∙ inv.2,
      shuffled-step c.loop-last.last c.random-other.result c.loop-last.places.items c.change.new.places.items c.loop-last.draws c.random-other.new.draws
          c.loop-last-test.true c.random-other.ensures.drawn c.change.ensures.places ∙ inv.3,
    )

pub returns-clause-drawn : goal.returns-clause-drawn
returns-clause-drawn c = shuffled-end c.loop-last.last c.loop-last.places.items c.loop-last.draws c.loop-last-test.false ∙ c.loop-last.invariant.3
