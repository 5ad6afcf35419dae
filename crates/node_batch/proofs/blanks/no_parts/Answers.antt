use Rattle.node_rules.specs.Dues.{no_sets}
use Rattle.node_batch.specs.Letters.{sets_of}
use Rattle.node_batch.proofs.Blank.{one_more}
use Rattle.node_batch.proofs.blanks.no_parts.Goals as goal

pub loop-preserved : goal.loop-preserved
loop-preserved c = one_more sets_of no_sets c.loop.parts.items c.push.new.self.items c.no_part.result c.loop.counter c.loop.invariant
    c.in_ok-push.ensures.items c.no_part.ensures
