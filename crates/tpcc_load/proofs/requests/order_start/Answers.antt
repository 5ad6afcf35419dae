use Rattle.tpcc_load.proofs.Ordering.{start-is}
use Rattle.tpcc_load.proofs.requests.order_start.Goals as goal

pub returns-clause-drawn : goal.returns-clause-drawn
returns-clause-drawn c =
    start-is c.args.settings.now c.random-w.result c.random-d.result c.drawn_customer-c.result c.random-count.result c.random-fails.result
    c.args.draws.now c.random-w.new.draws c.random-d.new.draws c.drawn_customer-c.new.draws c.random-count.new.draws c.random-fails.new.draws
    c.random-w.ensures.drawn c.random-d.ensures.drawn c.drawn_customer-c.ensures c.random-count.ensures.drawn c.random-fails.ensures.drawn
