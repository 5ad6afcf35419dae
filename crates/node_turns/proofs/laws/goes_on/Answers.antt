use Rattle.node_turns.proofs.Going.{gone, last_done, next_begun}
use Rattle.node_turns.proofs.laws.goes_on.Goals as goal

pub returns : goal.returns
returns g c R net is start end w n going = record {
  there = gone net is start end w n going;
  last = λ lt over none. last_done net is start end w n going lt over none;
  next = λ lt over more. next_begun net is start end w n going lt over more;
}
