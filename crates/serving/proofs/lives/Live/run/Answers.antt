use Rattle.serving.proofs.Nexts.{answer_is, next_after}
use Rattle.serving.proofs.lives.Live.run.Goals as goal

pub returns-clause-next : goal.returns-clause-next
returns-clause-next g c =
    next_after c.args.self c.args.new.items c.in_ok-replicas.replicas c.first-first.result.now c.in_ok-replicas.answer c.requires c.first-first.ensures.first
    c.first-first.ensures.alike
    c.in_ok-replicas.ensures.each c.in_ok-replicas.ensures.answer c.in_ok-replicas.ensures.serial

pub returns-clause-answer : goal.returns-clause-answer
returns-clause-answer g c =
    answer_is c.args.self.config c.args.new.items c.args.self.replicas c.first-first.result.now c.in_ok-replicas.answer c.first-first.ensures.first
    c.in_ok-replicas.ensures.answer
