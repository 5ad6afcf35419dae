use Rattle.std.proofs.Common.{ap}
use Rattle.load_gen.proofs.Advances.{past-trans}
use Rattle.tpcc_routines.proofs.mixes.request.Goals as goal

pub returns-in_err-work-clause-further : goal.returns-in_err-work-clause-further
returns-in_err-work-clause-further c =
    past-trans c.args.draws.now c.random-kind.new.draws _ (1, ap (λ x. x.1) c.random-kind.ensures.drawn) c.in_err-work.ensures.further

pub returns-clause-further : goal.returns-clause-further
returns-clause-further c =
    past-trans c.args.draws.now c.random-kind.new.draws _ (1, ap (λ x. x.1) c.random-kind.ensures.drawn) c.in_ok-work.ensures.further
