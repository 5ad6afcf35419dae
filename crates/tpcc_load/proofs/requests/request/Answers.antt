use Rattle.std.proofs.Common.{ap, sym, subst}
use Rattle.load_gen.specs.Draws.{IsPast}
use Rattle.load_gen.proofs.Advances.{past-trans}
use Rattle.tpcc_load.proofs.Advances.{payment-advances}
use Rattle.tpcc_load.proofs.requests.request.Goals as goal

pub returns-in_err-call-clause-further : goal.returns-in_err-call-clause-further
returns-in_err-call-clause-further c = past-trans c.args.draws.now c.random.new.draws _ (1, ap (λ x. x.1) c.random.ensures.drawn) c.in_err-call.ensures.further

pub returns-then-random-lt45-clause-further : goal.returns-then-random-lt45-clause-further
returns-then-random-lt45-clause-further c = past-trans c.args.draws.now c.random.new.draws _
    (1, ap (λ x. x.1) c.random.ensures.drawn) c.in_ok-call.ensures.further

pub returns-in_err-call-2-clause-further : goal.returns-in_err-call-2-clause-further
returns-in_err-call-2-clause-further c =
    past-trans c.args.draws.now c.random.new.draws _ (1, ap (λ x. x.1) c.random.ensures.drawn)
    (subst (IsPast c.random.new.draws) (sym c.in_err-call-2.ensures.past) (payment-advances c.args.settings.now c.args.number c.random.new.draws))

pub returns-clause-further : goal.returns-clause-further
returns-clause-further c =
    past-trans c.args.draws.now c.random.new.draws _ (1, ap (λ x. x.1) c.random.ensures.drawn)
    (subst (IsPast c.random.new.draws) (sym c.in_ok-call-2.ensures.past) (payment-advances c.args.settings.now c.args.number c.random.new.draws))
