use Rattle.std.proofs.Common.{ap, sym, ◌∙◌, subst}
use Rattle.load_gen.specs.Draws.{IsPast}
use Rattle.load_gen.proofs.Advances.{past-trans}
use Rattle.tpcc_load.proofs.Advances.{start-advances}
use Rattle.tpcc_load.proofs.Ordering.{order-is}
use Rattle.tpcc_load.proofs.requests.new_order.Goals as goal

pub returns-in_err-lines-clause-further : goal.returns-in_err-lines-clause-further
returns-in_err-lines-clause-further c =
    let g = c.args.draws.now in
    let begun = subst (IsPast g) (sym (ap (λ x. x.1) c.order_start-start.ensures.drawn)) (start-advances c.args.settings.now g) in
    past-trans g c.order_start-start.new.draws _ begun c.in_err-lines.ensures.further

pub returns-in_err-call-clause-further : goal.returns-in_err-call-clause-further
returns-in_err-call-clause-further c =
    let g = c.args.draws.now in
    let begun = subst (IsPast g) (sym (ap (λ x. x.1) c.order_start-start.ensures.drawn)) (start-advances c.args.settings.now g) in
    past-trans g c.order_start-start.new.draws _ begun c.in_ok-lines.ensures.further

pub returns-clause-call : goal.returns-clause-call
returns-clause-call c =
    c.in_ok-call.ensures ∙ ap (λ x. x.0) (order-is c.args.settings.now c.args.number c.order_start-start.result c.in_ok-lines.lines c.args.draws.now
    c.order_start-start.new.draws c.lines.new.draws
    c.order_start-start.ensures.drawn c.in_ok-lines.ensures.lines c.in_ok-lines.ensures.past)

pub returns-clause-past : goal.returns-clause-past
returns-clause-past c =
    ap (λ x. x.1) (order-is c.args.settings.now c.args.number c.order_start-start.result c.in_ok-lines.lines c.args.draws.now c.order_start-start.new.draws
    c.lines.new.draws
    c.order_start-start.ensures.drawn c.in_ok-lines.ensures.lines c.in_ok-lines.ensures.past)

pub returns-clause-further : goal.returns-clause-further
returns-clause-further c =
    let g = c.args.draws.now in
    let begun = subst (IsPast g) (sym (ap (λ x. x.1) c.order_start-start.ensures.drawn)) (start-advances c.args.settings.now g) in
    past-trans g c.order_start-start.new.draws _ begun c.in_ok-lines.ensures.further
