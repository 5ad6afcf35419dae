use Rattle.std.proofs.Common.{◌≡◌, ap, ◌∙◌, rules}
use Rattle.tpcc_load.specs.Requests.{payment_call}
use Rattle.tpcc_load.proofs.Ordering.{payment-is}
use Rattle.tpcc_load.proofs.payments.payment.Goals as goal

pub returns-in_err-args-clause-past : goal.returns-in_err-args-clause-past
returns-in_err-args-clause-past c =
    ap (λ x. x.1) (payment-is c.args.settings.now c.args.number c.random-w.result c.random-d.result c.random-amount.result c.home-cw.result c.payer-by.result
    c.args.draws.now c.random-w.new.draws c.random-d.new.draws c.home-cw.new.draws c.payer-by.new.draws c.random-amount.new.draws
    c.random-w.ensures.drawn c.random-d.ensures.drawn c.home-cw.ensures c.payer-by.ensures c.random-amount.ensures.drawn)

pub returns-clause-past : goal.returns-clause-past
returns-clause-past c = ap (λ x. x.1) (payment-is c.args.settings.now c.args.number c.random-w.result c.random-d.result c.random-amount.result c.home-cw.result
    c.payer-by.result
    c.args.draws.now c.random-w.new.draws c.random-d.new.draws c.home-cw.new.draws c.payer-by.new.draws c.random-amount.new.draws
    c.random-w.ensures.drawn c.random-d.ensures.drawn c.home-cw.ensures c.payer-by.ensures c.random-amount.ensures.drawn)

pub returns-clause-call : goal.returns-clause-call
returns-clause-call c =
    let call : c.from_vec.result ≡ (payment_call c.args.number c.random-w.result c.random-d.result c.home-cw.result c.payer-by.result
    c.random-amount.result).args = search rules in
    ap (λ args. record { proc = 1; args = args }) call ∙ ap (λ x. x.0)
    (payment-is c.args.settings.now c.args.number c.random-w.result c.random-d.result c.random-amount.result c.home-cw.result c.payer-by.result
    c.args.draws.now c.random-w.new.draws c.random-d.new.draws c.home-cw.new.draws c.payer-by.new.draws c.random-amount.new.draws
    c.random-w.ensures.drawn c.random-d.ensures.drawn c.home-cw.ensures c.payer-by.ensures c.random-amount.ensures.drawn)
