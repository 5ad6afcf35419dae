use Rattle.std.proofs.Common.{◌≡◌, ◌∙◌}
use Rattle.load_gen.specs.Draws.{IsPast}
use Rattle.load_gen.proofs.Advances.{Advances}
use Rattle.rand_pcg.specs.Lcg.{Lcg}
use Rattle.range_rules.specs.declared.routines.Work.{Work}
use Rattle.load_gen.specs.Draws.{Drawn}
use Rattle.tpcc_routines.specs.Mixes.{order_status, delivery, stock_level, proc_payment}
use Rattle.tpcc_routines.proofs.Drawing.{status-advances, delivery-advances, level-advances, proc_payment-advances}
use Rattle.tpcc_routines.proofs.mixes.work_of.Goals as goal

-- behind what was drawn the words stand further
further : (drawn : Drawn Work) (old new : Lcg) → Advances drawn → new ≡ (drawn old).1 → IsPast old new
further drawn old new advances past = let a = advances old in (a.0, past ∙ a.1)

pub returns-in_err-work-2-clause-further : goal.returns-in_err-work-2-clause-further
returns-in_err-work-2-clause-further c = further (proc_payment c.args.settings.now c.args.number) c.args.draws.now _
    (proc_payment-advances c.args.settings.now c.args.number) c.proc_payment.ensures.past

pub returns-then-kind-lt88-clause-further : goal.returns-then-kind-lt88-clause-further
returns-then-kind-lt88-clause-further c = further (proc_payment c.args.settings.now c.args.number) c.args.draws.now _
    (proc_payment-advances c.args.settings.now c.args.number) c.proc_payment.ensures.past

pub returns-in_err-work-3-clause-further : goal.returns-in_err-work-3-clause-further
returns-in_err-work-3-clause-further c = further (order_status c.args.settings.now) c.args.draws.now _
    (status-advances c.args.settings.now) c.order_status.ensures.past

pub returns-then-kind-lt92-clause-further : goal.returns-then-kind-lt92-clause-further
returns-then-kind-lt92-clause-further c = further (order_status c.args.settings.now) c.args.draws.now _
    (status-advances c.args.settings.now) c.order_status.ensures.past

pub returns-in_err-work-4-clause-further : goal.returns-in_err-work-4-clause-further
returns-in_err-work-4-clause-further c = further (delivery c.args.settings.now c.args.number) c.args.draws.now _
    (delivery-advances c.args.settings.now c.args.number) c.delivery.ensures.past

pub returns-then-kind-lt96-clause-further : goal.returns-then-kind-lt96-clause-further
returns-then-kind-lt96-clause-further c = further (delivery c.args.settings.now c.args.number) c.args.draws.now _
    (delivery-advances c.args.settings.now c.args.number) c.delivery.ensures.past

pub returns-in_err-work-5-clause-further : goal.returns-in_err-work-5-clause-further
returns-in_err-work-5-clause-further c = further (stock_level c.args.settings.now) c.args.draws.now _
    (level-advances c.args.settings.now) c.stock_level.ensures.past

pub returns-clause-further : goal.returns-clause-further
returns-clause-further c = further (stock_level c.args.settings.now) c.args.draws.now _ (level-advances c.args.settings.now) c.stock_level.ensures.past
