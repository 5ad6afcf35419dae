use Rattle.std.proofs.Common.{◌≡◌, ap, sym, ◌∙◌, [], ◌∷◌, ◌++◌, subst, true}
use Rattle.std.specs.List.{All}
use Rattle.cat_builtin.specs.Tpcc.{tpcc}
use Rattle.load_gen.specs.Draws.{IsPast}
use Rattle.load_gen.proofs.Advances.{past-trans, advances-times}
use Rattle.load_gen.proofs.Times.{times-none, times-more}
use Rattle.range_suits.specs.Suits.{is_taken}
use Rattle.tpcc_routines.specs.Mixes.{request}
use Rattle.tpcc_routines.specs.Routines.{is_more}
use Rattle.tpcc_routines.proofs.Drawing.{request-advances, works_taken}
use Rattle.tpcc_routines.proofs.mixes.more_batch.Goals as goal

pub loop-init : goal.loop-init
loop-init c =
    let none = times-none (request c.args.settings.now c.args.number) c.args.draws.now in
    (c.in_ok-works.ensures.items ∙ sym (ap (λ x. x.0) none), sym (ap (λ x. x.1) none))

pub loop-preserved : goal.loop-preserved
loop-preserved c =
    let s = c.args.settings.now in
    let more = times-more c.loop.counter (request s c.args.number) c.args.draws.now in
    let at = c.loop.invariant.1 in (
      c.in_ok-push.ensures.items
          ∙ (λ i. c.loop.invariant.0 i ++ (c.in_ok-request.ensures.work ∙ ap (λ g. (request s c.args.number g).0) at) i ∷ [])
          ∙ sym (ap (λ x. x.0) more),
      c.in_ok-request.ensures.past ∙ ap (λ g. (request s c.args.number g).1) at ∙ sym (ap (λ x. x.1) more),
    )

pub returns-in_err-request-clause-further : goal.returns-in_err-request-clause-further
returns-in_err-request-clause-further c =
    let s = c.args.settings.now in
    let g = c.args.draws.now in
    let before = subst (IsPast g) (sym c.loop.invariant.1) (advances-times c.loop.counter (request s c.args.number) (request-advances s c.args.number) g) in
    past-trans g c.loop.draws _ before c.in_err-request.ensures.further

pub returns-in_err-push-clause-further : goal.returns-in_err-push-clause-further
returns-in_err-push-clause-further c =
    let s = c.args.settings.now in
    let g = c.args.draws.now in
    let before = subst (IsPast g) (sym c.loop.invariant.1) (advances-times c.loop.counter (request s c.args.number) (request-advances s c.args.number) g) in
    past-trans g c.loop.draws _ before c.in_ok-request.ensures.further

pub returns-clause-taken : goal.returns-clause-taken
returns-clause-taken c = subst (All (λ work. is_taken tpcc is_more work ≡ true)) (sym c.loop.invariant.0)
    (works_taken c.args.settings.now c.args.number c.loop.counter c.args.draws.now)

pub returns-clause-further : goal.returns-clause-further
returns-clause-further c =
    let s = c.args.settings.now in
    subst (IsPast c.args.draws.now) (sym c.loop.invariant.1)
    (advances-times c.loop.counter (request s c.args.number) (request-advances s c.args.number) c.args.draws.now)
