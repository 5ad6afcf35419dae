use Rattle.std.proofs.Common.{◌≡◌, subst, ap, sym, ◌∙◌, [], ◌∷◌, ◌++◌, arith}
use Rattle.load_gen.specs.Draws.{times, IsPast}
use Rattle.load_gen.specs.Ycsb.{access}
use Rattle.load_gen.proofs.Advances.{past-trans, advances-times, advances-access}
use Rattle.load_gen.proofs.Times.{times-none, times-more}
use Rattle.load_gen.proofs.requests.accesses.Goals as goal

pub loop-init : goal.loop-init
loop-init c =
    let none = times-none (access c.args.settings.now) c.args.draws.now in
    (c.in_ok-accesses.ensures.items ∙ sym (ap (λ x. x.0) none), sym (ap (λ x. x.1) none))

pub loop-preserved : goal.loop-preserved
loop-preserved c =
    let s = c.args.settings.now in
    let more = times-more c.loop.counter (access s) c.args.draws.now in
    let at = c.loop.invariant.1 in (
      c.in_ok-push.ensures.items
          ∙ (λ i. c.loop.invariant.0 i ++ (c.access.ensures.access ∙ ap (λ g. (access s g).0) at) i ∷ [])
          ∙ sym (ap (λ x. x.0) more),
      c.access.ensures.past ∙ ap (λ g. (access s g).1) at ∙ sym (ap (λ x. x.1) more),
    )

pub returns-in_err-push-clause-further : goal.returns-in_err-push-clause-further
returns-in_err-push-clause-further c =
    let s = c.args.settings.now in
    let g = c.args.draws.now in
    let at = c.access.ensures.past ∙ ap (λ g. (access s g).1) c.loop.invariant.1 in
    subst (IsPast g) (sym at) (past-trans g (times c.loop.counter (access s) g).1 _ (advances-times c.loop.counter (access s) (advances-access s) g)
    (advances-access s _))

pub returns-clause-further : goal.returns-clause-further
returns-clause-further c =
    let s = c.args.settings.now in
    subst (IsPast c.args.draws.now) (sym c.loop.invariant.1) (advances-times c.loop.counter (access s) (advances-access s) c.args.draws.now)

pub returns-clause-accesses : goal.returns-clause-accesses
returns-clause-accesses c =
    let s = c.args.settings.now in
    let done : c.loop.counter ≡ s.ops = omega (arith, c.loop-test.false, c.loop.auto.counter-end) in
    c.from_vec.ensures ∙ c.loop.invariant.0 ∙ ap (λ n. (times n (access s) c.args.draws.now).0) done

pub returns-clause-past : goal.returns-clause-past
returns-clause-past c =
    let s = c.args.settings.now in
    let done : c.loop.counter ≡ s.ops = omega (arith, c.loop-test.false, c.loop.auto.counter-end) in
    c.loop.invariant.1 ∙ ap (λ n. (times n (access s) c.args.draws.now).1) done
