use Rattle.std.proofs.Common.{◌≡◌, ◌+◌, ⊎_elim, subst, arith}
use Rattle.std.proofs.lemmas.Bool.{cases_lt}
use Rattle.core_machine.specs.Cores.{AllCameOf}
use Rattle.core_machine.proofs.Having.{all_of_each, early}
use Rattle.core_machine.proofs.cores.Core.has_all.Goals as goal

pub loop-place-preserved : goal.loop-place-preserved
loop-place-preserved c = λ p lt. ⊎_elim
    (λ below. c.loop-place.invariant p below)
    (λ ge. let same : c.loop-place.place ≡ p = omega arith in subst (λ n. AllCameOf c.args.self.now (n + 1)) same c.if-not-has_all_of.ensures)
    (cases_lt p c.loop-place.place)

pub returns : goal.returns
returns c = (
  early c.args.self.now.phase c.in_default.not-Settled,
  all_of_each c.args.self.now (λ p lt. c.loop-place.invariant p (omega (arith, lt, c.loop-place-test.false))),
)
