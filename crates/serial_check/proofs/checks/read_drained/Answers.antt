use Rattle.std.proofs.Common.{◌≡◌, suc, ◌+◌, ◌-◌, length, ap, sym, ◌∙◌, subst, arith, rules}
use Rattle.serial_check.specs.Halts.{Decides}
use Rattle.serial_check.specs.Reports.{◌>>=◌, drained}
use Rattle.serial_check.proofs.Drains.{stops, goes}
use Rattle.serial_check.proofs.checks.read_drained.Goals as goal

pub returns-else-more-clause-says : goal.returns-else-more-clause-says
returns-else-more-clause-says c =
    let left : suc (length c.args.report.now - suc c.loop.counter) + c.loop.counter ≡ length c.args.report.now = omega arith in
    sym (c.loop.invariant.says (suc (length c.args.report.now - suc c.loop.counter)) left)
    ∙ stops c.args.catalog.now c.args.report.now (length c.args.report.now - suc c.loop.counter) c.loop.reading (sym c.in_ok-more.ensures ∙ c.if-more.false)

pub returns-in_err-reading-clause-says : goal.returns-in_err-reading-clause-says
returns-in_err-reading-clause-says c =
    let left : suc (length c.args.report.now - suc c.loop.counter) + c.loop.counter ≡ length c.args.report.now = omega arith in
    let n = length c.args.report.now - suc c.loop.counter in
    subst (λ meant. Decides c.from_residual-in_err-reading.result meant)
    (sym (goes c.args.catalog.now c.args.report.now n c.loop.reading (sym c.in_ok-more.ensures ∙ c.if-more.true))
    ∙ c.loop.invariant.says (suc (length c.args.report.now - suc c.loop.counter)) left)
    (search rules)

pub loop-preserved : goal.loop-preserved
loop-preserved c = record {
  says = λ n e.
      let left : suc n + c.loop.counter ≡ length c.args.report.now = omega (arith, e) in
      sym (goes c.args.catalog.now c.args.report.now n c.loop.reading (sym c.in_ok-more.ensures ∙ c.if-more.true)
      ∙ ap (λ r. r >>= drained c.args.catalog.now c.args.report.now n) c.in_ok-reading.ensures.says)
      ∙ c.loop.invariant.says (suc n) left;
  within = c.in_ok-reading.ensures.within;
}

pub returns-clause-says : goal.returns-clause-says
returns-clause-says c =
    let left : 0 + c.loop.counter ≡ length c.args.report.now = omega arith in
    sym (c.loop.invariant.says 0 left)
