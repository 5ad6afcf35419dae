use Rattle.std.proofs.Common.{ap, ◌∙◌}
use Rattle.tpcc_audit.specs.Conditions.{either}
use Rattle.tpcc_audit.specs.declared.conditions.Condition.TheVariants as condition
use Rattle.tpcc_audit.proofs.Found.{amounts-found, districts-found, all-found}
use Rattle.tpcc_audit.proofs.audits.finding.Goals as goal

pub returns : goal.returns
returns c = λ told k.
    let kept = c.args.kept.now in
    let amounts = amounts-found kept told k c.deref.result.now c.first_amount.result c.deref.ensures.value c.first_amount.ensures in
    let numbers = districts-found kept told k condition.Numbers c.deref-2.result.now c.first_district.result c.deref-2.ensures.value c.first_district.ensures in
    let gaps = districts-found kept told k condition.Gaps c.deref-3.result.now c.first_district-2.result c.deref-3.ensures.value c.first_district-2.ensures in
    let lines = districts-found kept told k condition.Lines c.deref-4.result.now c.first_district-3.result c.deref-4.ensures.value c.first_district-3.ensures in
    c.or-3.ensures
    ∙ ap (λ a. either a c.first_district-3.result) (c.or-2.ensures ∙ ap (λ a. either a c.first_district-2.result) c.or.ensures)
    ∙ all-found told c.first_amount.result c.first_district.result c.first_district-2.result c.first_district-3.result amounts numbers gaps lines
