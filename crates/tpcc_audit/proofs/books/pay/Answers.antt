use Rattle.std.proofs.Common.{◌≡◌, ap, sym, subst, ◌∙◌, if◌then◌else◌, ◌+ℤ◌}
use Rattle.std.proofs.Math.Facts.{to_z-of_z}
use Rattle.std.specs.Ordering.{int_eq}
use Rattle.tpcc_audit.specs.Books.{IsModerate, paid_in}
use Rattle.tpcc_audit.proofs.Bounds.{paid-sum, raised-within, small}
use Rattle.tpcc_audit.proofs.Places.{raised-own}
use Rattle.tpcc_audit.proofs.books.pay.Goals as goal

pub returns-clause-paid : goal.returns-clause-paid
returns-clause-paid c = λ q.
    let w = c.args.w in
    let ytd = c.args.ytd in
    let before = paid_in c.args.paid.now in
    let is : c.paid_at.result ≡ before w = c.paid_at.ensures ∙ ap before (to_z-of_z c.ranges.w) in
    let moderate : IsModerate c.paid_at.result = subst IsModerate (sym is) (c.requires w) in
    let sum = paid-sum c.paid_at.result c.from.result ytd moderate (c.from.ensures ∙ to_z-of_z c.ranges.ytd) c.ranges.ytd in
    c.in_ok-set_paid.ensures q
    ∙ (λ i. if int_eq (to_z-of_z c.ranges.w i) q then sum i else before q)
    ∙ ap (λ sum. if int_eq w q then sum +ℤ ytd else before q) is
    ∙ raised-own w q ytd before

pub returns-clause-within : goal.returns-clause-within
returns-clause-within c = λ n q h.
    raised-within n c.args.w c.args.ytd q (paid_in c.args.paid.now q) _ (returns-clause-paid c q) (small c.args.ytd c.ranges.ytd) h
