use Rattle.std.proofs.Common.{arith}
use Rattle.std.specs.Prelude.{IsTrue}
use Rattle.image_text.specs.Bodies.{Values, IsBody}
use Rattle.slot_images.proofs.Carried.{body_not_carried}
use Rattle.slot_images.proofs.images.image_of.Goals as goal

pub returns-then-not-may_carry-clause-image : goal.returns-then-not-may_carry-clause-image
returns-then-not-may_carry-clause-image c =
    let v : Values = (c.in-Some.catalog, c.in-Some.tables, c.in-Some.held.items) in
    let is : IsBody c.args.body.now v = rw c.in-Some.is at c.in_ok-catalog.ensures.values in
    body_not_carried c.args.head.now c.args.body.now v is
    (λ m. let yes : IsTrue c.may_carry.result = c.may_carry.ensures.1 (rw c.as_slice.ensures.value m) in grind (arith, yes, c.if-not-may_carry.true))
