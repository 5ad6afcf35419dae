use Rattle.std.proofs.Common.{◌∙◌, refl, sym, arith}
use Rattle.std.proofs.lemmas.List.{length-set}
use Rattle.std.proofs.lemmas.Option.{same_Some}
use Rattle.node_rules.proofs.Picks.{get_below}
use Rattle.node_seats.proofs.Keeping.{stands}
use Rattle.node_seats.proofs.Lengthening.{lengthen_more}
use Rattle.node_seats.proofs.all_seats.lengthen_all.Goals as goal

pub loop-place-init : goal.loop-place-init
loop-place-init c = record { many = refl; each = λ n s t a b. (λ lt. absurd (omega arith), λ le. same_Some t s (sym b ∙ a)) }

pub loop-place-preserved : goal.loop-place-preserved
loop-place-preserved c =
    let seats = c.loop-place.seats.items in
    let n = c.loop-place.place in
    let s0 = c.index_mut-seat.result.now in
    let many = c.loop-place.invariant.many in
    let low = c.loop-place-test.true in
    record {
      many = length-set seats n c.lengthen.new.self ∙ many;
      each = lengthen_more c.args.done c.args.new.now c.args.seats.now.items seats n s0 c.lengthen.new.self
          (stands seats n s0 (omega arith) c.index_mut-seat.ensures.value) c.in_ok-lengthen.ensures c.loop-place.invariant.each;
    }

pub returns-clause-each : goal.returns-clause-each
returns-clause-each c = λ n s t a b.
    let last = c.loop-place-test.false in
    let lt = get_below c.args.seats.now.items n s a in
    (c.loop-place.invariant.each n s t a b).0 (omega arith)
