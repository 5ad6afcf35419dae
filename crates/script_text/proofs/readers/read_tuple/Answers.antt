use Rattle.std.proofs.Common.{rules, ◌<◌, ◌+◌, length, take, slice_set, ap, sym, ◌∙◌, arith, SFits, w64, length-set}
use Rattle.std.proofs.lemmas.Int.{to_z-of_z}
use Rattle.std.specs.Prelude.{option_and_then}
use Rattle.script_text.specs.Tokens.{fit_tuple}
use Rattle.script_text.proofs.TuplesRead.{one_more, too_long}
use Rattle.script_text.proofs.readers.read_tuple.Goals as goal

pub loop-front-preserved : goal.loop-front-preserved
loop-front-preserved c =
    let fits : SFits w64 c.in_ok-number.number = search rules in
    let is = sym c.read_number.ensures ∙ c.in_ok-number.was in
    let put = to_z-of_z w64 c.in_ok-number.number fits in
    let room : c.loop-front.count < length c.loop-front.numbers = omega (arith, c.loop-front.invariant.few, c.loop-front.invariant.room) in
    record {
      read = rw put (one_more c.loop-front.numbers c.loop-front.count c.in_ok-number.number c.in-Some.front.now _ _ room c.in-Some.ensures.split is
          ∙ c.loop-front.invariant.read);
      few = omega (arith, c.loop-front.invariant.few, c.if-count-eq-LONGEST_TUPLE.false);
      room = length-set c.loop-front.numbers c.loop-front.count _ ∙ c.loop-front.invariant.room;
    }

pub returns-then-count-eq-LONGEST_TUPLE : goal.returns-then-count-eq-LONGEST_TUPLE
returns-then-count-eq-LONGEST_TUPLE c =
    let is = sym c.read_number.ensures ∙ c.in_ok-number.was in
    let room : c.loop-front.count < length c.loop-front.numbers = omega (arith, c.loop-front.invariant.few, c.loop-front.invariant.room) in
    let read = one_more c.loop-front.numbers c.loop-front.count c.in_ok-number.number c.in-Some.front.now _ _ room c.in-Some.ensures.split is
    ∙ c.loop-front.invariant.read in
    let all = too_long (take (c.loop-front.count + 1) (slice_set c.loop-front.numbers c.loop-front.count c.in_ok-number.number)) c.in-Some.behind.now
    (search rules) in
    sym (ap (option_and_then fit_tuple) (sym read) ∙ all)
