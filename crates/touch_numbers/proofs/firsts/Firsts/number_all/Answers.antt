use Rattle.std.proofs.Common.{◌≡◌, ◌≤◌, ◌<◌, ◌+◌, ◌∙◌, sym, subst, length, get_or, take, take_all, arith}
use Rattle.std.proofs.lemmas.Grind.{get_or_default_zero}
use Rattle.std.proofs.lemmas.List.{length-set, take_more_set}
use Rattle.touch_numbers.proofs.FirstTouches.{ListSoFar, rest_here, rest_next, list_more, list_done}
use Rattle.touch_numbers.proofs.firsts.Firsts.number_all.Goals as goal

pub number_of-requires : goal.number_of-requires
number_of-requires c =
    let first = c.args.touches.now.items in
    let i = c.loop-place.place in
    let touch = c.index-touch.result.now in
    let within : i < length first = omega (arith, c.loop-place-test.true, c.len-place-end.ensures, c.args.touches.now.ok.0) in
    let is : touch ≡ get_or first i touch = c.index-touch.ensures ∙ rest_here c.loop-place.touches.items first i touch c.loop-place.invariant.rest in
    let below : get_or first i touch < length c.args.self.now.given.items = c.requires i touch within in
    omega (arith, is, below, c.loop-place.invariant.long)

pub loop-place-preserved : goal.loop-place-preserved
loop-place-preserved c =
    let given = c.args.self.now.given.items in
    let count = c.args.self.now.count in
    let first = c.args.touches.now.items in
    let now = c.loop-place.touches.items in
    let i = c.loop-place.place in
    let touch = c.index-touch.result.now in
    let within : i < length first = omega (arith, c.loop-place-test.true, c.len-place-end.ensures, c.args.touches.now.ok.0) in
    let within_now : i < length now = omega (arith, within, c.loop-place.invariant.each) in
    let is : touch ≡ get_or first i 0 = c.index-touch.ensures ∙ rest_here now first i touch c.loop-place.invariant.rest
    ∙ get_or_default_zero first i touch within in
    record {
      long = c.number_of.ensures.long ∙ c.loop-place.invariant.long;
      each = length-set now i c.number_of.result ∙ c.loop-place.invariant.each;
      rest = rest_next now first i c.number_of.result c.loop-place.invariant.rest;
      so_far = subst (ListSoFar given count c.number_of.new.self.given.items c.number_of.new.self.count first (i + 1))
          (sym (take_more_set now i c.number_of.result within_now))
          (list_more given count c.loop-place.self.given.items c.loop-place.self.count c.number_of.new.self.given.items c.number_of.new.self.count first
          (take i now) i touch c.number_of.result within is c.loop-place.invariant.so_far c.number_of.ensures.number);
    }

pub returns : goal.returns
returns c =
    let first = c.args.touches.now.items in
    let now = c.loop-place.touches.items in
    let i = c.loop-place.place in
    let ended : length first ≤ i = omega (arith, c.loop-place-test.false, c.len-place-end.ensures, c.args.touches.now.ok.0) in
    let ended_now : length now ≤ i = omega (arith, ended, c.loop-place.invariant.each) in
    list_done c.args.self.now.given.items c.args.self.now.count c.loop-place.self.given.items c.loop-place.self.count first (take i now) now i ended
    (take_all i now ended_now) c.loop-place.invariant.so_far
