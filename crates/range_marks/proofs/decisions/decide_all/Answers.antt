use Rattle.std.proofs.Common.{◌∙◌, ◌++◌, ◌∷◌, [], ◌+◌, sym, arith}
use Rattle.std.proofs.lemmas.List.FromFn.{map-range_with_len_more}
use Rattle.range_marks.specs.Decisions.{scan_verdict}
use Rattle.range_marks.proofs.decisions.decide_all.Goals as goal

pub decide_scanning-verdict-requires-clause-own : goal.decide_scanning-verdict-requires-clause-own
decide_scanning-verdict-requires-clause-own c =
    c.requires.counted.own (c.loop-place.place + 1) (omega arith) (omega (arith, c.loop-place-test.true, c.len-count.ensures.reads))

pub loop-place-preserved : goal.loop-place-preserved
loop-place-preserved c =
    let place = c.loop-place.place in
    let decided = scan_verdict c.args.rule c.args.numbered.now c.args.counts.now in
    c.in_ok-push.ensures.items ∙ (λ i. c.loop-place.invariant i ++ c.decide_scanning-verdict.ensures i ∷ [])
    ∙ sym (map-range_with_len_more decided 1 place (place + 1) (omega arith))
