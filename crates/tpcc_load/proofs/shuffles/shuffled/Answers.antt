use Rattle.std.proofs.Common.{◌≡◌, ap, ◌∙◌, ◌++◌, ◌∷◌, [], ◌+◌, length, rules}
use Rattle.tpcc_load.proofs.Layings.{range-more}
use Rattle.tpcc_load.proofs.shuffles.shuffled.Goals as goal

pub loop-place-preserved : goal.loop-place-preserved
loop-place-preserved c =
    let inv = c.loop-place.invariant in
    let longer : length c.push.new.self.items ≡ c.loop-place.place + 1 = search (rules, inv) in
    (c.in_ok-push.ensures.items ∙ ap (λ xs. xs ++ (c.loop-place.place + 1) ∷ []) inv.0 ∙ range-more c.loop-place.place, longer)
