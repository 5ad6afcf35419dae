use Rattle.std.proofs.Common.{◌≡◌, sym, ap, ◌∙◌, ◌++◌, map, reverse}
use Rattle.std.specs.List.{filter, enumerate_from}
use Rattle.batch_rules.specs.Verdicts.{goes_ahead, keeps_turn}
use Rattle.reorder.proofs.Places.{map-placed}
use Rattle.reorder.proofs.placements.place.Goals as goal

pub returns : goal.returns
returns c =
    let pairs = enumerate_from 1 c.args.verdicts.now in
    let firsts = map (λ p. p.0) (filter (λ p. goes_ahead p.1) pairs) in
    let seconds = map (λ p. p.0) (filter (λ p. keeps_turn p.1) pairs) in
    let ahead : c.append_finishing.new.tids.items ≡ firsts = c.in_ok-append_finishing.ensures ∙ ap (λ l. l ++ firsts) c.in_ok-tids.ensures.items in
    c.in_ok-append_finishing-2.ensures ∙ ap (λ l. l ++ seconds) (c.reverse.ensures.items ∙ ap reverse ahead) ∙ sym (map-placed (λ p. p.0) (λ p. p.1) pairs)
