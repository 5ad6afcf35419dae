use Rattle.std.proofs.Common.{◌≡◌, ap, sym, ◌∙◌, ◌+◌, ◌++◌, ◌∷◌, [], map, length, rules}
use Rattle.std.proofs.lemmas.List.{map-append}
use Rattle.tpcc_load.specs.Draws.{over}
use Rattle.tpcc_load.specs.Rows.{laid}
use Rattle.tpcc_load.specs.Heads.{person, customer_row, rank_of}
use Rattle.tpcc_load.proofs.Overs.{over-none, over-more}
use Rattle.tpcc_load.proofs.Layings.{mapped-none, mapped-more}
use Rattle.tpcc_load.proofs.customers.customers.Goals as goal

pub loop-place-init : goal.loop-place-init
loop-place-init c =
    let none = over-none (person c.args.settings.now) c.args.draws.now in
    let f = customer_row c.args.at.w c.args.at.d in (
      sym (ap (λ x. x.1) none),
      mapped-none c.args.tables.now f ∙ ap (λ x. laid c.args.tables.now (map f x.0)) (sym none),
      ap length c.in_ok-ranks.ensures.items,
      c.in_ok-ranks.ensures.items ∙ ap (λ x. map rank_of x.0) (sym none),
    )

pub loop-place-preserved : goal.loop-place-preserved
loop-place-preserved c =
    let s = c.args.settings.now in
    let n = c.loop-place.place in
    let f = customer_row c.args.at.w c.args.at.d in
    let before = over n (person s) c.args.draws.now in
    let inv = c.loop-place.invariant in
    let drawn = c.drawn_person-person.ensures ∙ ap (person s (n + 1)) inv.0 in
    let more = over-more n (person s) c.args.draws.now in
    let longer : length c.push.new.self.items ≡ n + 1 = search (rules, inv) in
    let all : before.0 ++ c.drawn_person-person.result ∷ [] ≡ (over (n + 1) (person s) c.args.draws.now).0 = ap (λ x. before.0 ++ x.0) drawn
    ∙ sym (ap (λ x. x.0) more) in (
      ap (λ x. x.1) drawn ∙ sym (ap (λ x. x.1) more),
      c.in_ok-lay.ensures ∙ ap (λ t. laid t (f c.drawn_person-person.result ∷ [])) inv.1
          ∙ mapped-more c.args.tables.now f before.0 c.drawn_person-person.result ∙ ap (λ xs. laid c.args.tables.now (map f xs)) all,
      longer,
      c.in_ok-push.ensures.items ∙ (λ i. inv.3 i ++ c.rank.ensures i ∷ [])
          ∙ sym (map-append rank_of before.0 (c.drawn_person-person.result ∷ [])) ∙ ap (map rank_of) all,
    )
