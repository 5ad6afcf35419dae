use Rattle.std.proofs.Common.{◌≡◌, ◌≤◌, sym, ap, subst, ◌∙◌, length, map, arith, List}
use Rattle.std.specs.FinMap as fin
use Rattle.std.proofs.lemmas.List.{length-map}
use Rattle.dep_rules.specs.declared.sets.Sets.{Sets}
use Rattle.key_numbering.specs.Numbers.{numbers_of}
use Rattle.key_numbering.specs.declared.kept.TheConstants.{MOST_TOUCHED}
use Rattle.range_marks.specs.Marks.{sets_with}
use Rattle.range_marks.proofs.Sheeting.{NumbersSets, verdicts_read, are_counted}
use Rattle.range_marks.proofs.Touching.{scanned, few_needed}
use Rattle.range_marks.proofs.judgements.judge.Goals as goal

pub number_all-requires-clause-count : goal.number_all-requires-clause-count
number_all-requires-clause-count g c κs within =
    let rans = c.args.rans.now in
    let sets = c.deref.ensures.value ∙ c.in_ok-sets.ensures in
    omega (arith, ap length sets, length-map rans (sets_with c.in_ok-scanned.scanned), c.requires.list)

pub number_all-requires-clause-few : goal.number_all-requires-clause-few
number_all-requires-clause-few g c κs within =
    let rans = c.args.rans.now in
    let sets : c.deref.result.now ≡ map (sets_with (scanned rans)) rans =
    c.deref.ensures.value ∙ c.in_ok-sets.ensures ∙ ap (λ s. map (sets_with s) rans) c.in_ok-scanned.ensures in
    subst (λ (l : List Sets). fin.len (numbers_of l) ≤ MOST_TOUCHED) (sym sets) (omega (arith, few_needed rans c.requires.few, c.requires.list))

pub decide_all-requires-clause-counted : goal.decide_all-requires-clause-counted
decide_all-requires-clause-counted g c =
    let rans = c.args.rans.now in
    let sets : c.deref.result.now ≡ map (sets_with (scanned rans)) rans =
    c.deref.ensures.value ∙ c.in_ok-sets.ensures ∙ ap (λ s. map (sets_with s) rans) c.in_ok-scanned.ensures in
    let told : NumbersSets c.deref.result.now c.in_ok-numbered.numbered =
    record { lists = c.in_ok-numbered.ensures.lists; one_to_one = c.in_ok-numbered.ensures.one_to_one } in
    let n = subst (λ (l : List Sets). NumbersSets l c.in_ok-numbered.numbered) sets told in
    are_counted rans c.requires.apart c.in_ok-numbered.numbered n c.deref-2.result.now (c.deref-2.ensures.value ∙ c.in_ok-counts.ensures)

pub returns : goal.returns
returns g c =
    let rans = c.args.rans.now in
    let sets : c.deref.result.now ≡ map (sets_with (scanned rans)) rans =
    c.deref.ensures.value ∙ c.in_ok-sets.ensures ∙ ap (λ s. map (sets_with s) rans) c.in_ok-scanned.ensures in
    let told : NumbersSets c.deref.result.now c.in_ok-numbered.numbered =
    record { lists = c.in_ok-numbered.ensures.lists; one_to_one = c.in_ok-numbered.ensures.one_to_one } in
    let n = subst (λ (l : List Sets). NumbersSets l c.in_ok-numbered.numbered) sets told in
    c.in_ok-verdicts.ensures
    ∙ verdicts_read rans c.requires.apart c.in_ok-numbered.numbered n c.deref-2.result.now (c.deref-2.ensures.value ∙ c.in_ok-counts.ensures) c.args.rule
