use Rattle.std.proofs.Common.{ℕ, ◌≡◌, ◌≤◌, ◌∙◌, List, sym, subst, map, arith}
use Rattle.std.specs.FinMap as fin
use Rattle.std.specs.List.{sum_by}
use Rattle.aria_base.specs.Orders.{key_cmp}
use Rattle.dep_rules.specs.declared.sets.Sets.{Sets}
use Rattle.key_numbering.specs.Numbers.{numbers_of, touch_count}
use Rattle.key_numbering.specs.declared.kept.TheConstants.{MOST_TOUCHED}
use Rattle.key_numbering.proofs.Growing.{long_sets, one_to_one}
use Rattle.touch_numbers.specs.Touchings.{sets_of}
use Rattle.touch_numbers.proofs.FirstTouches.{are_numbers}
use Rattle.touch_numbers.proofs.numbering.number_touches.Goals as goal

pub number_ordered-requires-clause-touched : goal.number_ordered-requires-clause-touched
number_ordered-requires-clause-touched g c =
    let same : c.deref.result.now ≡ map sets_of c.args.list.now = c.deref.ensures.value ∙ c.in_ok-sets-in-None.ensures in
    omega (
      arith,
      long_sets fin.empty c.deref.result.now,
      fin.len-empty key_cmp ℕ,
      subst (λ (l : List Sets). sum_by touch_count l ≤ MOST_TOUCHED) (sym same) c.requires.touched,
    )

pub returns-in-Some-clause-one_to_one : goal.returns-in-Some-clause-one_to_one
returns-in-Some-clause-one_to_one g c = one_to_one (numbers_of (map sets_of c.args.list.now)) (are_numbers (map sets_of c.args.list.now))

pub returns-in-Some-clause-numbers : goal.returns-in-Some-clause-numbers
returns-in-Some-clause-numbers g c = are_numbers (map sets_of c.args.list.now)
