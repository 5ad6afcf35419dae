use Rattle.std.proofs.Common.{◌≤◌, ◌*◌, arith, ℕ, List, [], ◌∷◌, length, map}
use Rattle.std.specs.FinMap as fin
use Rattle.std.specs.List.{All, sum_by}
use Rattle.std.proofs.lemmas.List.{length-map}
use Rattle.std.proofs.lemmas.List.Sums.{sum_by-cons}
use Rattle.std.proofs.lemmas.List.Elements.{All-head, All-tail}
use Rattle.aria_base.specs.Orders.{key_cmp}
use Rattle.dep_rules.specs.declared.sets.Sets.{Sets}
use Rattle.key_numbering.specs.Numbers.{touch_count}
use Rattle.key_numbering.proofs.Growing.{long_sets}
use Rattle.proc_lang.specs.declared.limits.TheConstants.{MOST_ACCESSES}
use Rattle.touch_numbers.specs.Touchings.{sets_of}
use Rattle.batch_engine.proofs.markings.mark.Goals as goal

-- so many requests touch no more keys than each of them may
few-touched : (sets : List Sets) → All (λ s. touch_count s ≤ MOST_ACCESSES) sets → sum_by touch_count sets ≤ MOST_ACCESSES * length sets
few-touched [] a = omega arith
few-touched (s ∷ ss) a =
    let rest = few-touched ss (All-tail (λ s. touch_count s ≤ MOST_ACCESSES) s ss a) in
    omega (arith, rest, All-head (λ s. touch_count s ≤ MOST_ACCESSES) s ss a, sum_by-cons touch_count s ss)

pub number_touches-requires-clause-touched : goal.number_touches-requires-clause-touched
number_touches-requires-clause-touched g c κs within = omega
    (arith, few-touched (map sets_of c.args.list.now) c.requires.touched, length-map c.args.list.now sets_of, c.requires.few)

pub reserve-requires-clause-keys : goal.reserve-requires-clause-keys
reserve-requires-clause-keys g c κs within =
    omega (
      arith,
      c.in_ok-numbered.ensures.keys,
      long_sets fin.empty (map sets_of c.args.list.now),
      fin.len-empty key_cmp ℕ,
      few-touched (map sets_of c.args.list.now) c.requires.touched,
      length-map c.args.list.now sets_of,
      c.requires.few,
    )
