-- Waiting requests by the numbers of the keys that they declare.
use Rattle.std.specs.Prelude.{◌≡◌, ℕ, List, map}
use Rattle.aria_base.specs.Orders.{key_cmp}
use Rattle.aria_base.specs.declared.keys.Key.{Key}
use Rattle.batch_rules.specs.Numberings.{IsOneToOneOn, HasKeysOf}
use Rattle.dep_rules.specs.Sheets.{AllBelow}
use Rattle.dep_rules.specs.declared.sets.Sets.{Sets}
use Rattle.key_numbering.specs.Numbers as keyed
use Rattle.key_numbering.specs.Numbers.{with_sets, number_in}
use Rattle.proc_exec.specs.declared.outcomes.Waiting.{Waiting}

-- these are the numbers of what the requests declare, below the count; two of the keys have one number exactly where they are equal
pub record AreNumbersOf (reads writes : List (List ℕ)) (count : ℕ) (waiting : List Waiting) : Type 0 where
  pub keys : List Key
  pub number : Key → ℕ
  pub one_to_one : IsOneToOneOn key_cmp keys number
  pub reads_among : HasKeysOf key_cmp keys (λ w. w.declared.reads) waiting
  pub writes_among : HasKeysOf key_cmp keys (λ w. w.declared.writes) waiting
  pub reads_are : reads ≡ map (λ w. map number w.declared.reads) waiting
  pub writes_are : writes ≡ map (λ w. map number w.declared.writes) waiting
  pub reads_below : AllBelow count reads
  pub writes_below : AllBelow count writes

-- the two lists of keys that a request declares
abbrev pub sets_of : Waiting → Sets
sets_of w = record { reads = w.declared.reads; writes = w.declared.writes }

-- the keys that the requests declare get theirs in turn
abbrev pub with_waiting : keyed.Numbers → List Waiting → keyed.Numbers
with_waiting numbers waiting = with_sets numbers (map sets_of waiting)

abbrev pub read_numbers : keyed.Numbers → List Waiting → List (List ℕ)
read_numbers numbers waiting = map (λ w. map (number_in numbers) w.declared.reads) waiting

abbrev pub write_numbers : keyed.Numbers → List Waiting → List (List ℕ)
write_numbers numbers waiting = map (λ w. map (number_in numbers) w.declared.writes) waiting
