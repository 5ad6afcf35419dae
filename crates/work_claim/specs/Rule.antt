-- The rule over the claim word and the views of all seats, and what each kind of step changes.
use Rattle.std.specs.Prelude.{◌≡◌, ℕ, ◌+◌, ◌-◌, ◌<◌, ◌≤◌, ◌==◌, nat_lt, nat_le, if◌then◌else◌, List, [], ◌∷◌, ◌++◌, length}
use Rattle.std.specs.Prelude.{slice_index, sum_by, count_by, All}
use mathlib.Core.Option.{some}
use lib.ListN.{get_elem?}
use Rattle.atomic_table.specs.Table.{State, Step, Me}
use Rattle.aria_base.specs.Shares.{all_shares}
use Rattle.work_claim.specs.declared.rules.View.{View}

abbrev pub view : ℕ → List ℕ → View
view share drawn = record { share = share; drawn = drawn }

-- how often x stands in a list
abbrev pub times : ℕ → List ℕ → ℕ
times x xs = count_by (λ y. y == x) xs

-- how often x is one of the numbers below c
abbrev pub once_below : ℕ → ℕ → ℕ
once_below x c = if nat_lt x c then 1 else 0

-- how many of a seat's draws were not below the bound
abbrev pub misses : ℕ → List ℕ → ℕ
misses bound xs = count_by (λ x. nat_le bound x) xs

-- a seat has no more draws at or above the bound than shares
abbrev pub FewMisses : ℕ → View → Type 0
FewMisses bound v = misses bound v.drawn ≤ v.share

-- a seat with no share has drawn nothing
abbrev pub Idle : View → Type 0
Idle v = v.share ≡ 0 → v.drawn ≡ []

pub record Kept (bound : ℕ) (s : State (Unit {0}) View) : Type 0 where
  pub two_words : length s.words ≡ 2
  pub shares : sum_by (λ v. v.share) s.views ≡ all_shares
  -- each number below the word is in one view, once, and no other number is in any
  pub once : (x : ℕ) → sum_by (λ v. times x v.drawn) s.views ≡ once_below x (slice_index s.words 1)
  -- only draws at or above the bound bring the word above it, so it stays small
  pub small : slice_index s.words 1 ≤ bound + sum_by (λ v. misses bound v.drawn) s.views
  pub few_misses : (seat : ℕ) (v : View) → get_elem? s.views seat ≡ some v → FewMisses bound v
  pub idle : (seat : ℕ) (v : View) → get_elem? s.views seat ≡ some v → Idle v

abbrev pub first_view : View
first_view = view all_shares []

-- the number found was drawn. It is greater than each that the seat had
abbrev pub drew : Step (Unit {0}) → Me (Unit {0}) View → ℕ → Me (Unit {0}) View → Type 0
drew st me found me' = (me' ≡ (view me.0.share (me.0.drawn ++ found ∷ []), me.1)) × All (λ x. x < found) me.0.drawn

abbrev pub one_less : View → View
one_less v = view (v.share - 1) v.drawn

abbrev pub one : View
one = view 1 []

abbrev pub sum_of : View → View → View
sum_of v w = view (v.share + w.share) (v.drawn ++ w.drawn)

abbrev pub spent_view : View
spent_view = view 0 []
