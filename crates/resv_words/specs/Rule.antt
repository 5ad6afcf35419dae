-- The rule over the table of words and the views of all its seats, and what each kind of step changes.
use Rattle.std.specs.Prelude.{◌≡◌, ℕ, ◌+◌, ◌-◌, ◌/◌, ◌%◌, ◌<◌, ◌≤◌, ◌⊎◌, Bool, List, [], ◌∷◌, ◌++◌, length, slice_index, sum_by}
use mathlib.Core.Option.{some}
use lib.ListN.{get_elem?}
use Rattle.atomic_table.specs.Table.{State, Step, Me}
use Rattle.aria_base.specs.declared.marks.Mark.{Mark}
use Rattle.aria_base.specs.declared.limits.TheConstants.{TAG_SPAN}
use Rattle.aria_base.specs.Reserved.{number_under, start_of, IsMarked}
use Rattle.aria_base.specs.Shares.{all_shares}
use Rattle.resv_words.specs.declared.rules.View.{View}

abbrev pub mark : ℕ → ℕ → Bool → Mark
mark tid key writes = record { tid = tid; key = key; writes = writes }

abbrev pub view : ℕ → List Mark → View
view share marks = record { share = share; marks = marks }

-- a mark at the place puts this number there, in some seat's view
abbrev pub IsPut : ℕ → ℕ → List View → ℕ → Type 0
IsPut tag place views number = (seat : ℕ) × (v : View) × (tid : ℕ) × (get_elem? views seat ≡ some v)
    × IsMarked place v.marks tid × (number ≡ number_under tag tid)

-- what a word comes down to: the least of what it began with and what was put at its place
pub record IsLeastPut (old : List ℕ) (tag place : ℕ) (views : List View) (word : ℕ) : Type 0 where
  pub start : word ≤ start_of old place
  pub least : (number : ℕ) → IsPut tag place views number → word ≤ number
  pub made : (word ≡ start_of old place) ⊎ IsPut tag place views word

-- a seat with no share has no marks
abbrev pub Idle : View → Type 0
Idle v = v.share ≡ 0 → v.marks ≡ []

pub record Kept (old : List ℕ) (tag : ℕ) (s : State (Unit {0}) View) : Type 0 where
  pub shares : sum_by (λ v. v.share) s.views ≡ all_shares
  pub words : (place : ℕ) → place < length s.words → IsLeastPut old tag place s.views (slice_index s.words place)
  pub idle : (seat : ℕ) (v : View) → get_elem? s.views seat ≡ some v → Idle v

abbrev pub first_view : View
first_view = view all_shares []

-- the step lowered the word of a place to a number, from which both the key and the TID can be told
abbrev pub marked : Bool → Step (Unit {0}) → Me (Unit {0}) View → ℕ → Me (Unit {0}) View → Type 0
marked writes st me found me' = me' ≡ (view me.0.share (me.0.marks ++ mark (st.first % TAG_SPAN) (st.word / 2) writes ∷ []), me.1)

abbrev pub one_less : View → View
one_less v = view (v.share - 1) v.marks

abbrev pub one : View → View
one v = view 1 v.marks

abbrev pub sum_of : View → View → View
sum_of v w = view (v.share + w.share) (v.marks ++ w.marks)

abbrev pub spent_view : View
spent_view = view 0 []
