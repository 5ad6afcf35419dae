-- The reservation words of a batch. Each key number k has two places: 2 * k for the requests that write the key,
-- and 2 * k + 1 for those that read it.
-- A word says which TID is the least that is marked at its place. It says so under a tag, so that words of another tag say nothing.
use Rattle.std.specs.Prelude.{◌≡◌, ℕ, ◌+◌, ◌-◌, ◌*◌, ◌/◌, ◌%◌, ◌^◌, ◌<◌, ◌≤◌, ◌↔◌, ◌==◌, if◌then◌else◌, min, List, [], ◌∷◌}
use Rattle.std.specs.Prelude.{length, slice_index, slice_index_or, All, Contains, Option, None, Some}
use Rattle.std.specs.Option.{option_map_or}
use Rattle.aria_base.specs.declared.limits.TheConstants.{MOST_REQUESTS, TAG_SPAN}
use Rattle.aria_base.specs.declared.marks.Mark.{Mark}

-- the number that stands for a TID under a tag
abbrev pub number_under : ℕ → ℕ → ℕ
number_under tag tid = tag * TAG_SPAN + tid

-- the TID that a word stands for under a tag, where it stands for one
abbrev pub tid_under : ℕ → ℕ → Option ℕ
tid_under tag word = if word / TAG_SPAN == tag then Some (word % TAG_SPAN) else None

-- the place that a mark is on
abbrev pub place_of : Mark → ℕ
place_of m = 2 * m.key + (if m.writes then 0 else 1)

-- t or a lesser TID
abbrev pub least_with : ℕ → Option ℕ → Option ℕ
least_with t None = Some t
least_with t (Some u) = Some (min t u)

-- the least TID that is marked at a place, where there is one
abbrev pub least_tid : ℕ → List Mark → Option ℕ
least_tid place [] = None
least_tid place (m ∷ ms) = if place_of m == place then least_with m.tid (least_tid place ms) else least_tid place ms

-- what stands at a place before any mark: the old number, or the greatest number of a word where there is none
abbrev pub start_of : List ℕ → ℕ → ℕ
start_of old place = slice_index_or old place (2 ^ 64 - 1)

-- what stands at a place after these marks
abbrev pub word_of : List ℕ → ℕ → List Mark → ℕ → ℕ
word_of old tag marks place = option_map_or (number_under tag) (least_tid place marks) (start_of old place)

-- these are the words of so many keys over the old numbers, after these marks
pub record AreWords (old : List ℕ) (tag keys : ℕ) (marks : List Mark) (words : List ℕ) : Type 0 where
  pub two_a_key : length words ≡ 2 * keys
  pub each : (place : ℕ) → place < 2 * keys → slice_index words place ≡ word_of old tag marks place

-- these words stand, under the tag, for the least TIDs of these marks, and for none where there is no mark
pub record StandFor (tag keys : ℕ) (marks : List Mark) (words : List ℕ) : Type 0 where
  pub two_a_key : length words ≡ 2 * keys
  pub each : (place : ℕ) → place < 2 * keys → tid_under tag (slice_index words place) ≡ least_tid place marks

-- each old number stands for no TID under this tag or a lesser one
abbrev pub AreAbove : ℕ → List ℕ → Type 0
AreAbove tag old = All (λ number. (tag + 1) * TAG_SPAN ≤ number) old

-- the TID is one of a batch
abbrev pub HasTid : Mark → Type 0
HasTid m = (1 ≤ m.tid) × (m.tid ≤ MOST_REQUESTS)

-- the same marks, in any order and however often each stands there
abbrev pub SameMarks : List Mark → List Mark → Type 0
SameMarks ms ns = (m : Mark) → Contains ms m ↔ Contains ns m

-- the TID t is marked at the place
abbrev pub IsMarked : ℕ → List Mark → ℕ → Type 0
IsMarked place marks t = (m : Mark) × Contains marks m × (place_of m ≡ place) × (m.tid ≡ t)

-- what it means to be the least TID at a place
abbrev pub IsLeast : ℕ → List Mark → Option ℕ → Type 0
IsLeast place marks None = (t : ℕ) → ¬ IsMarked place marks t
IsLeast place marks (Some t) = IsMarked place marks t × ((u : ℕ) → IsMarked place marks u → t ≤ u)
