-- The sets of a batch's requests by the numbers of their keys, and the marks that they ask for.
use Rattle.std.specs.Prelude.{◌≡◌, ◌≤◌, ◌<◌, ℕ, ◌-◌, if◌then◌else◌, ◌↔◌, List, [], length, slice_index_or, All, Contains}
use Rattle.aria_base.specs.declared.limits.TheConstants.{MOST_REQUESTS}
use Rattle.aria_base.specs.declared.marks.Mark.{Mark}

-- of each request the numbers of the keys that it reads and that it writes, all of them below `keys`
pub record Sheet : Type 0 where
  pub reads : List (List ℕ)
  pub writes : List (List ℕ)
  pub keys : ℕ

abbrev pub AllBelow : ℕ → List (List ℕ) → Type 0
AllBelow keys lists = All (λ list. All (λ k. k < keys) list) lists

pub record IsSheet (sheet : Sheet) : Type 0 where
  pub same : length sheet.reads ≡ length sheet.writes
  pub count : length sheet.reads ≤ MOST_REQUESTS
  pub reads_below : AllBelow sheet.keys sheet.reads
  pub writes_below : AllBelow sheet.keys sheet.writes

-- the numbers of the request with this TID, which is its place from 1
abbrev pub reads_at : Sheet → ℕ → List ℕ
reads_at sheet tid = slice_index_or sheet.reads (tid - 1) []

abbrev pub writes_at : Sheet → ℕ → List ℕ
writes_at sheet tid = slice_index_or sheet.writes (tid - 1) []

abbrev pub IsTid : Sheet → ℕ → Type 0
IsTid sheet tid = (1 ≤ tid) × (tid ≤ length sheet.reads)

-- the mark is one that the batch asks for: its request touches its key
abbrev pub IsMarkOf : Sheet → Mark → Type 0
IsMarkOf sheet m = IsTid sheet m.tid × Contains (if m.writes then writes_at sheet m.tid else reads_at sheet m.tid) m.key

-- these are exactly the batch's marks, in any order and however often each stands there
abbrev pub AreMarksOf : Sheet → List Mark → Type 0
AreMarksOf sheet marks = (m : Mark) → Contains marks m ↔ IsMarkOf sheet m
