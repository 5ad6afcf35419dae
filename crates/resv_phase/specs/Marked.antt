-- The marks of requests, and the seats through which they were made.
use Rattle.std.specs.Prelude.{◌≡◌, ℕ, ◌-◌, ◌↔◌, Bool, true, false, List, map, ◌++◌, Contains}
use Rattle.atomic_table.specs.Seated.{TableId}
use Rattle.aria_base.specs.declared.marks.Mark.{Mark}
use Rattle.dep_rules.specs.Sheets.{Sheet, IsMarkOf, reads_at, writes_at}
use Rattle.resv_words.specs.Seats.{Marker}

-- a mark of the request on each of these keys: it writes them, or it reads them
abbrev pub marks_on : ℕ → Bool → List ℕ → List Mark
marks_on tid writes keys = map (λ key. record { tid = tid; key = key; writes = writes }) keys

-- all marks of the request with this TID
abbrev pub marks_at : Sheet → ℕ → List Mark
marks_at sheet tid = marks_on tid false (reads_at sheet tid) ++ marks_on tid true (writes_at sheet tid)

-- the seat after some more marks
abbrev pub with_marks : Marker → List Mark → Marker
with_marks seat marks = record seat { marks = seat.marks ++ marks }

-- a seat of the table with so many shares, and with exactly the batch's marks of the requests at these places, from 0
pub record HasMarked (sheet : Sheet) (table : TableId) (seat : Marker) (shares : ℕ) (places : List ℕ) : Type 0 where
  pub same_table : seat.table ≡ table
  pub same_share : seat.share ≡ shares
  pub marked : (m : Mark) → Contains seat.marks m ↔ (IsMarkOf sheet m × Contains places (m.tid - 1))
