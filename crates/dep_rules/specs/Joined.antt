-- The numbers of all requests in one list, and the sheet that lists of either kind hold.
use Rattle.std.specs.Prelude.{◌≤◌, ℕ, List, length, map, All}
use Rattle.std.specs.List.{slice_range}
use Rattle.dep_rules.specs.Sheets.{Sheet, IsSheet}
use Rattle.dep_rules.specs.declared.numberings.Stretch.{Stretch}
use Rattle.dep_rules.specs.declared.numberings.Lists.{Lists}
use Rattle.dep_rules.specs.declared.numberings.Lists.TheVariants.{Apart, Joined}

-- what the request of the stretch reads and writes
abbrev pub reads_in : List ℕ → Stretch → List ℕ
reads_in numbers s = slice_range numbers s.start s.middle

abbrev pub writes_in : List ℕ → Stretch → List ℕ
writes_in numbers s = slice_range numbers s.middle s.end

pub record IsWithin (numbers : List ℕ) (s : Stretch) : Type 0 where
  pub ordered : s.start ≤ s.middle
  pub next : s.middle ≤ s.end
  pub within : s.end ≤ length numbers

abbrev pub AreWithin : List ℕ → List Stretch → Type 0
AreWithin numbers stretches = All (IsWithin numbers) stretches

-- the sheet that the lists hold, of numbers below `keys`
abbrev pub sheet_of : Lists → ℕ → Sheet
sheet_of (Apart reads writes) keys = record { reads = map (λ v. v.items) reads.items; writes = map (λ v. v.items) writes.items; keys = keys }
sheet_of (Joined numbers stretches) keys = record {
  reads = map (reads_in numbers.items) stretches.items;
  writes = map (writes_in numbers.items) stretches.items;
  keys = keys;
}

-- stretches of one list lie within it
abbrev pub HasStretches : Lists → Type 0
HasStretches (Apart reads writes) = Unit {0}
HasStretches (Joined numbers stretches) = AreWithin numbers.items stretches.items

pub record IsHeld (lists : Lists) (keys : ℕ) : Type 0 where
  pub sheet : IsSheet (sheet_of lists keys)
  pub stretches : HasStretches lists
