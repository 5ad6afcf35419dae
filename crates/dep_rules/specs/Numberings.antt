-- A batch's numbered lists as those of its sets.
use Rattle.std.specs.Prelude.{◌≡◌, ◌≤◌, ℕ, ◌-◌, List, map, take, Some, slice_get}
use Rattle.std.specs.declared.cmp.Ordering.{Ordering}
use Rattle.std.specs.Ordering.{nat_cmp}
use Rattle.batch_rules.specs.declared.verdicts.Rule.{Rule}
use Rattle.batch_rules.specs.Numberings.{IsOneToOneOn, HasKeysOf}
use Rattle.batch_rules.specs.Verdicts.{verdict}
use Rattle.dep_rules.specs.Sheets.{Sheet, reads_at, writes_at}
use Rattle.dep_rules.specs.Words.{tids_before}

-- the sheet has the numbers of the sets' keys, all of them among these keys, in their order
pub record IsNumbered {K S : Type 0} (R : K → K → Ordering) (reads writes : S → List K) (keys : List K) (number : K → ℕ)
    (sets : List S) (sheet : Sheet) : Type 0 where
  pub reads_among : HasKeysOf R keys reads sets
  pub writes_among : HasKeysOf R keys writes sets
  pub reads_are : sheet.reads ≡ map (λ s. map number (reads s)) sets
  pub writes_are : sheet.writes ≡ map (λ s. map number (writes s)) sets

-- where two of these keys have one number exactly if they are equal, the verdict by the sheet is the verdict by the sets
abbrev pub SheetDecides : {K S : Type 0} (R : K → K → Ordering) (reads writes : S → List K) (keys : List K)
    (number : K → ℕ) → List S → Sheet → Rule → ℕ → S → Type 0
SheetDecides R reads writes keys number sets sheet rule tid me = IsOneToOneOn R keys number
    → IsNumbered R reads writes keys number sets sheet → 1 ≤ tid → slice_get sets (tid - 1) ≡ Some me
    → verdict nat_cmp (reads_at sheet) (writes_at sheet) rule (tids_before tid) tid ≡ verdict R reads writes rule (take (tid - 1) sets) me
