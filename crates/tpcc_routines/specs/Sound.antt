-- When the rows of order entry are sound: the audit holds of them, and no line belongs to an order that its district has still to number.
use Rattle.std.specs.Prelude.{◌≡◌, ◌==◌, int_le, ℤ, ◌<ℤ◌, Bool, false, List, [], ◌∷◌, Option, Some, None, if◌then◌else◌}
use Rattle.std.specs.List.{find}
use Rattle.std.specs.FinMap as fin
use Rattle.aria_base.specs.Orders.{Cells, Database}
use Rattle.aria_base.specs.declared.keys.Key.{Key}
use Rattle.cat_builtin.specs.Warehouses as table
use Rattle.tpcc_audit.specs.declared.findings.Audit.{Audit}
use Rattle.tpcc_audit.specs.declared.findings.Audit.TheVariants as audit
use Rattle.tpcc_audit.specs.Conditions.{audited}
use Rattle.tpcc_audit.specs.Facts.{part_at}
use Rattle.tpcc_routines.specs.declared.findings.Soundness.{Soundness}
use Rattle.tpcc_routines.specs.declared.findings.Soundness.TheVariants.{Sound, Fails}
use Rattle.tpcc_routines.specs.Answers.{key_at}
use Rattle.tpcc_routines.specs.Routines.{d_next_o_id, order_number}

-- the row of the district that a key begins with
abbrev pub district_of : Database → Key → Option Cells
district_of rows k = fin.get rows (key_at table.districts (part_at k.parts 0 ∷ part_at k.parts 1 ∷ []))

-- ---- in words

-- each line of a district that has a row belongs to an order whose number is below that of the next one
abbrev pub AreNumbered : Database → Type 0
AreNumbered rows = (k : Key) (line district : Cells) → k.table ≡ table.order_lines → fin.get rows k ≡ Some line → district_of rows k ≡ Some district
    → order_number k <ℤ d_next_o_id district

pub record IsSound (rows : Database) : Type 0 where
  pub audit : audited rows ≡ audit.Holds
  pub lines : AreNumbered rows

-- ---- the first failure

abbrev pub is_next : ℤ → Option Cells → Bool
is_next o None = false
is_next o (Some district) = int_le (d_next_o_id district) o

-- a line of an order that is still to be numbered
abbrev pub is_early : Database → Key × Cells → Bool
is_early rows line = if line.0.table == table.order_lines then is_next (order_number line.0) (district_of rows line.0) else false

-- 5: it is told of the line's district
abbrev pub line_finding : Option (Key × Cells) → Soundness
line_finding None = Sound
line_finding (Some line) = Fails 5 (part_at line.0.parts 0) (part_at line.0.parts 1)

abbrev pub lines_finding : Database → List (Key × Cells) → Soundness
lines_finding rows lines = line_finding (find (is_early rows) lines)

-- 1 to 4 are the audit's; then the lines, in the order of their keys
abbrev pub after_audit : Audit → Soundness → Soundness
after_audit audit.Holds lines = lines
after_audit (audit.Fails condition w d wanted found) lines = Fails condition w d

abbrev pub soundness : Database → Soundness
soundness rows = after_audit (audited rows) (lines_finding rows (fin.entries rows))
