-- What is proved of the five requests.
use Rattle.std.specs.Prelude.{◌≡◌, ℕ, true, List}
use Rattle.std.specs.List.{All}
use Rattle.std.specs.FinMap as fin
use Rattle.aria_base.specs.Draws.{standing}
use Rattle.aria_base.specs.Orders.{Database}
use Rattle.aria_base.specs.Schemas.{IsConsistent}
use Rattle.batch_core.specs.declared.answers.Answer.{Answer}
use Rattle.cat_builtin.specs.Tpcc.{tpcc}
use Rattle.proc_lang.specs.Catalogs.{IsCatalog, run_of}
use Rattle.range_rules.specs.Serials.{IsSerialAnswer}
use Rattle.range_rules.specs.declared.routines.Action.{Action}
use Rattle.range_rules.specs.declared.routines.NumberedWork.{NumberedWork}
use Rattle.range_rules.specs.declared.routines.RoutineCall.{RoutineCall}
use Rattle.range_rules.specs.declared.routines.Seen.{Seen}
use Rattle.range_rules.specs.declared.routines.Work.{Work}
use Rattle.range_rules.specs.Courses.{left_of}
use Rattle.range_rules.specs.Walks.{follow}
use Rattle.range_suits.specs.Suits.{is_taken}
use Rattle.tpcc_load.specs.declared.settings.Tpcc.{Tpcc}
use Rattle.tpcc_load.specs.Heads.{IsWithin, head}
use Rattle.tpcc_load.specs.Rows.{laid}
use Rattle.tpcc_routines.specs.Routines.{walk_of, is_more}
use Rattle.tpcc_routines.specs.Sound.{IsSound}

-- the next action of a routine, whatever its request number
abbrev pub act : ℕ → RoutineCall → List Seen → Action
act q call = follow (walk_of call)

-- the work leaves sound rows, if it is one of the five and runs on sound rows of the catalogue
abbrev pub KeepsSound : ℕ → Work → Database → Type 0
KeepsSound q work db = is_taken tpcc is_more work ≡ true → IsConsistent tpcc.tables db → IsSound db
    → IsSound (left_of (run_of tpcc) act q work db)

-- what order entry begins with is sound, by settings within their ranges
abbrev pub HeadIsSound : Tpcc → Type 0
HeadIsSound s = IsWithin s → IsSound (laid fin.empty (head s (standing s.number 1 0)).0)

-- A batch whose answer tells a serial run of its list leaves sound rows: each work of the list is one of the five, and the rows before are
-- sound rows of the catalogue.
abbrev pub StaysSound : Database → List NumberedWork → Answer → Database → List NumberedWork → Type 0
StaysSound start list answer rows carried = IsCatalog tpcc → All (λ w. is_taken tpcc is_more w.work ≡ true) list → IsConsistent tpcc.tables start
    → IsSound start → IsSerialAnswer (run_of tpcc) act start list answer rows carried → IsSound rows
