-- A run of a routine in place, action by action, and what a run of any work comes to. The sections' arguments say what the procedures
-- of the catalogue do, and which action a routine asks for next.
use Rattle.std.specs.Prelude.{ℕ, zero, suc, List, [], ◌∷◌, ◌++◌, Option, Some, None, if◌then◌else◌}
use Rattle.std.specs.FinMap as fin
use Rattle.aria_base.specs.Orders.{key_cmp, Cells, Database}
use Rattle.aria_base.specs.declared.keys.Key.{Key}
use Rattle.aria_base.specs.declared.calls.Call.{Call}
use Rattle.aria_base.specs.declared.calls.Request.{Request}
use Rattle.proc_lang.specs.declared.ends.End.{End}
use Rattle.proc_lang.specs.declared.ends.End.TheVariants as end
use Rattle.proc_lang.specs.declared.ends.Trap.TheVariants.{Many as TooMany}
use Rattle.proc_lang.specs.Meaning.{is_done}
use Rattle.batch_rules.specs.Trees.{Tree, Read as visit_read, Write as visit_write, set_at, end_of}
use Rattle.batch_rules.specs.Touches.{Noted, nothing, noted, reads_of, writes_of, map_after}
use Rattle.range_rules.specs.declared.routines.Action.{Action}
use Rattle.range_rules.specs.declared.routines.Action.TheVariants.{Read, Write, Scan, Stop}
use Rattle.range_rules.specs.declared.routines.Seen.{Seen}
use Rattle.range_rules.specs.declared.routines.Seen.TheVariants.{One, Wrote, Many}
use Rattle.range_rules.specs.declared.routines.Prefix.{Prefix}
use Rattle.range_rules.specs.declared.routines.RoutineCall.{RoutineCall}
use Rattle.range_rules.specs.declared.routines.NumberedWork.{NumberedWork}
use Rattle.range_rules.specs.declared.routines.Ran.{Ran}
use Rattle.range_rules.specs.declared.routines.Work.{Work}
use Rattle.range_rules.specs.declared.routines.Work.TheVariants as work
use Rattle.range_rules.specs.declared.routines.TheConstants.{MOST_ACTIONS}
use Rattle.range_rules.specs.Scans.{scan, with_scan}

-- ---- a routine

-- where a run stands between two actions: the map as it is now, what was touched, and what was answered
pub record Course : Type 0 where
  pub map : Database
  pub noted : Noted Key Cells
  pub scans : List Prefix
  pub seen : List Seen

abbrev pub at_start : Database → Course
at_start db = record { map = db; noted = nothing; scans = []; seen = [] }

-- an action looks into the map as it is now, or changes it at once
abbrev pub after_action : Course → Action → Course
after_action c (Read k) =
    record { map = c.map; noted = noted key_cmp c.noted (visit_read k); scans = c.scans; seen = c.seen ++ One (fin.get c.map k) ∷ [] }
after_action c (Write k row) =
    record { map = set_at c.map k row; noted = noted key_cmp c.noted (visit_write k row); scans = c.scans; seen = c.seen ++ Wrote ∷ [] }
after_action c (Scan p) =
    record { map = c.map; noted = c.noted; scans = with_scan c.scans p; seen = c.seen ++ Many (scan c.map p) ∷ [] }
after_action c (Stop e) = c

abbrev pub stop_of : Action → Option End
stop_of (Read k) = None
stop_of (Write k row) = None
stop_of (Scan p) = None
stop_of (Stop e) = Some e

-- a run that has ended, and where
pub record Ended : Type 0 where
  pub end : End
  pub course : Course

abbrev pub ended_by : Option End → Course → Ended → Ended
ended_by (Some e) c rest = record { end = e; course = c }
ended_by None c rest = rest

-- an action more than a routine may ask for
abbrev pub too_many : End
too_many = end.Trap TooMany

-- the run with so many actions left: a further one that does not stop it traps
abbrev pub run_from : (List Seen → Action) → ℕ → Course → Ended
run_from act zero c = ended_by (stop_of (act c.seen)) c (record { end = too_many; course = c })
run_from act (suc n) c = ended_by (stop_of (act c.seen)) c (run_from act n (after_action c (act c.seen)))

-- a run in place. The number of actions is closed, since it would unfold as often
unfoldable pub run_routine : (List Seen → Action) → Database → Ended
run_routine act db = run_from act MOST_ACTIONS (at_start db)

abbrev pub ran_by : Ended → Ran
ran_by r = record {
  reads = r.course.noted.reads;
  writes = if is_done r.end then r.course.noted.writes else [];
  scans = r.course.scans;
  end = r.end;
}

-- ---- a work

abbrev pub request_for : ℕ → Call → Request
request_for q call = record { q = q; call = call }

-- what a procedure's run comes to: it scans nothing
abbrev pub proc_ran : Tree Key Cells End → Database → Ran
proc_ran t db = record { reads = reads_of t db; writes = writes_of is_done t db; scans = []; end = end_of t db }

abbrev pub routine_left : Ended → Database → Database
routine_left r db = if is_done r.end then r.course.map else db

module _ (tree : Request → Tree Key Cells End) (act : ℕ → RoutineCall → List Seen → Action) where
  -- what the run on the database comes to
  abbrev pub ran_of : ℕ → Work → Database → Ran
  ran_of q (work.Proc call) db = proc_ran (tree (request_for q call)) db
  ran_of q (work.Routine call) db = ran_by (run_routine (act q call) db)

  -- and the database after it
  abbrev pub left_of : ℕ → Work → Database → Database
  left_of q (work.Proc call) db = map_after is_done (tree (request_for q call)) db
  left_of q (work.Routine call) db = routine_left (run_routine (act q call) db) db

  abbrev pub ran_on : Database → NumberedWork → Ran
  ran_on db w = ran_of w.q w.work db

  abbrev pub left_on : Database → NumberedWork → Database
  left_on db w = left_of w.q w.work db
