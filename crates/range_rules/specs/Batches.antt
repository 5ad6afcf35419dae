-- Who depends on whom where requests scan, and a batch of works: the rows that it leaves, its lines, its order, and what it carries over.
use Rattle.std.specs.Prelude.{ℕ, ◌+◌, ◌-◌, List, [], ◌∷◌, ◌++◌, map, Option, Some, None, ◌||◌}
use Rattle.std.specs.List.{slice_get}
use Rattle.aria_base.specs.Orders.{key_cmp, Cells, Database}
use Rattle.aria_base.specs.declared.keys.Key.{Key}
use Rattle.aria_base.specs.declared.calls.Request.{Request}
use Rattle.proc_lang.specs.declared.ends.End.{End}
use Rattle.batch_rules.specs.declared.verdicts.Rule.{Rule}
use Rattle.batch_rules.specs.declared.verdicts.Verdict.{Verdict}
use Rattle.batch_rules.specs.declared.verdicts.Verdict.TheVariants.{Finish, Wait}
use Rattle.batch_rules.specs.Trees.{Tree}
use Rattle.batch_rules.specs.Touches.{keys_of, installed}
use Rattle.batch_rules.specs.Verdicts.{Dependencies, meets, through}
use Rattle.batch_rules.specs.Batches.{Fate, Ended, Waits, Judged, judged, finishing, waiting, placed}
use Rattle.batch_core.specs.declared.answers.Answer.{Answer}
use Rattle.batch_core.specs.declared.answers.Line.{Line}
use Rattle.batch_core.specs.Steps.{reply_by}
use Rattle.range_rules.specs.declared.routines.Action.{Action}
use Rattle.range_rules.specs.declared.routines.NumberedWork.{NumberedWork}
use Rattle.range_rules.specs.declared.routines.Ran.{Ran}
use Rattle.range_rules.specs.declared.routines.RoutineCall.{RoutineCall}
use Rattle.range_rules.specs.declared.routines.Seen.{Seen}
use Rattle.range_rules.specs.declared.routines.Work.{Work}
use Rattle.range_rules.specs.Scans.{covers_any}
use Rattle.range_rules.specs.Courses.{ran_on}

abbrev pub written : Ran → List Key
written ran = keys_of ran.writes

-- Two runs depend on each other as by common keys; and a write under a prefix is like a write of a key that was read
abbrev pub depends : Dependencies Ran
depends = record {
  waw = λ me other. meets key_cmp (written me) (written other);
  raw = λ me other. meets key_cmp me.reads (written other) || covers_any me.scans (written other);
  war = λ me other. meets key_cmp (written me) other.reads || covers_any other.scans (written me);
}

-- new works with the request numbers that follow on n
abbrev pub numbered : ℕ → List Work → List NumberedWork
numbered n [] = []
numbered n (work ∷ works) = record { q = n + 1; work = work } ∷ numbered (n + 1) works

-- the list of a batch: what is carried, then what is new
abbrev pub list_of : List NumberedWork → ℕ → List Work → List NumberedWork
list_of carried requests new = carried ++ numbered requests new

-- the number of the work at a place of the list, from 1
abbrev pub number_or : Option NumberedWork → ℕ
number_or None = 0
number_or (Some w) = w.q

abbrev pub number_at : List NumberedWork → ℕ → ℕ
number_at list tid = number_or (slice_get list (tid - 1))

-- a work that finishes has its end on the start, and one that waits its cause
abbrev pub fate_of : Ran → Verdict → Fate Key End
fate_of ran (Finish raw) = Ended ran.end
fate_of ran (Wait cause) = Waits cause

-- what a batch comes to
pub record Outcome : Type 0 where
  pub rows : Database
  pub lines : List Line
  pub order : List ℕ
  pub carried : List NumberedWork

-- and its answer, where the batch has this number
abbrev pub answer_of : ℕ → Outcome → Answer
answer_of number outcome = record { number = number; lines = outcome.lines; order = outcome.order }

module _ (tree : Request → Tree Key Cells End) (act : ℕ → RoutineCall → List Seen → Action) where
  -- the works of a list with their verdicts, all by their runs on the start
  abbrev pub judged_on : Rule → Database → List NumberedWork → List (Judged NumberedWork)
  judged_on rule start list = judged (through (ran_on tree act start) depends) rule [] list

  abbrev pub line_of : Database → List NumberedWork → Judged NumberedWork → Line
  line_of start list d = record { q = d.request.q; reply = reply_by (number_at list) (fate_of (ran_on tree act start d.request) d.verdict) }

  -- the rows of what finishes, one work after the other; a line a work; the serial order; and what waits
  abbrev pub batch_of : Rule → Database → List NumberedWork → Outcome
  batch_of rule start list = record {
    rows = installed (λ d. (ran_on tree act start d.request).writes) start (finishing (judged_on rule start list));
    lines = map (line_of start list) (judged_on rule start list);
    order = map (λ d. d.request.q) (placed (λ d. d.verdict) (judged_on rule start list));
    carried = map (λ d. d.request) (waiting (judged_on rule start list));
  }
