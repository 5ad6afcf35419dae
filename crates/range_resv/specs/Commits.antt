-- A batch after its commit phase, and after its answer was made.
use Rattle.std.specs.Prelude.{◌≡◌, ℕ, List, map}
use Rattle.aria_base.specs.Orders.{Cells, Database}
use Rattle.aria_base.specs.declared.calls.Request.{Request}
use Rattle.aria_base.specs.declared.keys.Key.{Key}
use Rattle.batch_rules.specs.declared.verdicts.Rule.{Rule}
use Rattle.batch_rules.specs.Trees.{Tree}
use Rattle.proc_lang.specs.declared.ends.End.{End}
use Rattle.range_rules.specs.declared.routines.Action.{Action}
use Rattle.range_rules.specs.declared.routines.NumberedWork.{NumberedWork}
use Rattle.range_rules.specs.declared.routines.RoutineCall.{RoutineCall}
use Rattle.range_rules.specs.declared.routines.Seen.{Seen}
use Rattle.range_rules.specs.Batches.{batch_of, judged_on}
use Rattle.range_rules.specs.Courses.{ran_on}
use Rattle.range_runs.specs.Indexes.{IsIndexOf}
use Rattle.range_resv.specs.declared.commits.Committed.{Committed}
use Rattle.range_resv.specs.declared.settlements.Settled.{Settled}

module _ (tree : Request → Tree Key Cells End) (act : ℕ → RoutineCall → List Seen → Action) (rule : Rule) (start : Database)
    (list : List NumberedWork) where
  -- what the commit phase leaves of the list
  pub record IsCommitted (c : Committed) : Type 0 where
    pub rows : c.tables ≡ (batch_of tree act rule start list).rows
    pub index : IsIndexOf c.index c.tables
    pub ends : c.ends.items ≡ map (λ w. (ran_on tree act start w).end) list
    pub verdicts : c.verdicts.items ≡ map (λ d. d.verdict) (judged_on tree act rule start list)

  -- its lines, its order, and what is carried over
  pub record IsSettled (s : Settled) : Type 0 where
    pub lines : s.lines ≡ (batch_of tree act rule start list).lines
    pub order : s.order ≡ (batch_of tree act rule start list).order
    pub carried : s.carried.items ≡ (batch_of tree act rule start list).carried
