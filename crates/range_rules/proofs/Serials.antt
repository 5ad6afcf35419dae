-- A batch of works is serialised by its order.
use Rattle.std.proofs.Common.{◌≡◌, ℕ, List, [], true, false, refl}
use Rattle.std.specs.Prelude.{if◌then◌else◌}
use Rattle.std.specs.FinMap as fin
use Rattle.std.proofs.lemmas.Bool.{or_left}
use Rattle.aria_base.specs.Orders.{Cells, Database}
use Rattle.aria_base.specs.declared.keys.Key.{Key}
use Rattle.aria_base.specs.declared.calls.Request.{Request}
use Rattle.aria_base.proofs.Orders.{key_cmp_total, key_cmp-IsAntisymmetric}
use Rattle.proc_lang.specs.declared.ends.End.{End}
use Rattle.proc_lang.specs.Meaning.{is_done}
use Rattle.batch_rules.specs.declared.verdicts.Rule.{Rule}
use Rattle.batch_rules.specs.Trees.{Tree}
use Rattle.batch_rules.specs.Touches.{overwritten}
use Rattle.batch_rules.specs.Verdicts.{through}
use Rattle.batch_rules.specs.Runs.{IsFramed, InTurn}
use Rattle.batch_rules.proofs.Agree.{agreement}
use Rattle.batch_rules.proofs.Maps.{map_after-is}
use Rattle.batch_rules.proofs.Serials.{runs_in_turn}
use Rattle.range_rules.specs.declared.routines.Action.{Action}
use Rattle.range_rules.specs.declared.routines.NumberedWork.{NumberedWork}
use Rattle.range_rules.specs.declared.routines.RoutineCall.{RoutineCall}
use Rattle.range_rules.specs.declared.routines.Seen.{Seen}
use Rattle.range_rules.specs.declared.routines.Work.{Work}
use Rattle.range_rules.specs.declared.routines.Work.TheVariants as work
use Rattle.range_rules.specs.Batches.{depends}
use Rattle.range_rules.specs.Courses.{run_routine, request_for, ran_on, ran_of, left_of}
use Rattle.range_rules.specs.Serials.{saw, works}
use Rattle.range_rules.proofs.Courses.{routine_agrees, routine_over}
use Rattle.range_rules.proofs.Tells.{depends_tell}

module _ (tree : Request → Tree Key Cells End) (act : ℕ → RoutineCall → List Seen → Action) where
  left_is : (q : ℕ) (w : Work) (db : Database) → left_of tree act q w db ≡ overwritten db (ran_of tree act q w db).writes
  left_is q (work.Proc call) db = map_after-is key_cmp_total key_cmp-IsAntisymmetric is_done (tree (request_for q call)) db
  left_is q (work.Routine call) db =
      let r = run_routine (act q call) db in
      elim (is_done r.end) as (λ b. (if b then r.course.map else db) ≡ overwritten db (if b then r.course.noted.writes else [])) [
        | true ↦ (routine_over (act q call) db).is
        | false ↦ refl
      ]

  same_ran : (q : ℕ) (w : Work) (m n : Database) → ((k : Key) → saw (ran_of tree act q w m) k ≡ true → fin.get m k ≡ fin.get n k)
      → ((ran_of tree act q w m).end ≡ (ran_of tree act q w n).end) × ((ran_of tree act q w m).writes ≡ (ran_of tree act q w n).writes)
  same_ran q (work.Proc call) m n h =
      let run = agreement key_cmp_total key_cmp-IsAntisymmetric is_done (tree (request_for q call)) m n (λ k e. h k (or_left _ _ e)) in
      (run.end, run.writes)
  same_ran q (work.Routine call) m n h =
      let same = routine_agrees (act q call) m n h in
      (same.end, λ i. if is_done (same.end i) then (same.noted i).writes else [])

  pub framed : (w : NumberedWork) → IsFramed (works tree act) w
  framed w = record { frame = left_is w.q w.work; same = same_ran w.q w.work }

  -- the works that finish, one after the other, end as on the start, and leave the rows of all of them
  pub in_turn : (rule : Rule) (start : Database) (list : List NumberedWork) → InTurn (works tree act) (through (ran_on tree act start) depends) rule start list
  in_turn rule start list = runs_in_turn key_cmp_total key_cmp-IsAntisymmetric (works tree act) (through (ran_on tree act start) depends) rule start list framed
      (record {
        waw = λ d x. depends_tell.waw (ran_on tree act start d) (ran_on tree act start x);
        raw = λ d x. depends_tell.raw (ran_on tree act start d) (ran_on tree act start x);
        war = λ d x. depends_tell.war (ran_on tree act start d) (ran_on tree act start x);
      })
