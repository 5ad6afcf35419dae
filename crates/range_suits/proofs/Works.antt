-- The run of a work that is taken, by the catalogue or by routines that suit it.
use Rattle.std.proofs.Common.{◌≡◌, ℕ, ◌+◌, ◌≤◌, List, [], length, Bool, true, false, subst, arith}
use Rattle.std.specs.Prelude.{if◌then◌else◌}
use Rattle.std.specs.List.{All}
use Rattle.std.proofs.lemmas.List.Elements.{All-nil}
use Rattle.aria_base.specs.Orders.{key_cmp, Database}
use Rattle.aria_base.specs.Schemas.{IsConsistent}
use Rattle.aria_base.specs.declared.calls.Call.{Call}
use Rattle.aria_base.specs.declared.calls.Request.{Request}
use Rattle.aria_base.specs.declared.keys.Key.{Key}
use Rattle.aria_base.specs.declared.limits.TheConstants.{GREATEST_NUMBER}
use Rattle.batch_rules.specs.Touches.{keys_of, nothing, all_noted}
use Rattle.batch_rules.specs.Trees.{trace_of, end_of}
use Rattle.proc_lang.specs.Catalogs.{Plan, IsCatalog, takes, run_of}
use Rattle.proc_lang.specs.Meaning.{is_done}
use Rattle.proc_sound.specs.Laws.{TouchesFew}
use Rattle.proc_sound.proofs.Runs.{catalog_never_stuck_is, catalog_stays_consistent_is}
use Rattle.range_rules.specs.declared.routines.Action.{Action}
use Rattle.range_rules.specs.declared.routines.NumberedWork.{NumberedWork}
use Rattle.range_rules.specs.declared.routines.RoutineCall.{RoutineCall}
use Rattle.range_rules.specs.declared.routines.Seen.{Seen}
use Rattle.range_rules.specs.declared.routines.Work.{Work}
use Rattle.range_rules.specs.declared.routines.Work.TheVariants.{Proc, Routine}
use Rattle.range_rules.specs.declared.routines.TheConstants.{MOST_ACTIONS}
use Rattle.range_rules.specs.Courses.{request_for, run_routine}
use Rattle.range_rules.proofs.Counts.{touches_few}
use Rattle.range_suits.specs.Laws.{Behaves, IsWell}
use Rattle.range_suits.specs.Suits.{Suits, is_taken, is_whole, FitsPrefix}
use Rattle.range_suits.proofs.Guarded.{key_in, whole_visits}
use Rattle.range_suits.proofs.Noting.{noted_from_none}
use Rattle.range_suits.proofs.Routines.{routine_fits}

module _ (plan : Plan) (taken : RoutineCall → Bool) (act : ℕ → RoutineCall → List Seen → Action) (db : Database) (q : ℕ)
    (whole : IsCatalog plan) (consistent : IsConsistent plan.tables db) where
  abbrev IsWhole : Key → Type 0
  IsWhole k = is_whole plan.tables k ≡ true

  call_is_well : (call : Call) → takes plan call ≡ true → TouchesFew (run_of plan (request_for q call)) db
      → IsWell plan taken act (record { q = q; work = Proc call }) db
  call_is_well call fits few =
      let request = request_for q call in
      let run = run_of plan request in
      let stuck = catalog_never_stuck_is plan request db whole fits consistent in
      let visits = subst (All (λ visit. IsWhole (key_in visit))) stuck.trace (whole_visits plan request db) in
      let noted = noted_from_none IsWhole (trace_of run db) visits in record {
        fits = record {
          reads = noted.reads;
          writes = elim (is_done (end_of run db)) as (λ b. All IsWhole (keys_of (if b then (all_noted key_cmp nothing (trace_of run db)).writes else []))) [
            | true ↦ noted.writes
            | false ↦ All-nil IsWhole
          ];
          scans = All-nil (FitsPrefix plan.tables);
        };
        few = omega (arith, few);
        leaves = (catalog_stays_consistent_is plan request db whole fits consistent).after;
      }

  routine_is_well : (call : RoutineCall) → Suits plan.tables taken act → taken call ≡ true → 1 ≤ q → q ≤ GREATEST_NUMBER
      → IsWell plan taken act (record { q = q; work = Routine call }) db
  routine_is_well call suits fits first last =
      let r = run_routine (act q call) db in
      let course = routine_fits plan.tables (act q call) db (λ seen. suits call q seen fits first last) consistent in
      let few = touches_few (act q call) db in record {
        fits = record {
          reads = course.noted.reads;
          writes = elim (is_done r.end) as (λ b. All IsWhole (keys_of (if b then r.course.noted.writes else []))) [
            | true ↦ course.noted.writes
            | false ↦ All-nil IsWhole
          ];
          scans = course.scans;
        };
        few = elim (is_done r.end) as (λ b. length r.course.noted.reads + length (if b then r.course.noted.writes else []) + length r.course.scans ≤
            MOST_ACTIONS) [
              | true ↦ few
              | false ↦ omega (arith, few)
            ];
        leaves = elim (is_done r.end) as (λ b. IsConsistent plan.tables (if b then r.course.map else db)) [ true ↦ course.rows | false ↦ consistent ];
      }

  is_well : (work : Work) → Suits plan.tables taken act → is_taken plan taken work ≡ true → 1 ≤ q → q ≤ GREATEST_NUMBER
      → ((request : Request) → TouchesFew (run_of plan request) db) → IsWell plan taken act (record { q = q; work = work }) db
  is_well (Proc call) suits fits first last few = call_is_well call fits (few (request_for q call))
  is_well (Routine call) suits fits first last few = routine_is_well call suits fits first last

pub behaves : (plan : Plan) (taken : RoutineCall → Bool) (act : ℕ → RoutineCall → List Seen → Action) (w : NumberedWork) (db : Database)
    → ((request : Request) → TouchesFew (run_of plan request) db) → Behaves plan taken act w db
behaves plan taken act w db few whole suits fits first last consistent = is_well plan taken act db w.q whole consistent w.work suits fits first last few
