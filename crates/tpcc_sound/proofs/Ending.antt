-- What holds of the rows where a walk is done.
use Rattle.std.proofs.Common.{◌≡◌, refl, sym, subst, ℕ, zero, suc, Bool, true, false, true≢false, if◌then◌else◌}
use Rattle.std.specs.FinMap as fin
use Rattle.aria_base.specs.Orders.{Database}
use Rattle.batch_rules.specs.Trees.{set_at}
use Rattle.proc_lang.specs.Meaning.{is_done}
use Rattle.range_rules.specs.declared.routines.Action.TheVariants as action
use Rattle.range_rules.specs.declared.routines.TheConstants.{MOST_ACTIONS}
use Rattle.range_rules.specs.Courses.{Course, Ended, at_start, after_action, run_routine, routine_left}
use Rattle.range_rules.specs.Scans.{scan}
use Rattle.range_rules.specs.Walks.{Walk, Stops, Reads, Writes, Scans, follow, walk_from}
use Rattle.range_rules.proofs.Walks.{walk_runs}
use Rattle.tpcc_routines.proofs.Fitting.{FitsWalk}

module _ (P : Database → Type 0) where
  -- where the walk is done on this database, P holds of the rows that it leaves
  abbrev pub Ends : Walk → Database → Type 0
  Ends (Stops e) db = is_done e ≡ true → P db
  Ends (Reads k next) db = Ends (next (fin.get db k)) db
  Ends (Writes k row next) db = Ends next (set_at db k row)
  Ends (Scans p next) db = Ends (next (scan db p)) db

  walk_ends : (w : Walk) (n : ℕ) (c : Course) → Ends w c.map → is_done (walk_from w n c).end ≡ true → P (walk_from w n c).course.map
  walk_ends (Stops e) n c ends done = ends done
  walk_ends (Reads k next) zero c ends done = absurd (true≢false (sym done))
  walk_ends (Reads k next) (suc n) c ends done = walk_ends (next (fin.get c.map k)) n (after_action c (action.Read k)) ends done
  walk_ends (Writes k row next) zero c ends done = absurd (true≢false (sym done))
  walk_ends (Writes k row next) (suc n) c ends done = walk_ends next n (after_action c (action.Write k row)) ends done
  walk_ends (Scans p next) zero c ends done = absurd (true≢false (sym done))
  walk_ends (Scans p next) (suc n) c ends done = walk_ends (next (scan c.map p)) n (after_action c (action.Scan p)) ends done

  left_at : (r : Ended) (db : Database) → P db → (is_done r.end ≡ true → P r.course.map) → P (routine_left r db)
  left_at r db before after = elim (is_done r.end) as (λ b. is_done r.end ≡ b → P (if b then r.course.map else db)) [
    | true ↦ after
    | false ↦ λ _. before
  ] refl

  -- so it is kept by the run
  pub run_keeps : (w : Walk) (db : Database) → P db → Ends w db → P (routine_left (run_routine (follow w) db) db)
  run_keeps w db before ends = left_at (run_routine (follow w) db) db before
      (subst (λ r. is_done r.end ≡ true → P r.course.map) (sym (walk_runs w db)) (walk_ends w MOST_ACTIONS (at_start db) ends))

  -- a walk that may not write leaves all as it is
  pub quiet_ends : (w : Walk) (db : Database) → FitsWalk false w → P db → Ends w db
  quiet_ends (Stops e) db fits before = λ done. before
  quiet_ends (Reads k next) db fits before = quiet_ends (next (fin.get db k)) db (fits.1 (fin.get db k)) before
  quiet_ends (Writes k row next) db fits before = absurd (true≢false (sym fits.0))
  quiet_ends (Scans p next) db fits before = quiet_ends (next (scan db p)) db (fits.1 (scan db p)) before
