-- What a walk asks for, action by action, is its run in place.
use Rattle.std.proofs.Common.{◌≡◌, ℕ, zero, suc, List, [], ◌∷◌, ◌++◌, refl, sym, ap, ◌∙◌}
use Rattle.std.specs.FinMap as fin
use Rattle.std.proofs.lemmas.List.{append_assoc, append-nil}
use Rattle.aria_base.specs.Orders.{Database}
use Rattle.range_rules.specs.declared.routines.Action.{Action}
use Rattle.range_rules.specs.declared.routines.Action.TheVariants as action
use Rattle.range_rules.specs.declared.routines.Seen.{Seen}
use Rattle.range_rules.specs.declared.routines.Seen.TheVariants.{One, Wrote, Many}
use Rattle.range_rules.specs.declared.routines.TheConstants.{MOST_ACTIONS}
use Rattle.range_rules.specs.Courses.{Course, at_start, after_action, stop_of, run_from, run_routine}
use Rattle.range_rules.specs.Scans.{scan}
use Rattle.range_rules.specs.Walks.{Walk, Stops, Reads, Writes, Scans, follow, walk_from}
use Rattle.range_rules.proofs.Courses.{run_stops, run_goes_on, run_out}

module _ (act : List Seen → Action) where
  -- what it asks for from here on is what this walk asks for
  abbrev Follows : Walk → Course → Type 0
  Follows w c = (rest : List Seen) → act (c.seen ++ rest) ≡ follow w rest

  asks : (w : Walk) (c : Course) → Follows w c → act c.seen ≡ follow w []
  asks w c h = ap act (sym (append-nil c.seen)) ∙ h []

  goes : (w v : Walk) (c d : Course) (answer : Seen) → d.seen ≡ c.seen ++ answer ∷ [] → ((rest : List Seen) → follow w (answer ∷ rest) ≡ follow v rest)
      → Follows w c → Follows v d
  goes w v c d answer seen on h rest = ap (λ s. act (s ++ rest)) seen ∙ ap act (append_assoc c.seen (answer ∷ []) rest) ∙ h (answer ∷ rest) ∙ on rest

  walked : (w : Walk) (n : ℕ) (c : Course) → Follows w c → run_from act n c ≡ walk_from w n c
  walked (Stops e) n c h = run_stops act n c e (ap stop_of (asks (Stops e) c h))
  walked (Reads k next) zero c h = run_out act c (ap stop_of (asks (Reads k next) c h))
  walked (Reads k next) (suc n) c h =
      let is = asks (Reads k next) c h in
      run_goes_on act n c (ap stop_of is) ∙ ap (λ a. run_from act n (after_action c a)) is
      ∙ walked (next (fin.get c.map k)) n (after_action c (action.Read k))
      (goes (Reads k next) (next (fin.get c.map k)) c (after_action c (action.Read k)) (One (fin.get c.map k)) refl (λ rest. refl) h)
  walked (Writes k row next) zero c h = run_out act c (ap stop_of (asks (Writes k row next) c h))
  walked (Writes k row next) (suc n) c h =
      let is = asks (Writes k row next) c h in
      run_goes_on act n c (ap stop_of is) ∙ ap (λ a. run_from act n (after_action c a)) is
      ∙ walked next n (after_action c (action.Write k row)) (goes (Writes k row next) next c (after_action c (action.Write k row)) Wrote refl (λ rest. refl) h)
  walked (Scans p next) zero c h = run_out act c (ap stop_of (asks (Scans p next) c h))
  walked (Scans p next) (suc n) c h =
      let is = asks (Scans p next) c h in
      run_goes_on act n c (ap stop_of is) ∙ ap (λ a. run_from act n (after_action c a)) is
      ∙ walked (next (scan c.map p)) n (after_action c (action.Scan p))
      (goes (Scans p next) (next (scan c.map p)) c (after_action c (action.Scan p)) (Many (scan c.map p)) refl (λ rest. refl) h)

pub walk_runs : (w : Walk) (db : Database) → run_routine (follow w) db ≡ walk_from w MOST_ACTIONS (at_start db)
unfolding run_routine
walk_runs w db = walked (follow w) w MOST_ACTIONS (at_start db) (λ rest. refl)
