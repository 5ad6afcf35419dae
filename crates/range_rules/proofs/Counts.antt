-- A routine touches no more keys and prefixes than it has actions.
use Rattle.std.proofs.Common.{ℕ, zero, suc, ◌+◌, ◌≤◌, List, [], ◌∷◌, ◌++◌, map, length, Bool, true, false, Some, None, Option, arith}
use Rattle.std.specs.Prelude.{◌||◌, if◌then◌else◌}
use Rattle.std.specs.Ordering.{eq_by_cmp}
use Rattle.std.proofs.lemmas.List.{length-append}
use Rattle.aria_base.specs.Orders.{key_cmp, Cells, Database}
use Rattle.aria_base.specs.declared.keys.Key.{Key}
use Rattle.batch_rules.specs.Touches.{is_among, keys_of, with_write}
use Rattle.range_rules.specs.declared.routines.Action.{Action}
use Rattle.range_rules.specs.declared.routines.Action.TheVariants.{Read, Write, Scan, Stop}
use Rattle.range_rules.specs.declared.routines.Seen.{Seen}
use Rattle.range_rules.specs.declared.routines.TheConstants.{MOST_ACTIONS}
use Rattle.range_rules.specs.Scans.{key_of}
use Rattle.range_rules.specs.Courses.{Course, at_start, after_action, stop_of, too_many, ended_by, run_from, run_routine}

-- a list with one more behind it, or as it is
maybe_more : {X : Type 0} (b : Bool) (xs : List X) (x : X) → length (if b then xs else xs ++ x ∷ []) ≤ suc (length xs)
maybe_more true xs x = omega arith
maybe_more false xs x = let long = length-append xs (x ∷ []) in omega arith

written_more : (ws : List (Key × Option Cells)) (k : Key) (row : Option Cells) → length (with_write key_cmp ws k row) ≤ suc (length ws)
written_more [] k row = omega arith
written_more (w ∷ ws) k row = elim (eq_by_cmp key_cmp k w.0)
    as (λ b. length (if b then (w.0, row) ∷ ws else w ∷ with_write key_cmp ws k row) ≤ suc (suc (length ws))) [
      | true ↦ (let e : suc (length ws) ≤ suc (suc (length ws)) = omega arith in e)
      | false ↦ (let rest = written_more ws k row in omega arith)
    ]

abbrev pub touched : Course → ℕ
touched c = (length c.noted.reads + length c.noted.writes) + length c.scans

one_touch : (c : Course) (a : Action) → touched (after_action c a) ≤ suc (touched c)
one_touch c (Read k) = let more = maybe_more (is_among key_cmp c.noted.reads k || is_among key_cmp (keys_of c.noted.writes) k) c.noted.reads k in omega arith
one_touch c (Write k row) = let more = written_more c.noted.writes k row in omega arith
one_touch c (Scan p) = let more = maybe_more (is_among key_cmp (map key_of c.scans) (key_of p)) c.scans p in omega arith
one_touch c (Stop e) = omega arith

touched_on : (act : List Seen → Action) (n : ℕ) (c : Course) → touched (run_from act n c).course ≤ touched c + n
touched_on act zero c = elim (stop_of (act c.seen)) as (λ s. touched (ended_by s c (record { end = too_many; course = c })).course ≤ touched c + 0)
    [ None ↦ omega arith | Some e ↦ omega arith ]
touched_on act (suc n) c = elim (stop_of (act c.seen))
    as (λ s. touched (ended_by s c (run_from act n (after_action c (act c.seen)))).course ≤ touched c + suc n) [
      | None ↦ (let rest = touched_on act n (after_action c (act c.seen)) in let one = one_touch c (act c.seen) in omega arith)
      | Some e ↦ omega arith
    ]

pub touches_few : (act : List Seen → Action) (db : Database) → touched (run_routine act db).course ≤ MOST_ACTIONS
unfolding run_routine
touches_few act db = touched_on act MOST_ACTIONS (at_start db)
