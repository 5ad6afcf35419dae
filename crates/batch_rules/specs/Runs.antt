-- Requests of any kind, by what their runs come to: a request need not be a tree of accesses.
use Rattle.std.specs.Prelude.{◌≡◌, List, [], ◌∷◌, map, Option, Bool, true, false}
use Rattle.std.specs.declared.cmp.Ordering.{Ordering}
use Rattle.std.specs.FinMap as fin
use Rattle.std.specs.FinMap.{FinMap}
use Rattle.batch_rules.specs.declared.verdicts.Rule.{Rule}
use Rattle.batch_rules.specs.Touches.{keys_of, is_among, overwritten, installed}
use Rattle.batch_rules.specs.Verdicts.{Dependencies, meets}
use Rattle.batch_rules.specs.Batches.{placed, judged, finishing}

-- what the run of each request Q on a database comes to
pub record Runs {K : Type 0} (R : K → K → Ordering) (V A Q : Type 0) : Type 0 where
  -- its end
  pub end : Q → FinMap R V → A
  -- the rows that it leaves
  pub rows : Q → FinMap R V → List (K × Option V)
  -- the database after it
  pub after : Q → FinMap R V → FinMap R V
  -- whether it looked at what stands at the key, or that nothing does
  pub sees : Q → FinMap R V → K → Bool

module _ {K V A Q : Type 0} {R : K → K → Ordering} (runs : Runs R V A Q) where
  -- one after the other, each on what the ones before it left
  abbrev pub ends_in_turn : FinMap R V → List Q → List A
  ends_in_turn db [] = []
  ends_in_turn db (q ∷ qs) = runs.end q db ∷ ends_in_turn (runs.after q db) qs

  abbrev pub map_in_turn : FinMap R V → List Q → FinMap R V
  map_in_turn db [] = db
  map_in_turn db (q ∷ qs) = map_in_turn (runs.after q db) qs

-- The database after a run is the one before it with the run's rows over it. And what a run did not look at cannot matter to it: a
-- database that has the same wherever it looked gives the same run.
pub record IsFramed {K V A Q : Type 0} {R : K → K → Ordering} (runs : Runs R V A Q) (q : Q) : Type 0 where
  pub frame : (db : FinMap R V) → runs.after q db ≡ overwritten db (runs.rows q db)
  pub same : (m n : FinMap R V) → ((k : K) → runs.sees q m k ≡ true → fin.get m k ≡ fin.get n k)
      → (runs.end q m ≡ runs.end q n) × (runs.rows q m ≡ runs.rows q n)

-- where there is none of these dependencies on x, that says of d and x what it should
pub record TellsApart {K X : Type 0} (R : K → K → Ordering) (on : Dependencies X) (sees : X → K → Bool) (writes : X → List K) : Type 0 where
  -- they write no common key
  pub waw : (d x : X) → on.waw d x ≡ false → meets R (writes d) (writes x) ≡ false
  -- d looked at nothing that x writes
  pub raw : (d x : X) → on.raw d x ≡ false → (k : K) → is_among R (writes x) k ≡ true → sees d k ≡ false
  -- d writes nothing that x looked at
  pub war : (d x : X) → on.war d x ≡ false → (k : K) → is_among R (writes d) k ≡ true → sees x k ≡ false

-- What finishes in a commit phase by any such dependencies, run one after the other in the order in which it is placed, comes to what
-- it came to on the start, and leaves the rows of all of it.
pub record InTurn {K V A Q : Type 0} {R : K → K → Ordering} (runs : Runs R V A Q) (on : Dependencies Q) (rule : Rule)
    (start : FinMap R V) (list : List Q) : Type 0 where
  pub ends : ends_in_turn runs start (map (λ d. d.request) (placed (λ d. d.verdict) (judged on rule [] list)))
      ≡ map (λ d. runs.end d.request start) (placed (λ d. d.verdict) (judged on rule [] list))
  pub map : map_in_turn runs start (map (λ d. d.request) (placed (λ d. d.verdict) (judged on rule [] list)))
      ≡ installed (λ d. runs.rows d.request start) start (finishing (judged on rule [] list))

-- so it is where each run is framed and the dependencies tell by what each run on the start looked at and writes
abbrev pub RunsInTurn : {K V A Q : Type 0} {R : K → K → Ordering} (runs : Runs R V A Q) (on : Dependencies Q) → Rule → FinMap R V
    → List Q → Type 0
RunsInTurn {R = R} runs on rule start list = ((q : _) → IsFramed runs q)
    → TellsApart R on (λ q. runs.sees q start) (λ q. keys_of (runs.rows q start)) → InTurn runs on rule start list
