-- The late fold in waves: what does not conflict runs on one database, and then its rows are installed.
use Rattle.std.specs.Prelude.{◌≡◌, ◌<◌, ℕ, zero, suc, max, Option, List, [], ◌∷◌, map, Bool, ◌||◌, if◌then◌else◌, nat_eq}
use Rattle.std.specs.declared.cmp.Ordering.{Ordering}
use Rattle.std.specs.List.{All, filter, list_any}
use Rattle.std.specs.FinMap.{FinMap}
use Rattle.batch_rules.specs.Trees.{Tree}
use Rattle.batch_rules.specs.Touches.{Declared, may_read, may_write, writes_of, installed}
use Rattle.batch_rules.specs.Batches.{Fate, has_ended, late_fate, late_fates, late_left}

-- the rows of a run within the declared keys. One that moved, or is not done, has none
module _ {K V A : Type 0} {R : K → K → Ordering} where
  abbrev pub late_rows : (A → Bool) → Declared K → Tree K V A → FinMap R V → List (K × Option V)
  late_rows is_done declared t db = if has_ended (late_fate declared t db) then writes_of is_done t db else []

-- the one behind may read what the one before may write, or may write what that one may touch
abbrev pub conflicts : {K : Type 0} (R : K → K → Ordering) → Declared K → Declared K → Bool
conflicts R before behind = list_any (may_write R before) behind.reads || list_any (may_read R before) behind.writes

-- it is so of both or of neither
abbrev pub ConflictsBothWays : {K : Type 0} (R : K → K → Ordering) → Declared K → Declared K → Type 0
ConflictsBothWays R a b = conflicts R a b ≡ conflicts R b a

-- an item with the number of its wave, from 1
pub record Waved (W : Type 0) : Type 0 where
  pub wave : ℕ
  pub item : W

module _ {K W : Type 0} (R : K → K → Ordering) (declared_of : W → Declared K) where
  -- 1 behind no conflicting one, and else one more than the greatest wave of the earlier ones that it conflicts with
  abbrev pub wave_behind : List (Waved W) → W → ℕ
  wave_behind [] w = 1
  wave_behind (e ∷ es) w = if conflicts R (declared_of e.item) (declared_of w) then max (suc e.wave) (wave_behind es w)
      else wave_behind es w

  -- the items with their waves, behind the earlier ones, of which the last one stands first
  abbrev pub waved : List (Waved W) → List W → List (Waved W)
  waved earlier [] = []
  waved earlier (w ∷ ws) =
      record { wave = wave_behind earlier w; item = w } ∷ waved (record { wave = wave_behind earlier w; item = w } ∷ earlier) ws

module _ {K V W A : Type 0} {R : K → K → Ordering} (is_done : A → Bool) (declared_of : W → Declared K)
    (tree : W → Tree K V A) (wave : W → ℕ) where
  -- the database that wave n finds: of each wave below n all ran on the database that it found, and then their rows were installed
  abbrev pub found : FinMap R V → List W → ℕ → FinMap R V
  found db ws zero = db
  found db ws (suc n) = installed (λ w. late_rows is_done (declared_of w) (tree w) (found db ws n)) (found db ws n)
      (filter (λ w. nat_eq (wave w) n) ws)

  -- what becomes of each on the database that its wave finds, in the order of the list
  abbrev pub wave_fates : FinMap R V → List W → List (Fate K A)
  wave_fates db ws = map (λ w. late_fate (declared_of w) (tree w) (found db ws (wave w))) ws

-- Wave after wave, what becomes of each, in the order of the list, and what is left after the last wave are as in the fold one after
-- the other.
pub record IsInWaves {K V W A : Type 0} {R : K → K → Ordering} (is_done : A → Bool) (declared_of : W → Declared K)
    (tree : W → Tree K V A) (db : FinMap R V) (ws : List W) : Type 0 where
  pub fates : wave_fates is_done (λ e. declared_of e.item) (λ e. tree e.item) (λ e. e.wave) db
      (waved R declared_of [] ws) ≡ late_fates is_done declared_of tree db ws
  pub left : (n : ℕ) → All (λ e. e.wave < n) (waved R declared_of [] ws)
      → found is_done (λ e. declared_of e.item) (λ e. tree e.item) (λ e. e.wave) db (waved R declared_of [] ws) n
      ≡ late_left is_done declared_of tree db ws
