-- What a run touches: the keys that it reads from the database, the rows that it leaves, and its first access outside declared keys.
use Rattle.std.specs.Prelude.{List, [], ◌∷◌, ◌++◌, map, Option, Some, None, Bool, ◌||◌, if◌then◌else◌}
use Rattle.std.specs.declared.cmp.Ordering.{Ordering}
use Rattle.std.specs.Ordering.{eq_by_cmp}
use Rattle.std.specs.List.{list_any}
use Rattle.std.specs.FinMap.{FinMap}
use Rattle.batch_rules.specs.Trees.{Tree, Visit, Read, Write, set_at, trace_of, end_of, left_by}

-- What was touched so far: the keys whose row came from the database, each once, in order of first read; and the rows to be
-- left, each key once, in order of first write. The read of a key that the run wrote before does not count.
pub record Noted (K V : Type 0) : Type 0 where
  pub reads : List K
  pub writes : List (K × Option V)

-- what a run may touch: it may read the keys of both lists, and write those of the second
pub record Declared (K : Type 0) : Type 0 where
  pub reads : List K
  pub writes : List K

abbrev pub nothing : {K V : Type 0} → Noted K V
nothing = record { reads = []; writes = [] }

abbrev pub keys_of : {K X : Type 0} → List (K × X) → List K
keys_of rows = map (λ row. row.0) rows

module _ {K : Type 0} (R : K → K → Ordering) where
  abbrev pub is_among : List K → K → Bool
  is_among keys k = list_any (eq_by_cmp R k) keys

  abbrev pub may_write : Declared K → K → Bool
  may_write declared k = is_among declared.writes k

  abbrev pub may_read : Declared K → K → Bool
  may_read declared k = is_among declared.reads k || is_among declared.writes k

module _ {K V : Type 0} (R : K → K → Ordering) where
  -- the new row stands in the place of the key's first one, or at the end
  abbrev pub with_write : List (K × Option V) → K → Option V → List (K × Option V)
  with_write [] k row = (k, row) ∷ []
  with_write (w ∷ ws) k row = if eq_by_cmp R k w.0 then (w.0, row) ∷ ws else w ∷ with_write ws k row

  abbrev pub noted : Noted K V → Visit K V → Noted K V
  noted n (Read k) =
      record { reads = if is_among R n.reads k || is_among R (keys_of n.writes) k then n.reads else n.reads ++ k ∷ []; writes = n.writes }
  noted n (Write k row) = record { reads = n.reads; writes = with_write n.writes k row }

  -- what is noted after these further accesses
  abbrev pub all_noted : Noted K V → List (Visit K V) → Noted K V
  all_noted n [] = n
  all_noted n (visit ∷ visits) = all_noted (noted n visit) visits

  -- the key of the first access that the declared keys do not allow
  abbrev pub outside : Declared K → List (Visit K V) → Option K
  outside declared [] = None
  outside declared (Read k ∷ visits) = if may_read R declared k then outside declared visits else Some k
  outside declared (Write k row ∷ visits) = if may_write R declared k then outside declared visits else Some k

module _ {K V : Type 0} {R : K → K → Ordering} where
  -- the database with these rows. Of a key that stands twice the first row counts
  abbrev pub overwritten : FinMap R V → List (K × Option V) → FinMap R V
  overwritten db [] = db
  overwritten db (w ∷ ws) = set_at (overwritten db ws) w.0 w.1

module _ {K V X : Type 0} {R : K → K → Ordering} (rows : X → List (K × Option V)) where
  -- the database with the rows of each item, one item after the other
  abbrev pub installed : FinMap R V → List X → FinMap R V
  installed db [] = db
  installed db (x ∷ xs) = installed (overwritten db (rows x)) xs

module _ {K V A : Type 0} {R : K → K → Ordering} where
  -- the read set of the run on the database, whatever its end
  abbrev pub reads_of : Tree K V A → FinMap R V → List K
  reads_of t db = (all_noted R nothing (trace_of t db)).reads

  -- The write set, each key with its last row or None. A run that is not done, since it failed or trapped, has none
  abbrev pub writes_of : (A → Bool) → Tree K V A → FinMap R V → List (K × Option V)
  writes_of is_done t db = if is_done (end_of t db) then (all_noted R nothing (trace_of t db)).writes else []

  -- the database after the run. One that is not done leaves it as it was
  abbrev pub map_after : (A → Bool) → Tree K V A → FinMap R V → FinMap R V
  map_after is_done t db = if is_done (end_of t db) then left_by t db else db
