-- What a request does, seen from the database: a tree of accesses. Each read goes on by the row that it finds.
use Rattle.std.specs.Prelude.{List, [], ◌∷◌, Option, Some, None}
use Rattle.std.specs.declared.cmp.Ordering.{Ordering}
use Rattle.std.specs.FinMap as fin
use Rattle.std.specs.FinMap.{FinMap}

-- over keys K and rows V, with an end A. A write of None deletes
pub data Tree (K V A : Type 0) : Type 0 where
  Ends : A → Tree K V A
  Reads : K → (Option V → Tree K V A) → Tree K V A
  Writes : K → Option V → Tree K V A → Tree K V A

-- one access of a run, as the run's trace lists it
pub data Visit (K V : Type 0) : Type 0 where
  Read : K → Visit K V
  Write : K → Option V → Visit K V

module _ {K V : Type 0} {R : K → K → Ordering} where
  -- the database with this row at the key, or with none
  abbrev pub set_at : FinMap R V → K → Option V → FinMap R V
  set_at db k None = fin.remove db k
  set_at db k (Some row) = fin.insert db k row

module _ {K V A : Type 0} {R : K → K → Ordering} where
  -- the accesses of the run in place on the database, in order
  abbrev pub trace_of : Tree K V A → FinMap R V → List (Visit K V)
  trace_of (Ends a) db = []
  trace_of (Reads k next) db = Read k ∷ trace_of (next (fin.get db k)) db
  trace_of (Writes k row next) db = Write k row ∷ trace_of next (set_at db k row)

  -- its end
  abbrev pub end_of : Tree K V A → FinMap R V → A
  end_of (Ends a) db = a
  end_of (Reads k next) db = end_of (next (fin.get db k)) db
  end_of (Writes k row next) db = end_of next (set_at db k row)

  -- the database with all its writes, whatever its end
  abbrev pub left_by : Tree K V A → FinMap R V → FinMap R V
  left_by (Ends a) db = db
  left_by (Reads k next) db = left_by (next (fin.get db k)) db
  left_by (Writes k row next) db = left_by next (set_at db k row)
