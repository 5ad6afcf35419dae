-- The scanned prefixes that keys are under, found from the keys: each front of a key's parts is looked up. And what a run touched, with
-- prefixes beside keys.
use Rattle.std.specs.Prelude.{ℕ, zero, suc, ◌+◌, min, List, [], ◌∷◌, ◌++◌, map, take, length, if◌then◌else◌}
use Rattle.std.specs.FinMap as fin
use Rattle.aria_base.specs.declared.keys.Key.{Key}
use Rattle.aria_base.specs.declared.limits.TheConstants.{MOST_PARTS}
use Rattle.dep_rules.specs.declared.sets.Sets.{Sets}
use Rattle.range_rules.specs.declared.routines.Prefix.{Prefix}
use Rattle.range_rules.specs.declared.routines.Ran.{Ran}
use Rattle.range_rules.specs.Batches.{written}
use Rattle.range_runs.specs.Indexes.{Listed, with_keys}
use Rattle.range_runs.specs.Marks.{mark_of}

-- the prefix of a key's first parts, and its mark
abbrev pub prefix_of : Key → ℕ → Prefix
prefix_of k count = record { table = k.table; parts = take count k.parts }

abbrev pub front_of : Key → ℕ → Key
front_of k count = mark_of (prefix_of k count)

-- how many such prefixes there are: without parts, with one, and so on, at most five
abbrev pub front_count : Key → ℕ
front_count k = min (length k.parts + 1) MOST_PARTS

-- of the fronts with fewer than so many parts, those that were scanned
abbrev pub fronts_below : Listed → Key → ℕ → List Key
fronts_below scanned k zero = []
fronts_below scanned k (suc n) = fronts_below scanned k n ++ (if fin.contains_key scanned (front_of k n) then front_of k n ∷ [] else [])

-- of all these keys
abbrev pub marks_on : Listed → List Key → List Key
marks_on scanned [] = []
marks_on scanned (k ∷ ks) = fronts_below scanned k (front_count k) ++ marks_on scanned ks

-- the prefixes that these runs scanned, by the keys that stand for them: as a list, and in a map that has some already
abbrev pub scanned_by : List Ran → List Key
scanned_by [] = []
scanned_by (r ∷ rs) = map mark_of r.scans ++ scanned_by rs

abbrev pub with_scans : Listed → List Ran → Listed
with_scans scanned [] = scanned
with_scans scanned (r ∷ rs) = with_scans (with_keys scanned (map mark_of r.scans)) rs

-- what a run touched: what it scanned stands behind what it read, and what it marks behind what it wrote
abbrev pub sets_with : Listed → Ran → Sets
sets_with scanned r = record { reads = r.reads ++ map mark_of r.scans; writes = written r ++ marks_on scanned (written r) }
