-- The last waves that touched a key, as a table of them tells.
use Rattle.std.specs.Prelude.{◌≡◌, ◌≤◌, ◌<◌, ℕ, suc, max, List, [], ◌∷◌, ◌++◌, map, drop, slice_index_or}
use Rattle.std.specs.Prelude.{Bool, Option, Some, None, if◌then◌else◌}
use Rattle.std.specs.declared.cmp.Ordering.{Ordering}
use Rattle.std.specs.BTreeMap as tree
use Rattle.aria_base.specs.Orders.{key_cmp}
use Rattle.aria_base.specs.declared.keys.Key.{Key}
use Rattle.batch_rules.specs.Touches.{Declared, is_among, may_write}
use Rattle.batch_rules.specs.Waves.{Waved, waved}
use Rattle.std.specs.List.{All}
use Rattle.fallback_locks.specs.declared.lasts.Last.{Last}

abbrev pub or_none : Option Last → Last
or_none None = record { reader = 0; writer = 0 }
or_none (Some last) = last

-- what the table of keys has at a key
abbrev pub last_in : tree.BTreeMap Key Last → Key → Last
last_in lasts q = or_none (tree.get key_cmp lasts q)

-- what the list has at a key, by its number
abbrev pub last_at : List Last → ℕ → Last
last_at lasts q = slice_index_or lasts q (record { reader = 0; writer = 0 })

-- a key's last waves, where a request of this wave reads it, and where one writes it
abbrev pub with_reader : ℕ → Bool → Last → Last
with_reader wave here last = record { reader = if here then max last.reader wave else last.reader; writer = last.writer }

abbrev pub with_writer : ℕ → Bool → Last → Last
with_writer wave here last = record { reader = last.reader; writer = if here then max last.writer wave else last.writer }

-- the greatest of n and the numbers of the keys
abbrev pub highest : {K : Type 0} → (K → ℕ) → ℕ → List K → ℕ
highest f n [] = n
highest f n (k ∷ ks) = highest f (max n (f k)) ks

-- the last wave that writes one of the keys, and the last that reads or writes one
abbrev pub last_writer : {K : Type 0} → (K → Last) → List K → ℕ
last_writer table keys = highest (λ q. (table q).writer) 0 keys

abbrev pub last_toucher : {K : Type 0} → (K → Last) → List K → ℕ
last_toucher table keys = highest (λ q. max (table q).reader (table q).writer) 0 keys

-- one more than the last wave that writes what is read, or touches what is written
abbrev pub wave_by : {K : Type 0} → (K → Last) → Declared K → ℕ
wave_by table declared = suc (max (last_writer table declared.reads) (last_toucher table declared.writes))

-- two tables have the same of each key
abbrev pub AreSame : {K : Type 0} → (K → Last) → (K → Last) → Type 0
AreSame {K} one other = (q : K) → one q ≡ other q

-- a key that has a place in the one table has one in the other
abbrev pub HasPlacesOf : {K : Type 0} → (K → Type 0) → (K → Type 0) → Type 0
HasPlacesOf {K} one other = (q : K) → one q → other q

abbrev pub IsBelow : ℕ → Last → Type 0
IsBelow n last = (last.reader < n) × (last.writer < n)

module _ {K W : Type 0} (R : K → K → Ordering) (declared_of : W → Declared K) where
  -- the greatest wave of those of whose declared keys this holds, or 0
  abbrev pub last_of : (Declared K → Bool) → List (Waved W) → ℕ
  last_of test [] = 0
  last_of test (e ∷ es) = if test (declared_of e.item) then max (last_of test es) e.wave else last_of test es

  -- the table has of each key the last waves of those items
  abbrev pub IsTable : (K → Last) → List (Waved W) → Type 0
  IsTable table es = (q : K)
      → table q ≡ record { reader = last_of (λ d. is_among R d.reads q) es; writer = last_of (λ d. may_write R d q) es }

-- a table and waves that came about so far, from the items before this index
pub record IsSoFar {K W : Type 0} (R : K → K → Ordering) (declared_of : W → Declared K) (table : K → Last) (index : ℕ)
    (waves : List ℕ) (items : List W) : Type 0 where
  pub earlier : List (Waved W)
  pub tells : IsTable R declared_of table earlier
  pub low : All (λ e. e.wave ≤ index) earlier
  pub same : waves ++ map (λ e. e.wave) (waved R declared_of earlier (drop index items)) ≡ map (λ e. e.wave) (waved R declared_of [] items)
