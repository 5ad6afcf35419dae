-- The laws of a batch, as sentences over the definitions.
use Rattle.std.specs.Prelude.{◌≡◌, ◌↔◌, ⊤, ℕ, ◌+◌, ◌-◌, ◌<◌, ◌≤◌, List, [], ◌++◌, map, length, slice_index_or, Option, Some, None}
use Rattle.std.specs.Prelude.{Bool, true, false, IsSomeAnd, slice_get}
use Rattle.std.specs.declared.cmp.Ordering.{Ordering}
use Rattle.std.specs.FinMap as fin
use Rattle.std.specs.FinMap.{FinMap, find}
use Rattle.std.specs.List.{All, AllPairs, Contains, enumerate_from}
use Rattle.std.specs.List.Sorted.{IsPermutation}
use Rattle.std.specs.Str.TwoWay.{IsFirst}
use Rattle.batch_rules.specs.declared.verdicts.Rule.{Rule}
use Rattle.batch_rules.specs.declared.verdicts.Rule.TheVariants.{Plain, Reorder}
use Rattle.batch_rules.specs.declared.verdicts.Cause.TheVariants.{Waw, Raw, Both}
use Rattle.batch_rules.specs.declared.verdicts.Verdict.{Verdict}
use Rattle.batch_rules.specs.declared.verdicts.Verdict.TheVariants.{Finish, Wait}
use Rattle.batch_rules.specs.Verdicts.{Dependencies, finishes, meets, verdict_on}
use Rattle.batch_rules.specs.Batches.{Carrier, Judged, Entry, Batch, Ended, ordered, carried, decided, judged, written}
use Rattle.batch_rules.specs.Batches.{after_commit, batch_by, read_through, entry_through}
use Rattle.batch_rules.specs.Serials.{serial_ends, serial_map}
use Rattle.batch_rules.specs.Trees.{Tree, trace_of, end_of}
use Rattle.batch_rules.specs.Touches.{Declared, keys_of, is_among, may_read, may_write, reads_of, writes_of, map_after, outside}
use Rattle.batch_rules.specs.Touches.{overwritten}

module _ {K V : Type 0} {R : K → K → Ordering} where
  -- the databases have the same row, or none, at each of the keys
  abbrev pub AgreeOn : List K → FinMap R V → FinMap R V → Type 0
  AgreeOn keys m n = (k : K) → is_among R keys k ≡ true → fin.get m k ≡ fin.get n k

  -- and at each key that may be read within the declared ones
  abbrev pub AgreeWithin : Declared K → FinMap R V → FinMap R V → Type 0
  AgreeWithin declared m n = (k : K) → may_read R declared k ≡ true → fin.get m k ≡ fin.get n k

-- the runs on two databases have the same accesses, the same end and the same write set
pub record SameRun {K V A : Type 0} {R : K → K → Ordering} (is_done : A → Bool) (t : Tree K V A) (m n : FinMap R V) : Type 0 where
  pub trace : trace_of t m ≡ trace_of t n
  pub end : end_of t m ≡ end_of t n
  pub writes : writes_of is_done t m ≡ writes_of is_done t n

-- a run writes declared keys alone, and leaves all others as they were
pub record IsConfined {K V A : Type 0} {R : K → K → Ordering} (is_done : A → Bool) (t : Tree K V A)
    (declared : Declared K) (db : FinMap R V) : Type 0 where
  pub keys : (k : K) → is_among R (keys_of (writes_of is_done t db)) k ≡ true → may_write R declared k ≡ true
  pub rest : (k : K) → may_write R declared k ≡ false → fin.get (map_after is_done t db) k ≡ fin.get db k

-- where two databases agree within the declared keys, the first access outside them, if there is one, is at the same key on both
abbrev pub SameStray : {K V A : Type 0} {R : K → K → Ordering} → Tree K V A → Declared K → FinMap R V → FinMap R V → Type 0
SameStray {R = R} t declared m n = AgreeWithin declared m n → outside R declared (trace_of t m) ≡ outside R declared (trace_of t n)

module _ {K V A : Type 0} {R : K → K → Ordering} (is_done : A → Bool) (t : Tree K V A) where
  -- where two databases agree on the read set of the run on the first, both give the same run
  abbrev pub Agreement : FinMap R V → FinMap R V → Type 0
  Agreement m n = AgreeOn (reads_of t m) m n → SameRun is_done t m n

  -- the database after a run is the start with the run's write set over it
  abbrev pub Frame : FinMap R V → Type 0
  Frame db = map_after is_done t db ≡ overwritten db (writes_of is_done t db)

  -- where no access lies outside the declared keys, what stands at other keys cannot matter, and none lies outside on them either
  abbrev pub Outside : Declared K → FinMap R V → FinMap R V → Type 0
  Outside declared m n = outside R declared (trace_of t m) ≡ None → AgreeWithin declared m n → SameRun is_done t m n
      × (outside R declared (trace_of t n) ≡ None)

  -- where no access lies outside the declared keys, the run is confined to them
  abbrev pub Confined : Declared K → FinMap R V → Type 0
  Confined declared db = outside R declared (trace_of t db) ≡ None → IsConfined is_done t declared db

-- no two requests that finish in the commit phase write a common key
abbrev pub OneWriter : {K V A O : Type 0} → (K → K → Ordering) → Carrier K V A O → List (Judged O) → Type 0
OneWriter R by ds =
    AllPairs (λ d e. finishes d.verdict ≡ true → finishes e.verdict ≡ true
    → meets R (written by d.request) (written by e.request) ≡ false) ds

-- at the key k the database after the commit phase has what a request that finishes there writes, and what it had where none writes k
pub record AfterCommit {K V A O : Type 0} {R : K → K → Ordering} (by : Carrier K V A O) (start : FinMap R V)
    (ds : List (Judged O)) (k : K) : Type 0 where
  pub by_writer : (d : Judged O) (row : Option V) → Contains ds d → finishes d.verdict ≡ true
      → find R k (by.rows d.request) ≡ Some row → fin.get (after_commit by start ds) k ≡ row
  pub kept : All (λ d. finishes d.verdict ≡ true → is_among R (written by d.request) k ≡ false) ds
      → fin.get (after_commit by start ds) k ≡ fin.get start k

-- run one after the other from the start, the requests of the order end as their fates say, and leave this database
pub record Serialises {K V Q A : Type 0} {R : K → K → Ordering} (is_done : A → Bool) (tree : Q → Tree K V A)
    (start : FinMap R V) (order : List (Entry K Q A)) (left : FinMap R V) : Type 0 where
  pub ends : map Ended (serial_ends is_done tree start (map (λ e. e.judged.request) order)) ≡ map (λ e. e.fate) order
  pub map : serial_map is_done tree start (map (λ e. e.judged.request) order) ≡ left

module _ {K V Q A : Type 0} {R : K → K → Ordering} (is_done : A → Bool) (tree : Q → Tree K V A) where
  -- a batch is serialised by the order that it prints
  abbrev pub SerialLaw : FinMap R V → Batch R V Q A → Type 0
  SerialLaw start answer = Serialises is_done tree start (ordered answer.entries) answer.map

-- the entries are the list with its numbers; and the printed order and what waits are the entries, each once
pub record EachOnce {K O A : Type 0} (list : List O) (entries : List (Entry K O A)) : Type 0 where
  pub numbered : map (λ e. (e.judged.tid, e.judged.request)) entries ≡ enumerate_from 1 list
  pub parted : IsPermutation (ordered entries ++ carried entries) entries

-- The first request of the list finishes, with its end on the start. So fewer are carried than there were; and since the next list
-- begins with them, each stands at a smaller place than before.
pub record Progress {K O A : Type 0} (list : List O) (end : A) (entries : List (Entry K O A)) : Type 0 where
  pub ends : slice_get (map (λ e. e.fate) entries) 0 ≡ Some (Ended end)
  pub fewer : length (carried entries) < length list
  pub sooner : (i : ℕ) (d : Entry K O A) → i < length (carried entries) → i + 1 < (slice_index_or (carried entries) i d).judged.tid

-- two lists meet where some key is among both
abbrev pub Meeting : {K : Type 0} (R : K → K → Ordering) → List K → List K → Type 0
Meeting {K} R xs ys = (meets R xs ys ≡ true) ↔ ((k : K) × (is_among R xs k ≡ true) × (is_among R ys k ≡ true))

-- r is the least number of an item of which this holds, counted from 1, or None where it holds of none
abbrev pub IsLeast : {S : Type 0} → (S → Bool) → List S → Option ℕ → Type 0
IsLeast holds items r = IsFirst (λ j. IsSomeAnd (slice_get items (j - 1)) (λ item. holds item ≡ true)) 1 (length items + 1) r

module _ {S : Type 0} (on : Dependencies S) (earlier : List S) (me : S) where
  -- What a verdict says. It finishes without a dependency by which it would have to wait, and tells whether it read what an earlier
  -- request writes; or it waits, and the cause names the least request on which there is the dependency.
  abbrev pub Says : Rule → Verdict → Type 0
  Says Plain (Finish raw) = (raw ≡ false) × IsLeast (on.waw me) earlier None × IsLeast (on.raw me) earlier None
  Says Reorder (Finish false) = IsLeast (on.waw me) earlier None × IsLeast (on.raw me) earlier None
  Says Reorder (Finish true) = IsLeast (on.waw me) earlier None × IsLeast (on.war me) earlier None
      × ((j : ℕ) × IsLeast (on.raw me) earlier (Some j))
  Says rule (Wait (Waw j)) = IsLeast (on.waw me) earlier (Some j)
  Says rule (Wait (Raw j)) = (rule ≡ Plain) × IsLeast (on.waw me) earlier None × IsLeast (on.raw me) earlier (Some j)
  Says rule (Wait (Both j k)) = (rule ≡ Reorder) × IsLeast (on.waw me) earlier None
      × IsLeast (on.raw me) earlier (Some j) × IsLeast (on.war me) earlier (Some k)

  abbrev pub VerdictLaw : Rule → Type 0
  VerdictLaw rule = Says rule (verdict_on on rule earlier me)

-- place by place, `me` has the same dependencies on the requests before it as `you`, whatever they are told by
pub record SameDependencies {S Z : Type 0} (on : Dependencies S) (earlier : List S) (me : S) (also : Dependencies Z)
    (others : List Z) (you : Z) : Type 0 where
  pub waw : map (on.waw me) earlier ≡ map (also.waw you) others
  pub raw : map (on.raw me) earlier ≡ map (also.raw you) others
  pub war : map (on.war me) earlier ≡ map (also.war you) others

-- equal dependencies give equal verdicts
abbrev pub SameVerdict : {S Z : Type 0} (on : Dependencies S) → List S → S → Dependencies Z → List Z → Z → Rule → Type 0
SameVerdict on earlier me also others you rule = SameDependencies on earlier me also others you
    → verdict_on on rule earlier me ≡ verdict_on also rule others you

-- the numbers of a cause are those of requests before number n
abbrev pub CauseBelow : ℕ → Verdict → Type 0
CauseBelow n (Finish raw) = ⊤
CauseBelow n (Wait (Waw j)) = (1 ≤ j) × (j < n)
CauseBelow n (Wait (Raw j)) = (1 ≤ j) × (j < n)
CauseBelow n (Wait (Both j k)) = ((1 ≤ j) × (j < n)) × ((1 ≤ k) × (k < n))

-- each request waits for earlier ones alone
abbrev pub WaitsForEarlier : {O : Type 0} → List (Judged O) → Type 0
WaitsForEarlier ds = All (λ d. CauseBelow d.tid d.verdict) ds

-- the list with the verdicts that were decided of it one by one is the judged list
abbrev pub DecidedEach : {O : Type 0} → Dependencies O → Rule → List O → Type 0
DecidedEach on rule list = decided 1 list (map (λ d. d.verdict) (judged on rule [] list)) ≡ judged on rule [] list

-- requests that are carried by what `of` makes of them have the same batch: the same database, and each the same fate
pub record SameBatch {K V A O P : Type 0} {R : K → K → Ordering} (of : O → P) (by : Carrier K V A P)
    (is_done : A → Bool) (tree : P → Tree K V A)
    (rule : Rule) (percent : ℕ) (start : FinMap R V) (list : List O) : Type 0 where
  pub entries : (batch_by by is_done tree rule percent start (map of list)).entries
      ≡ map (entry_through of) (batch_by (read_through of by) is_done (λ o. tree (of o)) rule percent start list).entries
  pub left : (batch_by by is_done tree rule percent start (map of list)).map
      ≡ (batch_by (read_through of by) is_done (λ o. tree (of o)) rule percent start list).map
