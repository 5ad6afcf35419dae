-- One batch as functions of one list: its judged requests.
--
-- O is whatever carries a request and what its run on the batch's start came to: in code that ran its requests the outcomes that it
-- has in its hands; in the definition of a batch the request itself, since its tree and the start tell the rest.
-- `is_done` tells an end that installs the writes from a failure or a trap.
use Rattle.std.specs.Prelude.{ℕ, ◌+◌, ◌*◌, List, [], ◌∷◌, ◌++◌, reverse, length, drop, Option, Some, None, Bool, true, false}
use Rattle.std.specs.Prelude.{◌&&◌, if◌then◌else◌, nat_lt, nat_le}
use Rattle.std.specs.declared.cmp.Ordering.{Ordering}
use Rattle.std.specs.List.{filter}
use Rattle.std.specs.FinMap.{FinMap}
use Rattle.batch_rules.specs.declared.verdicts.Rule.{Rule}
use Rattle.batch_rules.specs.declared.verdicts.Cause.{Cause}
use Rattle.batch_rules.specs.declared.verdicts.Verdict.{Verdict}
use Rattle.batch_rules.specs.declared.verdicts.Verdict.TheVariants.{Finish, Wait}
use Rattle.batch_rules.specs.Trees.{Tree, trace_of, end_of}
use Rattle.batch_rules.specs.Touches.{Declared, keys_of, reads_of, writes_of, map_after, outside, installed}
use Rattle.batch_rules.specs.Verdicts.{Dependencies, finishes, waits, goes_ahead, keeps_turn, verdict_on, by_keys}

-- how what a request's run came to is read off what carries it
pub record Carrier (K V A O : Type 0) : Type 0 where
  -- the keys that it read
  pub reads : O → List K
  -- the rows that it leaves
  pub rows : O → List (K × Option V)
  -- its end
  pub end : O → A

-- a request with its number in the batch, from 1, and what the commit phase decides of it
pub record Judged (O : Type 0) : Type 0 where
  pub tid : ℕ
  pub request : O
  pub verdict : Verdict

-- What becomes of a request in the batch: it has its final end; or it waits for the cause; or it was run again in the late fold,
-- and stopped before an access outside its declared keys, at this key.
pub data Fate (K A : Type 0) : Type 0 where
  Ended : A → Fate K A
  Waits : Cause → Fate K A
  Moved : K → Fate K A

pub record Entry (K O A : Type 0) : Type 0 where
  pub judged : Judged O
  pub fate : Fate K A

abbrev pub has_ended : {K A : Type 0} → Fate K A → Bool
has_ended (Ended a) = true
has_ended (Waits cause) = false
has_ended (Moved k) = false

-- The order of what finishes in the commit phase: those that read what an earlier request writes, the last one first; then the
-- other ones, the first one first.
abbrev pub placed : {X : Type 0} → (X → Verdict) → List X → List X
placed verdict_of xs = reverse (filter (λ x. goes_ahead (verdict_of x)) xs) ++ filter (λ x. keeps_turn (verdict_of x)) xs

-- ---- the list, with its verdicts

module _ {O : Type 0} (on : Dependencies O) (rule : Rule) where
  -- the verdict of a request behind the earlier ones
  abbrev pub judge : List O → O → Judged O
  judge earlier o = record { tid = length earlier + 1; request = o; verdict = verdict_on on rule earlier o }

  -- and those of a list behind them
  abbrev pub judged : List O → List O → List (Judged O)
  judged earlier [] = []
  judged earlier (o ∷ os) = judge earlier o ∷ judged (earlier ++ o ∷ []) os

module _ {O : Type 0} where
  -- a list and its verdicts put together, with numbers from this one on
  abbrev pub decided : ℕ → List O → List Verdict → List (Judged O)
  decided tid [] verdicts = []
  decided tid (o ∷ os) [] = []
  decided tid (o ∷ os) (verdict ∷ verdicts) = record { tid = tid; request = o; verdict = verdict } ∷ decided (tid + 1) os verdicts

  abbrev pub finishing : List (Judged O) → List (Judged O)
  finishing ds = filter (λ d. finishes d.verdict) ds

  abbrev pub waiting : List (Judged O) → List (Judged O)
  waiting ds = filter (λ d. waits d.verdict) ds

  -- whether what waits is run again: at least one request waits, and of a hundred requests at least `percent`
  abbrev pub late_runs : ℕ → List (Judged O) → Bool
  late_runs percent ds = nat_lt 0 (length (waiting ds)) && nat_le (percent * length ds) (length (waiting ds) * 100)

module _ {K O A : Type 0} where
  abbrev pub is_late : Entry K O A → Bool
  is_late e = waits e.judged.verdict && has_ended e.fate

  abbrev pub is_carried : Entry K O A → Bool
  is_carried e = if has_ended e.fate then false else true

  -- the printed order: what finished in the commit phase as it was placed, then what finished late, the first one first
  abbrev pub ordered : List (Entry K O A) → List (Entry K O A)
  ordered es = placed (λ e. e.judged.verdict) es ++ filter is_late es

  -- what waits, for the next batch's list
  abbrev pub carried : List (Entry K O A) → List (Entry K O A)
  carried es = filter is_carried es

-- ---- the late fold

-- at no key outside the declared ones the end, and else that key
abbrev pub fate_by : {K A : Type 0} → Option K → A → Fate K A
fate_by None a = Ended a
fate_by (Some k) a = Moved k

-- a run that may touch the declared keys alone: where an access would lie outside it has no effect
module _ {K V A : Type 0} {R : K → K → Ordering} where
  abbrev pub late_fate : Declared K → Tree K V A → FinMap R V → Fate K A
  late_fate declared t db = fate_by (outside R declared (trace_of t db)) (end_of t db)

  abbrev pub late_map : (A → Bool) → Declared K → Tree K V A → FinMap R V → FinMap R V
  late_map is_done declared t db = if has_ended (late_fate declared t db) then map_after is_done t db else db

-- the late fold over any list whose items tell a tree and its declared keys: one after the other, each on what the ones before left
module _ {K V W A : Type 0} {R : K → K → Ordering} (is_done : A → Bool) (declared_of : W → Declared K) (tree : W → Tree K V A) where
  abbrev pub late_fates : FinMap R V → List W → List (Fate K A)
  late_fates db [] = []
  late_fates db (w ∷ ws) = late_fate (declared_of w) (tree w) db ∷ late_fates (late_map is_done (declared_of w) (tree w) db) ws

  abbrev pub late_left : FinMap R V → List W → FinMap R V
  late_left db [] = db
  late_left db (w ∷ ws) = late_left (late_map is_done (declared_of w) (tree w) db) ws

-- ---- the batch

-- the answer of a batch: the database that it leaves, and what became of its requests, in the order of the list
pub record Batch {K : Type 0} (R : K → K → Ordering) (V O A : Type 0) : Type 0 where
  pub map : FinMap R V
  pub entries : List (Entry K O A)

-- of the fates that are left, those for the requests behind one with this verdict
abbrev pub lates_behind : {K A : Type 0} → Verdict → List (Fate K A) → List (Fate K A)
lates_behind (Finish raw) lates = lates
lates_behind (Wait cause) lates = drop 1 lates

module _ {K V A O : Type 0} (by : Carrier K V A O) where
  -- the keys that a request wrote
  abbrev pub written : O → List K
  written o = keys_of (by.rows o)

  -- what it may touch when it runs again
  abbrev pub declared : O → Declared K
  declared o = record { reads = by.reads o; writes = written o }

  -- who depends on whom
  abbrev pub touching : (R : K → K → Ordering) → Dependencies O
  touching R = by_keys R by.reads written

  -- what becomes of a request with this verdict, and of all, where the late fold gave those that wait these fates in turn. Where it did
  -- not run there are none
  abbrev pub fate_after : O → Verdict → List (Fate K A) → Fate K A
  fate_after o (Finish raw) lates = Ended (by.end o)
  fate_after o (Wait cause) [] = Waits cause
  fate_after o (Wait cause) (late ∷ lates) = late

  abbrev pub settled : List (Judged O) → List (Fate K A) → List (Entry K O A)
  settled [] lates = []
  settled (d ∷ ds) lates = record { judged = d; fate = fate_after d.request d.verdict lates } ∷ settled ds (lates_behind d.verdict lates)

module _ {K V A O : Type 0} {R : K → K → Ordering} (by : Carrier K V A O) where
  -- the database with the rows of all that finish in the commit phase, one request after the other
  abbrev pub after_commit : FinMap R V → List (Judged O) → FinMap R V
  after_commit start ds = installed (λ d. by.rows d.request) start (finishing ds)

module _ {K V A O : Type 0} {R : K → K → Ordering} (by : Carrier K V A O) (is_done : A → Bool) (tree : O → Tree K V A) where
  -- what waits, run again within the keys of its run on the start: what becomes of each, and the database that it leaves
  abbrev pub late_results : FinMap R V → List (Judged O) → List (Fate K A)
  late_results db ds = late_fates is_done (λ d. declared by d.request) (λ d. tree d.request) db (waiting ds)

  abbrev pub late_rest : FinMap R V → List (Judged O) → FinMap R V
  late_rest db ds = late_left is_done (λ d. declared by d.request) (λ d. tree d.request) db (waiting ds)

  -- the answer by the judged requests alone
  abbrev pub answered : ℕ → FinMap R V → List (Judged O) → Batch R V O A
  answered percent start ds = record {
    map = if late_runs percent ds then late_rest (after_commit by start ds) ds else after_commit by start ds;
    entries = settled by ds (if late_runs percent ds then late_results (after_commit by start ds) ds else []);
  }

  -- one batch: its list runs from `start` by the rule, and what waits runs again where it is at least `percent` of a hundred
  abbrev pub batch_by : Rule → ℕ → FinMap R V → List O → Batch R V O A
  batch_by rule percent start list = answered percent start (judged (touching by R) rule [] list)

module _ {K V Q A : Type 0} {R : K → K → Ordering} (is_done : A → Bool) (tree : Q → Tree K V A) where
  -- what a request's run on the batch's start comes to
  abbrev pub reads_at : FinMap R V → Q → List K
  reads_at start q = reads_of (tree q) start

  abbrev pub rows_at : FinMap R V → Q → List (K × Option V)
  rows_at start q = writes_of is_done (tree q) start

  abbrev pub on_start : FinMap R V → Carrier K V A Q
  on_start start = record { reads = reads_at start; rows = rows_at start; end = λ q. end_of (tree q) start }

  -- the batch of requests
  abbrev pub batch : Rule → ℕ → FinMap R V → List Q → Batch R V Q A
  batch rule percent start list = batch_by (on_start start) is_done tree rule percent start list

-- ---- the same requests, carried in another way

module _ {O P : Type 0} (of : O → P) where
  -- `of` makes of what carries a request something else that does
  abbrev pub read_through : {K V A : Type 0} → Carrier K V A P → Carrier K V A O
  read_through by = record { reads = λ o. by.reads (of o); rows = λ o. by.rows (of o); end = λ o. by.end (of o) }

  abbrev pub judged_through : Judged O → Judged P
  judged_through d = record { tid = d.tid; request = of d.request; verdict = d.verdict }

  abbrev pub entry_through : {K A : Type 0} → Entry K O A → Entry K P A
  entry_through e = record { judged = judged_through e.judged; fate = e.fate }
