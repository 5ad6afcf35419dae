-- Verdicts by the numbers of keys and prefixes: a scanned prefix is numbered like a key, and a write marks each scanned prefix that it is
-- under. Such marks count where something was read, and never between two writes.
use Rattle.std.specs.Prelude.{◌≡◌, ◌≤◌, ◌<◌, ◌+◌, ◌*◌, ◌-◌, ℕ, Option, Bool, true, false, List, ◌++◌, map, take, length, slice_index, slice_index_or}
use Rattle.aria_base.specs.Reserved.{tid_under}
use Rattle.std.specs.List.{All, list_any, range_with_len}
use Rattle.std.specs.Ordering.{nat_cmp}
use Rattle.aria_base.specs.Orders.{key_cmp}
use Rattle.aria_base.specs.declared.keys.Key.{Key}
use Rattle.aria_base.specs.declared.limits.TheConstants.{MOST_PARTS}
use Rattle.batch_rules.specs.declared.verdicts.Rule.{Rule}
use Rattle.batch_rules.specs.declared.verdicts.Verdict.{Verdict}
use Rattle.batch_rules.specs.Touches.{is_among}
use Rattle.batch_rules.specs.Verdicts.{Dependencies, meets, verdict_on}
use Rattle.dep_rules.specs.declared.sets.Sets.{Sets}
use Rattle.dep_rules.specs.Sheets.{Sheet, reads_at, writes_at}
use Rattle.dep_rules.specs.Words.{tids_before, earlier_only}
use Rattle.range_rules.specs.declared.routines.Prefix.{Prefix}
use Rattle.range_rules.specs.declared.routines.Ran.{Ran}
use Rattle.range_rules.specs.Scans.{is_under}
use Rattle.range_rules.specs.Batches.{written}
use Rattle.range_runs.specs.Marks.{mark_of}

-- ---- keys and prefixes of a batch

-- a run with its sets, in which prefixes stand behind the keys
pub record Spot : Type 0 where
  pub ran : Ran
  pub sets : Sets

-- of the scanned prefixes, these are the ones that one of the keys is under, in any order and however often each stands there
pub record AreMarks (scanned keys marks : List Key) : Type 0 where
  pub among : All (λ m. is_among key_cmp scanned m ≡ true) marks
  pub each : (p : Prefix) → length p.parts < MOST_PARTS → is_among key_cmp scanned (mark_of p) ≡ true
      → is_among key_cmp marks (mark_of p) ≡ list_any (is_under p) keys

-- what was scanned stands behind what was read, and what is marked behind what was written
pub record IsSpot (scanned : List Key) (s : Spot) : Type 0 where
  pub marks : List Key
  pub reads : s.sets.reads ≡ s.ran.reads ++ map mark_of s.ran.scans
  pub writes : s.sets.writes ≡ written s.ran ++ marks
  pub are : AreMarks scanned (written s.ran) marks
  pub scans : All (λ p. is_among key_cmp scanned (mark_of p) ≡ true) s.ran.scans

-- a test tells the keys of a run from those that stand for its prefixes, which have fewer parts than a key may have
pub record TellsKeys (whole : Key → Bool) (ran : Ran) : Type 0 where
  pub reads : All (λ k. whole k ≡ true) ran.reads
  pub writes : All (λ k. whole k ≡ true) (written ran)
  pub scans : All (λ p. whole (mark_of p) ≡ false) ran.scans
  pub short : All (λ p. length p.parts < MOST_PARTS) ran.scans

-- there is one test for all runs
pub record AreApart (rans : List Ran) : Type 0 where
  pub whole : Key → Bool
  pub each : All (TellsKeys whole) rans

-- how much a run touched: keys that it read, keys that it wrote, and prefixes that it scanned
abbrev pub touch_count : Ran → ℕ
touch_count ran = length ran.reads + length ran.writes + length ran.scans

-- ---- by numbers

-- the TID below `tid` that the key's words stand for: of the requests that write it, and of those that read it
abbrev pub writer_of : List ℕ → ℕ → ℕ → ℕ → Option ℕ
writer_of words tag tid key = earlier_only tid (tid_under tag (slice_index words (2 * key)))

abbrev pub reader_of : List ℕ → ℕ → ℕ → ℕ → Option ℕ
reader_of words tag tid key = earlier_only tid (tid_under tag (slice_index words (2 * key + 1)))

-- the numbers of the keys that the request with this TID wrote: the first ones of its list
abbrev pub own_at : Sheet → List ℕ → ℕ → List ℕ
own_at sheet counts tid = take (slice_index_or counts (tid - 1) 0) (writes_at sheet tid)

-- of each request it is told of how many keys at most the numbers stand in its list
pub record AreCounted (sheet : Sheet) (counts : List ℕ) : Type 0 where
  pub each : length counts ≡ length sheet.reads
  pub own : (tid : ℕ) → 1 ≤ tid → tid ≤ length sheet.reads → slice_index_or counts (tid - 1) 0 ≤ length (writes_at sheet tid)

abbrev pub on_sheet : Sheet → List ℕ → Dependencies ℕ
on_sheet sheet counts = record {
  waw = λ me other. meets nat_cmp (own_at sheet counts me) (writes_at sheet other);
  raw = λ me other. meets nat_cmp (reads_at sheet me) (writes_at sheet other);
  war = λ me other. meets nat_cmp (writes_at sheet me) (reads_at sheet other);
}

abbrev pub scan_verdict : Rule → Sheet → List ℕ → ℕ → Verdict
scan_verdict rule sheet counts tid = verdict_on (on_sheet sheet counts) rule (tids_before tid) tid

abbrev pub scan_verdicts : Rule → Sheet → List ℕ → List Verdict
scan_verdicts rule sheet counts = map (scan_verdict rule sheet counts) (range_with_len 1 (length sheet.reads))
