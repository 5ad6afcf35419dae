-- The numbered sets of a batch's runs are a sheet by which its verdicts are read off.
use Rattle.std.proofs.Common.{◌≡◌, ℕ, ◌-◌, ◌<◌, ◌≤◌, List, [], ◌∷◌, ◌++◌, map, length, Bool, true, false, refl, sym, ap, ◌∙◌, arith, length-append}
use Rattle.std.specs.Prelude.{slice_index_or}
use Rattle.std.specs.List.{All}
use Rattle.std.specs.FinMap as fin
use Rattle.std.proofs.lemmas.List.{length-map, get_or-map}
use Rattle.std.proofs.lemmas.List.Elements.{All-nil, All-append, All-head, All-tail, All-map}
use Rattle.std.proofs.lemmas.Simd.{map-map}
use Rattle.aria_base.specs.Orders.{key_cmp}
use Rattle.aria_base.specs.declared.keys.Key.{Key}
use Rattle.batch_rules.specs.declared.verdicts.Rule.{Rule}
use Rattle.batch_rules.specs.Batches.{judged}
use Rattle.batch_rules.specs.Numberings.{IsOneToOneOn}
use Rattle.batch_rules.specs.Touches.{is_among}
use Rattle.batch_rules.proofs.Lists.{All-unmapped}
use Rattle.dep_rules.specs.Decisions.{reads_of, writes_of}
use Rattle.dep_rules.specs.Numberings.{IsNumbered}
use Rattle.dep_rules.specs.Sheets.{Sheet, writes_at}
use Rattle.dep_rules.specs.declared.sets.Sets.{Sets}
use Rattle.key_numbering.specs.Numbers.{number_in, numbers_of}
use Rattle.range_rules.specs.declared.routines.Ran.{Ran}
use Rattle.range_rules.specs.Batches.{depends, written}
use Rattle.range_marks.specs.Decisions.{Spot, IsSpot, TellsKeys, AreApart, AreCounted, scan_verdicts}
use Rattle.range_runs.specs.Marks.{mark_of}
use Rattle.range_marks.specs.Marks.{marks_on, scanned_by, sets_with}
use Rattle.range_marks.proofs.Judging.{verdicts-are}
use Rattle.range_marks.proofs.Marking.{are_marks}
use Rattle.range_marks.proofs.Spots.{IsSheetOf, holds_among}
use Rattle.range_marks.proofs.Touching.{scanned, all_scanned, own_scans, among_own}

-- the sheet has the numbers of these sets' keys, each of one key
pub record NumbersSets (sets : List Sets) (sheet : Sheet) : Type 0 where
  pub lists : IsNumbered key_cmp reads_of writes_of (fin.keys (numbers_of sets)) (number_in (numbers_of sets)) sets sheet
  pub one_to_one : IsOneToOneOn key_cmp (fin.keys (numbers_of sets)) (number_in (numbers_of sets))

map_id : {X : Type 0} (xs : List X) → map (λ x. x) xs ≡ xs
map_id [] = refl
map_id (x ∷ xs) = ap (λ l. x ∷ l) (map_id xs)

-- no scanned prefix is taken for a key
none_whole : (whole : Key → Bool) (rs : List Ran) → All (TellsKeys whole) rs → All (λ k. whole k ≡ false) (scanned_by rs)
none_whole whole [] tell = All-nil (λ k. whole k ≡ false)
none_whole whole (r ∷ rs) tell = All-append (λ k. whole k ≡ false) (map mark_of r.scans) (scanned_by rs)
    (All-map (λ k. whole k ≡ false) mark_of r.scans (All-head (TellsKeys whole) r rs tell).scans)
    (none_whole whole rs (All-tail (TellsKeys whole) r rs tell))

module _ (rs : List Ran) (apart : AreApart rs) (sheet : Sheet) (n : NumbersSets (map (sets_with (scanned rs)) rs) sheet) where
  abbrev keys : List Key
  keys = fin.keys (numbers_of (map (sets_with (scanned rs)) rs))

  abbrev number : Key → ℕ
  number = number_in (numbers_of (map (sets_with (scanned rs)) rs))

  abbrev spot : Ran → Spot
  spot r = record { ran = r; sets = sets_with (scanned rs) r }

  abbrev spots : List Spot
  spots = map spot rs

  abbrev HasAll : List Key → Type 0
  HasAll ks = All (λ k. is_among key_cmp keys k ≡ true) ks

  numbered : IsNumbered key_cmp (λ s. s.sets.reads) (λ s. s.sets.writes) keys number spots sheet
  numbered = record {
    reads_among = All-map (λ s. HasAll s.sets.reads) spot rs (All-unmapped (λ s. HasAll (reads_of s)) (sets_with (scanned rs)) rs n.lists.reads_among);
    writes_among = All-map (λ s. HasAll s.sets.writes) spot rs (All-unmapped (λ s. HasAll (writes_of s)) (sets_with (scanned rs)) rs n.lists.writes_among);
    reads_are = n.lists.reads_are ∙ map-map (λ s. map number (reads_of s)) (sets_with (scanned rs)) rs
        ∙ sym (map-map (λ s. map number s.sets.reads) spot rs);
    writes_are = n.lists.writes_are ∙ map-map (λ s. map number (writes_of s)) (sets_with (scanned rs)) rs
        ∙ sym (map-map (λ s. map number s.sets.writes) spot rs);
  }

  abbrev all_keys : List Key
  all_keys = fin.keys (scanned rs)

  -- what is among the scanned ones is a key of their map, and the other way round
  listed : (k : Key) → is_among key_cmp all_keys k ≡ is_among key_cmp (scanned_by rs) k
  listed k = sym (fin.contains_key-keys (scanned rs) k) ∙ all_scanned rs k

  are_spots : All (IsSpot all_keys) spots
  are_spots = All-map (IsSpot all_keys) spot rs (λ i d below.
      let r = slice_index_or rs i d in record {
        marks = marks_on (scanned rs) (written r);
        reads = refl;
        writes = refl;
        are = are_marks (scanned rs) (written r);
        scans = λ j e within. listed (mark_of (slice_index_or r.scans j e)) ∙ own_scans rs i d below j e within;
      })

  no_key_whole : All (λ k. apart.whole k ≡ false) all_keys
  no_key_whole i d below =
      let k = slice_index_or all_keys i d in
      holds_among apart.whole (scanned_by rs) k (none_whole apart.whole rs apart.each) (sym (listed k) ∙ among_own all_keys i d below)

  is_sheet : IsSheetOf apart.whole keys number all_keys spots sheet
  is_sheet = record {
    one = n.one_to_one;
    numbered = numbered;
    spots_are = are_spots;
    tell = All-map (λ s. TellsKeys apart.whole s.ran) spot rs apart.each;
    parts = no_key_whole;
  }

  module _ (counts : List ℕ) (told : counts ≡ map (λ r. length r.writes) rs) where
    counted : counts ≡ map (λ r. length (written r)) rs
    counted = told ∙ (λ i. map (λ (r : Ran). sym (length-map r.writes (λ row. row.0)) i) rs)

    pub verdicts_read : (rule : Rule) → scan_verdicts rule sheet counts ≡ map (λ d. d.verdict) (judged depends rule [] rs)
    verdicts_read rule = verdicts-are apart.whole keys number all_keys spots sheet is_sheet counts
        (counted ∙ sym (map-map (λ s. length (written s.ran)) spot rs)) rule
        ∙ ap (λ rans. map (λ d. d.verdict) (judged depends rule [] rans)) (map-map (λ s. s.ran) spot rs ∙ map_id rs)

    pub are_counted : AreCounted sheet counts
    are_counted =
        let many : length sheet.reads ≡ length rs = ap length numbered.reads_are ∙ length-map spots (λ s. map number s.sets.reads)
        ∙ length-map rs spot in record {
          each = ap length counted ∙ length-map rs (λ r. length (written r)) ∙ sym many;
          own = λ tid first last. own_in tid (omega (arith, first, last, many)) (any rs (omega (arith, first, last, many)));
        }
      where
        any : {X : Type 0} (xs : List X) → 0 < length xs → X
        any [] some = absurd (omega (arith, some))
        any (x ∷ xs) some = x

        own_in : (tid : ℕ) → tid - 1 < length rs → Ran → slice_index_or counts (tid - 1) 0 ≤ length (writes_at sheet tid)
        own_in tid within d =
            let r = slice_index_or rs (tid - 1) d in
            let count : slice_index_or counts (tid - 1) 0 ≡ length (written r) =
            ap (λ l. slice_index_or l (tid - 1) 0) counted ∙ get_or-map (λ r. length (written r)) rs (tid - 1) d 0 within in
            let writes : writes_at sheet tid ≡ map number (written r ++ marks_on (scanned rs) (written r)) =
            ap (λ l. slice_index_or l (tid - 1) []) (n.lists.writes_are ∙ map-map (λ s. map number (writes_of s)) (sets_with (scanned rs)) rs)
            ∙ get_or-map (λ r. map number (written r ++ marks_on (scanned rs) (written r))) rs (tid - 1) d [] within in
            let long = ap length writes ∙ length-map (written r ++ marks_on (scanned rs) (written r)) number
            ∙ length-append (written r) (marks_on (scanned rs) (written r)) in
            omega (arith, count, long)
