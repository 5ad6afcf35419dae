-- The verdict by the numbers of keys and prefixes is the verdict by keys and scans.
use Rattle.std.proofs.Common.{◌≡◌, ℕ, ◌-◌, ◌<◌, ◌≤◌, List, [], ◌∷◌, ◌++◌, map, take, length, get_or, Bool, true, false, not, Some, refl, sym, ap, subst, ◌∙◌}
use Rattle.std.specs.Prelude.{◌||◌, slice_index_or}
use Rattle.std.specs.List.{All, slice_get}
use Rattle.std.specs.Ordering.{eq_by_cmp, nat_cmp}
use Rattle.std.proofs.lemmas.List.{length-map, map-append, get_or-map}
use Rattle.std.proofs.Math.Seq.{take-append_seam}
use Rattle.std.proofs.lemmas.List.Elements.{All-head, All-tail, All-map, All-take}
use Rattle.std.proofs.lemmas.List.Folds.{list_any-append}
use Rattle.std.proofs.lemmas.Option.{slice_get_within, get_or_from_slice_get}
use Rattle.aria_base.specs.Orders.{key_cmp}
use Rattle.aria_base.specs.declared.keys.Key.{Key}
use Rattle.aria_base.specs.declared.limits.TheConstants.{MOST_PARTS}
use Rattle.aria_base.proofs.Orders.{key_cmp_total, key_cmp-IsAntisymmetric}
use Rattle.batch_rules.specs.declared.verdicts.Rule.{Rule}
use Rattle.batch_rules.specs.Touches.{is_among}
use Rattle.batch_rules.specs.Verdicts.{meets, through, verdict_on}
use Rattle.batch_rules.specs.Numberings.{IsOneToOneOn, HasKeysOf}
use Rattle.batch_rules.proofs.Maps.{same_key}
use Rattle.batch_rules.proofs.Meets.{meets_turned}
use Rattle.batch_rules.proofs.Lists.{All-left, map_same}
use Rattle.batch_rules.proofs.Numberings.{same_verdict}
use Rattle.dep_rules.specs.Numberings.{IsNumbered}
use Rattle.dep_rules.specs.Sheets.{Sheet, writes_at}
use Rattle.dep_rules.specs.Words.{tids_before}
use Rattle.dep_rules.proofs.Sheets.{same_all}
use Rattle.range_rules.specs.declared.routines.Prefix.{Prefix}
use Rattle.range_rules.specs.Scans.{covers_any}
use Rattle.range_rules.specs.Batches.{written, depends}
use Rattle.range_runs.specs.Marks.{mark_of}
use Rattle.range_marks.specs.Decisions.{Spot, AreMarks, IsSpot, TellsKeys, own_at, on_sheet, scan_verdict}

-- ---- lists that meet

no_own : (a b c : Bool) → a ≡ not a → b ≡ c
no_own true b c e = cc
no_own false b c e = cc

four : (a b c d : Bool) → ((a || b) || (c || d)) ≡ ((a || c) || (b || d))
four true b c d = refl
four false true true d = refl
four false true false d = refl
four false false true true = refl
four false false true false = refl
four false false false d = refl

or_false : (a : Bool) → (a || false) ≡ a
or_false true = refl
or_false false = refl

meets_behind : (xs ys zs : List Key) → meets key_cmp xs (ys ++ zs) ≡ (meets key_cmp xs ys || meets key_cmp xs zs)
meets_behind [] ys zs = refl
meets_behind (x ∷ xs) ys zs = (λ i. list_any-append (eq_by_cmp key_cmp x) ys zs i || meets_behind xs ys zs i)
    ∙ four (is_among key_cmp ys x) (is_among key_cmp zs x) (meets key_cmp xs ys) (meets key_cmp xs zs)

same_tests : (a b : Bool) → (a ≡ false → b ≡ false) → (b ≡ false → a ≡ false) → a ≡ b
same_tests true true f g = refl
same_tests true false f g = g refl
same_tests false b f g = sym (f refl)

meets_both : (xs ys : List Key) → meets key_cmp xs ys ≡ meets key_cmp ys xs
meets_both xs ys = same_tests _ _ (meets_turned key_cmp_total key_cmp-IsAntisymmetric xs ys) (meets_turned key_cmp_total key_cmp-IsAntisymmetric ys xs)

module _ (whole : Key → Bool) where
  -- a key is not among those that the test tells from it
  not_among : (a : Bool) (k : Key) (ks : List Key) → whole k ≡ a → All (λ m. whole m ≡ not a) ks → is_among key_cmp ks k ≡ false
  not_among a k [] e all = refl
  not_among a k (m ∷ ms) e all = elim (eq_by_cmp key_cmp k m) as (λ b. eq_by_cmp key_cmp k m ≡ b → (b || is_among key_cmp ms k) ≡ false) [
    | true ↦ λ t. no_own a true false (sym e ∙ ap whole (same_key key_cmp-IsAntisymmetric k m t) ∙ All-head (λ m. whole m ≡ not a) m ms all)
    | false ↦ λ t. not_among a k ms e (All-tail (λ m. whole m ≡ not a) m ms all)
  ] refl

  none_met : (a : Bool) (xs ys : List Key) → All (λ m. whole m ≡ a) xs → All (λ m. whole m ≡ not a) ys → meets key_cmp xs ys ≡ false
  none_met a [] ys all others = refl
  none_met a (x ∷ xs) ys all others = λ i. not_among a x ys (All-head (λ m. whole m ≡ a) x xs all) others i || none_met a xs ys
      (All-tail (λ m. whole m ≡ a) x xs all) others i

  -- what is so of all keys of a list is so of each that is among it
  pub holds_among : (ks : List Key) (k : Key) → All (λ m. whole m ≡ false) ks → is_among key_cmp ks k ≡ true → whole k ≡ false
  holds_among [] k all e = cc
  holds_among (m ∷ ms) k all e = elim (eq_by_cmp key_cmp k m) as (λ b. eq_by_cmp key_cmp k m ≡ b → (b || is_among key_cmp ms k) ≡ true → whole k ≡ false) [
    | true ↦ λ t _. ap whole (same_key key_cmp-IsAntisymmetric k m t) ∙ All-head (λ m. whole m ≡ false) m ms all
    | false ↦ λ t rest. holds_among ms k (All-tail (λ m. whole m ≡ false) m ms all) rest
  ] refl e

-- the marks that meet some scans are those of keys under them
marks_cover : (scanned keys marks : List Key) (ps : List Prefix) → AreMarks scanned keys marks → All (λ p. is_among key_cmp scanned (mark_of p) ≡ true) ps
    → All (λ p. length p.parts < MOST_PARTS) ps
    → meets key_cmp (map mark_of ps) marks ≡ covers_any ps keys
marks_cover scanned keys marks [] are all short = refl
marks_cover scanned keys marks (p ∷ ps) are all short =
    let In : Prefix → Type 0 = λ p. is_among key_cmp scanned (mark_of p) ≡ true in
    let Short : Prefix → Type 0 = λ p. length p.parts < MOST_PARTS in
    λ i. are.each p (All-head Short p ps short) (All-head In p ps all) i || marks_cover scanned keys marks ps are (All-tail In p ps all)
    (All-tail Short p ps short) i

-- ---- two runs of a batch

module _ (whole : Key → Bool) (scanned : List Key) (parts : All (λ k. whole k ≡ false) scanned) (me other : Spot)
    (my : IsSpot scanned me) (its : IsSpot scanned other) (mine : TellsKeys whole me.ran) (theirs : TellsKeys whole other.ran) where
  all_scans : (s : Spot) → TellsKeys whole s.ran → All (λ m. whole m ≡ false) (map mark_of s.ran.scans)
  all_scans s t = All-map (λ m. whole m ≡ false) mark_of s.ran.scans t.scans

  all_marks : (keys marks : List Key) → AreMarks scanned keys marks → All (λ m. whole m ≡ false) marks
  all_marks keys marks are k d below = holds_among whole scanned (get_or marks k d) parts (are.among k d below)

  pub waw_is : meets key_cmp (written me.ran) other.sets.writes ≡ meets key_cmp (written me.ran) (written other.ran)
  waw_is = ap (meets key_cmp (written me.ran)) its.writes ∙ meets_behind (written me.ran) (written other.ran) its.marks
      ∙ ap (λ b. meets key_cmp (written me.ran) (written other.ran) || b)
      (none_met whole true (written me.ran) its.marks mine.writes (all_marks (written other.ran) its.marks its.are)) ∙ or_false _

  pub raw_is : meets key_cmp me.sets.reads other.sets.writes ≡ (meets key_cmp me.ran.reads (written other.ran) || covers_any me.ran.scans (written other.ran))
  raw_is =
      let scans = map mark_of me.ran.scans in
      let theirs_written = written other.ran in
      (λ i. meets key_cmp (my.reads i) (its.writes i)) ∙ list_any-append (is_among key_cmp (theirs_written ++ its.marks)) me.ran.reads scans
      ∙ (λ i. (meets_behind me.ran.reads theirs_written its.marks
      ∙ ap (λ b. meets key_cmp me.ran.reads theirs_written || b)
      (none_met whole true me.ran.reads its.marks mine.reads (all_marks theirs_written its.marks its.are)) ∙ or_false _) i
      || (meets_behind scans theirs_written its.marks
      ∙ ap (λ b. b || meets key_cmp scans its.marks) (none_met whole false scans theirs_written (all_scans me mine) theirs.writes)
      ∙ marks_cover scanned theirs_written its.marks me.ran.scans its.are my.scans mine.short) i)

  pub war_is : meets key_cmp me.sets.writes other.sets.reads ≡ (meets key_cmp (written me.ran) other.ran.reads || covers_any other.ran.scans (written me.ran))
  war_is =
      let scans = map mark_of other.ran.scans in
      let my_written = written me.ran in
      (λ i. meets key_cmp (my.writes i) (its.reads i)) ∙ list_any-append (is_among key_cmp (other.ran.reads ++ scans)) my_written my.marks
      ∙ (λ i. (meets_behind my_written other.ran.reads scans
      ∙ ap (λ b. meets key_cmp my_written other.ran.reads || b) (none_met whole true my_written scans mine.writes (all_scans other theirs)) ∙ or_false _) i
      || (meets_behind my.marks other.ran.reads scans
      ∙ ap (λ b. b || meets key_cmp my.marks scans) (none_met whole false my.marks other.ran.reads (all_marks my_written my.marks my.are) theirs.reads)
      ∙ meets_both my.marks scans ∙ marks_cover scanned my_written my.marks other.ran.scans my.are its.scans theirs.short) i)

-- ---- a batch, by its sheet

-- of each request, how many keys it wrote; and all that ties a batch's sheet to its runs
pub record IsSheetOf (whole : Key → Bool) (keys : List Key) (number : Key → ℕ) (scanned : List Key) (spots : List Spot) (sheet : Sheet) : Type 0 where
  pub one : IsOneToOneOn key_cmp keys number
  pub numbered : IsNumbered key_cmp (λ s. s.sets.reads) (λ s. s.sets.writes) keys number spots sheet
  pub spots_are : All (IsSpot scanned) spots
  pub tell : All (λ s. TellsKeys whole s.ran) spots
  pub parts : All (λ k. whole k ≡ false) scanned

take_front : (n : ℕ) (xs ys : List ℕ) → n ≡ length xs → take n (xs ++ ys) ≡ xs
take_front n xs ys e = ap (λ n. take n (xs ++ ys)) e ∙ take-append_seam xs ys

module _ (whole : Key → Bool) (keys : List Key) (number : Key → ℕ) (scanned : List Key) (spots : List Spot) (sheet : Sheet)
    (is : IsSheetOf whole keys number scanned spots sheet)
    (tid : ℕ) (me : Spot) (first : 1 ≤ tid) (at : slice_get spots (tid - 1) ≡ Some me) where
  abbrev Has : Key → Type 0
  Has k = is_among key_cmp keys k ≡ true

  within : tid - 1 < length spots
  within = slice_get_within spots (tid - 1) me at

  is_me : get_or spots (tid - 1) me ≡ me
  is_me = get_or_from_slice_get spots (tid - 1) me me at

  my : IsSpot scanned me
  my = subst (IsSpot scanned) is_me (is.spots_are (tid - 1) me within)

  mine : TellsKeys whole me.ran
  mine = subst (λ s. TellsKeys whole s.ran) is_me (is.tell (tid - 1) me within)

  -- the numbers of the keys that each wrote
  abbrev own_lists : List (List ℕ)
  own_lists = map (λ s. map number (written s.ran)) spots

  own-is : (counts : List ℕ) → slice_index_or counts (tid - 1) 0 ≡ length (written me.ran) → own_at sheet counts tid ≡ slice_index_or own_lists (tid - 1) []
  own-is counts count =
      let writes : writes_at sheet tid ≡ map number (written me.ran) ++ map number my.marks =
      ap (λ l. slice_index_or l (tid - 1) []) is.numbered.writes_are ∙ get_or-map (λ s. map number s.sets.writes) spots (tid - 1) me [] within
      ∙ ap (λ s. map number s.sets.writes) is_me ∙ ap (map number) my.writes ∙ map-append number (written me.ran) my.marks in
      let many : slice_index_or counts (tid - 1) 0 ≡ length (map number (written me.ran)) = count ∙ sym (length-map (written me.ran) number) in
      ap (take (slice_index_or counts (tid - 1) 0)) writes ∙ take_front _ (map number (written me.ran)) (map number my.marks) many
      ∙ sym (get_or-map (λ s. map number (written s.ran)) spots (tid - 1) me [] within ∙ ap (λ s. map number (written s.ran)) is_me)

  has_own : HasKeysOf key_cmp keys (λ s. written s.ran) spots
  has_own k d below =
      let s = get_or spots k d in
      All-left Has (written s.ran) (is.spots_are k d below).marks (subst (All Has) (is.spots_are k d below).writes (is.numbered.writes_among k d below))

  -- of a kind of dependency, all earlier ones
  each : (f g : Spot → Bool) → ((k : ℕ) (d : Spot) → k < length spots → f (get_or spots k d) ≡ g (get_or spots k d)) → map f (take (tid - 1) spots)
      ≡ map g (take (tid - 1) spots)
  each f g same = map_same f g (take (tid - 1) spots) (All-take (λ s. f s ≡ g s) (tid - 1) spots same)

  pub scan_verdict-is : (rule : Rule) (counts : List ℕ) → slice_index_or counts (tid - 1) 0 ≡ length (written me.ran)
      → scan_verdict rule sheet counts tid ≡ verdict_on (through (λ s. s.ran) depends) rule (take (tid - 1) spots) me
  scan_verdict-is rule counts count =
      let all = same_all key_cmp keys number is.one spots tid me first at in
      let n = is.numbered in
      same_verdict (on_sheet sheet counts) (tids_before tid) tid (through (λ s. s.ran) depends) (take (tid - 1) spots) me rule (record {
        waw = ap (λ mine. map (λ t. meets nat_cmp mine (writes_at sheet t)) (tids_before tid)) (own-is counts count)
            ∙ all (λ s. written s.ran) (λ s. s.sets.writes) own_lists sheet.writes refl n.writes_are has_own n.writes_among
            ∙ each (λ s. meets key_cmp (written me.ran) s.sets.writes) (λ s. depends.waw me.ran s.ran)
            (λ k d below. waw_is whole scanned is.parts me (get_or spots k d) my (is.spots_are k d below) mine (is.tell k d below));
        raw = all (λ s. s.sets.reads) (λ s. s.sets.writes) sheet.reads sheet.writes n.reads_are n.writes_are n.reads_among n.writes_among
            ∙ each (λ s. meets key_cmp me.sets.reads s.sets.writes) (λ s. depends.raw me.ran s.ran)
            (λ k d below. raw_is whole scanned is.parts me (get_or spots k d) my (is.spots_are k d below) mine (is.tell k d below));
        war = all (λ s. s.sets.writes) (λ s. s.sets.reads) sheet.writes sheet.reads n.writes_are n.reads_are n.writes_among n.reads_among
            ∙ each (λ s. meets key_cmp me.sets.writes s.sets.reads) (λ s. depends.war me.ran s.ran)
            (λ k d below. war_is whole scanned is.parts me (get_or spots k d) my (is.spots_are k d below) mine (is.tell k d below));
      })
