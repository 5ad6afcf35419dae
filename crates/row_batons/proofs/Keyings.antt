-- The numbers of declared keys, whether a batch has them or the keys get them as they come.
use Rattle.std.proofs.Common.{◌≡◌, ℕ, suc, ◌+◌, ◌-◌, ◌<◌, ◌≤◌, Bool, true, false, cond, Option, Some, None, List, [], ◌∷◌, ◌++◌, map, length, drop, drop-cons, get_or, is_some, refl, sym, ap, subst, ◌∙◌, arith, All, Ordering, append_assoc}
use Rattle.std.specs.FinMap as fin
use Rattle.std.specs.List.Sorted.{IsStrictlySortedBy}
use Rattle.std.specs.Ordering.{is_eq}
use Rattle.std.specs.declared.cmp.Ordering.TheVariants.{Less}
use Rattle.std.specs.List.{AllByRecursion}
use Rattle.std.proofs.lemmas.List.{get_or-map, length-map}
use Rattle.std.proofs.lemmas.List.Elements.{All-map}
use Rattle.std.proofs.lemmas.Simd.{map-map}
use Rattle.aria_base.specs.Orders.{key_cmp}
use Rattle.aria_base.specs.declared.keys.Key.{Key}
use Rattle.aria_base.proofs.Orders.{key_cmp_total}
use Rattle.batch_rules.specs.Touches.{is_among}
use Rattle.dep_rules.specs.Sheets.{Sheet, IsSheet, IsTid, AllBelow, reads_at, writes_at}
use Rattle.dep_rules.specs.declared.sets.Sets.{Sets}
use Rattle.fallback_locks.specs.Numbers.{numbers_at, numbers_in, StandFor}
use Rattle.key_numbering.specs.Numbers.{Numbers, AreNumbers, Keeps, number_in, with_key, with_keys, with_sets}
use Rattle.key_numbering.proofs.Growing.{either, AreNumbers-empty, AreNumbers-new, one_to_one, reads_among, writes_among, reads_below, writes_below, keeps_keys, keeps_on, keeps_sets, has_key, has_keys, same_number, same_numbers}
use Rattle.proc_exec.specs.declared.outcomes.Waiting.{Waiting}
use Rattle.row_batons.specs.Numbers.{AreNumbersOf, sets_of, with_waiting, read_numbers, write_numbers}

all_under : {X Y : Type 0} (P : Y → Type 0) (f : X → Y) (xs : List X) → All P (map f xs) → All (λ x. P (f x)) xs
all_under P f xs all i d lt = subst P (get_or-map f xs i d (f d) lt) (all i (f d) (let l = length-map xs f in omega arith))

-- ---- those of a batch

module _ (sheet : Sheet) (tids : List ℕ) (waiting : List Waiting) (stand : StandFor sheet tids waiting) (is : IsSheet sheet)
    (are : All (λ tid. IsTid sheet tid) tids) where
  at_tids : map (reads_at sheet) tids ≡ map (λ w. map stand.number w.declared.reads) waiting
  at_tids =
      sym (map-map (λ d. d.reads) (numbers_at sheet) tids)
      ∙ ap (map (λ d. d.reads)) stand.lists
      ∙ map-map (λ d. d.reads) (numbers_in stand.number) waiting

  written_at_tids : map (writes_at sheet) tids ≡ map (λ w. map stand.number w.declared.writes) waiting
  written_at_tids =
      sym (map-map (λ d. d.writes) (numbers_at sheet) tids)
      ∙ ap (map (λ d. d.writes)) stand.lists
      ∙ map-map (λ d. d.writes) (numbers_in stand.number) waiting

  pub batch_numbers : (reads writes : List (List ℕ)) (count : ℕ) → reads ≡ map (reads_at sheet) tids → writes ≡ map (writes_at sheet) tids → count ≡ sheet.keys
      → AreNumbersOf reads writes count waiting
  batch_numbers reads writes count reads_are writes_are count_is = record {
    keys = stand.keys;
    number = stand.number;
    one_to_one = stand.one_to_one;
    reads_among = stand.reads_among;
    writes_among = stand.writes_among;
    reads_are = reads_are ∙ at_tids;
    writes_are = writes_are ∙ written_at_tids;
    reads_below = below reads (reads_at sheet) reads_are (λ tid low high. is.reads_below (tid - 1) [] (omega arith));
    writes_below = below writes (writes_at sheet) writes_are (λ tid low high. is.writes_below (tid - 1) [] (let same = is.same in omega arith));
  }
    where
      below : (lists : List (List ℕ)) (at : ℕ → List ℕ) → lists ≡ map at tids
          → ((tid : ℕ) → 1 ≤ tid → tid ≤ length sheet.reads → All (λ n. n < sheet.keys) (at tid)) → AllBelow count lists
      below lists at same each = subst (λ (m : ℕ). AllBelow m lists) (sym count_is) (subst (AllBelow sheet.keys) (sym same)
          (All-map (λ list. All (λ n. n < sheet.keys) list) at tids (λ i d lt. let tid = are i d lt in each (get_or tids i d) tid.0 tid.1)))

-- ---- those that keys get as they come

are_keys : (ks : List Key) (m : Numbers) → AreNumbers m → AreNumbers (with_keys m ks)
are_keys [] m are = are
are_keys (k ∷ ks) m are = are_keys ks (with_key m k) (either AreNumbers m k (λ none. AreNumbers-new m k are none) (λ n at. are))

are_sets : (ss : List Sets) (m : Numbers) → AreNumbers m → AreNumbers (with_sets m ss)
are_sets [] m are = are
are_sets (s ∷ ss) m are = are_sets ss (with_keys (with_keys m s.reads) s.writes) (are_keys s.writes (with_keys m s.reads) (are_keys s.reads m are))

module _ (waiting : List Waiting) where
  abbrev all : Numbers
  all = with_waiting fin.empty waiting

  pub keyed_numbers : (reads writes : List (List ℕ)) (count : ℕ) → reads ≡ read_numbers all waiting → writes ≡ write_numbers all waiting → count ≡ fin.len all
      → AreNumbersOf reads writes count waiting
  keyed_numbers reads writes count reads_are writes_are count_is =
      let are = are_sets (map sets_of waiting) fin.empty AreNumbers-empty in
      record {
        keys = fin.keys all;
        number = number_in all;
        one_to_one = one_to_one all are;
        reads_among = all_under (λ (s : Sets). All (λ k. is_among key_cmp (fin.keys all) k ≡ true) s.reads) sets_of waiting
            (reads_among fin.empty (map sets_of waiting));
        writes_among = all_under (λ (s : Sets). All (λ k. is_among key_cmp (fin.keys all) k ≡ true) s.writes) sets_of waiting
            (writes_among fin.empty (map sets_of waiting));
        reads_are = reads_are;
        writes_are = writes_are;
        reads_below = subst (λ (m : ℕ). AllBelow m reads) (sym count_is)
            (subst (AllBelow (fin.len all)) (sym (reads_are ∙ sym (map-map (λ (s : Sets). map (number_in all) s.reads) sets_of waiting)))
            (reads_below fin.empty all (map sets_of waiting) refl are));
        writes_below = subst (λ (m : ℕ). AllBelow m writes) (sym count_is)
            (subst (AllBelow (fin.len all)) (sym (writes_are ∙ sym (map-map (λ (s : Sets). map (number_in all) s.writes) sets_of waiting)))
            (writes_below fin.empty all (map sets_of waiting) refl are));
      }

-- a list that begins with these has the same numbers by the end
pub same_at_end : (m final : Numbers) (ks : List Key) → Keeps (with_keys m ks) final → map (number_in (with_keys m ks)) ks ≡ map (number_in final) ks
same_at_end m final ks keeps = same_numbers (with_keys m ks) final ks keeps (has_keys m (with_keys m ks) ks (λ k n at. at))

pub same_key_at_end : (m final : Numbers) (k : Key) → Keeps (with_key m k) final → number_in (with_key m k) k ≡ number_in final k
same_key_at_end m final k keeps = same_number (with_key m k) final k keeps (has_key m k)

-- one key more has its number
pub one_key : (m m' final : Numbers) (keys : List Key) (i : ℕ) (key : Key) (list list' whole : List ℕ) (n : ℕ) → i < length keys → key ≡ get_or keys i key
    → m' ≡ with_key m key → n ≡ number_in (with_key m key) key
    → list' ≡ list ++ n ∷ [] → with_keys m (drop i keys) ≡ final → list ++ map (number_in final) (drop i keys) ≡ whole
    → (with_keys m' (drop (i + 1) keys) ≡ final) × (list' ++ map (number_in final) (drop (i + 1) keys) ≡ whole)
one_key m m' final keys i key list list' whole n lt at is number grown before so_far =
    let e : suc i ≡ i + 1 = omega arith in
    let rest = drop (i + 1) keys in
    let cut : drop i keys ≡ key ∷ rest = drop-cons keys i key lt ∙ (λ j. sym at j ∷ drop (e j) keys) in
    let end : with_keys (with_key m key) rest ≡ final = sym (ap (with_keys m) cut) ∙ before in
    let same : n ≡ number_in final key = number ∙ same_key_at_end m final key (subst (Keeps (with_key m key)) end (keeps_keys (with_key m key) rest)) in (
      ap (λ z. with_keys z rest) is ∙ end,
      ap (λ l. l ++ map (number_in final) rest) grown
          ∙ append_assoc list (n ∷ []) (map (number_in final) rest)
          ∙ ap (λ (k : ℕ). list ++ k ∷ map (number_in final) rest) same
          ∙ ap (λ l. list ++ map (number_in final) l) (sym cut)
          ∙ so_far,
    )

-- and so have those of one request more
pub one_request : (m m1 m2 final : Numbers) (ws : List Waiting) (i : ℕ) (w : Waiting) (reads reads' writes writes' : List (List ℕ)) → i < length ws
    → w ≡ get_or ws i w
    → m1 ≡ with_keys m w.declared.reads → m2 ≡ with_keys m1 w.declared.writes
    → reads' ≡ reads ++ map (number_in (with_keys m w.declared.reads)) w.declared.reads ∷ []
    → writes' ≡ writes ++ map (number_in (with_keys m1 w.declared.writes)) w.declared.writes ∷ []
    → with_waiting m (drop i ws) ≡ final → reads ++ read_numbers final (drop i ws) ≡ read_numbers final ws
    → writes ++ write_numbers final (drop i ws) ≡ write_numbers final ws
    → (with_waiting m2 (drop (i + 1) ws) ≡ final) × (reads' ++ read_numbers final (drop (i + 1) ws) ≡ read_numbers final ws)
    × (writes' ++ write_numbers final (drop (i + 1) ws) ≡ write_numbers final ws)
one_request m m1 m2 final ws i w reads reads' writes writes' lt at is1 is2 read written before reads_so_far writes_so_far =
    let e : suc i ≡ i + 1 = omega arith in
    let rest = drop (i + 1) ws in
    let cut : drop i ws ≡ w ∷ rest = drop-cons ws i w lt ∙ (λ j. sym at j ∷ drop (e j) ws) in
    let mid = with_keys m w.declared.reads in
    let both = with_keys mid w.declared.writes in
    let end : with_waiting both rest ≡ final = sym (ap (with_waiting m) cut) ∙ before in
    let behind : Keeps both final = subst (Keeps both) end (keeps_sets both (map sets_of rest)) in
    let first : Keeps mid final = keeps_on mid both final (keeps_keys mid w.declared.writes) behind in
    let written_here = written ∙ ap (λ z. writes ++ map (number_in (with_keys z w.declared.writes)) w.declared.writes ∷ []) is1 in (
      ap (λ z. with_waiting z rest) (is2 ∙ ap (λ z. with_keys z w.declared.writes) is1) ∙ end,
      ap (λ l. l ++ read_numbers final rest) read
          ∙ append_assoc reads (map (number_in mid) w.declared.reads ∷ []) (read_numbers final rest)
          ∙ ap (λ (l : List ℕ). reads ++ l ∷ read_numbers final rest) (same_at_end m final w.declared.reads first)
          ∙ ap (λ l. reads ++ read_numbers final l) (sym cut)
          ∙ reads_so_far,
      ap (λ l. l ++ write_numbers final rest) written_here
          ∙ append_assoc writes (map (number_in both) w.declared.writes ∷ []) (write_numbers final rest)
          ∙ ap (λ (l : List ℕ). writes ++ l ∷ write_numbers final rest) (same_at_end mid final w.declared.writes behind)
          ∙ ap (λ l. writes ++ write_numbers final l) (sym cut)
          ∙ writes_so_far,
    )

-- ---- how many entries a map has

module _ (C : Key → Key → Ordering) (same : (x y : Key) → C x y ≡ key_cmp x y) where
  not_found : (x : Key) (es : List (Key × ℕ)) → AllByRecursion (λ y. C x y ≡ Less) (map (λ e. e.0) es) → fin.find key_cmp x es ≡ None
  not_found x [] less = refl
  not_found x (e ∷ es) less =
      ap (λ b. cond b (Some e.1) (fin.find key_cmp x es)) (ap is_eq (sym (same x e.0) ∙ less.0))
      ∙ not_found x es less.1

  pub len_entries : (es : List (Key × ℕ)) → IsStrictlySortedBy C (map (λ e. e.0) es) → fin.len (fin.from_entries {R = key_cmp} es) ≡ length es
  unfolding IsStrictlySortedBy
  len_entries [] sorted = fin.len-empty key_cmp ℕ
  len_entries (e ∷ es) sorted =
      let none = fin.get-from_entries key_cmp_total es e.0 ∙ not_found e.0 es sorted.0 in
      let rest = len_entries es sorted.1 in
      fin.len-insert key_cmp_total (fin.from_entries es) e.0 e.1
      ∙ ap (λ o. cond (is_some o) (fin.len (fin.from_entries {R = key_cmp} es)) (fin.len (fin.from_entries {R = key_cmp} es) + 1)) none
      ∙ omega arith
