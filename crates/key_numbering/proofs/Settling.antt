-- What was looked up, once the unknown keys have got their numbers.
use Rattle.std.proofs.Common.{◌≡◌, ℕ, suc, ◌+◌, ◌<◌, ◌≤◌, List, [], ◌∷◌, ◌++◌, map, length, drop, drop-cons, Option, Some, None, Bool, true, false, cond, All, get_or, inl, inr, refl, sym, ap, subst, ◌∙◌, is_some, append_assoc, length-append, arith}
use Rattle.std.specs.Prelude.{slice_index_or, ⊤}
use Rattle.std.specs.FinMap as fin
use Rattle.std.proofs.lemmas.List.{append-nil, length-map, get_or_append_left, get_or-append-add, get_or_default}
use Rattle.std.proofs.lemmas.Bool.{cases_lt}
use Rattle.std.proofs.lemmas.List.Elements.{All-nil, All-cons, All-head, All-tail}
use lib.ListN.{set}
use Rattle.aria_base.specs.declared.keys.Key.{Key}
use Rattle.aria_base.specs.Orders.{key_cmp}
use Rattle.batch_rules.specs.Numberings.{HasKeysOf}
use Rattle.dep_rules.specs.Decisions.{reads_of, writes_of}
use Rattle.dep_rules.specs.Numberings.{IsNumbered}
use Rattle.dep_rules.specs.Sheets.{Sheet, AllBelow}
use Rattle.dep_rules.specs.declared.sets.Sets.{Sets}
use Rattle.key_numbering.specs.declared.lookups.Found.{Found}
use Rattle.key_numbering.specs.declared.lookups.Looked.{Looked}
use Rattle.key_numbering.specs.declared.lookups.Unknown.{Unknown}
use Rattle.key_numbering.specs.Lookups.{unknown_in, shown, IsLooked, IsFound, IsFoundAt, settled, settled_by, settled_one, settled_all, Lists, HasPlaces, HasBothPlaces}
use Rattle.key_numbering.specs.Numbers.{Numbers, AreNumbers, Keeps, number_in, with_key, with_keys, with_sets}
use Rattle.key_numbering.proofs.Growing.{known, keeps_on, keeps_keys, keeps_key, has_key, same_number, same_numbers, has_keys, after_set, longer_key, keeps_sets, reads_among, writes_among, reads_below, writes_below}
use Rattle.work_crew.specs.Gathered.{AreGiven}

-- ---- one list

set_here : (done : List ℕ) (y x : ℕ) (rest : List ℕ) → set (done ++ y ∷ rest) (length done) x ≡ done ++ x ∷ rest
set_here [] y x rest = refl
set_here (d ∷ ds) y x rest = ap (λ l. d ∷ l) (set_here ds y x rest)

module _ (before m : Numbers) (done : List ℕ) (x : ℕ) (k : Key) (ks : List Key) where
  abbrev rest : List ℕ
  rest = map (number_in before) ks

  abbrev final : Numbers
  final = with_keys m ks

  -- from the list with this number put at the end of what is done
  one_more : settled (m, (done ++ x ∷ []) ++ rest) (unknown_in before (length (done ++ x ∷ [])) ks) ≡ (final, (done ++ x ∷ []) ++ map (number_in final) ks)
      → x ≡ number_in final k
      → settled (m, done ++ x ∷ rest) (unknown_in before (length done + 1) ks) ≡ (final, done ++ number_in final k ∷ map (number_in final) ks)
  one_more is number =
      let joined = sym (append_assoc done (x ∷ []) rest) in
      let long = sym (length-append done (x ∷ [])) in
      (λ i. settled (m, joined i) (unknown_in before (long i) ks))
      ∙ is ∙ (λ i. (final, (append_assoc done (x ∷ []) (map (number_in final) ks) ∙ ap (λ n. done ++ n ∷ map (number_in final) ks) number) i))

pub settles : (before m : Numbers) (done : List ℕ) (ks : List Key) → Keeps before m
    → settled (m, done ++ map (number_in before) ks) (unknown_in before (length done) ks) ≡ (with_keys m ks, done ++ map (number_in (with_keys m ks)) ks)
settles before m done [] keeps = refl
settles before m done (k ∷ ks) keeps =
    elim (fin.get before k) as (λ o. fin.get before k ≡ o → settled (m, done ++ number_in before k ∷ map (number_in before) ks)
    (cond (is_some o) (unknown_in before (length done + 1) ks) ((length done, k) ∷ unknown_in before (length done + 1) ks))
    ≡ (with_keys (with_key m k) ks, done ++ number_in (with_keys (with_key m k) ks) k ∷ map (number_in (with_keys (with_key m k) ks)) ks)) [
      | Some n ↦ λ at.
          subst (λ o. settled (m, done ++ number_in before k ∷ map (number_in before) ks)
          (unknown_in before (length done + 1) ks) ≡ (with_keys o ks, done ++ number_in (with_keys o ks) k ∷ map (number_in (with_keys o ks)) ks))
          (sym (known m k n (keeps k n at)))
          (one_more before m done (number_in before k) k ks (settles before m (done ++ number_in before k ∷ []) ks keeps)
          (same_number before (with_keys m ks) k (keeps_on before m (with_keys m ks) keeps (keeps_keys m ks)) (n, at)))
      | None ↦ λ none.
          let x = number_in (with_key m k) k in
          ap (λ l. settled (with_key m k, l) (unknown_in before (length done + 1) ks)) (set_here done (number_in before k) x (map (number_in before) ks))
          ∙ one_more before (with_key m k) done x k ks (settles before (with_key m k) (done ++ x ∷ []) ks
          (keeps_on before m (with_key m k) keeps (keeps_key m k)))
          (same_number (with_key m k) (with_keys (with_key m k) ks) k (keeps_keys (with_key m k) ks) (has_key m k))
    ] refl

pub settles_by : (before m : Numbers) (ks : List Key) (looked : Looked) → Keeps before m → IsLooked before ks looked
    → settled_by m looked ≡ (with_keys m ks, map (number_in (with_keys m ks)) ks)
settles_by before m ks looked keeps is = (λ i. settled (m, is.numbers_are i) (is.unknown_are i)) ∙ settles before m [] ks keeps

pub longer_settled : (state : Numbers × List ℕ) (us : List (ℕ × Key)) → fin.len state.0 ≤ fin.len (settled state us).0
longer_settled state [] = omega arith
longer_settled state (u ∷ us) = let one = longer_key state.0 u.1 in let rest =
    longer_settled (with_key state.0 u.1, set state.1 u.0 (number_in (with_key state.0 u.1) u.1)) us in omega arith

pub unknown_more : (m : Numbers) (p : ℕ) (k : Key) (ks : List Key) → unknown_in m p (k ∷ ks) ≡ unknown_in m p (k ∷ []) ++ unknown_in m (p + 1) ks
unknown_more m p k ks = elim (fin.contains_key m k) as (λ b. cond b (unknown_in m (p + 1) ks) ((p, k) ∷ unknown_in m (p + 1) ks) ≡ cond b []
    ((p, k) ∷ []) ++ unknown_in m (p + 1) ks) [ true ↦ refl | false ↦ refl ]

places_below : (m : Numbers) (p n : ℕ) (ks : List Key) → p + length ks ≤ n → All (λ u. u.0 < n) (unknown_in m p ks)
places_below m p n [] le = All-nil (λ (u : ℕ × Key). u.0 < n)
places_below m p n (k ∷ ks) le =
    let rest = places_below m (p + 1) n ks (omega (arith, le)) in
    elim (fin.contains_key m k) as (λ b. All (λ u. u.0 < n) (cond b (unknown_in m (p + 1) ks) ((p, k) ∷ unknown_in m (p + 1) ks))) [
      | true ↦ rest
      | false ↦
          All-cons (λ (u : ℕ × Key). u.0 < n) (p, k) (unknown_in m (p + 1) ks) (omega (arith, le)) rest
    ]

all_shown : (n : ℕ) (us : List Unknown) → All (λ u. u.0 < n) (shown us) → All (λ u. u.place < n) us
all_shown n [] all = All-nil (λ (u : Unknown). u.place < n)
all_shown n (u ∷ us) all = All-cons (λ (v : Unknown). v.place < n) u us (All-head (λ (v : ℕ × Key). v.0 < n) (u.place, u.key.now) (shown us) all)
    (all_shown n us (All-tail (λ (v : ℕ × Key). v.0 < n) (u.place, u.key.now) (shown us) all))

has_places : (m : Numbers) (ks : List Key) (looked : Looked) → IsLooked m ks looked → HasPlaces looked
has_places m ks looked is =
    let long : length looked.numbers.items ≡ length ks = ap length is.numbers_are ∙ length-map ks (number_in m) in
    all_shown (length looked.numbers.items) looked.unknown.items
    (subst (All (λ u. u.0 < length looked.numbers.items)) (sym is.unknown_are) (places_below m 0 (length looked.numbers.items) ks (omega arith)))

-- ---- all requests

-- that is found of each of them
pub AllFound : Numbers → List Sets → List Found → Type 0
AllFound m [] [] = ⊤
AllFound m [] (f ∷ fs) = ⊥
AllFound m (s ∷ ss) [] = ⊥
AllFound m (s ∷ ss) (f ∷ fs) = IsFound m s f × AllFound m ss fs

all_found : (m : Numbers) (sets : List Sets) (fs : List Found) → AreGiven (IsFoundAt m sets) (length sets) fs → AllFound m sets fs
unfolding AllFound
all_found m [] [] given = tt
all_found m [] (f ∷ fs) given = let long = given.each_place in absurd (omega arith)
all_found m (s ∷ ss) [] given = let long = given.each_place in absurd (omega arith)
all_found m (s ∷ ss) (f ∷ fs) given =
    let long = given.each_place in (
      (given.given 0 f (omega arith)).1 s,
      all_found m ss fs (record {
        each_place = omega arith;
        given = λ place d lt. let it = given.given (suc place) d (omega (arith, lt)) in let within = it.0 in (omega arith, it.1);
      }),
    )

have_places : (m : Numbers) (sets : List Sets) (fs : List Found) → AllFound m sets fs → All HasBothPlaces fs
unfolding AllFound
have_places m [] [] found = All-nil HasBothPlaces
have_places m [] (f ∷ fs) found = absurd found
have_places m (s ∷ ss) [] found = absurd found
have_places m (s ∷ ss) (f ∷ fs) found = All-cons HasBothPlaces f fs
    (record { reads = has_places m s.reads f.reads found.0.reads; writes = has_places m s.writes f.writes found.0.writes }) (have_places m ss fs found.1)

abbrev pub read_lists : Numbers → List Sets → List (List ℕ)
read_lists m sets = map (λ s. map (number_in m) s.reads) sets

abbrev pub write_lists : Numbers → List Sets → List (List ℕ)
write_lists m sets = map (λ s. map (number_in m) s.writes) sets

settles_all : (before m : Numbers) (sets : List Sets) (fs : List Found) (rs ws : List (List ℕ)) → Keeps before m → AllFound before sets fs
    → settled_all (m, (rs, ws)) fs ≡ (with_sets m sets, (rs ++ read_lists (with_sets m sets) sets, ws ++ write_lists (with_sets m sets) sets))
unfolding AllFound
settles_all before m [] [] rs ws keeps found = let r = sym (append-nil rs) in let w = sym (append-nil ws) in λ i. (m, (r i, w i))
settles_all before m [] (f ∷ fs) rs ws keeps found = absurd found
settles_all before m (s ∷ ss) [] rs ws keeps found = absurd found
settles_all before m (s ∷ ss) (f ∷ fs) rs ws keeps found =
    let mid = with_keys m s.reads in
    let after = after_set m s in
    let final = with_sets after ss in
    let to_mid = keeps_on before m mid keeps (keeps_keys m s.reads) in
    let to_after = keeps_on before mid after to_mid (keeps_keys mid s.writes) in
    let reads = settles_by before m s.reads f.reads keeps found.0.reads in
    let writes = settles_by before mid s.writes f.writes to_mid found.0.writes in
    let R = map (number_in mid) s.reads in
    let W = map (number_in after) s.writes in
    let r = same_numbers mid final s.reads (keeps_on mid after final (keeps_keys mid s.writes) (keeps_sets after ss)) (has_keys m mid s.reads (λ k n at. at)) in
    let w = same_numbers after final s.writes (keeps_sets after ss) (has_keys mid after s.writes (λ k n at. at)) in
    (λ i. settled_all ((settled_by (reads i).0 f.writes).0, (rs ++ (reads i).1 ∷ [], ws ++ (settled_by (reads i).0 f.writes).1 ∷ [])) fs)
    ∙ (λ i. settled_all ((writes i).0, (rs ++ R ∷ [], ws ++ (writes i).1 ∷ [])) fs)
    ∙ settles_all before after ss fs (rs ++ R ∷ []) (ws ++ W ∷ []) to_after found.1
    ∙ (λ i. (final, (append_assoc rs (R ∷ []) (read_lists final ss) i, append_assoc ws (W ∷ []) (write_lists final ss) i)))
    ∙ (λ i. (final, (rs ++ r i ∷ read_lists final ss, ws ++ w i ∷ write_lists final ss)))

-- what was found of all requests leads to their numbers
pub record IsSettled (m : Numbers) (sets : List Sets) (fs : List Found) : Type 0 where
  pub places : All HasBothPlaces fs
  pub is : settled_all (m, ([], [])) fs ≡ (with_sets m sets, (read_lists (with_sets m sets) sets, write_lists (with_sets m sets) sets))

pub is_settled : (m : Numbers) (sets : List Sets) (fs : List Found) → AreGiven (IsFoundAt m sets) (length sets) fs → IsSettled m sets fs
is_settled m sets fs given = let found = all_found m sets fs given in
    record { places = have_places m sets fs found; is = settles_all m m sets fs [] [] (λ k n at. at) found }

pub longer_all : (state : Numbers × Lists) (fs : List Found) → fin.len state.0 ≤ fin.len (settled_all state fs).0
longer_all state [] = omega arith
longer_all state (f ∷ fs) =
    let reads = longer_settled (state.0, f.reads.numbers.items) (shown f.reads.unknown.items) in
    let writes = longer_settled ((settled_by state.0 f.reads).0, f.writes.numbers.items) (shown f.writes.unknown.items) in
    let rest = longer_all (settled_one state f) fs in
    omega arith

-- one request more
pub record IsFoundUpTo (m : Numbers) (sets : List Sets) (fs : List Found) (i : ℕ) : Type 0 where
  pub long : length fs ≡ i
  pub each : (place : ℕ) (d : Found) → place < i → IsFoundAt m sets place (slice_index_or fs place d)

pub found_more : (m : Numbers) (sets : List Sets) (fs gs : List Found) (s : Sets) (f : Found) (i : ℕ) → IsFoundUpTo m sets fs i → i < length sets
    → s ≡ get_or sets i s → IsFound m s f → gs ≡ fs ++ f ∷ [] → IsFoundUpTo m sets gs (i + 1)
found_more m sets fs gs s f i so_far below at is more = record {
  long = let long = so_far.long in ap length more ∙ length-append fs (f ∷ []) ∙ omega arith;
  each = λ place d lt. elim (cases_lt place i) as (λ _. IsFoundAt m sets place (slice_index_or gs place d)) [
    | inl less ↦ let long = so_far.long in subst (IsFoundAt m sets place)
        (sym (ap (λ l. slice_index_or l place d) more ∙ get_or_append_left fs (f ∷ []) d place (omega arith))) (so_far.each place d less)
    | inr ge ↦
        let long = so_far.long in
        let here : place ≡ length fs + 0 = omega arith in
        let last : slice_index_or gs place d ≡ f = ap (λ l. slice_index_or l place d) more ∙ ap (λ n. slice_index_or (fs ++ f ∷ []) n d) here
        ∙ get_or-append-add fs (f ∷ []) 0 d in
        let same : i ≡ place = omega arith in
        let within : place < length sets = omega arith in
        subst (IsFoundAt m sets place) (sym last) (
          within,
          λ e. subst (λ t. IsFound m t f) (at ∙ ap (λ n. get_or sets n s) same
              ∙ get_or_default sets place s e within) is,
        )
  ];
}

pub found_all : (m : Numbers) (sets : List Sets) (fs : List Found) (i : ℕ) → IsFoundUpTo m sets fs i → length sets ≡ i
    → AreGiven (IsFoundAt m sets) (length sets) fs
found_all m sets fs i so_far whole = record { each_place = let long = so_far.long in omega arith; given = λ place d lt. so_far.each place d (omega arith) }

-- ---- the lists of all requests, by the keys with theirs

module _ (m final : Numbers) (sets : List Sets) (are : final ≡ with_sets m sets) where
  pub numbered_lists : (sheet : Sheet) → sheet.reads ≡ read_lists (with_sets m sets) sets → sheet.writes ≡ write_lists (with_sets m sets) sets
      → IsNumbered key_cmp reads_of writes_of (fin.keys final) (number_in final) sets sheet
  numbered_lists sheet reads writes = record {
    reads_among = subst (λ o. HasKeysOf key_cmp (fin.keys o) reads_of sets) (sym are) (reads_among m sets);
    writes_among = subst (λ o. HasKeysOf key_cmp (fin.keys o) writes_of sets) (sym are) (writes_among m sets);
    reads_are = reads ∙ ap (λ o. read_lists o sets) (sym are);
    writes_are = writes ∙ ap (λ o. write_lists o sets) (sym are);
  }

  pub all_reads_below : (keys : ℕ) (lists : List (List ℕ)) → AreNumbers final → keys ≡ fin.len final → lists ≡ read_lists (with_sets m sets) sets
      → AllBelow keys lists
  all_reads_below keys lists numbers long is =
      let same : lists ≡ read_lists final sets = is ∙ ap (λ o. read_lists o sets) (sym are) in
      subst (λ n. AllBelow n lists) (sym long) (subst (AllBelow (fin.len final)) (sym same) (reads_below m final sets are numbers))

  pub all_writes_below : (keys : ℕ) (lists : List (List ℕ)) → AreNumbers final → keys ≡ fin.len final → lists ≡ write_lists (with_sets m sets) sets
      → AllBelow keys lists
  all_writes_below keys lists numbers long is =
      let same : lists ≡ write_lists final sets = is ∙ ap (λ o. write_lists o sets) (sym are) in
      subst (λ n. AllBelow n lists) (sym long) (subst (AllBelow (fin.len final)) (sym same) (writes_below m final sets are numbers))

pub as_many : {X : Type 0} (vs : List X) (f : X → List ℕ) (g : Sets → List ℕ) (sets : List Sets) → map f vs ≡ map g sets → length vs ≡ length sets
as_many vs f g sets is = sym (length-map vs f) ∙ ap length is ∙ length-map sets g

-- ---- one step of a settling is no longer than all of it

pub longer_by : (m : Numbers) (looked : Looked) → fin.len m ≤ fin.len (settled_by m looked).0
longer_by m looked = longer_settled (m, looked.numbers.items) (shown looked.unknown.items)

longer_next : (state : Numbers × List ℕ) (u : Unknown) (us : List Unknown) → fin.len (with_key state.0 u.key.now) ≤ fin.len (settled state (shown (u ∷ us))).0
longer_next state u us = longer_settled (with_key state.0 u.key.now, set state.1 u.place (number_in (with_key state.0 u.key.now) u.key.now)) (shown us)

pub longer_at : (state : Numbers × List ℕ) (us : List Unknown) (i : ℕ) (u : Unknown) → i < length us → u ≡ get_or us i u
    → fin.len (with_key state.0 u.key.now) ≤ fin.len (settled state (shown (drop i us))).0
longer_at state us i u lt is =
    subst (λ l. fin.len (with_key state.0 u.key.now) ≤ fin.len (settled state (shown l)).0) (sym (drop-cons us i u lt))
    (subst (λ v. fin.len (with_key state.0 v.key.now) ≤ fin.len (settled state (shown (get_or us i u ∷ drop (suc i) us))).0) (sym is)
    (longer_next state (get_or us i u) (drop (suc i) us)))

pub longer_first : (m : Numbers) (lists : Lists) (f : Found) (fs all : List Found) → all ≡ f ∷ fs
    → fin.len (settled_by (settled_by m f.reads).0 f.writes).0 ≤ fin.len (settled_all (m, lists) all).0
longer_first m lists f fs all is = subst (λ l. fin.len (settled_by (settled_by m f.reads).0 f.writes).0 ≤ fin.len (settled_all (m, lists) l).0) (sym is)
    (longer_all (settled_one (m, lists) f) fs)
