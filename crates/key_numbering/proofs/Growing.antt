-- Keys that come keep the numbers that others have.
use Rattle.std.proofs.Common.{◌≡◌, ℕ, ◌+◌, ◌<◌, ◌≤◌, List, [], ◌∷◌, map, length, drop, drop-cons, suc, get_or, Bool, true, false, cond, Option, Some, None, All, refl, sym, ap, subst, ◌∙◌, is_some, inl, inr, arith}
use Rattle.std.specs.Prelude.{◌⊎◌, min, nat_eq, unwrap_or}
use Rattle.std.specs.List.{sum_by}
use Rattle.std.specs.Cmp.{eq_by_cmp_equiv, unsigned_tied}
use Rattle.std.specs.Ordering.{eq_by_cmp}
use Rattle.std.specs.FinMap as fin
use Rattle.std.proofs.lemmas.Bool.{cases_lt, false≢true, false_from_ne_true, eq-eqb, eqb-true}
use Rattle.std.proofs.lemmas.List.{drop_all}
use Rattle.std.proofs.lemmas.List.Elements.{All-nil, All-cons, All-head, All-tail, All-map}
use Rattle.std.proofs.lemmas.List.Sums.{sum_by-cons}
use Rattle.std.proofs.lemmas.Option.{none-some}
use Rattle.aria_base.specs.Orders.{key_cmp}
use Rattle.aria_base.specs.declared.keys.Key.{Key}
use Rattle.aria_base.proofs.Orders.{key_cmp_total, same_key}
use Rattle.batch_rules.specs.Numberings.{IsOneToOneOn, HasKeysOf}
use Rattle.batch_rules.specs.Touches.{is_among}
use Rattle.dep_rules.specs.declared.sets.Sets.{Sets}
use Rattle.dep_rules.specs.Decisions.{reads_of, writes_of}
use Rattle.key_numbering.specs.Numbers.{Numbers, AreNumbers, Keeps, number_in, with_key, with_keys, with_sets, touch_count}

abbrev pub Has : Numbers → Key → Type 0
Has m k = (n : ℕ) × (fin.get m k ≡ Some n)

-- ---- one key

pub known : (m : Numbers) (k : Key) (n : ℕ) → fin.get m k ≡ Some n → with_key m k ≡ m
known m k n at = ap (λ o. cond (is_some o) m (fin.insert m k (fin.len m))) at

pub new : (m : Numbers) (k : Key) → fin.get m k ≡ None → with_key m k ≡ fin.insert m k (fin.len m)
new m k none = ap (λ o. cond (is_some o) m (fin.insert m k (fin.len m))) none

pub len-new : (m : Numbers) (k : Key) → fin.get m k ≡ None → fin.len (fin.insert m k (fin.len m)) ≡ fin.len m + 1
len-new m k none = fin.len-insert key_cmp_total m k (fin.len m) ∙ ap (λ o. cond (is_some o) (fin.len m) (fin.len m + 1)) none

pub number-is : (m : Numbers) (k : Key) (n : ℕ) → fin.get m k ≡ Some n → number_in m k ≡ n
number-is m k n at = ap (λ o. unwrap_or o 0) at

own : (m : Numbers) (k : Key) (n : ℕ) → fin.get (fin.insert m k n) k ≡ Some n
own m k n = fin.get-insert key_cmp_total m k n k ∙ ap (λ b. cond b (Some n) (fin.get m k)) ((eq_by_cmp_equiv key_cmp_total).refl k)

pub number-new : (m : Numbers) (k : Key) → number_in (fin.insert m k (fin.len m)) k ≡ fin.len m
number-new m k = number-is (fin.insert m k (fin.len m)) k (fin.len m) (own m k (fin.len m))

keeps_new : (m : Numbers) (k : Key) → fin.get m k ≡ None → Keeps m (fin.insert m k (fin.len m))
keeps_new m k none q n at =
    fin.get-insert key_cmp_total m k (fin.len m) q
    ∙ elim (eq_by_cmp key_cmp q k) as (λ b. eq_by_cmp key_cmp q k ≡ b → cond b (Some (fin.len m)) (fin.get m q) ≡ Some n) [
      | true ↦ λ tied. absurd (none-some n (sym none ∙ ap (fin.get m) (sym (same_key q k tied)) ∙ at))
      | false ↦ λ _. at
    ] refl

-- a key has no number, or has one
module _ (P : Numbers → Type 0) (m : Numbers) (k : Key) (absent : fin.get m k ≡ None → P (fin.insert m k (fin.len m))) (there : (n : ℕ) → fin.get m k ≡ Some n
    → P m) where
  pub either : P (with_key m k)
  either = elim (fin.get m k) as (λ o. fin.get m k ≡ o → P (with_key m k)) [
    | None ↦ λ e. subst P (sym (new m k e)) (absent e)
    | Some n ↦ λ e. subst P (sym (known m k n e)) (there n e)
  ] refl

pub keeps_key : (m : Numbers) (k : Key) → Keeps m (with_key m k)
keeps_key m k = either (Keeps m) m k (keeps_new m k) (λ n at q j is. is)

pub has_key : (m : Numbers) (k : Key) → Has (with_key m k) k
has_key m k = either (λ o. Has o k) m k (λ none. (fin.len m, own m k (fin.len m))) (λ n at. (n, at))

pub longer_key : (m : Numbers) (k : Key) → fin.len m ≤ fin.len (with_key m k)
longer_key m k = either (λ o. fin.len m ≤ fin.len o) m k (λ none. let e = len-new m k none in omega arith) (λ n at. omega arith)

long_key : (m : Numbers) (k : Key) → fin.len (with_key m k) ≤ fin.len m + 1
long_key m k = either (λ o. fin.len o ≤ fin.len m + 1) m k (λ none. let e = len-new m k none in omega arith) (λ n at. omega arith)

-- ---- the numbers are those below their count

pub AreNumbers-empty : AreNumbers fin.empty
AreNumbers-empty = record {
  below = λ k n at. absurd (none-some n (sym (fin.get-empty key_cmp k) ∙ at));
  once = λ x y n at_x at_y. absurd (none-some n (sym (fin.get-empty key_cmp x) ∙ at_x));
  each = λ n lt. let e = fin.len-empty key_cmp ℕ in absurd (omega arith);
}

some_same : (m n : ℕ) → Some m ≡ Some n → m ≡ n
some_same m n e = ap (λ o. unwrap_or o 0) e

module _ (m : Numbers) (k : Key) (are : AreNumbers m) (none : fin.get m k ≡ None) where
  -- a key's number is the last one, and then it is the new key, or it had it before
  abbrev Split : Key → ℕ → Type 0
  Split q n = ((q ≡ k) × (n ≡ fin.len m)) ⊎ (fin.get m q ≡ Some n)

  split : (q : Key) (n : ℕ) → fin.get (fin.insert m k (fin.len m)) q ≡ Some n → Split q n
  split q n at = elim (eq_by_cmp key_cmp q k) as (λ b. eq_by_cmp key_cmp q k ≡ b → cond b (Some (fin.len m)) (fin.get m q) ≡ Some n → Split q n) [
    | true ↦ λ tied e. inl (same_key q k tied, sym (some_same (fin.len m) n e))
    | false ↦ λ _ e. inr e
  ] refl (sym (fin.get-insert key_cmp_total m k (fin.len m) q) ∙ at)

  pub AreNumbers-new : AreNumbers (fin.insert m k (fin.len m))
  AreNumbers-new = record {
    below = λ q n at. let e = len-new m k none in elim (split q n at) as (λ _. n < fin.len (fin.insert m k (fin.len m))) [
      | inl last ↦ let is = last.1 in omega arith
      | inr before ↦ let lt = are.below q n before in omega arith
    ];
    once = λ x y n at_x at_y. elim (split x n at_x) as (λ _. x ≡ y) [
      | inl last ↦ elim (split y n at_y) as (λ _. x ≡ y) [
        | inl other ↦ last.0 ∙ sym other.0
        | inr before ↦ let lt = are.below y n before in let is = last.1 in absurd (omega arith)
      ]
      | inr first ↦ elim (split y n at_y) as (λ _. x ≡ y) [
        | inl other ↦ let lt = are.below x n first in let is = other.1 in absurd (omega arith)
        | inr before ↦ are.once x y n first before
      ]
    ];
    each = λ n lt. elim (cases_lt n (fin.len m)) as (λ _. (q : Key) × (fin.get (fin.insert m k (fin.len m)) q ≡ Some n)) [
      | inl less ↦ let old = are.each n less in (old.0, keeps_new m k none old.0 n old.1)
      | inr ge ↦ let e = len-new m k none in let is : fin.len m ≡ n = omega arith in (k, own m k (fin.len m) ∙ ap Some is)
    ];
  }

pub more : (m after : Numbers) (k : Key) (len : ℕ) → len ≡ fin.len m → AreNumbers m → fin.get m k ≡ None → after ≡ fin.insert m k len
    → (len + 1 ≡ fin.len after) × AreNumbers after
more m after k len long are none is =
    let whole : after ≡ fin.insert m k (fin.len m) = is ∙ ap (fin.insert m k) long in (
      (let one = len-new m k none in let same = ap fin.len whole in omega arith),
      subst AreNumbers (sym whole) (AreNumbers-new m k are none),
    )

-- ---- lists of keys, and of sets

pub keeps_on : (a b c : Numbers) → Keeps a b → Keeps b c → Keeps a c
keeps_on a b c one two k n at = two k n (one k n at)

pub keeps_keys : (m : Numbers) (ks : List Key) → Keeps m (with_keys m ks)
keeps_keys m [] = λ k n at. at
keeps_keys m (x ∷ xs) = keeps_on m (with_key m x) (with_keys (with_key m x) xs) (keeps_key m x) (keeps_keys (with_key m x) xs)

abbrev pub after_set : Numbers → Sets → Numbers
after_set m s = with_keys (with_keys m s.reads) s.writes

pub keeps_set : (m : Numbers) (s : Sets) → Keeps m (after_set m s)
keeps_set m s = keeps_on m (with_keys m s.reads) (after_set m s) (keeps_keys m s.reads) (keeps_keys (with_keys m s.reads) s.writes)

pub keeps_sets : (m : Numbers) (sets : List Sets) → Keeps m (with_sets m sets)
keeps_sets m [] = λ k n at. at
keeps_sets m (s ∷ ss) = keeps_on m (after_set m s) (with_sets (after_set m s) ss) (keeps_set m s) (keeps_sets (after_set m s) ss)

pub longer_keys : (m : Numbers) (ks : List Key) → fin.len m ≤ fin.len (with_keys m ks)
longer_keys m [] = omega arith
longer_keys m (k ∷ ks) = let one = longer_key m k in let rest = longer_keys (with_key m k) ks in omega arith

pub longer_sets : (m : Numbers) (sets : List Sets) → fin.len m ≤ fin.len (with_sets m sets)
longer_sets m [] = omega arith
longer_sets m (s ∷ ss) =
    let one = longer_keys m s.reads in
    let two = longer_keys (with_keys m s.reads) s.writes in
    let rest = longer_sets (after_set m s) ss in
    omega arith

kept_has : (m final : Numbers) (k : Key) → Keeps m final → Has m k → Has final k
kept_has m final k keeps has = (has.0, keeps k has.0 has.1)

pub has_keys : (m final : Numbers) (ks : List Key) → Keeps (with_keys m ks) final → All (Has final) ks
has_keys m final [] keeps = All-nil (Has final)
has_keys m final (k ∷ ks) keeps = All-cons (Has final) k ks
    (kept_has (with_key m k) final k (keeps_on (with_key m k) (with_keys (with_key m k) ks) final (keeps_keys (with_key m k) ks) keeps) (has_key m k))
    (has_keys (with_key m k) final ks keeps)

pub same_number : (m final : Numbers) (k : Key) → Keeps m final → Has m k → number_in m k ≡ number_in final k
same_number m final k keeps has = number-is m k has.0 has.1 ∙ sym (number-is final k has.0 (keeps k has.0 has.1))

pub same_numbers : (m final : Numbers) (ks : List Key) → Keeps m final → All (Has m) ks → map (number_in m) ks ≡ map (number_in final) ks
same_numbers m final [] keeps all = refl
same_numbers m final (k ∷ ks) keeps all =
    let here = same_number m final k keeps (All-head (Has m) k ks all) in
    let rest = same_numbers m final ks keeps (All-tail (Has m) k ks all) in
    λ i. here i ∷ rest i

-- ---- how many keys there are

abbrev Among : Numbers → Numbers → Type 0
Among few many = (k : Key) → Has few k → Has many k

fewer_key : (few many : Numbers) (k : Key) → Among few many
    → Among (with_key few k) (with_key many k) × (fin.len (with_key many k) + fin.len few ≤ fin.len (with_key few k) + fin.len many)
fewer_key few many k among = either (λ o. Among o (with_key many k) × (fin.len (with_key many k) + fin.len few ≤ fin.len o + fin.len many)) few k
    (λ none. (
      (λ q has. fewer_new q has.0 (sym (fin.get-insert key_cmp_total few k (fin.len few) q) ∙ has.1)),
      (let one = len-new few k none in let most = long_key many k in omega arith),
    ))
    (λ n at. (
      (λ q has. kept_has many (with_key many k) q (keeps_key many k) (among q has)),
      (let has = among k (n, at) in let same = ap fin.len (known many k has.0 has.1) in omega arith),
    ))
  where
    fewer_new : (q : Key) (n : ℕ) → cond (eq_by_cmp key_cmp q k) (Some (fin.len few)) (fin.get few q) ≡ Some n → Has (with_key many k) q
    fewer_new q n = elim (eq_by_cmp key_cmp q k) as (λ b. eq_by_cmp key_cmp q k ≡ b → cond b (Some (fin.len few)) (fin.get few q) ≡ Some n
        → Has (with_key many k) q) [
          | true ↦ λ tied _. subst (Has (with_key many k)) (sym (same_key q k tied)) (has_key many k)
          | false ↦ λ _ at. kept_has many (with_key many k) q (keeps_key many k) (among q (n, at))
        ] refl

abbrev Fewer : Numbers → Numbers → Numbers → Numbers → Type 0
Fewer few many more most = Among more most × (fin.len most + fin.len few ≤ fin.len more + fin.len many)

fewer_on : (a b c d e f : Numbers) → Fewer a b c d → Fewer c d e f → Fewer a b e f
fewer_on a b c d e f one two = let x = one.1 in let y = two.1 in (two.0, omega arith)

fewer_keys : (few many : Numbers) (ks : List Key) → Among few many → Fewer few many (with_keys few ks) (with_keys many ks)
fewer_keys few many [] among = (among, omega arith)
fewer_keys few many (k ∷ ks) among =
    let one = fewer_key few many k among in
    fewer_on few many (with_key few k) (with_key many k) (with_keys (with_key few k) ks) (with_keys (with_key many k) ks) one
    (fewer_keys (with_key few k) (with_key many k) ks one.0)

fewer_sets : (few many : Numbers) (sets : List Sets) → Among few many → Fewer few many (with_sets few sets) (with_sets many sets)
fewer_sets few many [] among = (among, omega arith)
fewer_sets few many (s ∷ ss) among =
    let reads = fewer_keys few many s.reads among in
    let writes = fewer_keys (with_keys few s.reads) (with_keys many s.reads) s.writes reads.0 in
    let one = fewer_on few many (with_keys few s.reads) (with_keys many s.reads) (after_set few s) (after_set many s) reads writes in
    fewer_on few many (after_set few s) (after_set many s) (with_sets (after_set few s) ss) (with_sets (after_set many s) ss) one
    (fewer_sets (after_set few s) (after_set many s) ss one.0)

-- no more keys come than are touched
pub at_most : (m : Numbers) (sets : List Sets) → fin.len (with_sets m sets) ≤ fin.len m + fin.len (with_sets fin.empty sets)
at_most m sets =
    let fewer = (fewer_sets fin.empty m sets (λ k has. absurd (none-some has.0 (sym (fin.get-empty key_cmp k) ∙ has.1)))).1 in
    let bare = fin.len-empty key_cmp ℕ in
    omega arith

long_keys : (m : Numbers) (ks : List Key) → fin.len (with_keys m ks) ≤ fin.len m + length ks
long_keys m [] = omega arith
long_keys m (k ∷ ks) = let one = long_key m k in let rest = long_keys (with_key m k) ks in omega arith

pub long_sets : (m : Numbers) (sets : List Sets) → fin.len (with_sets m sets) ≤ fin.len m + sum_by touch_count sets
long_sets m [] = omega arith
long_sets m (s ∷ ss) =
    let reads = long_keys m s.reads in
    let writes = long_keys (with_keys m s.reads) s.writes in
    let rest = long_sets (after_set m s) ss in
    let sum : sum_by touch_count (s ∷ ss) ≡ touch_count s + sum_by touch_count ss = sum_by-cons touch_count s ss in
    omega arith

-- ---- numbers in the place of keys

has_of : (m : Numbers) (k : Key) → is_among key_cmp (fin.keys m) k ≡ true → Has m k
has_of m k among = elim (fin.get m k) as (λ o. fin.get m k ≡ o → is_some o ≡ true → Has m k) [ None ↦ λ e some. cc | Some n ↦ λ e some. (n, e) ] refl
    (fin.contains_key-keys m k ∙ among)

among_of : (m : Numbers) (k : Key) → Has m k → is_among key_cmp (fin.keys m) k ≡ true
among_of m k has = sym (fin.contains_key-keys m k) ∙ ap is_some has.1

pub one_to_one : (m : Numbers) → AreNumbers m → IsOneToOneOn key_cmp (fin.keys m) (number_in m)
one_to_one m are x y in_x in_y = unsigned_tied (number_in m x) (number_in m y)
    ∙ elim (eq_by_cmp key_cmp x y) as (λ b. eq_by_cmp key_cmp x y ≡ b → nat_eq (number_in m x) (number_in m y) ≡ b) [
      | true ↦ λ e. eq-eqb (number_in m x) (number_in m y) (ap (number_in m) (same_key x y e))
      | false ↦ λ e. false_from_ne_true _ (λ same. false≢true (sym e ∙ tied (eqb-true (number_in m x) (number_in m y) same)))
    ] refl
  where
    tied : number_in m x ≡ number_in m y → eq_by_cmp key_cmp x y ≡ true
    tied same =
        let at_x = has_of m x in_x in
        let at_y = has_of m y in_y in
        let number : at_y.0 ≡ at_x.0 = sym (number-is m y at_y.0 at_y.1) ∙ sym same ∙ number-is m x at_x.0 at_x.1 in
        ap (eq_by_cmp key_cmp x) (sym (are.once x y at_x.0 at_x.1 (at_y.1 ∙ ap Some number))) ∙ (eq_by_cmp_equiv key_cmp_total).refl x

has_reads : (m final : Numbers) (sets : List Sets) → Keeps (with_sets m sets) final → All (λ s. All (Has final) s.reads) sets
has_reads m final [] keeps = All-nil (λ (s : Sets). All (Has final) s.reads)
has_reads m final (s ∷ ss) keeps = All-cons (λ (t : Sets). All (Has final) t.reads) s ss
    (has_keys m final s.reads (keeps_on (with_keys m s.reads) (after_set m s) final (keeps_keys (with_keys m s.reads) s.writes)
    (keeps_on (after_set m s) (with_sets (after_set m s) ss) final (keeps_sets (after_set m s) ss) keeps)))
    (has_reads (after_set m s) final ss keeps)

has_writes : (m final : Numbers) (sets : List Sets) → Keeps (with_sets m sets) final → All (λ s. All (Has final) s.writes) sets
has_writes m final [] keeps = All-nil (λ (s : Sets). All (Has final) s.writes)
has_writes m final (s ∷ ss) keeps = All-cons (λ (t : Sets). All (Has final) t.writes) s ss
    (has_keys (with_keys m s.reads) final s.writes (keeps_on (after_set m s) (with_sets (after_set m s) ss) final (keeps_sets (after_set m s) ss) keeps))
    (has_writes (after_set m s) final ss keeps)

pub reads_among : (m : Numbers) (sets : List Sets) → HasKeysOf key_cmp (fin.keys (with_sets m sets)) reads_of sets
reads_among m sets i d lt j e within = among_of (with_sets m sets) _ (has_reads m (with_sets m sets) sets (λ k n at. at) i d lt j e within)

pub writes_among : (m : Numbers) (sets : List Sets) → HasKeysOf key_cmp (fin.keys (with_sets m sets)) writes_of sets
writes_among m sets i d lt j e within = among_of (with_sets m sets) _ (has_writes m (with_sets m sets) sets (λ k n at. at) i d lt j e within)

pub below_of : (m : Numbers) (k : Key) → AreNumbers m → Has m k → number_in m k < fin.len m
below_of m k are has = let is = number-is m k has.0 has.1 in let lt = are.below k has.0 has.1 in omega arith

pub reads_below : (m final : Numbers) (sets : List Sets) → final ≡ with_sets m sets → AreNumbers final
    → All (λ list. All (λ n. n < fin.len final) list) (map (λ s. map (number_in final) s.reads) sets)
reads_below m final sets is are =
    let all = has_reads m final sets (subst (Keeps (with_sets m sets)) (sym is) (λ k n at. at)) in
    All-map (λ list. All (λ n. n < fin.len final) list) (λ s. map (number_in final) s.reads) sets
    (λ i d lt. All-map (λ n. n < fin.len final) (number_in final) (get_or sets i d).reads (λ j e within. below_of final _ are (all i d lt j e within)))

pub writes_below : (m final : Numbers) (sets : List Sets) → final ≡ with_sets m sets → AreNumbers final
    → All (λ list. All (λ n. n < fin.len final) list) (map (λ s. map (number_in final) s.writes) sets)
writes_below m final sets is are =
    let all = has_writes m final sets (subst (Keeps (with_sets m sets)) (sym is) (λ k n at. at)) in
    All-map (λ list. All (λ n. n < fin.len final) list) (λ s. map (number_in final) s.writes) sets
    (λ i d lt. All-map (λ n. n < fin.len final) (number_in final) (get_or sets i d).writes (λ j e within. below_of final _ are (all i d lt j e within)))

-- what touches are counted for a list of sets
pub counted_more : (most touched next both : ℕ) (sets : List Sets) (i : ℕ) (s : Sets) → i < length sets → s ≡ get_or sets i s → both ≡ touch_count s
    → next ≡ min most (touched + both)
    → min most (touched + sum_by touch_count (drop i sets)) ≡ min most (sum_by touch_count sets)
    → min most (next + sum_by touch_count (drop (i + 1) sets)) ≡ min most (sum_by touch_count sets)
counted_more most touched next both sets i s lt at is step so_far =
    let e : suc i ≡ i + 1 = omega arith in
    let here : sum_by touch_count (drop i sets) ≡ touch_count s + sum_by touch_count (drop (i + 1) sets) =
    ap (sum_by touch_count) (drop-cons sets i s lt ∙ (λ j. sym at j ∷ drop (e j) sets)) ∙ sum_by-cons touch_count s (drop (i + 1) sets) in
    omega arith

pub few_touched : (most touched limit : ℕ) (sets : List Sets) (i : ℕ) → limit < most → length sets ≤ i
    → min most (touched + sum_by touch_count (drop i sets)) ≡ min most (sum_by touch_count sets) → touched ≤ limit → fin.len (with_sets fin.empty sets) ≤ limit
few_touched most touched limit sets i below ended so_far few =
    let rest : sum_by touch_count (drop i sets) ≡ 0 = ap (sum_by touch_count) (drop_all i sets ended) in
    let long = long_sets fin.empty sets in
    let bare = fin.len-empty key_cmp ℕ in
    omega arith
