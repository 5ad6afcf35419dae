-- Numbers in order of first touch, put in the place of touches one after the other.
use Rattle.std.proofs.Common.{◌≡◌, ◌≢◌, ℕ, zero, suc, ◌+◌, ◌<◌, ◌≤◌, List, [], ◌∷◌, ◌++◌, map, length, drop, take, drop-cons, get_or, true, false}
use Rattle.std.proofs.Common.{cond, Option, Some, None, All, refl, sym, ap, subst, ◌∙◌, arith, take_all, replicate}
use Rattle.std.specs.Prelude.{slice_get, unwrap_or}
use Rattle.std.specs.Cmp.{eq_by_cmp_equiv}
use Rattle.std.specs.Ordering.{eq_by_cmp}
use Rattle.std.specs.FinMap as fin
use Rattle.std.proofs.lemmas.Bool.{false≢true}
use Rattle.std.proofs.lemmas.List.Elements.{All-map}
use Rattle.std.proofs.lemmas.List.{get_or-set_same, get_or-set_other, drop_all, drop-set-lt, length-map, map-append}
use Rattle.std.proofs.lemmas.Option.{slice_get_within, get_or_from_slice_get}
use Rattle.std.proofs.Math.Seq.{take-suc}
use lib.ListN.{set}
use Rattle.aria_base.specs.Orders.{key_cmp}
use Rattle.aria_base.specs.declared.keys.Key.{Key}
use Rattle.aria_base.proofs.Orders.{key_cmp_total, same_key}
use Rattle.dep_rules.specs.declared.numberings.Stretch.{Stretch}
use Rattle.dep_rules.specs.declared.sets.Sets.{Sets}
use Rattle.key_numbering.specs.Numbers.{Numbers, AreNumbers, Keeps, number_in, numbers_of, with_key, with_keys, with_sets}
use Rattle.key_numbering.proofs.Growing.{new, len-new, number-new, keeps_on, keeps_keys, has_key, same_number, after_set, either}
use Rattle.key_numbering.proofs.Growing.{AreNumbers-empty, AreNumbers-new, has_keys, below_of}
use Rattle.touch_numbers.specs.Firsts.{from_one, HasNumbers, NumbersOne, NumbersAll}
use Rattle.touch_numbers.specs.Listings.{ArePlaces, AreTold, touches_in, stretches_in}
use Rattle.touch_numbers.specs.Slots.{Fits}
use Rattle.touch_numbers.specs.declared.rules.Taken.{Taken}
use Rattle.touch_numbers.proofs.Laying.{AreLaid, are_laid, key_at}

-- ---- one touch

from_none : (o : Option ℕ) (x : ℕ) → x ≡ from_one o → x ≡ 0 → o ≡ None
from_none None x is none = refl
from_none (Some n) x is none = let e : suc n ≡ 0 = sym is ∙ none in absurd (omega (arith, e))

module _ (given : List ℕ) (count touch number n : ℕ) (keys : List Key) (place : Key → ℕ) (m : Numbers) (k : Key) (at : place k ≡ touch)
    (stands : slice_get keys touch ≡ Some k) (number_is : number ≡ get_or given touch 0) (has : HasNumbers keys place m given count) where
  here : number ≡ from_one (fin.get m k)
  here = number_is ∙ ap (λ t. get_or given t 0) (sym at) ∙ has.given_are k (ap (slice_get keys) at ∙ stands)

  module _ (given_after : List ℕ) (count_after : ℕ) (no_number : number ≡ 0) (within : touch < length given)
      (given_is : given_after ≡ set given touch (count + 1)) (count_is : count_after ≡ count + 1) where
    absent : fin.get m k ≡ None
    absent = from_none (fin.get m k) number here no_number

    abbrev grown : Numbers
    grown = fin.insert m k (fin.len m)

    each : (q : Key) → slice_get keys (place q) ≡ Some q → get_or given_after (place q) 0 ≡ from_one (fin.get grown q)
    each q stands_q = elim (eq_by_cmp key_cmp q k) as (λ b. eq_by_cmp key_cmp q k ≡ b
        → get_or given_after (place q) 0 ≡ from_one (cond b (Some (fin.len m)) (fin.get m q))) [
          | true ↦ λ e.
              let where_q : place q ≡ touch = ap place (same_key q k e) ∙ at in
              let value : count + 1 ≡ suc (fin.len m) = (let c = has.count_is in omega arith) in
              ap (λ t. get_or given_after t 0) where_q ∙ ap (λ l. get_or l touch 0) given_is ∙ get_or-set_same given touch (count + 1) 0 within ∙ value
          | false ↦ λ e.
              let apart : place q ≢ touch = λ same.
              let one : Some q ≡ Some k = sym stands_q ∙ ap (slice_get keys) same ∙ stands in
              false≢true (sym e ∙ ap (eq_by_cmp key_cmp q) (sym (ap (λ o. unwrap_or o q) one)) ∙ (eq_by_cmp_equiv key_cmp_total).refl q) in
              ap (λ l. get_or l (place q) 0) given_is ∙ get_or-set_other given touch (place q) (count + 1) 0 apart ∙ has.given_are q stands_q
        ] refl ∙ ap from_one (sym (fin.get-insert key_cmp_total m k (fin.len m) q))

    pub one_new : n ≡ count → HasNumbers keys place (with_key m k) given_after count_after × (n ≡ number_in (with_key m k) k)
    one_new is = (
      subst (λ q. HasNumbers keys place q given_after count_after) (sym (new m k absent)) record {
        count_is = count_is ∙ ap (λ c. c + 1) has.count_is ∙ sym (len-new m k absent);
        given_are = each;
      },
      is ∙ has.count_is ∙ sym (number-new m k) ∙ ap (λ q. number_in q k) (sym (new m k absent)),
    )

-- ---- lists of which the first part is done

head_at : {X : Type 0} (xs : List X) (i : ℕ) (d : X) → get_or (drop i xs) 0 d ≡ get_or xs i d
head_at [] zero d = refl
head_at [] (suc i) d = refl
head_at (x ∷ xs) zero d = refl
head_at (x ∷ xs) (suc i) d = head_at xs i d

drop_next : {X : Type 0} (xs : List X) (i : ℕ) → drop 1 (drop i xs) ≡ drop (suc i) xs
drop_next [] zero = refl
drop_next [] (suc i) = refl
drop_next (x ∷ xs) zero = refl
drop_next (x ∷ xs) (suc i) = drop_next xs i

map_at : {X Y : Type 0} (f : X → Y) (xs : List X) (i : ℕ) (x : X) (d : Y) → slice_get xs i ≡ Some x → get_or (map f xs) i d ≡ f x
map_at f [] i x d at = cc
map_at f (y ∷ ys) zero x d at = ap (λ o. f (unwrap_or o y)) at
map_at f (y ∷ ys) (suc i) x d at = map_at f ys i x d at

pub rest_here : {X : Type 0} (xs first : List X) (i : ℕ) (d : X) → drop i xs ≡ drop i first → get_or xs i d ≡ get_or first i d
rest_here xs first i d same = sym (head_at xs i d) ∙ ap (λ l. get_or l 0 d) same ∙ head_at first i d

pub rest_next : {X : Type 0} (xs first : List X) (i : ℕ) (x : X) → drop i xs ≡ drop i first → drop (i + 1) (set xs i x) ≡ drop (i + 1) first
rest_next xs first i x same =
    let more : i + 1 ≡ suc i = omega arith in
    drop-set-lt (i + 1) xs i x (omega arith) ∙ ap (λ n. drop n xs) more ∙ sym (drop_next xs i) ∙ ap (drop 1) same ∙ drop_next first i
    ∙ ap (λ n. drop n first) (sym more)

-- ---- all touches

abbrev pub ListSoFar : List ℕ → ℕ → List ℕ → ℕ → List ℕ → ℕ → List ℕ → Type 0
ListSoFar given count given_now count_now touches i numbers = (keys : List Key) (place : Key → ℕ) (m final : Numbers) (ks : List Key)
    → ArePlaces keys place ks → map place ks ≡ touches
    → Keeps (with_keys m ks) final → HasNumbers keys place m given count
    → (now : Numbers) × HasNumbers keys place now given_now count_now × (with_keys now (drop i ks) ≡ with_keys m ks)
    × (map (number_in final) (take i ks) ≡ numbers)

all_at : {X : Type 0} (P : X → Type 0) (xs : List X) (i : ℕ) (x : X) → slice_get xs i ≡ Some x → All P xs → P x
all_at P xs i x at all = subst P (get_or_from_slice_get xs i x x at) (all i x (slice_get_within xs i x at))

rest_at : {X : Type 0} (xs : List X) (i : ℕ) (x : X) → slice_get xs i ≡ Some x → drop i xs ≡ x ∷ drop (i + 1) xs
rest_at xs i x at =
    let more : suc i ≡ i + 1 = omega arith in
    drop-cons xs i x (slice_get_within xs i x at) ∙ (λ j. get_or_from_slice_get xs i x x at j ∷ drop (more j) xs)

taken_at : {X Y : Type 0} (f : X → Y) (xs : List X) (i : ℕ) (x : X) (ys : List Y) (y : Y) → slice_get xs i ≡ Some x → map f (take i xs) ≡ ys → f x ≡ y
    → map f (take (i + 1) xs) ≡ ys ++ y ∷ []
taken_at f xs i x ys y at before is =
    let more : i + 1 ≡ suc i = omega arith in
    ap (λ n. map f (take n xs)) more
    ∙ ap (map f) (take-suc xs i x (slice_get_within xs i x at) ∙ ap (λ q. take i xs ++ q ∷ []) (get_or_from_slice_get xs i x x at))
    ∙ map-append f (take i xs) (x ∷ [])
    ∙ (λ j. before j ++ is j ∷ [])

pub list_more : (given : List ℕ) (count : ℕ) (given_now : List ℕ) (count_now : ℕ) (given_then : List ℕ) (count_then : ℕ) (touches numbers : List ℕ)
    (i touch n : ℕ) → i < length touches → touch ≡ get_or touches i 0
    → ListSoFar given count given_now count_now touches i numbers → NumbersOne given_now count_now given_then count_then touch n
    → ListSoFar given count given_then count_then touches (i + 1) (numbers ++ n ∷ [])
list_more given count given_now count_now given_then count_then touches numbers i touch n lt touch_is so_far one keys place m final ks places are keeps has =
    let old = so_far keys place m final ks places are keeps has in
    let within : i < length ks = omega (arith, lt, length-map ks place, ap length are) in
    let k = key_at ks i within in
    let at : place k.0 ≡ touch = sym (map_at place ks i k.0 0 k.1) ∙ ap (λ l. get_or l i 0) are ∙ sym touch_is in
    let stands : slice_get keys touch ≡ Some k.0 = ap (slice_get keys) (sym at) ∙ all_at (λ q. slice_get keys (place q) ≡ Some q) ks i k.0 k.1 places in
    let step = one keys place old.0 k.0 at stands old.1 in
    let then = with_key old.0 k.0 in
    let whole : with_keys then (drop (i + 1) ks) ≡ with_keys m ks = ap (with_keys old.0) (sym (rest_at ks i k.0 k.1)) ∙ old.2 in
    let keeps_then : Keeps then final = keeps_on then (with_keys m ks) final (subst (Keeps then) whole (keeps_keys then (drop (i + 1) ks))) keeps in
    let number : number_in final k.0 ≡ n = sym (step.1 ∙ same_number then final k.0 keeps_then (has_key old.0 k.0)) in
    (then, step.0, whole, taken_at (number_in final) ks i k.0 numbers n k.1 old.3 number)

pub list_done : (given : List ℕ) (count : ℕ) (given_now : List ℕ) (count_now : ℕ) (touches numbers all : List ℕ) (i : ℕ) → length touches ≤ i
    → numbers ≡ all → ListSoFar given count given_now count_now touches i numbers → NumbersAll given count given_now count_now touches all
list_done given count given_now count_now touches numbers all i le whole so_far keys place m final ks places are keeps has =
    let old = so_far keys place m final ks places are keeps has in
    let ended : length ks ≤ i = omega (arith, le, length-map ks place, ap length are) in
    let same : old.0 ≡ with_keys m ks = ap (with_keys old.0) (sym (drop_all i ks ended)) ∙ old.2 in
    (subst (λ q. HasNumbers keys place q given_now count_now) same old.1, ap (map (number_in final)) (sym (take_all i ks ended)) ∙ old.3 ∙ whole)

-- ---- at the end

pub none_yet : (keys : List Key) (place : Key → ℕ) (given : List ℕ) (n count : ℕ) → given ≡ replicate n 0 → count ≡ 0
    → HasNumbers keys place fin.empty given count
none_yet keys place given n count zeros none = record {
  count_is = none ∙ sym (fin.len-empty key_cmp ℕ);
  given_are = λ k _. ap (λ (l : List ℕ). get_or l (place k) 0) zeros ∙ zero_at n (place k) ∙ ap from_one (sym (fin.get-empty key_cmp k));
}
  where
    zero_at : (n i : ℕ) → ◌≡◌ {A = ℕ} (get_or (replicate n 0) i 0) 0
    zero_at zero zero = refl
    zero_at zero (suc i) = refl
    zero_at (suc n) zero = refl
    zero_at (suc n) (suc i) = zero_at n i

are_key : (m : Numbers) (k : Key) → AreNumbers m → AreNumbers (with_key m k)
are_key m k are = either AreNumbers m k (AreNumbers-new m k are) (λ n at. are)

are_keys : (m : Numbers) (ks : List Key) → AreNumbers m → AreNumbers (with_keys m ks)
are_keys m [] are = are
are_keys m (k ∷ ks) are = are_keys (with_key m k) ks (are_key m k are)

are_sets : (m : Numbers) (sets : List Sets) → AreNumbers m → AreNumbers (with_sets m sets)
are_sets m [] are = are
are_sets m (s ∷ ss) are = are_sets (after_set m s) ss (are_keys (with_keys m s.reads) s.writes (are_keys m s.reads are))

pub are_numbers : (sets : List Sets) → AreNumbers (with_sets fin.empty sets)
are_numbers sets = are_sets fin.empty sets AreNumbers-empty

-- the keys of all touches get their numbers as those of the sets do
with_keys-append : (m : Numbers) (xs ys : List Key) → with_keys m (xs ++ ys) ≡ with_keys (with_keys m xs) ys
with_keys-append m [] ys = refl
with_keys-append m (x ∷ xs) ys = with_keys-append (with_key m x) xs ys

with_touches : (m : Numbers) (sets : List Sets) → with_keys m (touches_in sets) ≡ with_sets m sets
with_touches m [] = refl
with_touches m (s ∷ ss) =
    with_keys-append m (s.reads ++ s.writes) (touches_in ss)
    ∙ with_touches (with_keys m (s.reads ++ s.writes)) ss
    ∙ ap (λ q. with_sets q ss) (with_keys-append m s.reads s.writes)

-- these are the numbers of all touches, in order of first touch
pub record AreNumbered (sets : List Sets) (numbers : List ℕ) (count : ℕ) : Type 0 where
  pub count_is : count ≡ fin.len (numbers_of sets)
  pub numbers_are : map (number_in (numbers_of sets)) (touches_in sets) ≡ numbers
  pub below : All (λ n. n < count) numbers

pub all_numbered : (sets : List Sets) (keys : List Key) (taken : List Taken) (touches numbers given after : List ℕ) (n count most : ℕ)
    → keys ≡ touches_in sets → AreTold keys taken keys touches → (number : Key → ℕ) × Fits keys number taken → given ≡ replicate n 0 → count ≡ 0
    → NumbersAll given count after most touches numbers → AreNumbered sets numbers most
all_numbered sets keys taken touches numbers given after n count most is told fits zeros none all =
    let are = told fits.0 fits.1 in
    let done = all keys fits.0 fin.empty (with_keys fin.empty keys) keys are.places are.numbers_are (λ k n at. at)
    (none_yet keys fits.0 given n count zeros none) in
    let same : with_keys fin.empty keys ≡ numbers_of sets = ap (with_keys fin.empty) is ∙ with_touches fin.empty sets in
    let final = numbers_of sets in
    let count_is : most ≡ fin.len final = done.0.count_is ∙ ap fin.len same in
    let numbers_are : map (number_in final) (touches_in sets) ≡ numbers = (λ i. map (number_in (sym same i)) (sym is i)) ∙ done.1 in
    let has = has_keys fin.empty final (touches_in sets) (subst (Keeps (with_keys fin.empty (touches_in sets))) (with_touches fin.empty sets) (λ k n at. at)) in
    record {
      count_is = count_is;
      numbers_are = numbers_are;
      below = subst (λ c. All (λ n. n < c) numbers) (sym count_is) (subst (All (λ n. n < fin.len final)) numbers_are
          (All-map (λ n. n < fin.len final) (number_in final) (touches_in sets) (λ i d lt. below_of final (get_or (touches_in sets) i d) (are_numbers sets)
          (has i d lt))));
    }

-- and so they lie in the stretches of the requests
pub numbered_laid : (sets : List Sets) (numbers : List ℕ) (count : ℕ) (stretches : List Stretch) → AreNumbered sets numbers count
    → stretches ≡ stretches_in 0 sets → AreLaid (number_in (numbers_of sets)) sets numbers stretches
numbered_laid sets numbers count stretches are is =
    subst (AreLaid (number_in (numbers_of sets)) sets numbers) (sym is)
    (subst (λ l. AreLaid (number_in (numbers_of sets)) sets l (stretches_in 0 sets)) are.numbers_are (are_laid (number_in (numbers_of sets)) [] sets 0 refl))
