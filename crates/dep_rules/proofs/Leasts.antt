-- What the words tell of a request's keys is the least earlier request of which its dependency holds.
use Rattle.std.proofs.Common.{◌≡◌, refl, sym, ap, ◌∙◌, ℕ, zero, suc, ◌+◌, ◌-◌, ◌<◌, ◌≤◌, Bool, true, false, cond, List, [], ◌∷◌, take, Option, Some, None, All, get_or, arith}
use Rattle.std.specs.Prelude.{⊤, ◌||◌, nat_lt, slice_index_or}
use Rattle.std.specs.List.{position_from, range_with_len}
use Rattle.std.specs.Ordering.{nat_cmp}
use Rattle.std.proofs.lemmas.Bool.{ltb-true, lt-ltb}
use Rattle.std.proofs.lemmas.List.Elements.{All-head, All-tail}
use Rattle.batch_rules.specs.Touches.{is_among}
use Rattle.batch_rules.specs.Verdicts.{meets, least}
use Rattle.dep_rules.specs.Sheets.{Sheet, IsTid, reads_at, writes_at}
use Rattle.dep_rules.specs.Words.{Tell, tids_before, earlier_only, lesser, told, least_of}
use Rattle.dep_rules.specs.declared.decisions.Side.TheVariants as side

-- ---- the first place of which a test holds

AtLeast : ℕ → Option ℕ → Type 0
AtLeast i None = ⊤
AtLeast i (Some j) = i ≤ j

at_least_less : (i : ℕ) (r : Option ℕ) → AtLeast (i + 1) r → AtLeast i r
unfolding AtLeast
at_least_less i None h = tt
at_least_less i (Some j) h = omega arith

none_earlier : (tid : ℕ) (r : Option ℕ) → AtLeast tid r → earlier_only tid r ≡ None
unfolding AtLeast
none_earlier tid None h = refl
none_earlier tid (Some j) h = elim (nat_lt j tid) as (λ b. nat_lt j tid ≡ b → cond b (Some j) None ≡ None) [
  | true ↦ λ e. let lt = ltb-true j tid e in
      absurd (omega arith)
  | false ↦ λ e. refl
] refl

module _ {S : Type 0} (holds : S → Bool) where
  first_at_least : (i : ℕ) (xs : List S) → AtLeast i (position_from holds i xs)
  unfolding AtLeast
  first_at_least i [] = tt
  first_at_least i (x ∷ xs) = elim (holds x) as (λ b. AtLeast i (cond b (Some i) (position_from holds (i + 1) xs))) [
    | true ↦
        (let e : i ≤ i = omega arith in e)
    | false ↦ at_least_less i _ (first_at_least (i + 1) xs)
  ]

  -- among the places below i + n it is the first one among the first n items
  earlier_first : (i n : ℕ) (xs : List S) → earlier_only (i + n) (position_from holds i xs) ≡ position_from holds i (take n xs)
  earlier_first i zero xs = let e : i ≡ i + 0 = omega arith in ap (λ t. earlier_only t (position_from holds i xs)) (sym e)
      ∙ none_earlier i _ (first_at_least i xs)
  earlier_first i (suc n) [] = refl
  earlier_first i (suc n) (x ∷ xs) = elim (holds x) as (λ b. earlier_only (i + suc n) (cond b (Some i) (position_from holds (i + 1) xs)) ≡ cond b (Some i)
      (position_from holds (i + 1) (take n xs))) [
        | true ↦ ap (λ b. cond b (Some i) None) (lt-ltb i (i + suc n) (omega arith))
        | false ↦ let e : i + suc n ≡ i + 1 + n = omega arith in ap (λ t. earlier_only t (position_from holds (i + 1) xs)) e ∙ earlier_first (i + 1) n xs
      ]

-- ---- of two tests, and of none

lesser_own : (i : ℕ) (r : Option ℕ) → AtLeast i r → lesser (Some i) r ≡ Some i
unfolding AtLeast
lesser_own i None h = refl
lesser_own i (Some j) h = ap Some (omega arith)

lesser_turned : (i : ℕ) (r : Option ℕ) → AtLeast i r → lesser r (Some i) ≡ Some i
unfolding AtLeast
lesser_turned i None h = refl
lesser_turned i (Some j) h = ap Some (omega arith)

lesser_none : (r : Option ℕ) → lesser r None ≡ r
lesser_none None = refl
lesser_none (Some t) = refl

lesser_joined : (a b c : Option ℕ) → lesser (lesser a b) c ≡ lesser a (lesser b c)
lesser_joined None b c = refl
lesser_joined (Some t) None c = refl
lesser_joined (Some t) (Some u) None = refl
lesser_joined (Some t) (Some u) (Some v) = ap Some (omega arith)

module _ {S : Type 0} (a b : S → Bool) where
  first_either : (i : ℕ) (xs : List S) → position_from (λ x. a x || b x) i xs ≡ lesser (position_from a i xs) (position_from b i xs)
  first_either i [] = refl
  first_either i (x ∷ xs) =
      elim (a x) as (λ p. cond (p || b x) (Some i) (position_from (λ x. a x || b x) (i + 1) xs) ≡ lesser (cond p (Some i) (position_from a (i + 1) xs))
      (cond (b x) (Some i) (position_from b (i + 1) xs))) [
        | true ↦ sym (lesser_own i _ (first_at_least b i (x ∷ xs)))
        | false ↦ elim (b x) as (λ q. cond q (Some i) (position_from (λ x. a x || b x) (i + 1) xs) ≡ lesser (position_from a (i + 1) xs)
            (cond q (Some i) (position_from b (i + 1) xs))) [
              | true ↦ sym (lesser_turned i _ (at_least_less i _ (first_at_least a (i + 1) xs)))
              | false ↦ first_either (i + 1) xs
            ]
      ]

first_never : {S : Type 0} (i : ℕ) (xs : List S) → position_from (λ x. false) i xs ≡ None
first_never i [] = refl
first_never i (x ∷ xs) = first_never (i + 1) xs

-- ---- the keys of one request

module _ (f : ℕ → Option ℕ) (lists : List (List ℕ)) where
  abbrev Tells : ℕ → Type 0
  Tells key = f key ≡ least (λ list. is_among nat_cmp list key) lists

  least_meets : (best : Option ℕ) (keys : List ℕ) → All Tells keys → least_of f best keys ≡ lesser best (least (meets nat_cmp keys) lists)
  least_meets best [] a = sym (ap (lesser best) (first_never 1 lists) ∙ lesser_none best)
  least_meets best (key ∷ keys) a = least_meets (lesser best (f key)) keys (All-tail Tells key keys a)
      ∙ lesser_joined best (f key) (least (meets nat_cmp keys) lists)
      ∙ ap (λ r. lesser best (lesser r (least (meets nat_cmp keys) lists))) (All-head Tells key keys a)
      ∙ ap (lesser best) (sym (first_either (λ list. is_among nat_cmp list key) (meets nat_cmp keys) 1 lists))

-- the first place as a test of numbers from i on finds it, where the items behind the last one fail
module _ {S : Type 0} (test : S → Bool) (none : S) (fails : test none ≡ false) where
  first_numbered : (holds : ℕ → Bool) (i n : ℕ) (xs : List S) → ((k : ℕ) → holds (i + k) ≡ test (get_or xs k none))
      → position_from holds i (range_with_len i n) ≡ position_from test i (take n xs)
  first_numbered holds i zero xs same = refl
  first_numbered holds i (suc n) [] same =
      let here : holds i ≡ false = let e : i ≡ i + 0 = omega arith in ap holds e ∙ same 0 ∙ fails in
      let rest = first_numbered holds (i + 1) n [] (λ k. let e : i + 1 + k ≡ i + suc k = omega arith in ap holds e ∙ same (suc k)) in
      (λ j. cond (here j) (Some i) (rest j)) ∙ first_of_none (i + 1) n
    where
      first_of_none : (i n : ℕ) → position_from test i (take n []) ≡ None
      first_of_none i zero = refl
      first_of_none i (suc n) = refl
  first_numbered holds i (suc n) (x ∷ xs) same =
      let here : holds i ≡ test x = let e : i ≡ i + 0 = omega arith in ap holds e ∙ same 0 in
      let rest = first_numbered holds (i + 1) n xs (λ k. let e : i + 1 + k ≡ i + suc k = omega arith in ap holds e ∙ same (suc k)) in
      λ j. cond (here j) (Some i) (rest j)

meets_none : (keys : List ℕ) → meets nat_cmp keys [] ≡ false
meets_none [] = refl
meets_none (key ∷ keys) = meets_none keys

-- one side of a batch, by its lists and by their TIDs
module _ (lists : List (List ℕ)) (tid : ℕ) (first : 1 ≤ tid) where
  by_tids : (keys : List ℕ) → least (meets nat_cmp keys) (take (tid - 1) lists) ≡ least (λ t. meets nat_cmp keys (slice_index_or lists (t - 1) []))
      (tids_before tid)
  by_tids keys = sym (first_numbered (meets nat_cmp keys) [] (meets_none keys) (λ t. meets nat_cmp keys (slice_index_or lists (t - 1) [])) 1 (tid - 1) lists
      (λ k. let place : 1 + k - 1 ≡ k = omega arith in ap (λ n. meets nat_cmp keys (slice_index_or lists n [])) place))

  -- where each key's word tells the least request that has it
  least_told : (f : ℕ → Option ℕ) (keys : List ℕ) → All (λ key. f key ≡ earlier_only tid (least (λ list. is_among nat_cmp list key) lists)) keys
      → least_of f None keys ≡ least (λ t. meets nat_cmp keys (slice_index_or lists (t - 1) [])) (tids_before tid)
  least_told f keys a =
      let e : tid ≡ 1 + (tid - 1) = omega arith in
      least_meets f (take (tid - 1) lists) None keys (λ k d below. a k d below
      ∙ ap (λ t. earlier_only t (least (λ list. is_among nat_cmp list (get_or keys k d)) lists)) e
      ∙ earlier_first (λ list. is_among nat_cmp list (get_or keys k d)) 1 (tid - 1) lists)
      ∙ by_tids keys

module _ (sheet : Sheet) (tag : ℕ) (words : List ℕ) (tell : Tell sheet tag words) (tid : ℕ) (is_tid : IsTid sheet tid) where
  pub least_written : (keys : List ℕ) → All (λ k. k < sheet.keys) keys
      → least_of (told words tag side.Writes tid) None keys ≡ least (λ other. meets nat_cmp keys (writes_at sheet other)) (tids_before tid)
  least_written keys below = least_told sheet.writes tid is_tid.0 (told words tag side.Writes tid) keys
      (λ k d lt. ap (earlier_only tid) (tell.writers _ (below k d lt)))

  pub least_read : (keys : List ℕ) → All (λ k. k < sheet.keys) keys
      → least_of (told words tag side.Reads tid) None keys ≡ least (λ other. meets nat_cmp keys (reads_at sheet other)) (tids_before tid)
  least_read keys below = least_told sheet.reads tid is_tid.0 (told words tag side.Reads tid) keys
      (λ k d lt. ap (earlier_only tid) (tell.readers _ (below k d lt)))
