-- Each kind of step keeps the rule, and closing gives every number once.
use Rattle.std.proofs.Common.{◌≡◌, ℕ, zero, suc, ◌+◌, ◌%◌, ◌^◌, ◌<◌, ◌≤◌, List, [], ◌∷◌, ◌++◌, length, get_or, set, sum_by, cond, eqb, leb, ⊎_elim, subst, sym, refl, ap, ◌∙◌, arith, length-set, get_or-set_same, mod-eq_of_lt, All, Contains}
use Rattle.std.proofs.lemmas.Bool.{eq-eqb, ne_eqb, cases_eq}
use Rattle.std.proofs.lemmas.Bool.Decides.{nat_tests}
use Rattle.std.proofs.lemmas.List.Sums.{sum_by-cons, sum_by-append, sum_by_push}
use mathlib.Core.Option.{none}
use Rattle.atomic_table.specs.Table.{Me, step, Allows, Splits, Joins, Final, Seen, keeps}
use Rattle.atomic_table.proofs.Lists.{set_else}
use Rattle.aria_base.proofs.Shares.{Each, each-set, each-push, sum_by-set, sum_by-set_two, sum_by-set_push, sum_by-at, sum_by-each, sum_by-alone}
use Rattle.work_claim.specs.declared.rules.View.{View}
use Rattle.work_claim.specs.Seats.{Offer, Drawer}
use Rattle.aria_base.specs.Shares.{all_shares}
use Rattle.work_claim.specs.Rule.{view, times, once_below, misses, FewMisses, Idle, Kept, drew, one_less, one, sum_of, spent_view}

abbrev share_of : View → ℕ
share_of v = v.share

abbrev times_of : ℕ → View → ℕ
times_of x v = times x v.drawn

abbrev misses_of : ℕ → View → ℕ
misses_of bound v = misses bound v.drawn

-- ---- counts in one list

times-push : (x : ℕ) (xs : List ℕ) (y : ℕ) → times x (xs ++ y ∷ []) ≡ times x xs + cond (eqb y x) 1 0
times-push x xs y = sum_by_push (λ z. cond (eqb z x) 1 0) xs y

misses-push : (bound : ℕ) (xs : List ℕ) (y : ℕ) → misses bound (xs ++ y ∷ []) ≡ misses bound xs + cond (leb bound y) 1 0
misses-push bound xs y = sum_by_push (λ z. cond (leb bound z) 1 0) xs y

times-append : (x : ℕ) (xs ys : List ℕ) → times x (xs ++ ys) ≡ times x xs + times x ys
times-append x xs ys = sum_by-append (λ z. cond (eqb z x) 1 0) xs ys

misses-append : (bound : ℕ) (xs ys : List ℕ) → misses bound (xs ++ ys) ≡ misses bound xs + misses bound ys
misses-append bound xs ys = sum_by-append (λ z. cond (leb bound z) 1 0) xs ys

-- what stands in a list is counted
pub times-contained : (xs : List ℕ) (k d : ℕ) → k < length xs → 1 ≤ times (get_or xs k d) xs
times-contained [] k d lt = absurd (omega arith)
times-contained (y ∷ ys) zero d lt = rw (sum_by-cons (λ z. cond (eqb z y) 1 0) y ys, eq-eqb y y refl) (omega arith)
times-contained (y ∷ ys) (suc k) d lt =
    let rest = times-contained ys k d (omega arith) in
    let x : ℕ = get_or ys k d in
    omega (arith, sum_by-cons (λ z. cond (eqb z x) 1 0) y ys)

misses-none : (bound : ℕ) (xs : List ℕ) → All (λ x. x < bound) xs → misses bound xs ≡ 0
misses-none bound [] below = refl
misses-none bound (y ∷ ys) below = let here : y < bound = below 0 0 (omega arith) in let rest =
    misses-none bound ys (λ k d lt. below (suc k) d (omega arith)) in grind (arith, nat_tests, sum_by-cons (λ z. cond (leb bound z) 1 0) y ys)

-- ---- counts after a draw

once-next : (x c : ℕ) → once_below x c + cond (eqb c x) 1 0 ≡ once_below x (c + 1)
once-next x c = grind (arith, nat_tests)

once-bound : (x c : ℕ) → 1 ≤ once_below x c → x < c
once-bound x c counted = grind (arith, nat_tests)

miss-next : (bound c m : ℕ) → c ≤ bound + m → c + 1 ≤ bound + (m + cond (leb bound c) 1 0)
miss-next bound c m le = grind (arith, nat_tests)

one-miss : (bound c : ℕ) → cond (leb bound c) 1 0 ≤ 1
one-miss bound c = grind (arith, nat_tests)

-- the word is far from wrapping
word-small : (bound c : ℕ) (views : List View) → c ≤ bound + sum_by (misses_of bound) views → Each (FewMisses bound) views → sum_by share_of views ≡ all_shares
    → c ≤ bound + all_shares
word-small bound c views le few shares = let most = sum_by-each (misses_of bound) share_of views few in omega arith

-- A draw finds a number that nobody drew, and keeps the rule
pub draws : (bound slots id : ℕ) (me : Me (Unit {0}) View) → 0 < me.0.share → bound < 2 ^ 32 → All (λ x. x < bound) me.0.drawn
    → Allows (Kept bound) slots id me 1 (λ n. (n + 1) % 2 ^ 64) (drew (step slots 1 1 0 none) me)
draws bound slots id me has_share fits below s kept homes at small = (
  next,
  keeps,
  tt,
  record {
    two_words = length-set s.words 1 after ∙ kept.two_words;
    shares = let sum = sum_by-set share_of s.views id me.0 next at in let all = kept.shares in omega arith;
    once = λ x.
        let sum = sum_by-set (times_of x) s.views id me.0 next at in
        let all = kept.once x in
        let pushed = times-push x me.0.drawn found in
        let counted = once-next x found in
        subst (λ (c : ℕ). sum_by (times_of x) (set s.views id next) ≡ once_below x c) (sym word_is) (omega arith);
    small =
        let sum = sum_by-set (misses_of bound) s.views id me.0 next at in
        let pushed = misses-push bound me.0.drawn found in
        let counted = miss-next bound found (sum_by (misses_of bound) s.views) kept.small in
        subst (λ (c : ℕ). c ≤ bound + sum_by (misses_of bound) (set s.views id next)) (sym word_is) (omega arith);
    few_misses = each-set (FewMisses bound) s.views id next few kept.few_misses;
    idle = each-set Idle s.views id next (λ none. absurd (omega arith)) kept.idle;
  },
  (
    refl,
    λ k d lt. once-bound (get_or me.0.drawn k d) found (let x : ℕ = get_or me.0.drawn k d in let here = times-contained me.0.drawn k d lt in let all =
        kept.once x in let most = sum_by-at (times_of x) s.views id me.0 at in omega arith),
  ),
)
  where
    found : ℕ
    found = get_or s.words 1 0

    after : ℕ
    after = (found + 1) % 2 ^ 64

    next : View
    next = view me.0.share (me.0.drawn ++ found ∷ [])

    word_is : get_or (set s.words 1 after) 1 0 ≡ found + 1
    word_is = let low = word-small bound found s.views kept.small kept.few_misses kept.shares in
        get_or-set_same s.words 1 after 0 (omega (arith, kept.two_words)) ∙ mod-eq_of_lt (omega arith)

    few : FewMisses bound next
    few = let none = misses-none bound me.0.drawn below in let pushed = misses-push bound me.0.drawn found in let most = one-miss bound found in omega arith

-- a new seat has drawn nothing
pub splits : (bound id : ℕ) (v : View) → 2 ≤ v.share → All (λ x. x < bound) v.drawn → Splits (Kept bound) id v (one_less v) one
splits bound id v shares below s kept at = record {
  two_words = kept.two_words;
  shares = let sum = sum_by-set_push share_of s.views id v (one_less v) one at in let all = kept.shares in omega arith;
  once = λ x. let sum = sum_by-set_push (times_of x) s.views id v (one_less v) one at in let all = kept.once x in omega arith;
  small = let sum = sum_by-set_push (misses_of bound) s.views id v (one_less v) one at in let le = kept.small in omega arith;
  few_misses = each-push (FewMisses bound) (set s.views id (one_less v)) one (omega arith)
      (each-set (FewMisses bound) s.views id (one_less v) (let none = misses-none bound v.drawn below in omega arith) kept.few_misses);
  idle = each-push Idle (set s.views id (one_less v)) one (λ none. refl) (each-set Idle s.views id (one_less v) (λ none. absurd (omega arith)) kept.idle);
}

-- a seat takes the numbers and the shares of another, which has none afterwards
pub joins : (bound id : ℕ) (v : View) (other : ℕ) (w : View) → 0 < v.share → Joins (Kept bound) id v other w (sum_of v w) spent_view
joins bound id v other w has_share s kept at apart at' = record {
  two_words = kept.two_words;
  shares = let sum = sum_by-set_two share_of s.views id other v (sum_of v w) w spent_view at at' in let all = kept.shares in omega arith;
  once = λ x.
      let sum = sum_by-set_two (times_of x) s.views id other v (sum_of v w) w spent_view at at' in
      let all = kept.once x in
      omega (arith, times-append x v.drawn w.drawn);
  small =
      let sum = sum_by-set_two (misses_of bound) s.views id other v (sum_of v w) w spent_view at at' in
      let le = kept.small in
      omega (arith, misses-append bound v.drawn w.drawn);
  few_misses = each-set (FewMisses bound) (set s.views id (sum_of v w)) other spent_view (omega arith)
      (each-set (FewMisses bound) s.views id (sum_of v w) few kept.few_misses);
  idle = each-set Idle (set s.views id (sum_of v w)) other spent_view (λ _. refl)
      (each-set Idle s.views id (sum_of v w) (λ none. absurd (omega arith)) kept.idle);
}
  where
    few : FewMisses bound (sum_of v w)
    few =
        let mine = kept.few_misses id v at in
        let theirs = kept.few_misses other w (sym (set_else s.views id other (sum_of v w) apart) ∙ at') in
        omega (arith, misses-append bound v.drawn w.drawn)

-- where one seat has all shares, it has drawn every number below the word
pub closes : (bound id : ℕ) (v : View) (words : List ℕ) (xs : List (Unit {0})) → v.share ≡ all_shares → Final (Seen (Kept bound) id v) words xs
    → (x : ℕ) → times x v.drawn ≡ once_below x (get_or words 1 0)
closes bound id v words xs whole (s, (kept, at), words_are, count, values) x =
    sym (sum_by-alone share_of (times_of x) s.views id v at (kept.shares ∙ sym whole) (λ j u there none. ap (times x) (kept.idle j u there none)))
    ∙ kept.once x ∙ ap (λ ws. once_below x (get_or ws 1 0)) words_are

-- a seat's numbers are below the table's bound where they are below that of the claims
pub below-key : (offer offer' : Offer) (seat seat' : Drawer) (key : ℕ) → offer ≡ offer' → seat ≡ seat' → key ≡ offer.bound
    → All (λ x. x < offer'.bound) seat'.drawn → All (λ x. x < key) seat.drawn
below-key offer offer' seat seat' key same_offer same_seat same_key below =
    subst (λ (s : Drawer). All (λ x. x < key) s.drawn) (sym same_seat)
    (λ k d lt. let here = below k d lt in omega (arith, ap (λ (o : Offer). o.bound) same_offer))

-- what is counted stands in the list
pub counted-contained : (x : ℕ) (xs : List ℕ) → 1 ≤ times x xs → Contains xs x
counted-contained x [] some_times = absurd (omega arith)
counted-contained x (y ∷ ys) some_times =
    ⊎_elim
    (λ here. (0, omega arith, here))
    (λ else.
    let there : 1 ≤ times x ys = grind (arith, sum_by-cons (λ z. cond (eqb z x) 1 0) y ys, ne_eqb y x else) in
    let at = counted-contained x ys there in
    (suc at.0, omega (arith, at.1), at.2))
    (cases_eq y x)
