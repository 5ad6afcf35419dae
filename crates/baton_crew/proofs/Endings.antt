-- Where one seat has all shares, nothing ready and no slot, every item was taken by it once, and each slot is at home for good.
use Rattle.std.proofs.Common.{◌≡◌, ◌≢◌, ℕ, zero, suc, ◌+◌, ◌<◌, ◌≤◌, ⊎_elim, Bool, true, false, List, [], ◌∷◌, cond, subst, sym, refl, ap, ◌∙◌, arith}
use Rattle.std.specs.Prelude.{nat_lt}
use Rattle.std.proofs.lemmas.Bool.{cases_eq, cases_lt, true_from_ne_false}
use mathlib.Core.Option.{Option, some, none}
use lib.ListN.{get_elem?}
use Rattle.atomic_table.specs.Table.{State, Final, Seen}
use Rattle.aria_base.proofs.Shares.{sum_by-alone}
use Rattle.aria_base.specs.Shares.{all_shares}
use Rattle.work_claim.specs.Rule.{times}
use Rattle.work_claim.specs.Seats.{IsEachOnce}
use Rattle.baton_crew.specs.Courses.{Course}
use Rattle.baton_crew.specs.Rule.{opens, word_of, is_taken, is_ready, Kept, KeptAt}
use Rattle.baton_crew.specs.declared.rules.View.{View}
use Rattle.baton_crew.proofs.Counts.{times-cons}
use Rattle.baton_crew.proofs.Seats.{share_of, taken_of, ready_of, none_there}
use Rattle.baton_crew.proofs.Words.{taken_within, ready_is, is_below, not_below}

-- none of the list passes
count-none : (f : ℕ → Bool) (ks : List ℕ) → ((q : ℕ) → 1 ≤ times q ks → f q ≡ false) → Rattle.std.specs.Prelude.count_by f ks ≡ 0
count-none f [] fails = refl
count-none f (y ∷ ys) fails =
    let here : ◌≡◌ {A = ℕ} (cond (f y) 1 0) 0 = ap (λ b. cond b 1 0) (fails y (omega (arith, Rattle.baton_crew.proofs.Counts.times-here y ys))) in
    let rest = count-none f ys (λ q there. fails q (omega (arith, times-cons q y ys))) in
    omega (arith, Rattle.baton_crew.proofs.Counts.count-cons f y ys)

module _ {S W : Type 0} (course : Course S) (id : ℕ) (v : View W) (whole : v.share ≡ all_shares) (none_ready : v.ready ≡ []) (free : v.held ≡ [])
    (s : State S (View W)) (turn : ℕ → ℕ) (kept : KeptAt {W = W} course turn s) (at : get_elem? s.views id ≡ some v) where
  alone_taken : (x : ℕ) → times x v.taken ≡ cond (is_taken s.words x) 1 0
  alone_taken x = sym (sum_by-alone share_of (taken_of x) s.views id v at (kept.shares ∙ sym whole)
      (λ i u there none. ap (times x) ((kept.idle i u there).nothing_taken none))) ∙ kept.taken x

  nobody_ready : (x : ℕ) → ◌≡◌ {A = ℕ} (cond (is_ready course.items s.words x) 1 0) 0
  nobody_ready x =
      sym (kept.ready x)
      ∙ sum_by-alone share_of (ready_of x) s.views id v at (kept.shares ∙ sym whole) (λ i u there none. ap (times x) ((kept.idle i u there).nothing_ready none))
      ∙ ap (times x) none_ready

  -- what was taken has been passed on
  passed_on : (x k : ℕ) → is_taken s.words x ≡ true → 1 ≤ times k (course.touches x) → turn k ≢ x
  passed_on x k was touched e =
      let mine : 1 ≤ times x v.taken = (let all = alone_taken x in let one : ◌≡◌ {A = ℕ} (cond (is_taken s.words x) 1 0) 1 = ap (λ b. cond b 1 0) was in
      omega arith) in
      none_there v.held k free ((kept.holders id v at).passed x k mine touched e).1

  -- the least that was not taken would wait for nothing, and be ready in a view
  least : (n : ℕ) → n < course.items → ((x : ℕ) → x < n → is_taken s.words x ≡ true) → is_taken s.words n ≡ true
  least n lt below = true_from_ne_false (is_taken s.words n) (λ not.
      let waits = kept.waits n lt not in
      let none_open : opens turn n (course.touches n) ≡ 0 = count-none (λ k. nat_lt (turn k) n) (course.touches n) (λ k touched. ⊎_elim
      (λ (before : turn k < n). absurd (passed_on (turn k) k (below (turn k) before) (kept.queued k (omega arith)) refl))
      (λ ge. not_below (turn k) n ge)
      (cases_lt (turn k) n)) in
      let is : is_ready course.items s.words n ≡ true = ready_is course.items n (word_of s.words n) lt (waits.count ∙ none_open) in
      let one : ◌≡◌ {A = ℕ} (cond (is_ready course.items s.words n) 1 0) 1 = ap (λ b. cond b 1 0) is in
      let nobody = nobody_ready n in
      absurd (omega arith))

  all_below : (n : ℕ) → n ≤ course.items → (x : ℕ) → x < n → is_taken s.words x ≡ true
  all_below zero le x lt = absurd (omega arith)
  all_below (suc n) le x lt = ⊎_elim
      (λ (e : x ≡ n). subst (λ (z : ℕ). is_taken s.words z ≡ true) (sym e) (least n (omega arith) (all_below n (omega arith))))
      (λ ne. all_below n (omega arith) x (omega arith))
      (cases_eq x n)

  pub all_taken : (x : ℕ) → x < course.items → is_taken s.words x ≡ true
  all_taken x lt = all_below course.items (omega arith) x lt

  pub each_once : IsEachOnce v.taken course.items
  each_once x = alone_taken x ∙ ⊎_elim
      (λ lt. ap (λ b. cond b 1 0) (all_taken x lt) ∙ sym (ap (λ b. cond b 1 0) (is_below x course.items lt)))
      (λ ge.
      ap (λ b. cond b 1 0) (Rattle.std.proofs.lemmas.Bool.false_from_ne_true (is_taken s.words x)
      (λ was. absurd (let lt = taken_within s.words x was in let all = kept.words in omega arith)))
      ∙ sym (ap (λ b. cond b 1 0) (not_below x course.items ge)))
      (cases_lt x course.items)

  pub turn_ends : (k : ℕ) → turn k ≡ course.items
  turn_ends k = ⊎_elim
      (λ lt. absurd (passed_on (turn k) k (all_taken (turn k) lt) (kept.queued k lt) refl))
      (λ ge. let le = kept.turns k in omega arith)
      (cases_lt (turn k) course.items)

  pub home_ends : (k : ℕ) → k < course.slots → get_elem? s.homes k ≡ some (some (course.before course.items k))
  home_ends k lt =
      kept.homes k lt
      ∙ ap (λ (n : ℕ). some (cond (is_taken s.words n) none (some (course.before n k)))) (turn_ends k)
      ∙ ap (λ b. some (cond b none (some (course.before course.items k))))
      (Rattle.std.proofs.lemmas.Bool.false_from_ne_true (is_taken s.words course.items)
      (λ was. absurd (let lt = taken_within s.words course.items was in let all = kept.words in omega arith)))

-- what closing gives
pub closes : {S W : Type 0} (course : Course S) (id : ℕ) (v : View W) → v.share ≡ all_shares → v.ready ≡ [] → v.held ≡ [] → (words : List ℕ) (xs : List S)
    → Final (Seen (Kept course) id v) words xs → IsEachOnce v.taken course.items
    × ((k : ℕ) → k < course.slots → get_elem? xs k ≡ some (course.before course.items k))
closes course id v whole none_ready free words xs (s, ((turn, kept), at), words_are, count, values) = (
  each_once course id v whole none_ready free s turn kept at,
  λ k lt. values k (course.before course.items k) (home_ends course id v whole none_ready free s turn kept at k lt),
)
