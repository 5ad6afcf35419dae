-- A seat that passes a slot on keeps the rule, whether another item waits for the slot or none does.
use Rattle.std.proofs.Common.{◌≡◌, ◌≢◌, ℕ, zero, suc, ◌+◌, ◌-◌, ◌%◌, ◌^◌, ◌<◌, ◌≤◌, ◌⊎◌, inl, inr, ⊎_elim, Bool, true, false, List, [], ◌∷◌, length, drop, get_or, set, sum_by, cond, eqb, subst, sym, refl, ap, ◌∙◌, arith, length-set, mod-eq_of_lt, get_or-set_other}
use Rattle.std.specs.Prelude.{nat_lt, nat_eq, ◌&&◌}
use Rattle.std.proofs.lemmas.Bool.{cases_eq, cases_lt, eq-eqb, ne_eqb, true≢false, false_from_ne_true}
use Rattle.std.proofs.Math.Nat.{add-mod_right}
use mathlib.Core.Option.{Option, some, none}
use lib.ListN.{get_elem?}
use Rattle.atomic_table.specs.Table.{State, Me, gives, Allows, rest, put_back}
use Rattle.atomic_table.proofs.Lists.{at_set, set_here, set_else}
use Rattle.aria_base.proofs.Shares.{each-set, sum_by-set, sum_by-at, sum_by-at_two}
use Rattle.work_claim.specs.Rule.{times}
use Rattle.baton_crew.specs.Courses.{Course, IsCourse, IsNext}
use Rattle.baton_crew.specs.Rule.{gone, opens, word_of, is_taken, is_ready, home_at, Waits, Kept, KeptAt, Holds, Idle, with_passed}
use Rattle.baton_crew.specs.declared.rules.View.{View}
use Rattle.baton_crew.proofs.Counts.{times-cons, times-append, count-some, count-same, count-less}
use Rattle.baton_crew.proofs.Homes.{there_below}
use Rattle.baton_crew.proofs.Seats.{taken_of, ready_of, none_there}
use Rattle.baton_crew.proofs.Words.{one_if, left_number, is_below, not_below, word_here, word_else, taken_within}

abbrev pub turned_on : ℕ → ℕ → (ℕ → ℕ) → ℕ → ℕ
turned_on k j turn q = cond (eqb q k) j (turn q)

turned_here : (k j : ℕ) (turn : ℕ → ℕ) → turned_on k j turn k ≡ j
turned_here k j turn = ap (λ b. cond b j (turn k)) (eq-eqb k k refl)

turned_else : (k j : ℕ) (turn : ℕ → ℕ) (q : ℕ) → q ≢ k → turned_on k j turn q ≡ turn q
turned_else k j turn q ne = ap (λ b. cond b j (turn q)) (ne_eqb q k ne)

pub gap : {S : Type 0} (course : Course S) (is : IsCourse course) (a d k : ℕ) → a + d ≤ course.items
    → ((y : ℕ) → a ≤ y → y < a + d → times k (course.touches y) ≡ 0)
    → course.before (a + d) k ≡ course.before a k
gap course is a zero k le untouched = ap (λ (n : ℕ). course.before n k) (omega arith)
gap course is a (suc d) k le untouched =
    ap (λ (n : ℕ). course.before n k) (omega arith)
    ∙ is.frame (a + d) k (omega arith) (untouched (a + d) (omega arith) (omega arith))
    ∙ gap course is a d k (omega arith) (λ y from to. untouched y from (omega arith))

module _ {S W : Type 0} (course : Course S) (is : IsCourse course) (id : ℕ) (me : Me S (View W)) (k j : ℕ) (ks : List ℕ) (y : S) (c : List (ℕ × S))
    (has_share : 0 < me.0.share) (held_is : me.0.held ≡ k ∷ ks) (carries : me.1 ≡ (k, y) ∷ c) (value : y ≡ course.before (suc me.0.item) k)
    (to : IsNext course me.0.item k j) (s : State S (View W)) (turn : ℕ → ℕ) (kept : KeptAt {W = W} course turn s) (at : get_elem? s.views id ≡ some me.0) where
  abbrev x : ℕ
  x = me.0.item

  abbrev turn' : ℕ → ℕ
  turn' = turned_on k j turn

  mine : Holds course turn me.0
  mine = kept.holders id me.0 at

  held_times : (q : ℕ) → times q me.0.held ≡ cond (eqb k q) 1 0 + times q (drop 1 me.0.held)
  held_times q = ap (times q) held_is ∙ times-cons q k ks ∙ ap (λ l. cond (eqb k q) 1 0 + times q l) (sym (ap (drop 1) held_is))

  holds_k : 1 ≤ times k me.0.held
  holds_k = let one : ◌≡◌ {A = ℕ} (cond (eqb k k) 1 0) 1 = ap (λ b. cond b 1 0) (eq-eqb k k refl) in omega (arith, held_times k)

  turn_k : turn k ≡ x
  turn_k = mine.turns k holds_k

  taken_x : 1 ≤ times x me.0.taken
  taken_x = mine.mine k holds_k

  was_taken : (seat : ℕ) (v : View W) → get_elem? s.views seat ≡ some v → (z : ℕ) → 1 ≤ times z v.taken → is_taken s.words z ≡ true
  was_taken seat v there z some_times = one_if (is_taken s.words z) (let least = sum_by-at (taken_of z) s.views seat v there in let all = kept.taken z in
      omega arith)

  x_taken : is_taken s.words x ≡ true
  x_taken = was_taken id me.0 at x taken_x

  within : x < course.items
  within = let lt = taken_within s.words x x_taken in let all = kept.words in omega arith

  touched_k : 1 ≤ times k (course.touches x)
  touched_k = subst (λ (z : ℕ). 1 ≤ times k (course.touches z)) turn_k (kept.queued k (let e = turn_k in let lt = within in omega arith))

  j_untaken : is_taken s.words j ≡ false
  j_untaken = false_from_ne_true (is_taken s.words j) (λ was. ⊎_elim
      (λ (lt : j < course.items). absurd (let le = kept.passes j k was (to.touches lt) in let e = turn_k in let later = to.later in omega arith))
      (λ ge. absurd (let lt = taken_within s.words j was in let all = kept.words in let le = to.within in omega arith))
      (cases_lt j course.items))

  waits_j : j < course.items → Waits course turn s.words j
  waits_j lt = kept.waits j lt j_untaken

  -- the next item's word counts this slot
  pub counted : j < course.items → 1 ≤ word_of s.words j
  counted lt =
      let some_open = count-some (λ q. nat_lt (turn q) j) k (course.touches j) (to.touches lt)
      (is_below (turn k) j (let e = turn_k in let later = to.later in omega arith)) in
      let count = (waits_j lt).count in
      omega arith

  module _ (words' more : List ℕ) (same_length : length words' ≡ length s.words) (else : (z : ℕ) → z ≢ j → word_of words' z ≡ word_of s.words z)
      (down : j < course.items → word_of words' j + 1 ≡ word_of s.words j) (stays : course.items ≤ j → word_of words' j ≡ word_of s.words j)
      (small : j < course.items → word_of s.words j < 18446744073709551616)
      (more_is : (z : ℕ) → times z more ≡ cond (nat_lt j course.items && nat_eq (word_of s.words j) 1) (cond (eqb j z) 1 0) 0) where
    abbrev next : View W
    next = with_passed more me.0

    taken_same : (z : ℕ) → is_taken words' z ≡ is_taken s.words z
    taken_same z = ⊎_elim
        (λ (e : z ≡ j). subst (λ (w : ℕ). is_taken words' w ≡ is_taken s.words w) (sym e)
        (⊎_elim
        (λ lt. left_number (word_of words' j) (let d = down lt in let m = small lt in omega arith) ∙ sym j_untaken)
        (λ ge. ap (λ n. nat_eq n gone) (stays ge))
        (cases_lt j course.items)))
        (λ ne. ap (λ n. nat_eq n gone) (else z ne))
        (cases_eq z j)

    kept_turns : (q : ℕ) → turn' q ≤ course.items
    kept_turns q = ⊎_elim
        (λ (e : q ≡ k). let h = subst (λ (w : ℕ). turn' w ≡ j) (sym e) (turned_here k j turn) in let le = to.within in omega arith)
        (λ ne. let h = turned_else k j turn q ne in let le = kept.turns q in omega arith)
        (cases_eq q k)

    kept_queued : (q : ℕ) → turn' q < course.items → 1 ≤ times q (course.touches (turn' q))
    kept_queued q lt = ⊎_elim
        (λ (e : q ≡ k).
        let h : turn' q ≡ j = subst (λ (w : ℕ). turn' w ≡ j) (sym e) (turned_here k j turn) in
        subst (λ (w : ℕ). 1 ≤ times q (course.touches w)) (sym h) (subst (λ (w : ℕ). 1 ≤ times w (course.touches j)) (sym e) (to.touches (omega arith))))
        (λ ne. let h = turned_else k j turn q ne in subst (λ (w : ℕ). 1 ≤ times q (course.touches w)) (sym h) (kept.queued q (omega arith)))
        (cases_eq q k)

    kept_taken : (z : ℕ) → sum_by (taken_of z) (set s.views id next) ≡ cond (is_taken words' z) 1 0
    kept_taken z =
        (let sum = sum_by-set (taken_of z) s.views id me.0 next at in omega arith) ∙ kept.taken z ∙ sym (ap (λ b. cond b 1 0) (taken_same z))

    ready_grows : (z : ℕ) → ◌≡◌ {A = ℕ} (cond (is_ready course.items words' z) 1 0) (cond (is_ready course.items s.words z) 1 0 + times z more)
    ready_grows z = ⊎_elim
        (λ (e : z ≡ j). subst (λ (w : ℕ). ◌≡◌ {A = ℕ} (cond (is_ready course.items words' w) 1 0) (cond (is_ready course.items s.words w) 1 0 + times w more))
        (sym e) (at_j (cases_lt j course.items)))
        (λ ne.
        let same : ◌≡◌ {A = ℕ} (cond (is_ready course.items words' z) 1 0) (cond (is_ready course.items s.words z) 1 0) =
        ap (λ n. cond (nat_lt z course.items && nat_eq n 0) 1 0) (else z ne) in
        let none_more : times z more ≡ 0 = more_is z ∙ ap (λ b. cond (nat_lt j course.items && nat_eq (word_of s.words j) 1) (cond b 1 0) 0)
        (ne_eqb j z (λ f. ne (sym f))) ∙ Rattle.baton_crew.proofs.Words.no_matter _ in
        omega arith)
        (cases_eq z j)
      where
        at_j : (j < course.items) ⊎ (course.items ≤ j) → ◌≡◌ {A = ℕ} (cond (is_ready course.items words' j) 1 0)
            (cond (is_ready course.items s.words j) 1 0 + times j more)
        at_j (inl lt) =
            Rattle.baton_crew.proofs.Words.ready_down course.items j (word_of s.words j) (word_of words' j) lt (down lt)
            ∙ ap (λ n. cond (is_ready course.items s.words j) 1 0 + n) (sym (more_is j))
        at_j (inr ge) =
            let m : times j more ≡ 0 = more_is j ∙ ap (λ b. cond (b && nat_eq (word_of s.words j) 1) (cond (eqb j j) 1 0) 0) (not_below j course.items ge) in
            let same : ◌≡◌ {A = ℕ} (cond (is_ready course.items words' j) 1 0) (cond (is_ready course.items s.words j) 1 0) =
            ap (λ n. cond (nat_lt j course.items && nat_eq n 0) 1 0) (stays ge) in
            omega arith

    kept_ready : (z : ℕ) → sum_by (ready_of z) (set s.views id next) ≡ cond (is_ready course.items words' z) 1 0
    kept_ready z =
        let sum = sum_by-set (ready_of z) s.views id me.0 next at in
        let all = kept.ready z in
        let grows = ready_grows z in
        omega (arith, times-append z me.0.ready more)

    untaken_apart : (z : ℕ) → is_taken s.words z ≡ false → z ≢ x
    untaken_apart z not e = true≢false (sym x_taken ∙ subst (λ (w : ℕ). is_taken s.words w ≡ false) e not)

    kept_waits : (z : ℕ) → z < course.items → is_taken words' z ≡ false → Waits course turn' words' z
    kept_waits z lt not = record { count = count; behind = behind }
      where
        not' : is_taken s.words z ≡ false
        not' = sym (taken_same z) ∙ not

        old : Waits course turn s.words z
        old = kept.waits z lt not'

        beyond : x < z → 1 ≤ times k (course.touches z) → j ≤ z
        beyond past touched = ⊎_elim (λ before. absurd (let none_there = to.first z past before in omega arith)) (λ ge. ge) (cases_lt z j)

        behind : (q : ℕ) → 1 ≤ times q (course.touches z) → turn' q ≤ z
        behind q touched = ⊎_elim
            (λ (e : q ≡ k).
            let h : turn' q ≡ j = subst (λ (w : ℕ). turn' w ≡ j) (sym e) (turned_here k j turn) in
            let there : 1 ≤ times k (course.touches z) = subst (λ (w : ℕ). 1 ≤ times w (course.touches z)) e touched in
            let le = old.behind k there in
            let t = turn_k in
            let ne : z ≢ x = untaken_apart z not' in
            let past : x < z = omega arith in
            let far = beyond past there in
            omega arith)
            (λ ne. let h = turned_else k j turn q ne in let le = old.behind q touched in omega arith)
            (cases_eq q k)

        below_same : (z ≢ j) → (q : ℕ) → 1 ≤ times q (course.touches z) → nat_lt (turn q) z ≡ nat_lt (turn' q) z
        below_same other q touched = ⊎_elim
            (λ (e : q ≡ k).
            let h : turn' q ≡ j = subst (λ (w : ℕ). turn' w ≡ j) (sym e) (turned_here k j turn) in
            let t : turn q ≡ x = subst (λ (w : ℕ). turn w ≡ x) (sym e) turn_k in
            let there : 1 ≤ times k (course.touches z) = subst (λ (w : ℕ). 1 ≤ times w (course.touches z)) e touched in
            let le = old.behind k there in
            let tk = turn_k in
            let ne : z ≢ x = untaken_apart z not' in
            let past : x < z = omega arith in
            let far = beyond past there in
            is_below (turn q) z (omega arith) ∙ sym (is_below (turn' q) z (omega arith)))
            (λ ne. ap (λ n. nat_lt n z) (sym (turned_else k j turn q ne)))
            (cases_eq q k)

        count : word_of words' z ≡ opens turn' z (course.touches z)
        count = ⊎_elim
            (λ (e : z ≡ j). subst (λ (w : ℕ). word_of words' w ≡ opens turn' w (course.touches w)) (sym e)
            (let lt' : j < course.items = omega arith in
            let there = to.touches lt' in
            let once = is.once j k lt' in
            let later = to.later in
            let tk = turn_k in
            let th = turned_here k j turn in
            let less = count-less (λ q. nat_lt (turn q) j) (λ q. nat_lt (turn' q) j) k (course.touches j) (omega arith) (is_below (turn k) j (omega arith))
            (not_below (turn' k) j (omega arith))
            (λ q ne. ap (λ n. nat_lt n j) (sym (turned_else k j turn q ne))) in
            let d = down lt' in
            let o = (waits_j lt').count in
            omega arith))
            (λ ne. else z ne ∙ old.count ∙ count-same (λ q. nat_lt (turn q) z) (λ q. nat_lt (turn' q) z) (course.touches z) (below_same ne))
            (cases_eq z j)

    kept_passes : (z q : ℕ) → is_taken words' z ≡ true → 1 ≤ times q (course.touches z) → z ≤ turn' q
    kept_passes z q was touched =
        let le = kept.passes z q (sym (taken_same z) ∙ was) touched in
        ⊎_elim
        (λ (e : q ≡ k).
        let h : turn' q ≡ j = subst (λ (w : ℕ). turn' w ≡ j) (sym e) (turned_here k j turn) in
        let t : turn q ≡ x = subst (λ (w : ℕ). turn w ≡ x) (sym e) turn_k in
        let later = to.later in
        omega arith)
        (λ ne. let h = turned_else k j turn q ne in omega arith)
        (cases_eq q k)

    value_j : y ≡ course.before j k
    value_j =
        value
        ∙ sym (ap (λ (n : ℕ). course.before n k) (let later = to.later in omega arith)
        ∙ gap course is (suc x) (j - suc x) k (let later = to.later in let le = to.within in omega arith)
        (λ z from before. to.first z (omega arith) (let later = to.later in omega arith)))

    kept_homes : (q : ℕ) → q < course.slots → get_elem? (put_back s.homes me.1) q ≡ some (home_at course turn' words' q)
    kept_homes q lt = ap (λ l. get_elem? (put_back s.homes l) q) carries ∙ ⊎_elim
        (λ (e : q ≡ k). subst (λ (w : ℕ). get_elem? (set s.homes k (some y)) w ≡ some (home_at course turn' words' w)) (sym e)
        (set_here s.homes k (some y) (there_below s.homes k _ (kept.homes k (is.within x k within touched_k)))
        ∙ ap (λ v. some (some v)) value_j
        ∙ sym (ap (λ (n : ℕ). some (cond (is_taken words' n) none (some (course.before n k)))) (turned_here k j turn)
        ∙ ap (λ b. some (cond b none (some (course.before j k)))) (taken_same j ∙ j_untaken))))
        (λ ne.
        set_else s.homes k q (some y) ne ∙ kept.homes q lt
        ∙ sym (ap (λ (n : ℕ). some (cond (is_taken words' n) none (some (course.before n q)))) (turned_else k j turn q ne)
        ∙ ap (λ b. some (cond b none (some (course.before (turn q) q)))) (taken_same (turn q))))
        (cases_eq q k)

    -- no seat has taken the item that comes next
    next_untaken : {P : Type 0} (seat : ℕ) (v : View W) → get_elem? s.views seat ≡ some v → 1 ≤ times j v.taken → P
    next_untaken {P} seat v there some_times = absurd (true≢false (sym (was_taken seat v there j some_times) ∙ j_untaken))

    holds_next : Holds course turn' next
    holds_next = record {
      turns = λ q there.
          let in_held : 1 ≤ times q me.0.held = omega (arith, held_times q) in
          turned_else k j turn q (apart q there) ∙ mine.turns q in_held;
      once = λ q. (let once = mine.once q in omega (arith, held_times q));
      mine = λ q there. mine.mine q (omega (arith, held_times q));
      passed = λ z q there touched turns. ⊎_elim
          (λ (e : q ≡ k).
          let h : turn' q ≡ j = subst (λ (w : ℕ). turn' w ≡ j) (sym e) (turned_here k j turn) in
          next_untaken id me.0 at (subst (λ (w : ℕ). 1 ≤ times w me.0.taken) (sym turns ∙ h) there))
          (λ ne.
          let old = mine.passed z q there touched (sym (turned_else k j turn q ne) ∙ turns) in (
            old.0,
            (let none_here : ◌≡◌ {A = ℕ} (cond (eqb k q) 1 0) 0 = ap (λ b. cond b 1 0) (ne_eqb k q (λ f. ne (sym f))) in let in_held = old.1 in
                omega (arith, held_times q)),
          ))
          (cases_eq q k);
    }
      where
        apart : (q : ℕ) → 1 ≤ times q (drop 1 me.0.held) → q ≢ k
        apart q there e =
            let one : ◌≡◌ {A = ℕ} (cond (eqb k q) 1 0) 1 = ap (λ b. cond b 1 0) (eq-eqb k q (sym e)) in
            let once = mine.once q in
            omega (arith, held_times q)

    holds_other : (seat : ℕ) (v : View W) → seat ≢ id → get_elem? s.views seat ≡ some v → Holds course turn' v
    holds_other seat v other there = record {
      turns = λ q has. ⊎_elim
          (λ (e : q ≡ k).
          let t : turn k ≡ v.item = subst (λ (w : ℕ). turn w ≡ v.item) e (old.turns q has) in
          let same : v.item ≡ x = sym t ∙ turn_k in
          let theirs : 1 ≤ times x v.taken = subst (λ (w : ℕ). 1 ≤ times w v.taken) same (old.mine q has) in
          let both = sum_by-at_two (taken_of x) s.views seat id v me.0 other there at in
          let all : sum_by (taken_of x) s.views ≡ 1 = kept.taken x ∙ ap (λ b. cond b 1 0) x_taken in
          let ours = taken_x in
          absurd (omega arith))
          (λ ne. turned_else k j turn q ne ∙ old.turns q has)
          (cases_eq q k);
      once = old.once;
      mine = old.mine;
      passed = λ z q has touched turns. ⊎_elim
          (λ (e : q ≡ k).
          let h : turn' q ≡ j = subst (λ (w : ℕ). turn' w ≡ j) (sym e) (turned_here k j turn) in
          next_untaken seat v there (subst (λ (w : ℕ). 1 ≤ times w v.taken) (sym turns ∙ h) has))
          (λ ne. old.passed z q has touched (sym (turned_else k j turn q ne) ∙ turns))
          (cases_eq q k);
    }
      where
        old : Holds course turn v
        old = kept.holders seat v there

    passing : KeptAt course turn' record { words = words'; homes = put_back s.homes me.1; views = set s.views id next }
    passing = record {
      words = same_length ∙ kept.words;
      shares = (let sum = sum_by-set (λ (v : View W). v.share) s.views id me.0 next at in omega arith) ∙ kept.shares;
      turns = kept_turns;
      queued = kept_queued;
      taken = kept_taken;
      ready = kept_ready;
      waits = kept_waits;
      passes = kept_passes;
      homes = kept_homes;
      holders = λ seat v there. ⊎_elim
          (λ here. subst (Holds course turn') here.1 holds_next)
          (λ else_. holds_other seat v else_.0 else_.1)
          (at_set s.views id seat next v there);
      idle = each-set Idle s.views id next (record {
        nothing_ready = λ none. absurd (omega arith);
        nothing_taken = λ none. absurd (omega arith);
        nothing_held =
            λ none. absurd (omega arith);
      }) kept.idle;
    }

one_fewer : (n : ℕ) → 1 ≤ n → n < 2 ^ 64 → (n + (2 ^ 64 - 1)) % 2 ^ 64 ≡ n - 1
one_fewer n some_left lt = ap (λ m. m % 2 ^ 64) (let e : n + (2 ^ 64 - 1) ≡ (n - 1) + 2 ^ 64 = omega arith in e) ∙ add-mod_right (n - 1) (2 ^ 64)
    ∙ mod-eq_of_lt (omega arith)

times-more : (b : Bool) (z j : ℕ) → ◌≡◌ {A = ℕ} (times z (cond b (j ∷ []) [])) (cond b (cond (eqb j z) 1 0) 0)
times-more true z j = let h = times-cons z j [] in omega arith
times-more false z j = refl

module _ {S W : Type 0} (course : Course S) (is : IsCourse course) (slots id : ℕ) (me : Me S (View W)) (k j : ℕ) (ks : List ℕ) (y : S) (c : List (ℕ × S)) where
  -- The slot goes home for item j, whose word comes down by one.
  pub passes : 0 < me.0.share → me.0.held ≡ k ∷ ks → me.1 ≡ (k, y) ∷ c → y ≡ course.before (suc me.0.item) k → IsNext course me.0.item k j → j < course.items
      → Allows (Kept course) slots id me (suc j) (λ n. (n + (2 ^ 64 - 1)) % 2 ^ 64)
      (λ n me'. me' ≡ (with_passed (cond (nat_eq n 1) (j ∷ []) []) me.0, rest me.1))
  passes has_share held_is carries value to lt s (turn, kept) homes at small =
      let found : ℕ = word_of s.words j in
      let some_left : 1 ≤ found = counted course is id me k j ks y c has_share held_is carries value to s turn kept at lt in
      let word' : ℕ = (found + (2 ^ 64 - 1)) % 2 ^ 64 in
      let fewer : word' ≡ found - 1 = one_fewer found some_left small in
      let room : suc j < length s.words = (let all = kept.words in omega arith) in
      let more : List ℕ = cond (nat_eq found 1) (j ∷ []) [] in (
        with_passed more me.0,
        gives,
        tt,
        (
          turned_on k j turn,
          passing course is id me k j ks y c has_share held_is carries value to s turn kept at (set s.words (suc j) word') more
              (length-set s.words (suc j) word') (word_else s.words j word')
              (λ _. let h = word_here s.words j word' room in omega arith)
              (λ ge. absurd (omega arith))
              (λ _. small)
              (λ z. times-more (nat_eq found 1) z j ∙ sym (ap (λ b. cond (b && nat_eq found 1) (cond (eqb j z) 1 0) 0) (is_below j course.items lt))),
        ),
        refl,
      )

  -- The slot goes home for good: no item comes that touches it.
  pub ends : 0 < me.0.share → me.0.held ≡ k ∷ ks → me.1 ≡ (k, y) ∷ c → y ≡ course.before (suc me.0.item) k → IsNext course me.0.item k course.items
      → Allows (Kept course) slots id me 0 (λ n. n) (λ n me'. me' ≡ (with_passed [] me.0, rest me.1))
  ends has_share held_is carries value to s (turn, kept) homes at small =
      let n : ℕ = get_or s.words 0 0 in (
        with_passed [] me.0,
        gives,
        tt,
        (
          turned_on k course.items turn,
          passing course is id me k course.items ks y c has_share held_is carries value to s turn kept at (set s.words 0 n) [] (length-set s.words 0 n)
              (λ z ne. get_or-set_other s.words 0 (suc z) n 0 (λ e. absurd (omega arith)))
              (λ lt. absurd (omega arith))
              (λ _. get_or-set_other s.words 0 (suc course.items) n 0 (λ e. absurd (omega arith)))
              (λ lt. absurd (omega arith))
              (λ z. sym (ap (λ b. cond (b && nat_eq (word_of s.words course.items) 1) (cond (eqb course.items z) 1 0) 0)
              (not_below course.items course.items (omega arith)))),
        ),
        refl,
      )
