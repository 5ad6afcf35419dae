-- The rule holds when the board is made.
use Rattle.std.proofs.Common.{◌≡◌, ◌≢◌, ℕ, zero, suc, ◌+◌, ◌-◌, ◌<◌, ◌≤◌, ⊎_elim, Bool, true, false, List, [], ◌∷◌, map, length, sum_by, cond, sym, refl, ap, ◌∙◌, arith}
use Rattle.std.specs.Prelude.{nat_eq, ◌&&◌}
use Rattle.std.proofs.lemmas.Bool.{cases_lt, true≢false, false_from_ne_true}
use mathlib.Core.Option.{Option, some, none}
use lib.ListN.{get_elem?}
use Rattle.atomic_table.specs.Table.{opening}
use Rattle.atomic_table.proofs.Lists.{at_map}
use Rattle.aria_base.proofs.Shares.{each-push}
use Rattle.work_claim.specs.Rule.{times}
use Rattle.baton_crew.specs.Courses.{Course, IsCourse}
use Rattle.baton_crew.specs.Rule.{gone, opens, word_of, is_taken, is_ready, home_at, Kept, Holds, Idle, first_turn, first_ready, first_view}
use Rattle.baton_crew.specs.declared.rules.View.{View}
use Rattle.baton_crew.proofs.Words.{left_number, is_below, not_below, taken_within}
use Rattle.baton_crew.proofs.Passes.{gap}
use Rattle.baton_crew.proofs.Queues.{turn_first, ready_outside, ready_once}

module _ {S W : Type 0} (course : Course S) (is : IsCourse course) (w : W) (words : List ℕ) (rows : List S) (count : length words ≡ suc course.items)
    (counts : (x : ℕ) → x < course.items → word_of words x ≡ opens (first_turn course) x (course.touches x)) (small : (x : ℕ) → x < course.items
    → word_of words x < gone)
    (here : (k : ℕ) → k < course.slots → get_elem? rows k ≡ some (course.before 0 k)) where
  abbrev turn : ℕ → ℕ
  turn = first_turn course

  abbrev first : View W
  first = first_view course w

  nobody : (x : ℕ) → is_taken words x ≡ false
  nobody x = false_from_ne_true (is_taken words x) (λ was. true≢false (sym was
      ∙ left_number (word_of words x) (small x (let lt = taken_within words x was in omega arith))))

  ready_is : (x : ℕ) → times x (first_ready course) ≡ cond (is_ready course.items words x) 1 0
  ready_is x = ⊎_elim
      (λ lt.
      ready_once turn course.touches 0 course.items x (omega arith) (omega arith)
      ∙ ap (λ n. cond (nat_eq n 0) 1 0) (sym (counts x lt))
      ∙ sym (ap (λ b. cond (b && nat_eq (word_of words x) 0) 1 0) (is_below x course.items lt)))
      (λ ge. (ready_outside turn course.touches 0 course.items x).1 (omega arith)
      ∙ sym (ap (λ b. cond (b && nat_eq (word_of words x) 0) 1 0) (not_below x course.items ge)))
      (cases_lt x course.items)

  home_first : (k : ℕ) → k < course.slots → get_elem? (map some rows) k ≡ some (home_at course turn words k)
  home_first k lt =
      let t = turn_first course k in
      let z : turn k ≡ 0 + turn k = omega arith in
      let e : course.before (turn k) k ≡ course.before 0 k = ap (λ (n : ℕ). course.before n k) z
      ∙ gap course is 0 (turn k) k (let le = t.within in omega arith) (λ y from before. t.first y from (omega arith)) in
      at_map some rows k (course.before 0 k) (here k lt)
      ∙ ap (λ v. some (some v)) (sym e)
      ∙ sym (ap (λ b. some (cond b none (some (course.before (turn k) k)))) (nobody (turn k)))

  holds_none : Holds course turn first
  holds_none = record {
    turns = λ k there. absurd (omega arith);
    once = λ k. omega arith;
    mine = λ k there. absurd (omega arith);
    passed =
        λ x k there. absurd (omega arith);
  }

  pub opens_kept : Kept course (opening words rows first)
  opens_kept = (
    turn,
    record {
      words = count;
      shares = refl;
      turns = λ k. (let t = turn_first course k in let le = t.within in omega arith);
      queued = λ k lt. (turn_first course k).touched (omega arith);
      taken = λ x. sym (ap (λ b. cond b 1 0) (nobody x));
      ready = λ x. (let h = ready_is x in let sum : sum_by (λ (v : View W). times x v.ready) (first ∷ []) ≡ times x (first_ready course) = omega arith in sum
          ∙ h);
      waits = λ x lt not. record {
        count = counts x lt;
        behind = λ k touched. ⊎_elim
            (λ before. absurd (let untouched = (turn_first course k).first x (omega arith) before in omega arith))
            (λ ge. ge)
            (cases_lt x (turn k));
      };
      passes = λ x k was. absurd (true≢false (sym was ∙ nobody x));
      homes = home_first;
      holders = each-push (Holds course turn) [] first holds_none (λ i v there. absurd (mathlib.Core.Option.some-ne-none v (sym there)));
      idle = each-push Idle [] first (record { nothing_ready = λ none_. absurd (omega arith); nothing_taken = λ _. refl; nothing_held = λ _. refl })
          (λ i v there. absurd (mathlib.Core.Option.some-ne-none v (sym there)));
    },
  )
