-- What a draw adds to what a worker did, and what workers did together.
use Rattle.std.proofs.Common.{◌≡◌, refl, sym, ap, subst, ◌∙◌, ℕ, zero, suc, ◌+◌, ◌-◌, ◌<◌, ◌≤◌, Bool, cond, eqb, zero-add, List, [], ◌∷◌, ◌++◌, length, get_or, arith, All, Contains, ⊎_elim}
use Rattle.std.specs.Prelude.{nat_lt, true, false}
use Rattle.std.proofs.lemmas.Bool.{eq-eqb, ne_eqb, cases_eq}
use Rattle.std.proofs.lemmas.Bool.Decides.{nat_tests}
use Rattle.std.proofs.lemmas.List.{append-nil}
use Rattle.std.proofs.lemmas.List.Sums.{sum_by-cons}
use Rattle.std.proofs.lemmas.List.Elements.{All-push, All-contains, Contains-push, Contains-append_left, filter-append}
use Rattle.aria_base.specs.Shares.{all_shares}
use Rattle.work_claim.specs.Rule.{times, once_below}
use Rattle.work_claim.specs.Seats.{IsEachOnce, Drawer, Drew}
use Rattle.work_crew.specs.Hands.{HasDoneAll, IsPart, places_of}

times-cons : (x y : ℕ) (ys : List ℕ) → times x (y ∷ ys) ≡ cond (eqb y x) 1 0 + times x ys
times-cons x y ys = sum_by-cons (λ z. cond (eqb z x) 1 0) y ys

times-contained : (xs : List ℕ) (k d : ℕ) → k < length xs → 1 ≤ times (get_or xs k d) xs
times-contained [] k d lt = absurd (omega arith)
times-contained (y ∷ ys) zero d lt = rw (times-cons y y ys, eq-eqb y y refl) (omega arith)
times-contained (y ∷ ys) (suc k) d lt = let rest = times-contained ys k d (omega arith) in omega (arith, times-cons (get_or ys k d) y ys)

-- what was drawn is below the count of draws
pub below_end : (drawn : List ℕ) (c x : ℕ) → IsEachOnce drawn c → Contains drawn x → x < c
below_end drawn c x once has =
    let drawn_once : 1 ≤ times x drawn = subst (λ y. 1 ≤ times y drawn) has.2 (times-contained drawn has.0 x has.1) in
    let le : 1 ≤ once_below x c = rw (← once x) drawn_once in grind (arith, nat_tests)

-- a number that is counted stands in the list
counted : (xs : List ℕ) (x : ℕ) → 1 ≤ times x xs → Contains xs x
counted [] x le = absurd (omega arith)
counted (y ∷ ys) x le = ⊎_elim
    (λ (e : y ≡ x). (0, omega arith, e))
    (λ ne.
    let e : times x (y ∷ ys) ≡ 0 + times x ys = times-cons x y ys ∙ ap (λ b. cond b 1 0 + times x ys) (ne_eqb y x ne) in
    let rest = counted ys x (omega arith) in (suc rest.0, (let lt = rest.1 in omega arith), rest.2))
    (cases_eq y x)

pub drawn_below : (drawn : List ℕ) (c x : ℕ) → IsEachOnce drawn c → x < c → Contains drawn x
drawn_below drawn c x once lt = counted drawn x (rw (once x) (grind (arith, nat_tests)))

-- ---- places among drawn numbers

is_place : (count x : ℕ) → x < count → nat_lt x count ≡ true
is_place count x lt = grind (arith, nat_tests)

no_place : (count x : ℕ) → count ≤ x → nat_lt x count ≡ false
no_place count x le = grind (arith, nat_tests)

place_drawn : (count x : ℕ) (drawn : List ℕ) → x < count → places_of count (drawn ++ x ∷ []) ≡ places_of count drawn ++ x ∷ []
place_drawn count x drawn lt =
    filter-append (λ y. nat_lt y count) drawn (x ∷ []) ∙ ap (λ b. places_of count drawn ++ cond b (x ∷ []) []) (is_place count x lt)

place_missed : (count x : ℕ) (drawn : List ℕ) → count ≤ x → places_of count (drawn ++ x ∷ []) ≡ places_of count drawn
place_missed count x drawn le =
    filter-append (λ y. nat_lt y count) drawn (x ∷ []) ∙ ap (λ b. places_of count drawn ++ cond b (x ∷ []) []) (no_place count x le)
    ∙ append-nil (places_of count drawn)

counted_one : (x y : ℕ) (b : Bool) (ys : List ℕ) → times x (cond b (y ∷ ys) ys) ≡ cond b (cond (eqb y x) 1 0) 0 + times x ys
counted_one x y true ys = times-cons x y ys
counted_one x y false ys = sym (zero-add (times x ys))

one_place : (count x y n : ℕ) → cond (nat_lt y count) (cond (eqb y x) 1 0) 0 + cond (nat_lt x count) n 0 ≡ cond (nat_lt x count) (cond (eqb y x) 1 0 + n) 0
one_place count x y n = grind (arith, nat_tests)

no_times : (b : Bool) → ◌≡◌ {A = ℕ} 0 (cond b 0 0)
no_times true = refl
no_times false = refl

times-places : (count x : ℕ) (drawn : List ℕ) → times x (places_of count drawn) ≡ cond (nat_lt x count) (times x drawn) 0
times-places count x [] = no_times (nat_lt x count)
times-places count x (y ∷ ys) =
    counted_one x y (nat_lt y count) (places_of count ys) ∙ ap (λ n. cond (nat_lt y count) (cond (eqb y x) 1 0) 0 + n) (times-places count x ys)
    ∙ one_place count x y (times x ys) ∙ ap (λ n. cond (nat_lt x count) n 0) (sym (times-cons x y ys))

places_once : (count c : ℕ) (drawn : List ℕ) → count ≤ c → IsEachOnce drawn c → IsEachOnce (places_of count drawn) count
places_once count c drawn le once x = rw (times-places count x drawn, once x) (grind (arith, nat_tests))

-- ---- one worker

rises : (drawn : List ℕ) (x y : ℕ) → All (λ z. z < y) (drawn ++ x ∷ []) → x + 1 ≤ y
rises drawn x y all = let lt : x < y = All-contains (λ z. z < y) (drawn ++ x ∷ []) x all (Contains-push drawn x) in omega arith

pub rising_after : (before after : Drawer) (x : ℕ) → Drew before x after → (y : ℕ) → All (λ z. z < y) after.drawn → x + 1 ≤ y
rising_after before after x drew y all = rises before.drawn x y (subst (λ (s : Drawer). All (λ z. z < y) s.drawn) drew.one_more all)

pub below_after : (bound : ℕ) (before after : Drawer) (x : ℕ) → Drew before x after → x < bound → All (λ z. z < bound) before.drawn
    → All (λ z. z < bound) after.drawn
below_after bound before after x drew lt all = subst (λ (s : Drawer). All (λ z. z < bound) s.drawn) (sym drew.one_more)
    (All-push (λ z. z < bound) before.drawn x all lt)

module _ {Hand : Type 0} (count : ℕ) (did : Hand → ℕ → List ℕ → Type 0) where
  pub did_after : (before after : Drawer) (hand hand' : Hand) (x : ℕ) → Drew before x after → x < count
      → ((shares : ℕ) (places : List ℕ) → did hand shares places → did hand' shares (places ++ x ∷ []))
      → did hand before.share (places_of count before.drawn) → did hand' after.share (places_of count after.drawn)
  did_after before after hand hand' x drew lt step is =
      subst (λ (s : Drawer). did hand' s.share (places_of count s.drawn)) (sym drew.one_more)
      (subst (did hand' before.share) (sym (place_drawn count x before.drawn lt)) (step _ _ is))

  pub part_ended : (first before after : Drawer) (hand : Hand) (x : ℕ) → Drew before x after → count ≤ x
      → before.table ≡ first.table → before.share ≡ first.share → did hand before.share (places_of count before.drawn) → IsPart count did first after hand
  part_ended first before after hand x drew le table share is = record {
    same_table = ap (λ (s : Drawer). s.table) drew.one_more ∙ table;
    same_share = ap (λ (s : Drawer). s.share) drew.one_more ∙ share;
    done = subst (λ (s : Drawer). did hand s.share (places_of count s.drawn)) (sym drew.one_more)
        (subst (did hand before.share) (sym (place_missed count x before.drawn le)) is);
    ended = (x, le, subst (λ (s : Drawer). Contains s.drawn x) (sym drew.one_more) (Contains-push before.drawn x));
  }

  -- ---- two parts together, and all of them

  pub part_joined : (seat seat1 other mine theirs after : Drawer) (my_hand their_hand hand : Hand)
      → seat1 ≡ record seat { share = seat.share - 1 } → other ≡ record { table = seat.table; share = 1; drawn = [] } → 1 ≤ seat.share
      → IsPart count did seat1 mine my_hand → IsPart count did other theirs their_hand
      → after ≡ record { table = mine.table; share = mine.share + theirs.share; drawn = mine.drawn ++ theirs.drawn }
      → ((shares more : ℕ) (places others : List ℕ) → did my_hand shares places → did their_hand more others → did hand (shares + more) (places ++ others))
      → IsPart count did seat after hand
  part_joined seat seat1 other mine theirs after my_hand their_hand hand e1 e2 le p q j both =
      let a : mine.share ≡ seat.share - 1 = p.same_share ∙ ap (λ (s : Drawer). s.share) e1 in
      let b : theirs.share ≡ 1 = q.same_share ∙ ap (λ (s : Drawer). s.share) e2 in
      let sum : after.share ≡ mine.share + theirs.share = ap (λ (s : Drawer). s.share) j in
      record {
        same_table = ap (λ (s : Drawer). s.table) j ∙ p.same_table ∙ ap (λ (s : Drawer). s.table) e1;
        same_share = omega arith;
        done = subst (λ (s : Drawer). did hand s.share (places_of count s.drawn)) (sym j)
            (subst (did hand (mine.share + theirs.share)) (sym (filter-append (λ y. nat_lt y count) mine.drawn theirs.drawn)) (both _ _ _ _ p.done q.done));
        ended = (
          p.ended.0,
          p.ended.1,
          subst (λ (s : Drawer). Contains s.drawn p.ended.0) (sym j)
              (Contains-append_left mine.drawn theirs.drawn p.ended.0 p.ended.2),
        );
      }

  pub all_done : (first last : Drawer) (hand : Hand) (c : ℕ) → IsPart count did first last hand → last.share ≡ all_shares → IsEachOnce last.drawn c
      → HasDoneAll did count hand
  all_done first last hand c part all once =
      let past = part.ended.1 in
      let end = below_end last.drawn c part.ended.0 once part.ended.2 in
      (places_of count last.drawn, places_once count c last.drawn (omega arith) once, subst (λ s. did hand s (places_of count last.drawn)) all part.done)
