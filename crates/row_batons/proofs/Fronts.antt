-- The writes of a window begin with the rows that were laid there, whatever the run writes afterwards.
use Rattle.std.proofs.Common.{◌≡◌, ◌≢◌, ℕ, zero, suc, ◌+◌, ◌<◌, ◌≤◌, Bool, true, false, List, [], ◌∷◌, ◌++◌, map, length, take, drop, drop-cons, get_or, cond, Option, Some, None, refl, sym, ap, subst, ◌∙◌, arith, Ordering, append_assoc, set, length-set}
use Rattle.std.specs.Prelude.{◌||◌, if◌then◌else◌}
use Rattle.std.specs.Ordering.{eq_by_cmp}
use Rattle.std.specs.Cmp.{IsTotalOrder}
use Rattle.std.specs.FinMap as fin
use Rattle.std.specs.FinMap.{FinMap, IsAntisymmetric}
use Rattle.std.proofs.lemmas.Bool.{true≢false, false_from_ne_true}
use Rattle.std.proofs.lemmas.Cmp.{eq_by_cmp_equiv}
use Rattle.std.proofs.lemmas.List.{take-append-drop, append-nil, length-map, map-append, length-append}
use Rattle.std.proofs.Math.Seq.{take-append_seam}
use mathlib.Core.Option as std_option
use mathlib.Core.Option.{none, some}
use lib.ListN.{get_elem?}
use Rattle.batch_rules.specs.Trees.{Visit, Read, Write}
use Rattle.batch_rules.specs.Touches.{Noted, noted, all_noted, with_write, is_among, keys_of, overwritten}
use Rattle.batch_rules.proofs.Maps.{get-set_at, same_key}
use Rattle.work_claim.specs.Rule.{times}
use Rattle.baton_crew.proofs.Counts.{times-cons, times-here, times-append}
use Rattle.row_batons.specs.Fallbacks.{row_at}
use Rattle.row_batons.specs.Windows.{rows_of, AreAt}

module _ {K V : Type 0} (R : K → K → Ordering) where
  -- a write leaves the keys that there are where they are
  more_keys : (ws : List (K × Option V)) (k : K) (row : Option V) → (more : List K) × (keys_of (with_write R ws k row) ≡ keys_of ws ++ more)
  more_keys [] k row = (k ∷ [], refl)
  more_keys (w ∷ ws) k row = elim (eq_by_cmp R k w.0) as (λ b. (more : List K)
      × (keys_of (if b then (w.0, row) ∷ ws else w ∷ with_write R ws k row) ≡ w.0 ∷ keys_of ws ++ more)) [
        | true ↦ ([], sym (append-nil (w.0 ∷ keys_of ws)))
        | false ↦ let rest = more_keys ws k row in (rest.0, ap (λ l. w.0 ∷ l) rest.1)
      ]

  all_more : (visits : List (Visit K V)) (n : Noted K V) → (more : List K) × (keys_of (all_noted R n visits).writes ≡ keys_of n.writes ++ more)
  all_more [] n = ([], sym (append-nil (keys_of n.writes)))
  all_more (Read k ∷ visits) n = all_more visits (noted R n (Read k))
  all_more (Write k row ∷ visits) n =
      let first = more_keys n.writes k row in
      let rest = all_more visits (noted R n (Write k row)) in
      (first.0 ++ rest.0, rest.1 ∙ ap (λ l. l ++ rest.0) first.1 ∙ append_assoc (keys_of n.writes) first.0 rest.0)

  -- a new key comes behind the others
  pub new_key : (ws : List (K × Option V)) (k : K) (row : Option V) → is_among R (keys_of ws) k ≡ false → with_write R ws k row ≡ ws ++ (k, row) ∷ []
  new_key [] k row new = refl
  new_key (w ∷ ws) k row new = elim (eq_by_cmp R k w.0) as (λ b. (b || is_among R (keys_of ws) k) ≡ false
      → (if b then (w.0, row) ∷ ws else w ∷ with_write R ws k row) ≡ w ∷ ws ++ (k, row) ∷ []) [
        | true ↦ λ e. absurd (true≢false e)
        | false ↦ λ e. ap (λ l. w ∷ l) (new_key ws k row e)
      ] new

module _ {K V : Type 0} {R : K → K → Ordering} (o : IsTotalOrder R) (anti : IsAntisymmetric R) (keys : List K) (alone : (j k : ℕ) (q : K)
    → get_elem? keys j ≡ some q → get_elem? keys k ≡ some q → j ≡ k) where
  -- the key of a slot is none of those of other slots
  other_key : (ts : List ℕ) (ws : List (K × Option V)) (k : ℕ) (key : K) → AreAt keys ts ws → get_elem? keys k ≡ some key → times k ts ≡ 0
      → is_among R (keys_of ws) key ≡ false
  other_key [] [] k key at there none_of = refl
  other_key [] (w ∷ ws) k key at there none_of = absurd (let e = ap length at in omega arith)
  other_key (t ∷ ts) [] k key at there none_of = absurd (let e = ap length at in omega arith)
  other_key (t ∷ ts) (w ∷ ws) k key at there none_of =
      let rest = other_key ts ws k key (ap (drop 1) at) there (let h = times-cons k t ts in omega arith) in
      ap (λ b. b || is_among R (keys_of ws) key) (false_from_ne_true (eq_by_cmp R key w.0) (λ same. absurd (
      let e : t ≡ k = alone t k key (sym (ap (λ l. head_of l) at) ∙ ap some (sym (same_key anti key w.0 same))) there in
      let h : 1 ≤ times t (t ∷ ts) = omega (arith, times-here t ts) in
      let g : 1 ≤ times k (t ∷ ts) = subst (λ (n : ℕ). 1 ≤ times n (t ∷ ts)) e h in
      omega arith)))
      ∙ rest
    where
      head_of : List (std_option.Option K) → std_option.Option K
      head_of [] = none
      head_of (x ∷ xs) = x

  -- a row that is laid at a further slot comes behind the others
  pub laid_behind : (ts : List ℕ) (i : ℕ) (ws : List (K × Option V)) (k : ℕ) (key : K) (row : Option V) → i < length ts → ((j : ℕ) → times j ts ≤ 1)
      → k ≡ get_or ts i 0 → get_elem? keys k ≡ some key
      → AreAt keys (take i ts) ws → AreAt keys (take (i + 1) ts) (with_write R ws key row)
  laid_behind ts i ws k key row lt once at there so_far =
      let e : suc i ≡ i + 1 = omega arith in
      let cut : take i ts ++ k ∷ drop (suc i) ts ≡ ts = (λ p. take i ts ++ (at p) ∷ drop (suc i) ts) ∙ ap (λ l. take i ts ++ l) (sym (drop-cons ts i 0 lt))
      ∙ take-append-drop i ts in
      let few : times k (take i ts) ≡ 0 = (
      let h = once k in
      let c = ap (times k) cut in
      let a = times-append k (take i ts) (k ∷ drop (suc i) ts) in
      let b = times-here k (drop (suc i) ts) in
      omega arith) in
      ap (map (λ w. some w.0)) (new_key R ws key row (other_key (take i ts) ws k key so_far there few))
      ∙ map-append (λ w. some w.0) ws ((key, row) ∷ [])
      ∙ (λ p. so_far p ++ (sym there p) ∷ [])
      ∙ sym (map-append (λ j. get_elem? keys j) (take i ts) (k ∷ []))
      ∙ ap (map (λ j. get_elem? keys j)) (longer_take i ts k lt at)
      ∙ ap (λ (n : ℕ). map (λ j. get_elem? keys j) (take n ts)) e
    where
      longer_take : (i : ℕ) (ts : List ℕ) (k : ℕ) → i < length ts → k ≡ get_or ts i 0 → take i ts ++ k ∷ [] ≡ take (suc i) ts
      longer_take i [] k lt at = absurd (omega arith)
      longer_take zero (t ∷ ts) k lt at = ap (λ (n : ℕ). n ∷ []) at
      longer_take (suc i) (t ∷ ts) k lt at = ap (λ l. t ∷ l) (longer_take i ts k (omega arith) at)

  -- what a run writes further stays behind them
  pub still_at : (ts : List ℕ) (n : Noted K V) (visits : List (Visit K V)) → AreAt keys ts n.writes
      → AreAt keys ts (take (length ts) (all_noted R n visits).writes)
  still_at ts n visits at =
      let more = all_more R visits n in
      let many : length ts ≡ length (map (λ q. some q) (keys_of n.writes)) = sym (length-map ts (λ j. get_elem? keys j))
      ∙ sym (ap length (twice n.writes ∙ at)) in
      taken (length ts) (all_noted R n visits).writes
      ∙ ap (take (length ts)) (sym (twice (all_noted R n visits).writes) ∙ ap (map some) more.1 ∙ map-append some (keys_of n.writes) more.0)
      ∙ ap (λ (c : ℕ). take c (map (λ q. some q) (keys_of n.writes) ++ map (λ q. some q) more.0)) many
      ∙ take-append_seam (map (λ q. some q) (keys_of n.writes)) (map (λ q. some q) more.0)
      ∙ twice n.writes ∙ at
    where
      twice : (ws : List (K × Option V)) → map (λ q. some q) (keys_of ws) ≡ map (λ w. some w.0) ws
      twice [] = refl
      twice (w ∷ ws) = ap (λ l. some w.0 ∷ l) (twice ws)

      taken : (c : ℕ) (ws : List (K × Option V)) → map (λ w. some w.0) (take c ws) ≡ take c (map (λ w. some w.0) ws)
      taken zero ws = refl
      taken (suc c) [] = refl
      taken (suc c) (w ∷ ws) = ap (λ l. some w.0 ∷ l) (taken c ws)

  -- so there are as many writes as slots
  pub enough_writes : (ts : List ℕ) (ws : List (K × Option V)) → AreAt keys ts (take (length ts) ws) → length ts ≤ length ws
  enough_writes ts ws at = not_short (length ts) ws (sym (length-map (take (length ts) ws) (λ w. some w.0)) ∙ ap length at
      ∙ length-map ts (λ j. get_elem? keys j))
    where
      not_short : (c : ℕ) (ws : List (K × Option V)) → length (take c ws) ≡ c → c ≤ length ws
      not_short zero ws same = omega arith
      not_short (suc c) [] same = absurd (omega arith)
      not_short (suc c) (w ∷ ws) same = let rest = not_short c ws (omega arith) in omega arith

  map-same : (f g : ℕ → Option V) (ks : List ℕ) → ((q : ℕ) → 1 ≤ times q ks → f q ≡ g q) → map f ks ≡ map g ks
  map-same f g [] same = refl
  map-same f g (k ∷ ks) same = ap (λ v. v ∷ map f ks) (same k (omega (arith, times-here k ks)))
      ∙ ap (λ vs. g k ∷ vs) (map-same f g ks (λ q there. same q (omega (arith, times-cons q k ks))))

  -- the first writes have the rows that the window shows at the slots
  pub front_rows : (ts : List ℕ) (ws : List (K × Option V)) (base : FinMap R V) → ((k : ℕ) → times k ts ≤ 1) → AreAt keys ts (take (length ts) ws)
      → map (λ w. w.1) (take (length ts) ws) ≡ rows_of (overwritten base ws) keys ts
  front_rows [] ws base once at = refl
  front_rows (t ∷ ts) [] base once at = absurd (let e = ap length at in omega arith)
  front_rows (t ∷ ts) (w ∷ ws) base once at =
      let first : some w.0 ≡ get_elem? keys t = ap head_of at in
      let rest = front_rows ts ws base (λ k. let h = once k in let c = times-cons k t ts in omega arith) (ap (drop 1) at) in
      (λ p. here first p ∷ rest p)
      ∙ ap (λ vs. row_at (overwritten base (w ∷ ws)) (get_elem? keys t) ∷ vs)
      (map-same (λ k. row_at (overwritten base ws) (get_elem? keys k)) (λ k. row_at (overwritten base (w ∷ ws)) (get_elem? keys k)) ts
      (λ k there. sym (others first k there)))
    where
      head_of : List (std_option.Option K) → std_option.Option K
      head_of [] = none
      head_of (x ∷ xs) = x

      here : some w.0 ≡ get_elem? keys t → w.1 ≡ row_at (overwritten base (w ∷ ws)) (get_elem? keys t)
      here first =
          sym (ap (λ b. cond b w.1 (fin.get (overwritten base ws) w.0)) ((eq_by_cmp_equiv o).refl w.0))
          ∙ sym (get-set_at o (overwritten base ws) w.0 w.1 w.0)
          ∙ ap (row_at (overwritten base (w ∷ ws))) first

      others : some w.0 ≡ get_elem? keys t → (k : ℕ) → 1 ≤ times k ts
          → row_at (overwritten base (w ∷ ws)) (get_elem? keys k) ≡ row_at (overwritten base ws) (get_elem? keys k)
      others first k there = elim (get_elem? keys k) as (λ s. get_elem? keys k ≡ s → row_at (overwritten base (w ∷ ws)) s ≡ row_at (overwritten base ws) s) [
        | none ↦ λ _. refl
        | some q ↦ λ at_k.
            get-set_at o (overwritten base ws) w.0 w.1 q
            ∙ ap (λ b. cond b w.1 (fin.get (overwritten base ws) q)) (false_from_ne_true (eq_by_cmp R q w.0) (λ same. absurd (
            let e : k ≡ t = alone k t q at_k (sym first ∙ ap some (sym (same_key anti q w.0 same))) in
            let two : 1 ≤ times t ts = subst (λ (n : ℕ). 1 ≤ times n ts) e there in
            let h = once t in
            let c = times-here t ts in
            omega arith)))
      ] refl

-- ---- rows that come into the places of others

drop_set : {A : Type 0} (l : List A) (i : ℕ) (a : A) → i < length l → drop i (set l i a) ≡ a ∷ drop (suc i) l
drop_set [] i a lt = absurd (omega arith)
drop_set (x ∷ l) zero a lt = refl
drop_set (x ∷ l) (suc i) a lt = drop_set l i a (omega arith)

-- the last of them comes to its place
pub one_back : {A B : Type 0} (f : A → B) (ws ws' : List A) (w : A) (rows rows' all : List B) (i : ℕ) → ws ≡ ws' ++ w ∷ [] → i ≡ length ws'
    → rows' ≡ set rows i (f w) → length ws ≤ length rows
    → map f ws ++ drop (length ws) rows ≡ all → (map f ws' ++ drop (length ws') rows' ≡ all) × (length ws' ≤ length rows')
one_back f ws ws' w rows rows' all i cut at is few before =
    let more : length ws ≡ suc (length ws') = ap length cut ∙ (let l = length-append ws' (w ∷ []) in omega arith) in
    let lt : i < length rows = omega arith in (
      ap (λ l. map f ws' ++ drop (length ws') l) is
          ∙ ap (λ (n : ℕ). map f ws' ++ drop n (set rows i (f w))) (sym at)
          ∙ ap (λ l. map f ws' ++ l) (drop_set rows i (f w) lt)
          ∙ sym (append_assoc (map f ws') (f w ∷ []) (drop (suc i) rows))
          ∙ (λ p. sym (map-append f ws' (w ∷ [])) p ++ drop ((ap suc at ∙ sym more) p) rows)
          ∙ ap (λ l. map f l ++ drop (length ws) rows) (sym cut)
          ∙ before,
      (let s = ap length is in let l = length-set rows i (f w) in omega arith),
    )
