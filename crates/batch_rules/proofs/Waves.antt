-- Waves of requests that do not conflict give what the fold one after the other gives.
use Rattle.std.proofs.Common.{◌≡◌, ℕ, zero, suc, inl, inr, ◌<◌, ◌≤◌, List, [], ◌∷◌, map, Bool, true, false, cond, Option, refl, sym, ap, ◌∙◌, Ordering, arith}
use Rattle.std.specs.Prelude.{max, if◌then◌else◌, ◌||◌, slice_index_or, nat_eq}
use Rattle.std.specs.Ordering.{eq_by_cmp, is_eq}
use Rattle.std.specs.Cmp.{IsTotalOrder, tied_itself}
use Rattle.std.specs.List.{All, filter, list_any}
use Rattle.std.specs.FinMap.{FinMap, IsAntisymmetric}
use Rattle.std.proofs.lemmas.Bool.{or_left, or_right, cases_lt, false≢true, false_from_ne_true, true_from_ne_false, eqb-true, eq-eqb}
use Rattle.std.proofs.lemmas.List.Elements.{All-nil, All-cons, All-head, All-tail}
use Rattle.batch_rules.specs.Trees.{Tree}
use Rattle.batch_rules.specs.Touches.{is_among, keys_of, Declared, may_read, may_write, overwritten, installed}
use Rattle.batch_rules.specs.Batches.{late_fate, late_map, late_fates, late_left}
use Rattle.batch_rules.specs.Verdicts.{meets}
use Rattle.batch_rules.specs.Laws.{AgreeWithin}
use Rattle.batch_rules.specs.Waves.{late_rows, conflicts, ConflictsBothWays, Waved, wave_behind, waved, found, wave_fates, IsInWaves}
use Rattle.batch_rules.proofs.Carriers.{fates_map, left_map}
use Rattle.batch_rules.proofs.Installs.{get-apart, installed_same, installed_swap, installed_apart}
use Rattle.batch_rules.proofs.Lists.{All-filtered, map_same}
use Rattle.batch_rules.proofs.Maps.{same_key}
use Rattle.batch_rules.proofs.Meets.{meets_none}
use Rattle.batch_rules.proofs.Pairs.{Pairs}
use Rattle.batch_rules.proofs.Within.{late_map-is, late_keys, late_agree}

-- neither may write what the other may touch
pub record IsFree {K : Type 0} (R : K → K → Ordering) (a b : Declared K) : Type 0 where
  pub there : (q : K) → may_write R a q ≡ true → may_read R b q ≡ false
  pub back : (q : K) → may_write R b q ≡ true → may_read R a q ≡ false

module _ {K V W A : Type 0} {R : K → K → Ordering} (o : IsTotalOrder R) (anti : IsAntisymmetric R) (is_done : A → Bool) (declared_of : W → Declared K)
    (tree : W → Tree K V A) (wave : W → ℕ) where
  abbrev rows_on : FinMap R V → W → List (K × Option V)
  rows_on m w = late_rows is_done (declared_of w) (tree w) m

  abbrev before : FinMap R V → List W → ℕ → FinMap R V
  before = found is_done declared_of tree wave

  abbrev at_wave : ℕ → W → Bool
  at_wave n w = nat_eq (wave w) n

  abbrev free : W → W → Type 0
  free a b = IsFree R (declared_of a) (declared_of b)

  -- the rows lie at no key that x may touch
  pub record Past (rows : List (K × Option V)) (x : W) : Type 0 where
    pub none : (q : K) → may_read R (declared_of x) q ≡ true → is_among R (keys_of rows) q ≡ false

  of_wave : (P : W → Type 0) (n : ℕ) (ws : List W) → All (λ x. wave x < suc n → P x) ws → All P (filter (at_wave n) ws)
  of_wave P n ws a = All-filtered (at_wave n) P ws (λ k d below e. a k d below (let is = eqb-true (wave (slice_index_or ws k d)) n e in omega (arith, is)))

  rows_past : (m : FinMap R V) (w x : W) → free w x → Past (rows_on m w) x
  rows_past m w x f = record {
    none = λ q may. false_from_ne_true _
        (λ among. false≢true (sym (f.there q (late_keys o anti is_done (declared_of w) (tree w) m q among)) ∙ may));
  }

  agree_past : (m : FinMap R V) (rows : List (K × Option V)) (x : W) → Past rows x → AgreeWithin (declared_of x) (overwritten m rows) m
  agree_past m rows x past q may = get-apart o anti m rows q (past.none q may)

  -- rows past all items of the waves below n change nothing for them
  shifted : (db : FinMap R V) (rows : List (K × Option V)) (ws : List W) (n : ℕ) → All (λ x. wave x < n → Past rows x) ws
      → before (overwritten db rows) ws n ≡ overwritten (before db ws n) rows
  shifted db rows ws zero a = refl
  shifted db rows ws (suc n) a =
      let m = before db ws n in
      let now : All (Past rows) (filter (at_wave n) ws) = of_wave (Past rows) n ws a in
      ap (λ m. installed (rows_on m) m (filter (at_wave n) ws)) (shifted db rows ws n (λ k d below less. a k d below (omega (arith, less))))
      ∙ installed_same (rows_on (overwritten m rows)) (rows_on m) (overwritten m rows) (filter (at_wave n) ws)
      (λ k d below. (late_agree o anti is_done _ _ _ _ (agree_past m rows _ (now k d below))).1)
      ∙ installed_swap o anti (rows_on m) m rows (filter (at_wave n) ws) (λ k d below. let x = slice_index_or (filter (at_wave n) ws) k d in
      meets_none o anti (keys_of rows) (keys_of (rows_on m x))
      (λ q among. false_from_ne_true _ (λ writes. false≢true
      (sym ((now k d below).none q (or_right _ _ (late_keys o anti is_done (declared_of x) (tree x) m q writes))) ∙ among))))

  -- waves below n, free of w, leave what w may touch
  kept : (db : FinMap R V) (w : W) (ws : List W) (n : ℕ) → All (λ x. wave x < n → free w x) ws → AgreeWithin (declared_of w) (before db ws n) db
  kept db w ws zero a q may = refl
  kept db w ws (suc n) a q may =
      let m = before db ws n in
      let now : All (free w) (filter (at_wave n) ws) = of_wave (free w) n ws a in
      installed_apart o anti (rows_on m) m q (filter (at_wave n) ws) (λ k d below. let x = slice_index_or (filter (at_wave n) ws) k d in
      false_from_ne_true _ (λ among. false≢true (sym ((now k d below).back q (late_keys o anti is_done (declared_of x) (tree x) m q among)) ∙ may)))
      ∙ kept db w ws n (λ k d below less. a k d below (omega (arith, less))) q may

  -- a wave finds the same with and without an item that is not below it
  ahead : (db : FinMap R V) (w : W) (ws : List W) (n : ℕ) → n ≤ wave w → before db (w ∷ ws) n ≡ before db ws n
  ahead db w ws zero le = refl
  ahead db w ws (suc n) le = elim (nat_eq (wave w) n) as (λ b. nat_eq (wave w) n ≡ b
      → installed (rows_on (before db (w ∷ ws) n)) (before db (w ∷ ws) n) (cond b (w ∷ filter (at_wave n) ws) (filter (at_wave n) ws)) ≡ before db ws (suc n)) [
        | true ↦ λ e. let is = eqb-true (wave w) n e in absurd (omega (arith, is, le))
        | false ↦ λ e. ap (λ m. installed (rows_on m) m (filter (at_wave n) ws)) (ahead db w ws n (omega (arith, le)))
      ] refl

  -- behind its own wave, an item that is free of those not behind it might have run first
  behind : (db : FinMap R V) (w : W) (ws : List W) (n : ℕ) → All (λ x. wave x ≤ wave w → free w x) ws → wave w < n
      → before db (w ∷ ws) n ≡ before (overwritten db (rows_on db w)) ws n
  behind db w ws zero a less = absurd (omega (arith, less))
  behind db w ws (suc n) a less =
      let m = before db (w ∷ ws) n in
      let late = overwritten db (rows_on db w) in
      let rest = filter (at_wave n) ws in
      elim (nat_eq (wave w) n) as (λ b. nat_eq (wave w) n ≡ b → installed (rows_on m) m (cond b (w ∷ rest) rest) ≡ before late ws (suc n)) [
        | true ↦ λ e.
            let is = eqb-true (wave w) n e in
            let here : m ≡ before db ws n = ahead db w ws n (omega (arith, is)) in
            let m' = before db ws n in
            let lower : All (λ x. wave x < n → free w x) ws = λ k d below low. a k d below (omega (arith, is, low)) in
            let rows : rows_on m' w ≡ rows_on db w = (late_agree o anti is_done (declared_of w) (tree w) m' db (kept db w ws n lower)).1 in
            let now : All (Past (rows_on db w)) rest = of_wave (Past (rows_on db w)) n ws
            (λ k d below low. rows_past db w _ (a k d below (omega (arith, is, low)))) in
            ap (λ m. installed (rows_on m) m (w ∷ rest)) here
            ∙ ap (λ rows. installed (rows_on m') (overwritten m' rows) rest) rows
            ∙ installed_same (rows_on m') (rows_on (overwritten m' (rows_on db w))) (overwritten m' (rows_on db w)) rest
            (λ k d below. sym (late_agree o anti is_done _ _ _ _ (agree_past m' (rows_on db w) _ (now k d below))).1)
            ∙ ap (λ m. installed (rows_on m) m rest) (sym (shifted db (rows_on db w) ws n (λ k d below low. rows_past db w _ (lower k d below low))))
        | false ↦ λ e. ap (λ m. installed (rows_on m) m rest)
            (behind db w ws n a (elim (cases_lt (wave w) n) as (λ _. wave w < n) [
              | inl low ↦ low
              | inr high ↦
                  absurd (false≢true (sym e ∙ eq-eqb (wave w) n (omega (arith, less, high))))
            ]))
      ] refl

  -- rows of two that are free of each other do not meet, on whatever databases they ran
  pub rows_apart : (m n : FinMap R V) (a b : W) → free a b → meets R (keys_of (rows_on m a)) (keys_of (rows_on n b)) ≡ false
  rows_apart m n a b f = meets_none o anti (keys_of (rows_on m a)) (keys_of (rows_on n b)) (λ q among. false_from_ne_true _ (λ writes.
      false≢true (sym (f.there q (late_keys o anti is_done (declared_of a) (tree a) m q among))
      ∙ or_right _ _ (late_keys o anti is_done (declared_of b) (tree b) n q writes))))

  abbrev pub IsWaved : List W → Type 0
  IsWaved ws = Pairs (λ a b. wave b ≤ wave a → free a b) ws

  pub record IsLateIn (db : FinMap R V) (ws : List W) : Type 0 where
    pub fates : wave_fates is_done declared_of tree wave db ws ≡ late_fates is_done declared_of tree db ws
    pub left : (n : ℕ) → All (λ w. wave w < n) ws → before db ws n ≡ late_left is_done declared_of tree db ws

  same_found : (db : FinMap R V) (w x : W) (ws : List W) → All (λ x. wave x ≤ wave w → free w x) ws → (wave x ≤ wave w → free w x)
      → late_fate (declared_of x) (tree x) (before db (w ∷ ws) (wave x)) ≡ late_fate (declared_of x) (tree x)
      (before (overwritten db (rows_on db w)) ws (wave x))
  same_found db w x ws a f = elim (cases_lt (wave w) (wave x)) as (λ _. late_fate (declared_of x) (tree x) (before db (w ∷ ws) (wave x)) ≡ late_fate
      (declared_of x) (tree x) (before (overwritten db (rows_on db w)) ws (wave x))) [
        | inl low ↦ ap (late_fate (declared_of x) (tree x)) (behind db w ws (wave x) a low)
        | inr high ↦
            let m = before db ws (wave x) in
            ap (late_fate (declared_of x) (tree x)) (ahead db w ws (wave x) high)
            ∙ sym (late_agree o anti is_done (declared_of x) (tree x) (overwritten m (rows_on db w)) m
            (agree_past m (rows_on db w) x (rows_past db w x (f high)))).0
            ∙ ap (late_fate (declared_of x) (tree x))
            (sym (shifted db (rows_on db w) ws (wave x) (λ k d below low. rows_past db w _ (a k d below (omega (arith, high, low))))))
      ]

  before_none : (db : FinMap R V) (n : ℕ) → before db [] n ≡ db
  before_none db zero = refl
  before_none db (suc n) = before_none db n

  pub in_waves : (db : FinMap R V) (ws : List W) → IsWaved ws → IsLateIn db ws
  in_waves db [] p = record { fates = refl; left = λ n a. before_none db n }
  in_waves db (w ∷ ws) p =
      let late = overwritten db (rows_on db w) in
      let step : late ≡ late_map is_done (declared_of w) (tree w) db = sym (late_map-is o anti is_done (declared_of w) (tree w) db) in
      let rest = in_waves late ws p.1 in record {
        fates = (λ i. (ap (late_fate (declared_of w) (tree w)) (ahead db w ws (wave w) (omega arith))
            ∙ (late_agree o anti is_done (declared_of w) (tree w) (before db ws (wave w)) db
            (kept db w ws (wave w) (λ k d below low. p.0 k d below (omega (arith, low))))).0) i
            ∷ (map_same (λ x. late_fate (declared_of x) (tree x) (before db (w ∷ ws) (wave x)))
            (λ x. late_fate (declared_of x) (tree x) (before late ws (wave x))) ws
            (λ k d below. same_found db w (slice_index_or ws k d) ws p.0 (p.0 k d below)) ∙ rest.fates
            ∙ ap (λ m. late_fates is_done declared_of tree m ws) step) i);
        left = λ n a. behind db w ws n p.0 (All-head (λ w. wave w < n) w ws a) ∙ rest.left n (All-tail (λ w. wave w < n) w ws a)
            ∙ ap (λ m. late_left is_done declared_of tree m ws) step;
      }

-- conflicts, key by key
module _ {K : Type 0} {R : K → K → Ordering} (o : IsTotalOrder R) (anti : IsAntisymmetric R) where
  none_of : (test : K → Bool) (keys : List K) (q : K) → list_any test keys ≡ false → is_among R keys q ≡ true → test q ≡ false
  none_of test [] q e among = cc
  none_of test (k ∷ keys) q e among = elim (eq_by_cmp R q k) as (λ b. eq_by_cmp R q k ≡ b → (b || is_among R keys q) ≡ true → test q ≡ false) [
    | true ↦ λ same _. ap test (same_key anti q k same) ∙ false_from_ne_true _ (λ t. false≢true (sym e ∙ or_left _ _ t))
    | false ↦ λ _ among. none_of test keys q (false_from_ne_true _ (λ t. false≢true (sym e ∙ or_right _ _ t))) among
  ] refl among

  some_of : (test : K → Bool) (keys : List K) → list_any test keys ≡ true → (q : K) × (is_among R keys q ≡ true) × (test q ≡ true)
  some_of test [] e = cc
  some_of test (k ∷ keys) e = elim (test k) as (λ b. test k ≡ b → (b || list_any test keys) ≡ true
      → (q : K) × (is_among R (k ∷ keys) q ≡ true) × (test q ≡ true)) [
        | true ↦ λ t _. (k, or_left _ _ (ap is_eq (tied_itself o k)), t)
        | false ↦ λ _ e. let rest = some_of test keys e in (rest.0, or_right _ _ rest.1, rest.2)
      ] refl e

  pub free_from : (a b : Declared K) → conflicts R a b ≡ false → IsFree R a b
  free_from a b e =
      let reads : list_any (may_write R a) b.reads ≡ false = false_from_ne_true _ (λ t. false≢true (sym e ∙ or_left _ _ t)) in
      let writes : list_any (may_read R a) b.writes ≡ false = false_from_ne_true _ (λ t. false≢true (sym e ∙ or_right _ _ t)) in record {
        there = λ q among. false_from_ne_true _ (λ may. elim (is_among R b.reads q) as (λ r. is_among R b.reads q ≡ r → (r || is_among R b.writes q) ≡ true
            → ⊥) [
              | true ↦ λ is _. false≢true (sym (none_of (may_write R a) b.reads q reads is) ∙ among)
              | false ↦ λ _ is. false≢true (sym (none_of (may_read R a) b.writes q writes is) ∙ or_right _ _ among)
            ] refl may);
        back = λ q among. none_of (may_read R a) b.writes q writes among;
      }

  none_turned : (a b : Declared K) → conflicts R a b ≡ false → conflicts R b a ≡ false
  none_turned a b e = let f = free_from a b e in false_from_ne_true _
      (λ c. elim (list_any (may_write R b) a.reads) as (λ l. list_any (may_write R b) a.reads ≡ l → (l || list_any (may_read R b) a.writes) ≡ true → ⊥) [
        | true ↦ λ is _. let found = some_of (may_write R b) a.reads is in false≢true (sym (f.back found.0 found.2) ∙ or_left _ _ found.1)
        | false ↦ λ _ is. let found = some_of (may_read R b) a.writes is in false≢true (sym (f.there found.0 found.1) ∙ found.2)
      ] refl c)

  pub conflicts_both_ways : (a b : Declared K) → ConflictsBothWays R a b
  conflicts_both_ways a b = elim (conflicts R a b) as (λ c. conflicts R a b ≡ c → c ≡ conflicts R b a) [
    | false ↦ λ e. sym (none_turned a b e)
    | true ↦ λ e. sym (true_from_ne_false _ (λ none. false≢true (sym (none_turned b a none) ∙ e)))
  ] refl

-- the waves of a list are such
module _ {K W : Type 0} {R : K → K → Ordering} (o : IsTotalOrder R) (anti : IsAntisymmetric R) (declared_of : W → Declared K) where
  -- what conflicts with e has a greater wave, behind these
  pub record IsCovered (earlier : List (Waved W)) (e : Waved W) : Type 0 where
    pub above : (w : W) → conflicts R (declared_of e.item) (declared_of w) ≡ true → e.wave < wave_behind R declared_of earlier w

  covered_first : (e : Waved W) (es : List (Waved W)) → IsCovered (e ∷ es) e
  covered_first e es = record { above = λ w c. rw c (omega arith) }

  covered_more : (e x : Waved W) (es : List (Waved W)) → IsCovered es e → IsCovered (x ∷ es) e
  covered_more e x es h = record {
    above = λ w c. let low = h.above w c in
        elim (conflicts R (declared_of x.item) (declared_of w)) as (λ b.
        e.wave < (if b then max (suc x.wave) (wave_behind R declared_of es w) else wave_behind R declared_of es w)) [
          | true ↦ omega (arith, low)
          | false ↦
              low
        ];
  }

  later_above : (e : Waved W) (earlier : List (Waved W)) (ws : List W) → IsCovered earlier e
      → All (λ x. conflicts R (declared_of e.item) (declared_of x.item) ≡ true → e.wave < x.wave) (waved R declared_of earlier ws)
  later_above e earlier [] h = All-nil (λ x. conflicts R (declared_of e.item) (declared_of x.item) ≡ true → e.wave < x.wave)
  later_above e earlier (w ∷ ws) h =
      let x : Waved W = record { wave = wave_behind R declared_of earlier w; item = w } in
      All-cons (λ x. conflicts R (declared_of e.item) (declared_of x.item) ≡ true → e.wave < x.wave) x _ (h.above w)
      (later_above e (x ∷ earlier) ws (covered_more e x earlier h))

  pub waved-is : (earlier : List (Waved W)) (ws : List W)
      → Pairs (λ (a b : Waved W). b.wave ≤ a.wave → IsFree R (declared_of a.item) (declared_of b.item)) (waved R declared_of earlier ws)
  waved-is earlier [] = tt
  waved-is earlier (w ∷ ws) =
      let x : Waved W = record { wave = wave_behind R declared_of earlier w; item = w } in (
        λ k d below low. free_from o anti _ _ (false_from_ne_true _ (λ c. let above = later_above x (x ∷ earlier) ws (covered_first x earlier) k d below c in
            absurd (omega (arith, low, above)))),
        waved-is (x ∷ earlier) ws,
      )

  pub items-waved : (earlier : List (Waved W)) (ws : List W) → map (λ e. e.item) (waved R declared_of earlier ws) ≡ ws
  items-waved earlier [] = refl
  items-waved earlier (w ∷ ws) = ap (λ rest. w ∷ rest) (items-waved (record { wave = wave_behind R declared_of earlier w; item = w } ∷ earlier) ws)

module _ {K V W A : Type 0} {R : K → K → Ordering} (o : IsTotalOrder R) (anti : IsAntisymmetric R) (is_done : A → Bool) (declared_of : W → Declared K)
    (tree : W → Tree K V A) where
  pub waves_law : (db : FinMap R V) (ws : List W) → IsInWaves is_done declared_of tree db ws
  waves_law db ws =
      let es = waved R declared_of [] ws in
      let late = in_waves o anti is_done (λ e. declared_of e.item) (λ e. tree e.item) (λ e. e.wave) db es (waved-is o anti declared_of [] ws) in
      let items = items-waved o anti declared_of [] ws in record {
        fates = late.fates ∙ fates_map is_done declared_of tree (λ e. e.item) db es ∙ ap (late_fates is_done declared_of tree db) items;
        left = λ n a. late.left n a ∙ left_map is_done declared_of tree (λ e. e.item) db es ∙ ap (late_left is_done declared_of tree db) items;
      }
