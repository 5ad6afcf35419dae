-- The wave of a request by the table of last waves.
use Rattle.std.proofs.Common.{◌≡◌, ℕ, suc, ◌+◌, ◌<◌, ◌≤◌, List, [], ◌∷◌, ◌++◌, map, length, drop, append_assoc, append-nil, Bool, true, false, refl, sym, ap, ◌∙◌, Ordering, arith}
use Rattle.std.specs.Prelude.{slice_index_or, max, if◌then◌else◌, ◌||◌}
use Rattle.std.specs.List.{All, list_any}
use Rattle.std.proofs.Math.Seq.{drop-cons}
use Rattle.std.proofs.lemmas.List.{drop_all}
use Rattle.std.proofs.lemmas.List.Elements.{All-nil, All-cons, All-head, All-tail}
use Rattle.batch_rules.specs.Touches.{Declared, is_among, may_read, may_write}
use Rattle.batch_rules.specs.Waves.{Waved, conflicts, wave_behind, waved}
use Rattle.fallback_locks.specs.declared.lasts.Last.{Last}
use Rattle.fallback_locks.specs.LastWaves.{highest, last_writer, last_toucher, wave_by, IsBelow, last_of, IsTable, IsSoFar, with_reader, with_writer}

highest_same : {K : Type 0} (f g : K → ℕ) → ((k : K) → f k ≡ g k) → (n : ℕ) (ks : List K) → highest f n ks ≡ highest g n ks
highest_same f g h n [] = refl
highest_same f g h n (k ∷ ks) = ap (λ m. highest f (max n m) ks) (h k) ∙ highest_same f g h (max n (g k)) ks

highest_from : {K : Type 0} (f : K → ℕ) (n m : ℕ) (ks : List K) → highest f (max n m) ks ≡ max (highest f n ks) m
highest_from f n m [] = refl
highest_from f n m (k ∷ ks) = let e : max (max n m) (f k) ≡ max (max n (f k)) m = omega arith in ap (λ a. highest f a ks) e ∙ highest_from f (max n (f k)) m ks

-- of keys that partly have c as well
highest_also : {K : Type 0} (f : K → ℕ) (test : K → Bool) (c n : ℕ) (ks : List K)
    → highest (λ k. if test k then max (f k) c else f k) n ks ≡ (if list_any test ks then max (highest f n ks) c else highest f n ks)
highest_also f test c n [] = refl
highest_also f test c n (k ∷ ks) =
    elim (test k) as (λ b. highest (λ k. if test k then max (f k) c else f k)
    (max n (if b then max (f k) c else f k)) ks ≡ (if b || list_any test ks then max (highest f (max n (f k)) ks) c else highest f (max n (f k)) ks)) [
      | true ↦ let e : max n (max (f k) c) ≡ max (max n (f k)) c = omega arith in
          ap (λ a. highest (λ k. if test k then max (f k) c else f k) a ks) e ∙ highest_also f test c (max (max n (f k)) c) ks
          ∙ elim (list_any test ks) as (λ b. (if b then max (highest f (max (max n (f k)) c) ks) c else highest f (max (max n (f k)) c) ks) ≡ max
          (highest f (max n (f k)) ks) c) [
            | true ↦ let h = highest_from f (max n (f k)) c ks in omega (arith, h)
            | false ↦ highest_from f (max n (f k)) c ks
          ]
      | false ↦ highest_also f test c (max n (f k)) ks
    ]

highest_zero : {K : Type 0} (n : ℕ) (ks : List K) → highest (λ k. 0) n ks ≡ n
highest_zero n [] = refl
highest_zero n (k ∷ ks) = let e : max n 0 ≡ n = omega arith in ap (λ a. highest (λ k. 0) a ks) e ∙ highest_zero n ks

highest_most : {K : Type 0} (f : K → ℕ) (most n : ℕ) (ks : List K) → ((k : K) → f k ≤ most) → n ≤ most → highest f n ks ≤ most
highest_most f most n [] h le = le
highest_most f most n (k ∷ ks) h le = highest_most f most (max n (f k)) ks h (let here = h k in omega (arith, here, le))

pub writer_most : {K : Type 0} (table : K → Last) (most : ℕ) (ks : List K) → ((k : K) → IsBelow most (table k)) → last_writer table ks ≤ most
writer_most table most ks h = highest_most (λ q. (table q).writer) most 0 ks (λ k. let below = h k in omega (arith, below.1)) (omega arith)

pub toucher_most : {K : Type 0} (table : K → Last) (most : ℕ) (ks : List K) → ((k : K) → IsBelow most (table k)) → last_toucher table ks ≤ most
toucher_most table most ks h =
    highest_most (λ q. max (table q).reader (table q).writer) most 0 ks (λ k. let below = h k in omega (arith, below.0, below.1)) (omega arith)

module _ {K W : Type 0} (R : K → K → Ordering) (declared_of : W → Declared K) where
  touched : (es : List (Waved W)) (q : K) → max (last_of R declared_of (λ d. is_among R d.reads q) es)
      (last_of R declared_of (λ d. may_write R d q) es) ≡ last_of R declared_of (λ d. may_read R d q) es
  touched [] q = refl
  touched (e ∷ es) q =
      let rest = touched es q in
      let r = last_of R declared_of (λ d. is_among R d.reads q) es in
      let w = last_of R declared_of (λ d. may_write R d q) es in
      let t = last_of R declared_of (λ d. may_read R d q) es in
      elim (is_among R (declared_of e.item).reads q) as (λ a. max (if a then max r e.wave else r)
      (last_of R declared_of (λ d. may_write R d q) (e ∷ es)) ≡ (if a || may_write R (declared_of e.item) q then max t e.wave else t)) [
        | true ↦ elim (may_write R (declared_of e.item) q) as (λ b. max (max r e.wave) (if b then max w e.wave else w) ≡ max t e.wave) [
          | true ↦
              omega (arith, rest)
          | false ↦ omega (arith, rest)
        ]
        | false ↦ elim (may_write R (declared_of e.item) q) as (λ b. max r (if b then max w e.wave else w) ≡ (if b then max t e.wave else t)) [
          | true ↦
              omega (arith, rest)
          | false ↦ rest
        ]
      ]

  -- the wave is one more than the greatest of what the table has at the keys
  by_last : (es : List (Waved W)) (w : W)
      → suc (max (highest (λ q. last_of R declared_of (λ d. may_write R d q) es) 0 (declared_of w).reads)
      (highest (λ q. last_of R declared_of (λ d. may_read R d q) es) 0 (declared_of w).writes)) ≡ wave_behind R declared_of es w
  by_last [] w = ap suc ((λ i. max (highest_zero 0 (declared_of w).reads i) (highest_zero 0 (declared_of w).writes i)))
  by_last (e ∷ es) w =
      let rest = by_last es w in
      let x = highest (λ q. last_of R declared_of (λ d. may_write R d q) es) 0 (declared_of w).reads in
      let y = highest (λ q. last_of R declared_of (λ d. may_read R d q) es) 0 (declared_of w).writes in
      let wave = wave_behind R declared_of es w in
      rw (
        highest_also (λ q. last_of R declared_of (λ d. may_write R d q) es) (may_write R (declared_of e.item)) e.wave 0 (declared_of w).reads,
        highest_also (λ q. last_of R declared_of (λ d. may_read R d q) es) (may_read R (declared_of e.item)) e.wave 0 (declared_of w).writes,
      )
      (elim (list_any (may_write R (declared_of e.item)) (declared_of w).reads) as (λ a. suc
      (max (if a then max x e.wave else x) (if list_any (may_read R (declared_of e.item)) (declared_of w).writes then max y e.wave else y)) ≡ (if
      a || list_any (may_read R (declared_of e.item)) (declared_of w).writes then max (suc e.wave) wave else wave)) [
        | true ↦ elim (list_any (may_read R (declared_of e.item)) (declared_of w).writes) as (λ b. suc
            (max (max x e.wave) (if b then max y e.wave else y)) ≡ max (suc e.wave) wave) [ true ↦ omega (arith, rest) | false ↦ omega (arith, rest) ]
        | false ↦ elim (list_any (may_read R (declared_of e.item)) (declared_of w).writes) as (λ b. suc
            (max x (if b then max y e.wave else y)) ≡ (if b then max (suc e.wave) wave else wave)) [ true ↦ omega (arith, rest) | false ↦ rest ]
      ])

  pub by_table : (table : K → Last) (es : List (Waved W)) (w : W) → IsTable R declared_of table es
      → wave_by table (declared_of w) ≡ wave_behind R declared_of es w
  by_table table es w h = (λ i. suc (max (highest_same _ _ (λ q. ap (λ last. last.writer) (h q)) 0 (declared_of w).reads i)
      (highest_same (λ q. max (table q).reader (table q).writer) (λ q. last_of R declared_of (λ d. may_read R d q) es)
      (λ q. ap (λ last. max last.reader last.writer) (h q) ∙ touched es q) 0 (declared_of w).writes i))) ∙ by_last es w

  pub table_more : (table : K → Last) (e : Waved W) (es : List (Waved W)) → IsTable R declared_of table es
      → IsTable R declared_of (λ q. with_writer e.wave (is_among R (declared_of e.item).writes q)
      (with_reader e.wave (is_among R (declared_of e.item).reads q) (table q))) (e ∷ es)
  table_more table e es h q =
      ap (λ last. with_writer e.wave (is_among R (declared_of e.item).writes q) (with_reader e.wave (is_among R (declared_of e.item).reads q) last)) (h q)

-- noted for one key, and then for the others
pub reader_twice : (wave : ℕ) (here rest : Bool) (last : Last) → with_reader wave rest (with_reader wave here last) ≡ with_reader wave (here || rest) last
reader_twice wave true true last = let e : max (max last.reader wave) wave ≡ max last.reader wave = omega arith in
    ap (λ n. record { reader = n; writer = last.writer }) e
reader_twice wave true false last = refl
reader_twice wave false rest last = refl

pub writer_twice : (wave : ℕ) (here rest : Bool) (last : Last) → with_writer wave rest (with_writer wave here last) ≡ with_writer wave (here || rest) last
writer_twice wave true true last = let e : max (max last.writer wave) wave ≡ max last.writer wave = omega arith in
    ap (λ n. record { reader = last.reader; writer = n }) e
writer_twice wave true false last = refl
writer_twice wave false rest last = refl

module _ {K W : Type 0} (R : K → K → Ordering) (declared_of : W → Declared K) where
  last_of_most : (test : Declared K → Bool) (n : ℕ) (es : List (Waved W)) → All (λ e. e.wave ≤ n) es → last_of R declared_of test es ≤ n
  last_of_most test n [] a = omega arith
  last_of_most test n (e ∷ es) a =
      let rest = last_of_most test n es (All-tail (λ e. e.wave ≤ n) e es a) in
      let first = All-head (λ e. e.wave ≤ n) e es a in
      elim (test (declared_of e.item)) as (λ b. (if b then max (last_of R declared_of test es) e.wave else last_of R declared_of test es) ≤ n) [
        | true ↦
            omega (arith, rest, first)
        | false ↦ rest
      ]

  wave_most : (n : ℕ) (es : List (Waved W)) (w : W) → All (λ e. e.wave ≤ n) es → wave_behind R declared_of es w ≤ suc n
  wave_most n [] w a = omega arith
  wave_most n (e ∷ es) w a =
      let rest = wave_most n es w (All-tail (λ e. e.wave ≤ n) e es a) in
      let first = All-head (λ e. e.wave ≤ n) e es a in
      elim (conflicts R (declared_of e.item) (declared_of w)) as (λ b.
      (if b then max (suc e.wave) (wave_behind R declared_of es w) else wave_behind R declared_of es w) ≤ suc n) [
        | true ↦
            omega (arith, rest, first)
        | false ↦ rest
      ]

  pub table_below : (table : K → Last) (index : ℕ) (waves : List ℕ) (ws : List W) (n : ℕ) → IsSoFar R declared_of table index waves ws → index < n → (q : K)
      → IsBelow n (table q)
  table_below table index waves ws n s less q =
      let reads = last_of_most (λ d. is_among R d.reads q) index s.earlier s.low in
      let writes = last_of_most (λ d. may_write R d q) index s.earlier s.low in
      rw (s.tells q) ((omega (arith, reads, less), omega (arith, writes, less)))

  pub so_far_none : (table : K → Last) (ws : List W) → ((q : K) → table q ≡ record { reader = 0; writer = 0 }) → IsSoFar R declared_of table 0 [] ws
  so_far_none table ws h = record { earlier = []; tells = h; low = All-nil (λ e. e.wave ≤ 0); same = refl }

  pub so_far_more : (table next : K → Last) (index wave : ℕ) (waves : List ℕ) (ws : List W) (w : W) → IsSoFar R declared_of table index waves ws
      → index < length ws → w ≡ slice_index_or ws index w → wave ≡ wave_by table (declared_of w)
      → ((q : K) → next q ≡ with_writer wave (is_among R (declared_of w).writes q) (with_reader wave (is_among R (declared_of w).reads q) (table q)))
      → IsSoFar R declared_of next (index + 1) (waves ++ wave ∷ []) ws
  so_far_more table next index wave waves ws w s less is by h =
      let number : wave ≡ wave_behind R declared_of s.earlier w = by ∙ by_table R declared_of table s.earlier w s.tells in
      let e : suc index ≡ index + 1 = omega arith in
      let cons : drop index ws ≡ w ∷ drop (index + 1) ws = drop-cons ws index w less ∙ (λ i. sym is i ∷ drop (e i) ws) in
      let x : Waved W = record { wave = wave; item = w } in
      let most = wave_most index s.earlier w s.low in record {
        earlier = x ∷ s.earlier;
        tells = λ q. h q ∙ table_more R declared_of table x s.earlier s.tells q;
        low = All-cons (λ e. e.wave ≤ index + 1) x s.earlier (omega (arith, number, most)) (λ k d below. let low = s.low k d below in omega (arith, low));
        same = append_assoc waves (wave ∷ []) (map (λ e. e.wave) (waved R declared_of (x ∷ s.earlier) (drop (index + 1) ws)))
            ∙ ap (λ n. waves ++ n ∷ map (λ e. e.wave) (waved R declared_of (record { wave = n; item = w } ∷ s.earlier) (drop (index + 1) ws))) number
            ∙ ap (λ l. waves ++ map (λ e. e.wave) (waved R declared_of s.earlier l)) (sym cons)
            ∙ s.same;
      }

  pub so_far_all : (table : K → Last) (waves : List ℕ) (ws : List W) (index : ℕ) → length ws ≤ index → IsSoFar R declared_of table index waves ws
      → waves ≡ map (λ e. e.wave) (waved R declared_of [] ws)
  so_far_all table waves ws index le s = sym (append-nil waves)
      ∙ ap (λ l. waves ++ map (λ e. e.wave) (waved R declared_of s.earlier l)) (sym (drop_all index ws le)) ∙ s.same
