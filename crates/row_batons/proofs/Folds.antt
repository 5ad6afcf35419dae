-- The late fold place by place: what a request finds, what it leaves alone, and that handed rows are enough for its run.
use Rattle.std.proofs.Common.{◌≡◌, ◌≢◌, ℕ, zero, suc, ◌+◌, ◌<◌, ◌≤◌, Bool, true, false, List, [], ◌∷◌, length, cond, Option, Some, None, refl, sym, ap, ◌∙◌, arith, Ordering}
use Rattle.std.specs.Prelude.{◌||◌}
use Rattle.std.specs.Ordering.{eq_by_cmp}
use Rattle.std.specs.Cmp.{IsTotalOrder}
use Rattle.std.specs.FinMap as fin
use Rattle.std.specs.FinMap.{FinMap, IsAntisymmetric, find, same_map}
use Rattle.std.specs.Option.{unwrap_or}
use Rattle.std.proofs.Math.Seq.{take-length}
use Rattle.std.proofs.lemmas.Cmp.{eq_by_cmp_equiv}
use Rattle.std.proofs.lemmas.Bool.{true≢false, false_from_ne_true}
use mathlib.Core.Option as std_option
use mathlib.Core.Option.{none, some, some-injective, some-ne-none}
use lib.ListN.{get_elem?}
use Rattle.batch_rules.specs.Trees.{Tree}
use Rattle.batch_rules.specs.Touches.{Declared, is_among, keys_of, may_read, may_write, overwritten}
use Rattle.batch_rules.specs.Batches.{Fate, late_fate, late_map, late_fates, late_left}
use Rattle.batch_rules.specs.Laws.{AgreeWithin}
use Rattle.batch_rules.specs.Waves.{late_rows}
use Rattle.batch_rules.proofs.Within.{late_map-is, late_keys, late_agree}
use Rattle.batch_rules.proofs.Installs.{get-apart, not_found}
use Rattle.batch_rules.proofs.Maps.{same_key, get-overwritten}
use Rattle.work_claim.specs.Rule.{times}
use Rattle.baton_crew.specs.Courses.{IsCourse}
use Rattle.row_batons.specs.Fallbacks.{row_at, found_at, course_of, IsLaidOut}

there : {A : Type 0} (xs : List A) (i : ℕ) → i < length xs → (x : A) × (get_elem? xs i ≡ some x)
there [] i lt = absurd (omega arith)
there (x ∷ xs) zero lt = (x, refl)
there (x ∷ xs) (suc i) lt = there xs i (omega arith)

below : {A : Type 0} (xs : List A) (i : ℕ) (x : A) → get_elem? xs i ≡ some x → i < length xs
below [] i x at = absurd (some-ne-none x (sym at))
below (y ∷ ys) zero x at = omega arith
below (y ∷ ys) (suc i) x at = let rest = below ys i x at in omega arith

-- a key stands among the keys, or none is it
pub stands : {K : Type 0} {R : K → K → Ordering} (anti : IsAntisymmetric R) (keys : List K) (q : K) → is_among R keys q ≡ true
    → (k : ℕ) × (get_elem? keys k ≡ some q)
stands anti [] q among = absurd (true≢false (sym among))
stands {R = R} anti (key ∷ keys) q among = elim (eq_by_cmp R q key) as (λ b. eq_by_cmp R q key ≡ b → (b || is_among R keys q) ≡ true
    → (k : ℕ) × (get_elem? (key ∷ keys) k ≡ some q)) [
      | true ↦ λ same _. (zero, ap some (sym (same_key anti q key same)))
      | false ↦ λ other rest. let at = stands anti keys q rest in (suc at.0, at.1)
    ] refl among

module _ {K : Type 0} {R : K → K → Ordering} (o : IsTotalOrder R) where
  pub among_at : (ks : List K) (k : ℕ) (p : K) → get_elem? ks k ≡ some p → is_among R ks p ≡ true
  among_at [] k p at = absurd (some-ne-none p (sym at))
  among_at (y ∷ ys) zero p at = ap (λ (z : K). eq_by_cmp R p z || is_among R ys p) (some-injective y p at)
      ∙ ap (λ b. b || is_among R ys p) ((eq_by_cmp_equiv o).refl p)
  among_at (y ∷ ys) (suc k) p at = elim (eq_by_cmp R p y) as (λ b. (b || is_among R ys p) ≡ true) [ true ↦ refl | false ↦ among_at ys k p at ]

-- rows of a database are found in it
found_row : {K V : Type 0} {R : K → K → Ordering} (anti : IsAntisymmetric R) (m : FinMap R V) (ps : List (K × Option V)) (q : K)
    → ((k : ℕ) (p : K × Option V) → get_elem? ps k ≡ some p → p.1 ≡ fin.get m p.0) → is_among R (keys_of ps) q ≡ true → find R q ps ≡ Some (fin.get m q)
found_row anti m [] q rows among = absurd (true≢false (sym among))
found_row {R = R} anti m (p ∷ ps) q rows among = elim (eq_by_cmp R q p.0) as (λ b. eq_by_cmp R q p.0 ≡ b → (b || is_among R (keys_of ps) q) ≡ true
    → cond b (Some p.1) (find R q ps) ≡ Some (fin.get m q)) [
      | true ↦ λ same _. ap Some (rows zero p refl ∙ ap (fin.get m) (sym (same_key anti q p.0 same)))
      | false ↦ λ _ rest. found_row anti m ps q (λ k p at. rows (suc k) p at) rest
    ] refl among

module _ {K V W A : Type 0} {R : K → K → Ordering} (o : IsTotalOrder R) (anti : IsAntisymmetric R) (is_done : A → Bool) (declared_of : W → Declared K)
    (tree : W → Tree K V A) where
  -- what the next place finds
  pub found_next : (db : FinMap R V) (ws : List W) (x : ℕ) (w : W) → get_elem? ws x ≡ some w
      → found_at is_done declared_of tree db ws (suc x) ≡ late_map is_done (declared_of w) (tree w) (found_at is_done declared_of tree db ws x)
  found_next db [] x w at = absurd (some-ne-none w (sym at))
  found_next db (v ∷ ws) zero w at = ap (λ (u : W). late_map is_done (declared_of u) (tree u) db) (some-injective v w at)
  found_next db (v ∷ ws) (suc x) w at = found_next (late_map is_done (declared_of v) (tree v) db) ws x w at

  -- a late run leaves alone what it may not write
  pub left_alone : (db : FinMap R V) (w : W) (q : K) → may_write R (declared_of w) q ≡ false
      → fin.get (late_map is_done (declared_of w) (tree w) db) q ≡ fin.get db q
  left_alone db w q not =
      ap (λ m. fin.get m q) (late_map-is o anti is_done (declared_of w) (tree w) db)
      ∙ get-apart o anti db (late_rows is_done (declared_of w) (tree w) db) q
      (false_from_ne_true _ (λ among. true≢false (sym (late_keys o anti is_done (declared_of w) (tree w) db q among) ∙ not)))

  -- a key that no request may write has its first row all the while
  pub untouched : (db : FinMap R V) (ws : List W) (q : K) → ((x : ℕ) (w : W) → get_elem? ws x ≡ some w → may_write R (declared_of w) q ≡ false)
      → (x : ℕ) → fin.get (found_at is_done declared_of tree db ws x) q ≡ fin.get db q
  untouched db ws q none_may zero = refl
  untouched db [] q none_may (suc x) = refl
  untouched db (v ∷ ws) q none_may (suc x) =
      untouched (late_map is_done (declared_of v) (tree v) db) ws q (λ y w at. none_may (suc y) w at) x
      ∙ left_alone db v q (none_may zero v refl)

  module _ (db : FinMap R V) (ws : List W) (keys : List K) (touches : ℕ → List ℕ) (laid : IsLaidOut R declared_of ws keys touches) where
    may_read_too : (w : W) (q : K) → may_write R (declared_of w) q ≡ true → may_read R (declared_of w) q ≡ true
    may_read_too w q may = elim (is_among R (declared_of w).reads q) as (λ b. (b || may_write R (declared_of w) q) ≡ true) [ true ↦ refl | false ↦ may ]

    frame : (x k : ℕ) → x < length ws → times k (touches x) ≡ 0
        → row_at (found_at is_done declared_of tree db ws (suc x)) (get_elem? keys k) ≡ row_at (found_at is_done declared_of tree db ws x) (get_elem? keys k)
    frame x k lt apart = elim (get_elem? keys k) as (λ s. get_elem? keys k ≡ s
        → row_at (found_at is_done declared_of tree db ws (suc x)) s ≡ row_at (found_at is_done declared_of tree db ws x) s) [
          | none ↦ λ _. refl
          | some q ↦ λ at.
              let w = there ws x lt in
              let not : may_write R (declared_of w.0) q ≡ false =
              false_from_ne_true _ (λ may. absurd (let touched = laid.read x k w.0 q w.1 (may_read_too w.0 q may) at in omega arith)) in
              ap (λ m. fin.get m q) (found_next db ws x w.0 w.1) ∙ left_alone (found_at is_done declared_of tree db ws x) w.0 q not
        ] refl

    -- the waiting requests are a course
    pub is_course : IsCourse (course_of is_done declared_of tree db ws keys touches)
    is_course = record { few = laid.few; within = laid.within; once = laid.once; frame = frame }

    -- Rows of the slots that a request touches, over a database that has the first rows elsewhere, are enough for its run.
    pub enough : (x : ℕ) (w : W) (m : FinMap R V) → get_elem? ws x ≡ some w
        → ((k : ℕ) (q : K) → 1 ≤ times k (touches x) → get_elem? keys k ≡ some q → fin.get m q ≡ fin.get (found_at is_done declared_of tree db ws x) q)
        → ((q : K) → is_among R keys q ≡ false → fin.get m q ≡ fin.get db q)
        → AgreeWithin (declared_of w) m (found_at is_done declared_of tree db ws x)
    enough x w m at handed else q may = elim (is_among R keys q) as (λ b. is_among R keys q ≡ b
        → fin.get m q ≡ fin.get (found_at is_done declared_of tree db ws x) q) [
          | true ↦ λ among. let k = stands anti keys q among in handed k.0 q (laid.read x k.0 w q at may k.1) k.1
          | false ↦ λ apart.
              else q apart
              ∙ sym (untouched db ws q (λ y v there_. false_from_ne_true _
              (λ may_write_. absurd (true≢false (sym (laid.written y v q there_ may_write_) ∙ apart)))) x)
        ] refl

    -- The first database with the last rows of all slots written over it is what the late fold leaves.
    pub left_is : (ps : List (K × Option V)) → keys_of ps ≡ keys
        → ((k : ℕ) (p : K × Option V) → get_elem? ps k ≡ some p → p.1 ≡ fin.get (late_left is_done declared_of tree db ws) p.0)
        → overwritten db ps ≡ late_left is_done declared_of tree db ws
    left_is ps same rows = same_map o anti _ _ (λ q. get-overwritten o db ps q
        ∙ elim (is_among R (keys_of ps) q) as (λ b. is_among R (keys_of ps) q ≡ b
        → unwrap_or (find R q ps) (fin.get db q) ≡ fin.get (late_left is_done declared_of tree db ws) q) [
          | true ↦ λ among. ap (λ (f : Option (Option V)). unwrap_or f (fin.get db q))
              (found_row anti (late_left is_done declared_of tree db ws) ps q rows among)
          | false ↦ λ apart.
              ap (λ (f : Option (Option V)). unwrap_or f (fin.get db q)) (not_found R ps q apart)
              ∙ sym (ap (λ l. fin.get (late_left is_done declared_of tree db l) q) (sym (take-length ws))
              ∙ untouched db ws q (λ y v there_. false_from_ne_true _
              (λ may_write_. absurd (true≢false (sym (laid.written y v q there_ may_write_) ∙ ap (λ ks. is_among R ks q) (sym same) ∙ apart)))) (length ws))
        ] refl)

  -- fates place by place are those of the fold
  pub fates_are : (db : FinMap R V) (ws : List W) (fates : List (Fate K A)) → length fates ≡ length ws
      → ((x : ℕ) (w : W) (f : Fate K A) → get_elem? ws x ≡ some w → get_elem? fates x ≡ some f
      → f ≡ late_fate (declared_of w) (tree w) (found_at is_done declared_of tree db ws x))
      → fates ≡ late_fates is_done declared_of tree db ws
  fates_are db [] [] same each = refl
  fates_are db [] (f ∷ fs) same each = absurd (omega arith)
  fates_are db (w ∷ ws) [] same each = absurd (omega arith)
  fates_are db (w ∷ ws) (f ∷ fs) same each =
      ap (λ g. g ∷ fs) (each zero w f refl refl)
      ∙ ap (λ gs. late_fate (declared_of w) (tree w) db ∷ gs)
      (fates_are (late_map is_done (declared_of w) (tree w) db) ws fs (omega arith) (λ x v g at at'. each (suc x) v g at at'))

  module _ (db : FinMap R V) (ws : List W) (keys : List K) (touches : ℕ → List ℕ) (laid_out : IsLaidOut R declared_of ws keys touches) (x : ℕ) (w : W)
      (m : FinMap R V) (at : get_elem? ws x ≡ some w)
      (handed : (k : ℕ) (q : K) → 1 ≤ times k (touches x) → get_elem? keys k ≡ some q → fin.get m q ≡ fin.get (found_at is_done declared_of tree db ws x) q)
      (else : (q : K) → is_among R keys q ≡ false → fin.get m q ≡ fin.get db q) where
    same_run : (late_fate (declared_of w) (tree w) m ≡ late_fate (declared_of w) (tree w) (found_at is_done declared_of tree db ws x))
        × (late_rows is_done (declared_of w) (tree w) m ≡ late_rows is_done (declared_of w) (tree w) (found_at is_done declared_of tree db ws x))
    same_run = late_agree o anti is_done (declared_of w) (tree w) m (found_at is_done declared_of tree db ws x)
        (enough db ws keys touches laid_out x w m at handed else)

    -- what becomes of the request on the handed rows is what the fold says
    pub same_fate : late_fate (declared_of w) (tree w) m ≡ late_fate (declared_of w) (tree w) (found_at is_done declared_of tree db ws x)
    same_fate = same_run.0

    -- and so are the rows of its slots afterwards
    pub same_rows : (k : ℕ) → 1 ≤ times k (touches x) → row_at (late_map is_done (declared_of w) (tree w) m) (get_elem? keys k) ≡ row_at
        (found_at is_done declared_of tree db ws (suc x)) (get_elem? keys k)
    same_rows k touched = elim (get_elem? keys k) as (λ s. get_elem? keys k ≡ s
        → row_at (late_map is_done (declared_of w) (tree w) m) s ≡ row_at (found_at is_done declared_of tree db ws (suc x)) s) [
          | none ↦ λ _. refl
          | some q ↦ λ key.
              ap (λ n. fin.get n q) (late_map-is o anti is_done (declared_of w) (tree w) m)
              ∙ get-overwritten o m (late_rows is_done (declared_of w) (tree w) m) q
              ∙ ap (λ l. unwrap_or (find R q l) (fin.get m q)) same_run.1
              ∙ ap (unwrap_or (find R q (late_rows is_done (declared_of w) (tree w) (found_at is_done declared_of tree db ws x)))) (handed k q touched key)
              ∙ sym (get-overwritten o (found_at is_done declared_of tree db ws x)
              (late_rows is_done (declared_of w) (tree w) (found_at is_done declared_of tree db ws x)) q)
              ∙ sym (ap (λ n. fin.get n q) (found_next db ws x w at
              ∙ late_map-is o anti is_done (declared_of w) (tree w) (found_at is_done declared_of tree db ws x)))
        ] refl
