-- What a run does depends on its read set alone, or on its declared keys where it stays within them.
use Rattle.std.proofs.Common.{◌≡◌, List, [], ◌∷◌, ◌++◌, Bool, true, false, cond, Some, None, Option, refl, sym, ap, ◌∙◌, Ordering}
use Rattle.std.specs.Prelude.{if◌then◌else◌, ◌||◌}
use Rattle.std.specs.Ordering.{eq_by_cmp, is_eq}
use Rattle.std.proofs.lemmas.Bool.{or_left, or_right}
use Rattle.std.proofs.lemmas.List.Folds.{list_any-append}
use Rattle.std.specs.Cmp.{IsTotalOrder, tied_itself}
use Rattle.std.specs.FinMap as fin
use Rattle.std.specs.FinMap.{FinMap, IsAntisymmetric}
use Rattle.batch_rules.specs.Trees.{Tree, Ends, Reads, Writes, Visit, Read, Write, set_at, trace_of, end_of}
use Rattle.batch_rules.specs.Touches.{Noted, nothing, noted, all_noted, is_among, keys_of, Declared, may_read, may_write, outside}
use Rattle.batch_rules.specs.Laws.{SameRun, AgreeWithin, Agreement, Outside}
use Rattle.batch_rules.proofs.Maps.{get-set_at, is_among-with_write}

or_false : (a : Bool) → (a || false) ≡ true → a ≡ true
or_false true e = refl
or_false false e = e

-- what holds where a or b does still holds where a is weaker
pub weaker : (a c b : Bool) → (a ≡ true → c ≡ true) → (a || b) ≡ true → (c || b) ≡ true
weaker true c b f e = or_left c b (f refl)
weaker false c b f e = or_right c b e

module _ {K V : Type 0} (R : K → K → Ordering) where
  -- notes only grow
  pub among_noted : (n : Noted K V) (visit : Visit K V) (q : K) → is_among R n.reads q ≡ true → is_among R (noted R n visit).reads q ≡ true
  among_noted n (Read k) q e =
      elim (is_among R n.reads k || is_among R (keys_of n.writes) k) as (λ b. is_among R (if b then n.reads else n.reads ++ k ∷ []) q ≡ true) [
        | true ↦ e
        | false ↦ list_any-append (eq_by_cmp R q) n.reads (k ∷ []) ∙ or_left _ _ e
      ]
  among_noted n (Write k row) q e = e

  among_all_noted : (n : Noted K V) (visits : List (Visit K V)) (q : K) → is_among R n.reads q ≡ true → is_among R (all_noted R n visits).reads q ≡ true
  among_all_noted n [] q e = e
  among_all_noted n (visit ∷ visits) q e = among_all_noted (noted R n visit) visits q (among_noted n visit q e)

module _ {K V : Type 0} {R : K → K → Ordering} (o : IsTotalOrder R) where
  -- a key that was read is in the read set, or was written before
  pub has_read : (n : Noted K V) (k : K) → (is_among R (noted R n (Read k)).reads k || is_among R (keys_of n.writes) k) ≡ true
  has_read n k = elim (is_among R n.reads k) as (λ a. is_among R n.reads k ≡ a
      → (is_among R (if a || is_among R (keys_of n.writes) k then n.reads else n.reads ++ k ∷ []) k || is_among R (keys_of n.writes) k) ≡ true) [
        | true ↦ λ e. or_left _ _ e
        | false ↦ λ e. elim (is_among R (keys_of n.writes) k) as (λ b. (is_among R (if b then n.reads else n.reads ++ k ∷ []) k || b) ≡ true) [
          | true ↦ or_right _ _ refl
          | false ↦ or_left _ _ (list_any-append (eq_by_cmp R k) n.reads (k ∷ []) ∙ or_right _ _ (or_left _ _ (ap is_eq (tied_itself o k))))
        ]
      ] refl

  pub set_agree : (m n : FinMap R V) (k : K) (row : Option V) (q : K) → (eq_by_cmp R q k ≡ false → fin.get m q ≡ fin.get n q)
      → fin.get (set_at m k row) q ≡ fin.get (set_at n k row) q
  set_agree m n k row q same = get-set_at o m k row q ∙ elim (eq_by_cmp R q k) as (λ b. (b ≡ false → fin.get m q ≡ fin.get n q)
      → cond b row (fin.get m q) ≡ cond b row (fin.get n q)) [ true ↦ λ f. refl | false ↦ λ f. f refl ] same ∙ sym (get-set_at o n k row q)

module _ {K V A : Type 0} {R : K → K → Ordering} (o : IsTotalOrder R) where
  -- where a run leaves the declared keys depends on them alone
  pub strays : (t : Tree K V A) (declared : Declared K) (x y : FinMap R V) → AgreeWithin declared x y
      → outside R declared (trace_of t x) ≡ outside R declared (trace_of t y)
  strays (Ends a) declared x y h = refl
  strays (Reads k next) declared x y h = elim (may_read R declared k) as (λ b. may_read R declared k ≡ b
      → (if b then outside R declared (trace_of (next (fin.get x k)) x) else Some k) ≡ (if b then outside R declared
      (trace_of (next (fin.get y k)) y) else Some k)) [
        | true ↦ λ e. strays (next (fin.get x k)) declared x y h ∙ ap (λ row. outside R declared (trace_of (next row) y)) (h k e)
        | false ↦ λ e. refl
      ] refl
  strays (Writes k row next) declared x y h = ap (λ r. if may_write R declared k then r else Some k)
      (strays next declared (set_at x k row) (set_at y k row) (λ q e. set_agree o x y k row q (λ apart. h q e)))

module _ {K V A : Type 0} {R : K → K → Ordering} (o : IsTotalOrder R) (anti : IsAntisymmetric R) where
  agree : (t : Tree K V A) (n : Noted K V) (x y : FinMap R V)
      → ((q : K) → (is_among R (all_noted R n (trace_of t x)).reads q || is_among R (keys_of n.writes) q) ≡ true → fin.get x q ≡ fin.get y q)
      → (trace_of t x ≡ trace_of t y) × (end_of t x ≡ end_of t y)
  agree (Ends a) n x y h = (refl, refl)
  agree (Reads k next) n x y h =
      let same : fin.get x k ≡ fin.get y k = h k (weaker _ _ _ (among_all_noted R (noted R n (Read k)) (trace_of (next (fin.get x k)) x) k) (has_read o n k)) in
      let rest = agree (next (fin.get x k)) (noted R n (Read k)) x y h in
      (ap (λ r. Read k ∷ r) rest.0 ∙ ap (λ row. Read k ∷ trace_of (next row) y) same, rest.1 ∙ ap (λ row. end_of (next row) y) same)
  agree (Writes k row next) n x y h =
      let rest = agree next (noted R n (Write k row)) (set_at x k row) (set_at y k row) (λ q e. set_agree o x y k row q (λ apart. h q (
      sym (ap (λ b. is_among R (all_noted R (noted R n (Write k row)) (trace_of next (set_at x k row))).reads q || b)
      (is_among-with_write o anti n.writes k row q ∙ ap (λ b. b || is_among R (keys_of n.writes) q) apart)) ∙ e))) in
      (ap (λ r. Write k row ∷ r) rest.0, rest.1)

  within : (t : Tree K V A) (declared : Declared K) (x y : FinMap R V) → outside R declared (trace_of t x) ≡ None → AgreeWithin declared x y
      → (trace_of t x ≡ trace_of t y) × (end_of t x ≡ end_of t y)
  within (Ends a) declared x y inside h = (refl, refl)
  within (Reads k next) declared x y inside h = elim (may_read R declared k) as (λ b. may_read R declared k ≡ b
      → (if b then outside R declared (trace_of (next (fin.get x k)) x) else Some k) ≡ None
      → (trace_of (Reads k next) x ≡ trace_of (Reads k next) y) × (end_of (Reads k next) x ≡ end_of (Reads k next) y)) [
        | true ↦ λ e inside. let rest = within (next (fin.get x k)) declared x y inside h in
            (ap (λ r. Read k ∷ r) rest.0 ∙ ap (λ row. Read k ∷ trace_of (next row) y) (h k e), rest.1 ∙ ap (λ row. end_of (next row) y) (h k e))
        | false ↦ λ e inside. cc
      ] refl inside
  within (Writes k row next) declared x y inside h =
      elim (may_write R declared k) as (λ b. (if b then outside R declared (trace_of next (set_at x k row)) else Some k) ≡ None
      → (trace_of (Writes k row next) x ≡ trace_of (Writes k row next) y) × (end_of (Writes k row next) x ≡ end_of (Writes k row next) y)) [
        | true ↦ λ inside. let rest = within next declared (set_at x k row) (set_at y k row) inside (λ q e. set_agree o x y k row q (λ apart. h q e)) in
            (ap (λ r. Write k row ∷ r) rest.0, rest.1)
        | false ↦ λ inside. cc
      ] inside

  same_run : (is_done : A → Bool) (t : Tree K V A) (x y : FinMap R V) → (trace_of t x ≡ trace_of t y) × (end_of t x ≡ end_of t y) → SameRun is_done t x y
  same_run is_done t x y e = record { trace = e.0; end = e.1; writes = λ i. if is_done (e.1 i) then (all_noted R nothing (e.0 i)).writes else [] }

  pub agreement : (is_done : A → Bool) (t : Tree K V A) (m n : FinMap R V) → Agreement is_done t m n
  agreement is_done t m n h = same_run is_done t m n (agree t nothing m n (λ q e. h q (or_false _ e)))

  pub outside-is : (is_done : A → Bool) (t : Tree K V A) (declared : Declared K) (m n : FinMap R V) → Outside is_done t declared m n
  outside-is is_done t declared m n inside h = let run = within t declared m n inside h in
      (same_run is_done t m n run, ap (outside R declared) (sym run.0) ∙ inside)
