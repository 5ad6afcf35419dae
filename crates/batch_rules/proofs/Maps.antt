-- A database with rows written over it, read key by key; and a run's database as its start with its writes.
use Rattle.std.proofs.Common.{◌≡◌, List, [], ◌∷◌, Bool, true, false, cond, Some, None, Option, refl, sym, ap, ◌∙◌, Ordering}
use Rattle.std.specs.Prelude.{if◌then◌else◌, ◌||◌, is_some}
use Rattle.std.specs.Ordering.{eq_by_cmp}
use Rattle.std.specs.Option.{unwrap_or}
use Rattle.std.specs.Cmp.{IsTotalOrder, Equal-is}
use Rattle.std.specs.FinMap as fin
use Rattle.std.specs.FinMap.{FinMap, IsAntisymmetric, find, same_map}
use Rattle.batch_rules.specs.Trees.{Tree, Ends, Reads, Writes, Read, Write, set_at, trace_of, end_of, left_by}
use Rattle.batch_rules.specs.Touches.{Noted, nothing, noted, all_noted, with_write, is_among, keys_of, overwritten, writes_of, map_after}

module _ {K V : Type 0} {R : K → K → Ordering} (o : IsTotalOrder R) where
  pub get-set_at : (m : FinMap R V) (k : K) (row : Option V) (q : K) → fin.get (set_at m k row) q ≡ cond (eq_by_cmp R q k) row (fin.get m q)
  get-set_at m k None q = fin.get-remove o m k q
  get-set_at m k (Some v) q = fin.get-insert o m k v q

  pub get-overwritten : (m : FinMap R V) (ws : List (K × Option V)) (q : K) → fin.get (overwritten m ws) q ≡ unwrap_or (find R q ws) (fin.get m q)
  get-overwritten m [] q = refl
  get-overwritten m (w ∷ ws) q = get-set_at (overwritten m ws) w.0 w.1 q
      ∙ elim (eq_by_cmp R q w.0) as (λ b. cond b w.1 (fin.get (overwritten m ws) q) ≡ unwrap_or (cond b (Some w.1) (find R q ws)) (fin.get m q)) [
        | true ↦
            refl
        | false ↦ get-overwritten m ws q
      ]

pub same_key : {K : Type 0} {R : K → K → Ordering} → IsAntisymmetric R → (x y : K) → eq_by_cmp R x y ≡ true → x ≡ y
same_key {R = R} anti x y e = anti x y ((Equal-is (R x y)).0 e)

module _ {K V : Type 0} {R : K → K → Ordering} (o : IsTotalOrder R) (anti : IsAntisymmetric R) where
  past : (q k x : K) (row old : Option V) (rest : Option (Option V)) → eq_by_cmp R k x ≡ false
      → cond (eq_by_cmp R q x) (Some old) (cond (eq_by_cmp R q k) (Some row) rest) ≡ cond (eq_by_cmp R q k) (Some row) (cond (eq_by_cmp R q x) (Some old) rest)
  past q k x row old rest apart = elim (eq_by_cmp R q k) as (λ b. eq_by_cmp R q k ≡ b
      → cond (eq_by_cmp R q x) (Some old) (cond b (Some row) rest) ≡ cond b (Some row) (cond (eq_by_cmp R q x) (Some old) rest)) [
        | true ↦ λ e. ap (λ b. cond b (Some old) (Some row)) (ap (λ y. eq_by_cmp R y x) (same_key anti q k e) ∙ apart)
        | false ↦ λ e. refl
      ] refl

  pub find-with_write : (ws : List (K × Option V)) (k : K) (row : Option V) (q : K)
      → find R q (with_write R ws k row) ≡ cond (eq_by_cmp R q k) (Some row) (find R q ws)
  find-with_write [] k row q = refl
  find-with_write (w ∷ ws) k row q = elim (eq_by_cmp R k w.0) as (λ b. eq_by_cmp R k w.0 ≡ b
      → find R q (if b then (w.0, row) ∷ ws else w ∷ with_write R ws k row) ≡ cond (eq_by_cmp R q k) (Some row) (find R q (w ∷ ws))) [
        | true ↦ λ e. rw (same_key anti k w.0 e)
            (elim (eq_by_cmp R q w.0) as (λ b. cond b (Some row) (find R q ws) ≡ cond b (Some row) (cond b (Some w.1) (find R q ws))) [
              | true ↦ refl
              | false ↦
                  refl
            ])
        | false ↦ λ e. ap (cond (eq_by_cmp R q w.0) (Some w.1)) (find-with_write ws k row q) ∙ past q k w.0 row w.1 (find R q ws) e
      ] refl

  pub is_among-with_write : (ws : List (K × Option V)) (k : K) (row : Option V) (q : K)
      → is_among R (keys_of (with_write R ws k row)) q ≡ (eq_by_cmp R q k || is_among R (keys_of ws) q)
  is_among-with_write ws k row q = sym (fin.Entries.is_some-find R q (with_write R ws k row)) ∙ ap is_some (find-with_write ws k row q)
      ∙ elim (eq_by_cmp R q k) as (λ b. is_some (cond b (Some row) (find R q ws)) ≡ (b || is_among R (keys_of ws) q)) [
        | true ↦ refl
        | false ↦
            fin.Entries.is_some-find R q ws
      ]

  pub overwritten-with_write : (db : FinMap R V) (ws : List (K × Option V)) (k : K) (row : Option V)
      → overwritten db (with_write R ws k row) ≡ set_at (overwritten db ws) k row
  overwritten-with_write db ws k row = same_map o anti _ _ (λ q. get-overwritten o db (with_write R ws k row) q
      ∙ ap (λ f. unwrap_or f (fin.get db q)) (find-with_write ws k row q)
      ∙ elim (eq_by_cmp R q k) as (λ b. unwrap_or (cond b (Some row) (find R q ws)) (fin.get db q) ≡ cond b row (fin.get (overwritten db ws) q)) [
        | true ↦
            refl
        | false ↦ sym (get-overwritten o db ws q)
      ]
      ∙ sym (get-set_at o (overwritten db ws) k row q))

module _ {K V A : Type 0} {R : K → K → Ordering} (o : IsTotalOrder R) (anti : IsAntisymmetric R) where
  left_from : (t : Tree K V A) (db : FinMap R V) (n : Noted K V)
      → left_by t (overwritten db n.writes) ≡ overwritten db (all_noted R n (trace_of t (overwritten db n.writes))).writes
  left_from (Ends a) db n = refl
  left_from (Reads k next) db n = left_from (next (fin.get (overwritten db n.writes) k)) db (noted R n (Read k))
  left_from (Writes k row next) db n = rw (← overwritten-with_write o anti db n.writes k row) (left_from next db (noted R n (Write k row)))

  pub left_by-is : (t : Tree K V A) (db : FinMap R V) → left_by t db ≡ overwritten db (all_noted R nothing (trace_of t db)).writes
  left_by-is t db = left_from t db nothing

  pub map_after-is : (is_done : A → Bool) (t : Tree K V A) (db : FinMap R V) → map_after is_done t db ≡ overwritten db (writes_of is_done t db)
  map_after-is is_done t db =
      elim (is_done (end_of t db)) as (λ b. (if b then left_by t db else db) ≡ overwritten db (if b then (all_noted R nothing (trace_of t db)).writes else []))
      [ true ↦ left_by-is t db | false ↦ refl ]
