-- Rows put where their keys are at a node: the part of a database, and the parts together.
use Rattle.std.proofs.Common.{◌≡◌, ℕ, ◌+◌, ◌<◌, ⊎_elim, List, [], ◌∷◌, Bool, true, false, cond, Some, None, Option, refl, sym, ap, ◌∙◌, arith}
use Rattle.std.specs.Prelude.{if◌then◌else◌, ◌==◌, nat_lt}
use Rattle.std.specs.FinMap as fin
use Rattle.std.specs.FinMap.{find, get-insert, get-empty, get-entries, get-retain_keys, same_map}
use Rattle.std.specs.Ordering.{eq_by_cmp}
use Rattle.std.proofs.lemmas.Bool.{cases_eq, eq-eqb, ne_eqb, cases_lt, lt-ltb, le-ltb}
use Rattle.aria_base.specs.Orders.{key_cmp, Cells, Database}
use Rattle.aria_base.proofs.Orders.{key_cmp_total, key_cmp-IsAntisymmetric, same_key}
use Rattle.aria_base.specs.declared.keys.Key.{Key}
use Rattle.node_batch.specs.Mails.{node_of}
use Rattle.node_seats.specs.RowsAt.{put_all}

-- what was found counts where the key passes the test
abbrev pub or_old : Option Cells → Option Cells → Option Cells
or_old None old = old
or_old (Some row) old = Some row

abbrev pub laid : Bool → Option Cells → Option Cells → Option Cells
laid here found old = if here then or_old found old else old

module _ (is_at : Key → Bool) where
  pub get_all : (rows : List (Key × Cells)) (db : Database) (q : Key) → fin.get (put_all is_at db rows) q ≡ laid (is_at q) (find key_cmp q rows) (fin.get db q)
  get_all [] db q = elim (is_at q) as (λ b. fin.get db q ≡ laid b None (fin.get db q)) [ true ↦ refl | false ↦ refl ]
  get_all (row ∷ rows) db q = elim (is_at row.0) as
      (λ b. is_at row.0 ≡ b → fin.get (if b then fin.insert (put_all is_at db rows) row.0 row.1 else put_all is_at db rows) q
      ≡ laid (is_at q) (cond (eq_by_cmp key_cmp q row.0) (Some row.1) (find key_cmp q rows)) (fin.get db q)) [
        | true ↦ λ here. get-insert key_cmp_total (put_all is_at db rows) row.0 row.1 q
            ∙ elim (eq_by_cmp key_cmp q row.0) as
            (λ t. eq_by_cmp key_cmp q row.0 ≡ t → cond t (Some row.1) (fin.get (put_all is_at db rows) q)
            ≡ laid (is_at q) (cond t (Some row.1) (find key_cmp q rows)) (fin.get db q)) [
              | true ↦ λ t. sym (ap (λ b. laid b (Some row.1) (fin.get db q)) (ap is_at (same_key q row.0 t) ∙ here))
              | false ↦ λ t. get_all rows db q
            ] refl
        | false ↦ λ off. get_all rows db q
            ∙ elim (eq_by_cmp key_cmp q row.0) as
            (λ t. eq_by_cmp key_cmp q row.0 ≡ t → laid (is_at q) (find key_cmp q rows) (fin.get db q)
            ≡ laid (is_at q) (cond t (Some row.1) (find key_cmp q rows)) (fin.get db q)) [
              | true ↦ λ t.
                  let away = ap is_at (same_key q row.0 t) ∙ off in
                  ap (λ b. laid b (find key_cmp q rows) (fin.get db q)) away ∙ sym (ap (λ b. laid b (Some row.1) (fin.get db q)) away)
              | false ↦ λ t. refl
            ] refl
      ] refl

  none_old : (here : Bool) (found : Option Cells) → laid here found None ≡ cond here found None
  none_old true None = refl
  none_old true (Some row) = refl
  none_old false found = refl

  -- all rows of a database, put into an empty one
  pub part_is : (db : Database) → put_all is_at fin.empty (fin.entries db) ≡ fin.retain_keys db is_at
  part_is db = same_map key_cmp_total key_cmp-IsAntisymmetric _ _ (λ q.
      get_all (fin.entries db) fin.empty q ∙ ap (laid (is_at q) (find key_cmp q (fin.entries db))) (get-empty key_cmp q)
      ∙ none_old (is_at q) (find key_cmp q (fin.entries db)) ∙ ap (λ f. cond (is_at q) f None) (sym (get-entries db q))
      ∙ sym (get-retain_keys db is_at q (λ x tie. sym (ap is_at (key_cmp-IsAntisymmetric q x tie)))))

-- ---- the parts of all nodes

module _ (whole : Database) (nodes : ℕ) where
  -- the rows of the nodes before this one
  abbrev pub HasBefore : ℕ → Database → Type 0
  HasBefore n db = (q : Key) → fin.get db q ≡ (if nat_lt (node_of nodes q) n then fin.get whole q else None)

  abbrev pub HasOwn : ℕ → Database → Type 0
  HasOwn n db = (q : Key) → fin.get db q ≡ (if node_of nodes q == n then fin.get whole q else None)

  pub none_before : (db : Database) → db ≡ fin.empty → HasBefore 0 db
  none_before db e q = ap (λ m. fin.get m q) e ∙ get-empty key_cmp q
      ∙ sym (ap (λ b. if b then fin.get whole q else None) (le-ltb (node_of nodes q) 0 (omega arith)))

  over_none : (found : Option Cells) → or_old found None ≡ found
  over_none None = refl
  over_none (Some row) = refl

  pub one_before : (n : ℕ) (db own : Database) → HasBefore n db → HasOwn n own
      → HasBefore (n + 1) (put_all (λ k. node_of nodes k == n) db (fin.entries own))
  one_before n db own h o q =
      let home = node_of nodes q in
      get_all (λ k. node_of nodes k == n) (fin.entries own) db q
      ∙ (λ i. laid (home == n) ((sym (get-entries own q) ∙ o q) i) (h q i))
      ∙ ⊎_elim
      (λ same.
      let here = eq-eqb home n same in
      let late = le-ltb home n (omega arith) in
      let early = lt-ltb home (n + 1) (omega arith) in
      (λ i. laid (here i) (if here i then fin.get whole q else None) (if late i then fin.get whole q else None))
      ∙ over_none (fin.get whole q) ∙ sym (ap (λ b. if b then fin.get whole q else None) early))
      (λ off.
      ap (λ b. laid b (if b then fin.get whole q else None) (if nat_lt home n then fin.get whole q else None)) (ne_eqb home n off)
      ∙ ap (λ b. if b then fin.get whole q else None) (one_more home off))
      (cases_eq home n)
    where
      one_more : (home : ℕ) → (home ≡ n → ⊥) → nat_lt home n ≡ nat_lt home (n + 1)
      one_more home off = ⊎_elim
          (λ less. lt-ltb home n less ∙ sym (lt-ltb home (n + 1) (omega arith)))
          (λ more. le-ltb home n more ∙ sym (le-ltb home (n + 1) (omega arith)))
          (cases_lt home n)

  pub all_before : 0 < nodes → (db : Database) → HasBefore nodes db → db ≡ whole
  all_before some db h = same_map key_cmp_total key_cmp-IsAntisymmetric db whole (λ q.
      h q ∙ ap (λ b. if b then fin.get whole q else None) (lt-ltb (node_of nodes q) nodes (omega arith)))
