-- The rows of a map in order: with another row in the place of one, without one, and those that pass a test.
use Rattle.std.proofs.Common.{◌≡◌, refl, sym, ap, subst, ◌∙◌, Bool, true, false, cond, not, ◌&&◌, T, List, [], ◌∷◌, Option}
use Rattle.std.proofs.Common.{Some, None, is_none, is_eq, is_lt}
use Rattle.std.proofs.Common.{Ordering, Less, Equal, Greater, true≢false}
use Rattle.std.specs.List.{filter, AllByRecursion}
use Rattle.std.specs.Ordering.{eq_by_cmp}
use Rattle.std.specs.FinMap as fin
use Rattle.std.specs.FinMap.Entries as list
use Rattle.std.proofs.lemmas.Bool.{and_parts}
use Rattle.std.proofs.lemmas.Cmp.{eq_by_cmp_equiv}
use Rattle.aria_base.specs.Orders.{key_cmp, Cells, Database}
use Rattle.aria_base.specs.declared.keys.Key.{Key}
use Rattle.aria_base.proofs.Orders.{key_cmp_total, key_cmp-IsAntisymmetric}
use Rattle.batch_rules.proofs.Maps.{same_key}

abbrev pub Rows : Type 0
Rows = List (Key × Cells)

abbrev pub ties : Key → Key → Bool
ties a b = eq_by_cmp key_cmp a b

pub tied : (a b : Key) → ties a b ≡ true → a ≡ b
tied a b e = same_key key_cmp-IsAntisymmetric a b e

pub ties-self : (k : Key) → ties k k ≡ true
ties-self k = (eq_by_cmp_equiv key_cmp_total).refl k

not_found : (row : Cells) → None ≡ Some row → ⊥
not_found row e = true≢false (ap is_none e)

-- ---- another row

-- the row at this key is another one
abbrev pub changed : Key → Cells → Rows → Rows
changed k v [] = []
changed k v (e ∷ es) = cond (ties k e.0) ((e.0, v) ∷ es) (e ∷ changed k v es)

below-changed : (x k : Key) (v : Cells) (es : Rows) → list.below_all key_cmp x (changed k v es) ≡ list.below_all key_cmp x es
below-changed x k v [] = refl
below-changed x k v (e ∷ es) =
    elim (ties k e.0) as (λ b. list.below_all key_cmp x (cond b ((e.0, v) ∷ es) (e ∷ changed k v es)) ≡ list.below_all key_cmp x (e ∷ es)) [
      | true ↦ refl
      | false ↦ ap (λ b. is_lt (key_cmp x e.0) && b) (below-changed x k v es)
    ]

sorted-changed : (k : Key) (v : Cells) (es : Rows) → list.is_sorted key_cmp (changed k v es) ≡ list.is_sorted key_cmp es
sorted-changed k v [] = refl
sorted-changed k v (e ∷ es) =
    elim (ties k e.0) as (λ b. list.is_sorted key_cmp (cond b ((e.0, v) ∷ es) (e ∷ changed k v es)) ≡ list.is_sorted key_cmp (e ∷ es)) [
      | true ↦ refl
      | false ↦ λ i. below-changed e.0 k v es i && sorted-changed k v es i
    ]

-- of two tests that are not both passed, either comes first
apart : (a b : Bool) (x y z : Option Cells) → (a ≡ true → b ≡ true → ⊥) → cond a x (cond b y z) ≡ cond b y (cond a x z)
apart true true x y z never = absurd (never refl refl)
apart true false x y z never = refl
apart false b x y z never = refl

find-changed : (k : Key) (v old : Cells) (es : Rows) (q : Key) → list.find key_cmp k es ≡ Some old
    → list.find key_cmp q (changed k v es) ≡ cond (ties q k) (Some v) (list.find key_cmp q es)
find-changed k v old [] q found = absurd (not_found old found)
find-changed k v old (e ∷ es) q found =
    elim (ties k e.0) as (λ b. ties k e.0 ≡ b → cond b (Some e.1) (list.find key_cmp k es) ≡ Some old
    → list.find key_cmp q (cond b ((e.0, v) ∷ es) (e ∷ changed k v es)) ≡ cond (ties q k) (Some v) (list.find key_cmp q (e ∷ es))) [
      | true ↦ λ is f. subst (λ x. cond (ties q e.0) (Some v) (list.find key_cmp q es) ≡ cond (ties q x) (Some v) (list.find key_cmp q (e ∷ es)))
          (sym (tied k e.0 is)) (once (ties q e.0) (Some v) (Some e.1) (list.find key_cmp q es))
      | false ↦ λ other f. ap (cond (ties q e.0) (Some e.1)) (find-changed k v old es q f)
          ∙ apart (ties q e.0) (ties q k) (Some e.1) (Some v) (list.find key_cmp q es)
          (λ one two. true≢false (sym (subst (λ x. ties x e.0 ≡ true) (tied q k two) one) ∙ other))
    ] refl found
  where
    once : (b : Bool) (x y z : Option Cells) → cond b x z ≡ cond b x (cond b y z)
    once true x y z = refl
    once false x y z = refl

-- a row that is there, in the place of which another one is put
pub entries-changed : (db : Database) (k : Key) (v old : Cells) → fin.get db k ≡ Some old
    → fin.entries (fin.insert db k v) ≡ changed k v (fin.entries db)
entries-changed db k v old there =
    let es = fin.entries db in
    list.same_entries key_cmp key_cmp_total key_cmp-IsAntisymmetric (fin.entries (fin.insert db k v)) (changed k v es) (fin.entries_sorted (fin.insert db k v))
    (subst T (sym (sorted-changed k v es)) (fin.entries_sorted db))
    (λ q. sym (fin.get-entries (fin.insert db k v) q) ∙ fin.get-insert key_cmp_total db k v q
    ∙ ap (cond (ties q k) (Some v)) (fin.get-entries db q)
    ∙ sym (find-changed k v old es q (sym (fin.get-entries db k) ∙ there)))

-- ---- some of the rows

pub entries-kept : (db : Database) (p : Key → Bool) → fin.entries (fin.retain_keys db p) ≡ filter (λ e. p e.0) (fin.entries db)
entries-kept db p =
    let alike : (q x : Key) → key_cmp q x ≡ Equal → p x ≡ p q = λ q x e. ap p (sym (key_cmp-IsAntisymmetric q x e)) in
    list.same_entries key_cmp key_cmp_total key_cmp-IsAntisymmetric (fin.entries (fin.retain_keys db p)) (filter (λ e. p e.0) (fin.entries db))
    (fin.entries_sorted (fin.retain_keys db p)) (list.is_sorted-where_key key_cmp p (fin.entries db) (fin.entries_sorted db))
    (λ q. sym (fin.get-entries (fin.retain_keys db p) q) ∙ fin.get-retain_keys db p q (alike q)
    ∙ ap (λ o. cond (p q) o None) (fin.get-entries db q) ∙ sym (list.find-where_key key_cmp p q (alike q) (fin.entries db)))

-- to remove is to keep all others
pub removed-kept : (db : Database) (k : Key) → fin.remove db k ≡ fin.retain_keys db (λ x. not (ties k x))
removed-kept db k = fin.same_map key_cmp_total key_cmp-IsAntisymmetric (fin.remove db k) (fin.retain_keys db (λ x. not (ties k x)))
    (λ q. fin.get-remove key_cmp_total db k q
    ∙ ap (λ b. cond b None (fin.get db q)) ((eq_by_cmp_equiv key_cmp_total).symm q k)
    ∙ turned (ties k q) (fin.get db q)
    ∙ sym (fin.get-retain_keys db (λ x. not (ties k x)) q (λ x e. ap (λ x. not (ties k x)) (sym (key_cmp-IsAntisymmetric q x e)))))
  where
    turned : (b : Bool) (o : Option Cells) → cond b None o ≡ cond (not b) o None
    turned true o = refl
    turned false o = refl

-- ---- each row is found

none-below : (x : Key) (es : Rows) → list.below_all key_cmp x es ≡ true → list.find key_cmp x es ≡ None
none-below x [] e = refl
none-below x (e ∷ es) below =
    let parts = and_parts (is_lt (key_cmp x e.0)) (list.below_all key_cmp x es) below in
    before (key_cmp x e.0) parts.0 ∙ none-below x es parts.1
  where
    before : (o : Ordering) → is_lt o ≡ true → cond (is_eq o) (Some e.1) (list.find key_cmp x es) ≡ list.find key_cmp x es
    before Less h = refl
    before Equal h = absurd (true≢false (sym h))
    before Greater h = absurd (true≢false (sym h))

-- what holds of each row that is found holds of each row of the list
each-found : (P : Key → Cells → Type 0) (es : Rows) → list.is_sorted key_cmp es ≡ true
    → ((q : Key) (row : Cells) → list.find key_cmp q es ≡ Some row → P q row) → AllByRecursion (λ e. P e.0 e.1) es
each-found P [] sorted all = tt
each-found P (e ∷ es) sorted all =
    let parts = and_parts (list.below_all key_cmp e.0 es) (list.is_sorted key_cmp es) sorted in (
      all e.0 e.1 (ap (λ b. cond b (Some e.1) (list.find key_cmp e.0 es)) (ties-self e.0)),
      each-found P es parts.1 (λ q row found. all q row (behind q row (ties q e.0) refl (none-below e.0 es parts.0) found)),
    )
  where
    behind : (q : Key) (row : Cells) (b : Bool) → ties q e.0 ≡ b → list.find key_cmp e.0 es ≡ None → list.find key_cmp q es ≡ Some row
        → cond (ties q e.0) (Some e.1) (list.find key_cmp q es) ≡ Some row
    behind q row true is none found = absurd (not_found row
        (sym none ∙ ap (λ x. list.find key_cmp x es) (sym (tied q e.0 is)) ∙ found))
    behind q row false other none found = ap (λ b. cond b (Some e.1) (list.find key_cmp q es)) other ∙ found

truth : (b : Bool) → T b → b ≡ true
truth true t = refl
truth false t = absurd t

pub each-entry : (P : Key → Cells → Type 0) (db : Database) → ((q : Key) (row : Cells) → fin.get db q ≡ Some row → P q row)
    → AllByRecursion (λ e. P e.0 e.1) (fin.entries db)
each-entry P db all = each-found P (fin.entries db) (truth (list.is_sorted key_cmp (fin.entries db)) (fin.entries_sorted db))
    (λ q row found. all q row (fin.get-entries db q ∙ found))
