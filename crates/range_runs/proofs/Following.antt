-- An index follows its database.
use Rattle.std.proofs.Common.{◌≡◌, List, [], ◌∷◌, Bool, true, false, cond, Some, None, Option, refl, sym, ap, ◌∙◌}
use Rattle.std.specs.Prelude.{is_some, ◌||◌}
use Rattle.std.specs.Ordering.{eq_by_cmp}
use Rattle.std.specs.FinMap as fin
use Rattle.aria_base.specs.Orders.{key_cmp, Cells, Database}
use Rattle.aria_base.specs.declared.keys.Key.{Key}
use Rattle.aria_base.proofs.Orders.{key_cmp_total, key_cmp-IsAntisymmetric}
use Rattle.batch_rules.specs.Trees.{set_at}
use Rattle.batch_rules.specs.Touches.{is_among, overwritten, installed}
use Rattle.batch_rules.proofs.Maps.{get-set_at, same_key}
use Rattle.range_runs.specs.Indexes.{Listed, with_keys, followed_one, followed, followed_all, IsIndexOf, HasExactly, HasKeys}
use Rattle.range_runs.specs.Leasts.{can_be}

-- what an index has after a write
pub has-followed : {X : Type 0} (index : Listed) (k : Key) (row : Option X) (q : Key)
    → fin.contains_key (followed_one index k row) q ≡ cond (eq_by_cmp key_cmp q k) (is_some row) (fin.contains_key index q)
has-followed index k None q = ap is_some (fin.get-remove key_cmp_total index k q)
    ∙ elim (eq_by_cmp key_cmp q k) as (λ b. is_some (cond b None (fin.get index q)) ≡ cond b false (fin.contains_key index q)) [
      | true ↦ refl
      | false ↦ refl
    ]
has-followed index k (Some row) q = ap is_some (fin.get-insert key_cmp_total index k tt q)
    ∙ elim (eq_by_cmp key_cmp q k) as (λ b. is_some (cond b (Some tt) (fin.get index q)) ≡ cond b true (fin.contains_key index q)) [
      | true ↦ refl
      | false ↦ refl
    ]

follows_one : (index : Listed) (db : Database) (k : Key) (row : Option Cells) → IsIndexOf index db
    → IsIndexOf (followed_one index k row) (set_at db k row)
follows_one index db k row is q =
    has-followed index k row q
    ∙ elim (eq_by_cmp key_cmp q k) as (λ e. cond e (is_some row) (fin.contains_key index q) ≡ is_some (cond e row (fin.get db q))) [
      | true ↦ refl
      | false ↦ is q
    ]
    ∙ sym (ap is_some (get-set_at key_cmp_total db k row q))

pub follows : (index : Listed) (db : Database) (ws : List (Key × Option Cells)) → IsIndexOf index db
    → IsIndexOf (followed index ws) (overwritten db ws)
follows index db [] is = is
follows index db (w ∷ ws) is = follows_one (followed index ws) (overwritten db ws) w.0 w.1 (follows index db ws is)

-- lists of writes, one after the other
pub follows_all : (index : Listed) (db : Database) (lists : List (List (Key × Option Cells))) → IsIndexOf index db
    → IsIndexOf (followed_all index lists) (installed (λ ws. ws) db lists)
follows_all index db [] is = is
follows_all index db (ws ∷ more) is = follows_all (followed index ws) (overwritten db ws) more (follows index db ws is)

-- a key that is there may be put there again
pub insert-there : (index : Listed) (k : Key) → fin.contains_key index k ≡ true → index ≡ fin.insert index k tt
insert-there index k there = fin.same_map key_cmp_total key_cmp-IsAntisymmetric _ _ (λ q.
    elim (eq_by_cmp key_cmp q k) as (λ e. eq_by_cmp key_cmp q k ≡ e → fin.get index q ≡ cond e (Some tt) (fin.get index q)) [
      | true ↦ λ e. ap (fin.get index) (same_key key_cmp-IsAntisymmetric q k e)
          ∙ elim (fin.get index k) as (λ r. is_some r ≡ true → r ≡ Some tt) [ None ↦ λ e. cc | Some x ↦ λ e. only x ] there
      | false ↦ λ e. refl
    ] refl
    ∙ sym (fin.get-insert key_cmp_total index k tt q))
  where
    only : (x : Unit {0}) → Some x ≡ Some tt
    only tt = refl

-- ---- all that an index has can be keys

pub no_keys : (es : List (Key × Unit {0})) → es ≡ [] → HasKeys (fin.from_entries es)
no_keys es e q there = cc (sym (ap is_some (fin.get-from_entries key_cmp_total es q ∙ ap (fin.find key_cmp q) e)) ∙ there)

pub insert_keys : (index : Listed) (k : Key) → HasKeys index → can_be k.parts ≡ true → HasKeys (fin.insert index k tt)
insert_keys index k has can q there = elim (eq_by_cmp key_cmp q k) as (λ e. eq_by_cmp key_cmp q k ≡ e → cond e true (fin.contains_key index q) ≡ true
    → can_be q.parts ≡ true) [
      | true ↦ λ e _. ap (λ (k : Key). can_be k.parts) (same_key key_cmp-IsAntisymmetric q k e) ∙ can
      | false ↦ λ e there. has q there
    ] refl (sym (has-followed {X = Unit {0}} index k (Some tt) q) ∙ there)

pub remove_keys : (index : Listed) (k : Key) → HasKeys index → HasKeys (fin.remove index k)
remove_keys index k has q there = elim (eq_by_cmp key_cmp q k) as (λ e. cond e false (fin.contains_key index q) ≡ true → can_be q.parts ≡ true) [
  | true ↦ λ there. cc
  | false ↦ λ there. has q there
] (sym (has-followed {X = Unit {0}} index k None q) ∙ there)

-- ---- all keys of a database

pub one_more : (e h a : Bool) → ((cond e true h) || a) ≡ (h || (e || a))
one_more true true a = refl
one_more true false a = refl
one_more false h a = refl

pub or_none : (h : Bool) → h ≡ (h || false)
or_none true = refl
or_none false = refl

pub has-with_keys : (index : Listed) (ks : List Key) (q : Key)
    → fin.contains_key (with_keys index ks) q ≡ (fin.contains_key index q || is_among key_cmp ks q)
has-with_keys index [] q = or_none (fin.contains_key index q)
has-with_keys index (k ∷ ks) q = has-with_keys (fin.insert index k tt) ks q
    ∙ ap (λ h. h || is_among key_cmp ks q) (has-followed {X = Unit {0}} index k (Some tt) q)
    ∙ one_more (eq_by_cmp key_cmp q k) (fin.contains_key index q) (is_among key_cmp ks q)

pub all_listed : (index : Listed) (db : Database) → index ≡ with_keys fin.empty (fin.keys db) → IsIndexOf index db
all_listed index db is q = ap (λ index. fin.contains_key index q) is ∙ has-with_keys fin.empty (fin.keys db) q
    ∙ (λ i. is_some (fin.get-empty {X = Unit {0}} key_cmp q i) || sym (fin.contains_key-keys db q) i)

-- ---- the keys of a list

pub exactly : (index : Listed) (ks : List Key) → index ≡ with_keys fin.empty ks → HasExactly ks index
exactly index ks is q = ap (λ (index : Listed). fin.contains_key index q) is ∙ has-with_keys fin.empty ks q
    ∙ ap (λ found. is_some found || is_among key_cmp ks q) (fin.get-empty {X = Unit {0}} key_cmp q)

-- with one more
pub exactly-more : (index more : Listed) (k : Key) (ks : List Key) → HasExactly ks index → more ≡ fin.insert index k tt → HasExactly (k ∷ ks) more
exactly-more index more k ks has is q = ap (λ (index : Listed). fin.contains_key index q) is ∙ has-followed {X = Unit {0}} index k (Some tt) q
    ∙ elim (eq_by_cmp key_cmp q k) as (λ e. cond e true (fin.contains_key index q) ≡ (e || is_among key_cmp ks q)) [
      | true ↦ refl
      | false ↦ has q
    ]
