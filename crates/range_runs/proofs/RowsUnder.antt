-- The rows of a database under a prefix, as an index finds them, and with writes over them.
use Rattle.std.proofs.Common.{◌≡◌, List, [], ◌∷◌, ◌++◌, Bool, true, false, cond, Some, None, Option, refl, sym, ap, ◌∙◌}
use Rattle.std.specs.Prelude.{◌||◌, ◌&&◌, if◌then◌else◌, is_some}
use Rattle.std.specs.List.{filter}
use Rattle.std.specs.Ordering.{eq_by_cmp}
use Rattle.std.specs.FinMap as fin
use Rattle.std.specs.FinMap.{same_map}
use Rattle.std.proofs.lemmas.List.Folds.{list_any-append}
use Rattle.aria_base.specs.Orders.{key_cmp, Cells, Database}
use Rattle.aria_base.specs.declared.keys.Key.{Key}
use Rattle.aria_base.proofs.Orders.{key_cmp_total, key_cmp-IsAntisymmetric}
use Rattle.batch_rules.specs.Trees.{set_at}
use Rattle.batch_rules.specs.Touches.{is_among, keys_of, overwritten}
use Rattle.batch_rules.proofs.Maps.{get-set_at, same_key}
use Rattle.range_rules.specs.declared.routines.Prefix.{Prefix}
use Rattle.range_rules.specs.Scans.{is_under}
use Rattle.range_runs.specs.Indexes.{Listed, IsIndexOf, HasExactly}
use Rattle.range_runs.specs.Windows.{write_under, written_under}

-- what the rows under a prefix have at a key
pub get-under : {X : Type 0} (m : fin.FinMap key_cmp X) (p : Prefix) (q : Key) → fin.get (fin.retain_keys m (is_under p)) q
    ≡ cond (is_under p q) (fin.get m q) None
get-under m p q = fin.get-retain_keys m (is_under p) q (λ z t. ap (is_under p) (sym (key_cmp-IsAntisymmetric q z t)))

-- ---- with writes over them

write-is : (p : Prefix) (db : Database) (k : Key) (row : Option Cells) → write_under p (fin.retain_keys db (is_under p)) k row
    ≡ fin.retain_keys (set_at db k row) (is_under p)
write-is p db k row = same_map key_cmp_total key_cmp-IsAntisymmetric _ _ (λ q.
    elim (is_under p k) as (λ b. is_under p k ≡ b → fin.get (if b then set_at (fin.retain_keys db (is_under p)) k row else fin.retain_keys db (is_under p)) q
    ≡ cond (is_under p q) (cond (eq_by_cmp key_cmp q k) row (fin.get db q)) None) [
      | true ↦ λ u. get-set_at key_cmp_total (fin.retain_keys db (is_under p)) k row q ∙ ap (cond (eq_by_cmp key_cmp q k) row) (get-under db p q)
          ∙ elim (eq_by_cmp key_cmp q k) as (λ e. eq_by_cmp key_cmp q k ≡ e → cond e row (cond (is_under p q) (fin.get db q) None)
          ≡ cond (is_under p q) (cond e row (fin.get db q)) None) [
            | true ↦ λ e. sym (ap (λ b. cond b row None) (ap (is_under p) (same_key key_cmp-IsAntisymmetric q k e) ∙ u))
            | false ↦ λ e. refl
          ] refl
      | false ↦ λ u. get-under db p q
          ∙ elim (eq_by_cmp key_cmp q k) as (λ e. eq_by_cmp key_cmp q k ≡ e → cond (is_under p q) (fin.get db q) None
          ≡ cond (is_under p q) (cond e row (fin.get db q)) None) [
            | true ↦ λ e. let out = ap (is_under p) (same_key key_cmp-IsAntisymmetric q k e) ∙ u in ap (λ b. cond b (fin.get db q) None) out
                ∙ sym (ap (λ b. cond b row None) out)
            | false ↦ λ e. refl
          ] refl
    ] refl
    ∙ sym (get-under (set_at db k row) p q ∙ ap (λ r. cond (is_under p q) r None) (get-set_at key_cmp_total db k row q)))

pub written-is : (p : Prefix) (db : Database) (ws : List (Key × Option Cells)) → written_under p (fin.retain_keys db (is_under p)) ws
    ≡ fin.retain_keys (overwritten db ws) (is_under p)
written-is p db [] = refl
written-is p db (w ∷ ws) = ap (λ m. write_under p m w.0 w.1) (written-is p db ws) ∙ write-is p (overwritten db ws) w.0 w.1

-- ---- as an index finds them

is_among-filter : (test : Key → Bool) (ks : List Key) (q : Key) → is_among key_cmp (filter test ks) q ≡ (test q && is_among key_cmp ks q)
is_among-filter test [] q = elim (test q) as (λ b. false ≡ (b && false)) [ true ↦ refl | false ↦ refl ]
is_among-filter test (k ∷ ks) q = elim (test k) as (λ b. test k ≡ b → is_among key_cmp (cond b (k ∷ filter test ks) (filter test ks)) q
    ≡ (test q && (eq_by_cmp key_cmp q k || is_among key_cmp ks q))) [
      | true ↦ λ t. elim (eq_by_cmp key_cmp q k) as (λ e. eq_by_cmp key_cmp q k ≡ e → (e || is_among key_cmp (filter test ks) q)
          ≡ (test q && (e || is_among key_cmp ks q))) [
            | true ↦ λ e. sym (ap (λ b. b && true) (ap test (same_key key_cmp-IsAntisymmetric q k e) ∙ t))
            | false ↦ λ e. is_among-filter test ks q
          ] refl
      | false ↦ λ t. elim (eq_by_cmp key_cmp q k) as (λ e. eq_by_cmp key_cmp q k ≡ e → is_among key_cmp (filter test ks) q
          ≡ (test q && (e || is_among key_cmp ks q))) [
            | true ↦ λ e. let out = ap test (same_key key_cmp-IsAntisymmetric q k e) ∙ t in is_among-filter test ks q ∙ ap (λ b. b && is_among key_cmp ks q) out
                ∙ sym (ap (λ b. b && true) out)
            | false ↦ λ e. is_among-filter test ks q
          ] refl
    ] refl

absent : {X : Type 0} (r : Option X) → cond (is_some r) r None ≡ r
absent None = refl
absent (Some x) = refl

-- at the keys that an index has under a prefix stand all its rows
pub found-is : (index : Listed) (db found : Database) (p : Prefix) → IsIndexOf index db
    → ((q : Key) → fin.get found q ≡ cond (is_among key_cmp (filter (is_under p) (fin.keys index)) q) (fin.get db q) None)
    → found ≡ fin.retain_keys db (is_under p)
found-is index db found p is at = same_map key_cmp_total key_cmp-IsAntisymmetric _ _ (λ q.
    at q ∙ ap (λ b. cond b (fin.get db q) None) (is_among-filter (is_under p) (fin.keys index) q
    ∙ ap (λ b. is_under p q && b) (sym (fin.contains_key-keys index q) ∙ is q))
    ∙ elim (is_under p q) as (λ u. cond (u && fin.contains_key db q) (fin.get db q) None ≡ cond u (fin.get db q) None) [
      | true ↦ absent (fin.get db q)
      | false ↦ refl
    ]
    ∙ sym (get-under db p q))

-- ---- what stands at some keys, over what stood there

either : (a b : Bool) (r s : Option Cells) → cond b r (cond a r s) ≡ cond (a || (b || false)) r s
either true true r s = refl
either true false r s = refl
either false true r s = refl
either false false r s = refl

-- one key more
pub laid-more : (db found : Database) (old : Key → Option Cells) (ks : List Key) (k : Key)
    → ((q : Key) → fin.get found q ≡ cond (is_among key_cmp ks q) (fin.get db q) (old q))
    → (q : Key) → fin.get (set_at found k (fin.get db k)) q ≡ cond (is_among key_cmp (ks ++ k ∷ []) q) (fin.get db q) (old q)
laid-more db found old ks k before q =
    get-set_at key_cmp_total found k (fin.get db k) q
    ∙ elim (eq_by_cmp key_cmp q k) as (λ e. eq_by_cmp key_cmp q k ≡ e → cond e (fin.get db k) (fin.get found q) ≡ cond e (fin.get db q) (fin.get found q)) [
      | true ↦ λ e. sym (ap (fin.get db) (same_key key_cmp-IsAntisymmetric q k e))
      | false ↦ λ e. refl
    ] refl
    ∙ ap (cond (eq_by_cmp key_cmp q k) (fin.get db q)) (before q)
    ∙ either (is_among key_cmp ks q) (eq_by_cmp key_cmp q k) (fin.get db q) (old q)
    ∙ sym (ap (λ b. cond b (fin.get db q) (old q)) (list_any-append (eq_by_cmp key_cmp q) ks (k ∷ [])))

-- ---- writes under a prefix, as they are found by their keys

get-write_under : (p : Prefix) (db : Database) (k : Key) (row : Option Cells) (q : Key)
    → fin.get (write_under p db k row) q ≡ cond (is_under p k && eq_by_cmp key_cmp q k) row (fin.get db q)
get-write_under p db k row q =
    elim (is_under p k) as (λ u. fin.get (if u then set_at db k row else db) q ≡ cond (u && eq_by_cmp key_cmp q k) row (fin.get db q)) [
      | true ↦ get-set_at key_cmp_total db k row q
      | false ↦ refl
    ]

-- one write more: `rest` stands at q by the writes behind it, of which one is at q exactly where `a` is true
stands : (p : Prefix) (k q : Key) (row rest over old : Option Cells) (a u : Bool) → is_under p k ≡ u → rest ≡ cond (is_under p q && a) over old
    → cond (u && eq_by_cmp key_cmp q k) row rest
    ≡ cond (is_under p q && (eq_by_cmp key_cmp q k || a)) (cond (eq_by_cmp key_cmp q k) row over) old
stands p k q row rest over old a true under is =
    elim (eq_by_cmp key_cmp q k) as (λ e. eq_by_cmp key_cmp q k ≡ e → cond (true && e) row rest
    ≡ cond (is_under p q && (e || a)) (cond e row over) old) [
      | true ↦ λ e. sym (ap (λ b. cond (b && true) row old) (ap (is_under p) (same_key key_cmp-IsAntisymmetric q k e) ∙ under))
      | false ↦ λ e. is
    ] refl
stands p k q row rest over old a false under is =
    elim (eq_by_cmp key_cmp q k) as (λ e. eq_by_cmp key_cmp q k ≡ e → cond (false && e) row rest
    ≡ cond (is_under p q && (e || a)) (cond e row over) old) [
      | true ↦ λ e. let out = ap (is_under p) (same_key key_cmp-IsAntisymmetric q k e) ∙ under in is ∙ ap (λ b. cond (b && a) over old) out
          ∙ sym (ap (λ b. cond (b && true) row old) out)
      | false ↦ λ e. is
    ] refl

-- under the prefix stands what is written, wherever it is written over
under-get : (p : Prefix) (base db : Database) (ws : List (Key × Option Cells)) (q : Key) → fin.get (written_under p db ws) q
    ≡ cond (is_under p q && is_among key_cmp (keys_of ws) q) (fin.get (overwritten base ws) q) (fin.get db q)
under-get p base db [] q =
    elim (is_under p q) as (λ u. fin.get db q ≡ cond (u && false) (fin.get base q) (fin.get db q)) [ true ↦ refl | false ↦ refl ]
under-get p base db (w ∷ ws) q =
    get-write_under p (written_under p db ws) w.0 w.1 q
    ∙ stands p w.0 q w.1 (fin.get (written_under p db ws) q) (fin.get (overwritten base ws) q) (fin.get db q) (is_among key_cmp (keys_of ws) q)
    (is_under p w.0) refl (under-get p base db ws q)
    ∙ sym (ap (λ r. cond (is_under p q && (eq_by_cmp key_cmp q w.0 || is_among key_cmp (keys_of ws) q)) r (fin.get db q))
    (get-set_at key_cmp_total (overwritten base ws) w.0 w.1 q))

-- at the keys that an index of the writes has under the prefix
pub listed-is : (index : Listed) (p : Prefix) (base old found : Database) (ws : List (Key × Option Cells)) → HasExactly (keys_of ws) index
    → ((q : Key) → fin.get found q
    ≡ cond (is_among key_cmp (filter (is_under p) (fin.keys index)) q) (fin.get (overwritten base ws) q) (fin.get old q))
    → found ≡ written_under p old ws
listed-is index p base old found ws has at = same_map key_cmp_total key_cmp-IsAntisymmetric _ _ (λ q.
    at q ∙ ap (λ b. cond b (fin.get (overwritten base ws) q) (fin.get old q)) (is_among-filter (is_under p) (fin.keys index) q
    ∙ ap (λ b. is_under p q && b) (sym (fin.contains_key-keys index q) ∙ has q))
    ∙ sym (under-get p base old ws q))
