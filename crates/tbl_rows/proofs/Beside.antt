-- Two maps as one, of which the second has no row where the first has one.
use Rattle.std.proofs.Common.{◌≡◌, Bool, [], ◌∷◌, ◌++◌, Option, Some, None, cond, true, false, not, refl, sym, ap, subst, ◌∙◌}
use Rattle.std.specs.Bool.{MatchBool}
use Rattle.std.specs.Borrow.{Bor}
use Rattle.std.specs.Option.{IsSome, option_or, option_copied, is_some}
use Rattle.std.proofs.lemmas.List.Sorted.{IsPermutation-sym, IsPermutation-trans, IsPermutation-append_left}
use Rattle.std.specs.List.{flat_map}
use Rattle.std.specs.List.Sorted.{IsPermutation}
use Rattle.std.specs.Ordering.{eq_by_cmp}
use Rattle.std.specs.FinMap as fin
use Rattle.std.proofs.lemmas.List.{append-nil}
use Rattle.aria_base.specs.Orders.{key_cmp, Cells, Database}
use Rattle.aria_base.specs.declared.keys.Key.{Key}
use Rattle.aria_base.proofs.Orders.{key_cmp_total, key_cmp-IsAntisymmetric, same_key}
use Rattle.tbl_rows.specs.Pools.{Entries, Adds, beside, IsApart, AllApart}
use Rattle.aria_base.proofs.Trees.{find-append}
use Rattle.tbl_rows.proofs.Listed.{apart-append, apart-entries, entries-permuted}

listed-two : (near far : Database) → flat_map fin.entries (near ∷ far ∷ []) ≡ fin.entries near ++ fin.entries far
listed-two near far = ap (λ es. fin.entries near ++ es) (append-nil (fin.entries far))

pub get-beside : (near far : Database) (q : Key) → fin.get (beside near far) q ≡ option_or (fin.get near q) (fin.get far q)
get-beside near far q =
    fin.get-from_entries key_cmp_total _ q ∙ ap (fin.find key_cmp q) (listed-two near far) ∙ find-append q (fin.entries near) (fin.entries far)
    ∙ sym (λ i. option_or (fin.get-entries near q i) (fin.get-entries far q i))

pub beside-permuted : (near far : Database) → IsApart near far → IsPermutation (fin.entries near ++ fin.entries far) (fin.entries (beside near far))
beside-permuted near far apart =
    subst (λ es. IsPermutation es (fin.entries (fin.from_entries {R = key_cmp} (flat_map fin.entries (near ∷ far ∷ []))))) (listed-two near far)
    (entries-permuted _ (subst AllApart (sym (listed-two near far))
    (apart-append (fin.entries near) (fin.entries far) (apart-entries near) (apart-entries far)
    (λ q some. sym (fin.get-entries far q) ∙ apart q (subst IsSome (sym (fin.get-entries near q)) some)))))

pub IsApart-bare : (near far : Database) → near ≡ fin.empty → IsApart near far
IsApart-bare near far bare q some = let there : IsSome {T = Cells} None = subst IsSome (ap (λ m. fin.get m q) bare ∙ fin.get-empty key_cmp q) some in cc

pub beside-bare : (near far : Database) → near ≡ fin.empty → far ≡ fin.empty → beside near far ≡ fin.empty
beside-bare near far one two = fin.same_map key_cmp_total key_cmp-IsAntisymmetric _ _ (λ q.
    get-beside near far q ∙ ap (λ m. option_or (fin.get m q) (fin.get far q)) one ∙ ap (λ row. option_or row (fin.get far q)) (fin.get-empty key_cmp q)
    ∙ ap (λ m. fin.get m q) two)

-- ---- what is found

pub found-near : (near far : Database) (q : Key) (row : Cells) → fin.get near q ≡ Some row → fin.get (beside near far) q ≡ Some row
found-near near far q row is = get-beside near far q ∙ ap (λ r. option_or r (fin.get far q)) is

pub found-far : (near far : Database) (q : Key) → fin.get near q ≡ None → fin.get (beside near far) q ≡ fin.get far q
found-far near far q none = get-beside near far q ∙ ap (λ r. option_or r (fin.get far q)) none

-- one of the two has no row at a key
pub apart-near : (near far : Database) (q : Key) (r : Option (Bor Cells)) → IsApart near far → option_copied r ≡ fin.get near q
    → MatchBool (not (is_some r)) (fin.get near q ≡ None) (fin.get far q ≡ None)
apart-near near far q None apart is = sym is
apart-near near far q (Some row) apart is = apart q (subst IsSome is refl)

pub apart-far : (near far : Database) (q : Key) (r : Option (Bor Cells)) → IsApart near far → option_copied r ≡ fin.get far q
    → MatchBool (is_some r) (fin.get near q ≡ None) (fin.get far q ≡ None)
apart-far near far q None apart is = sym is
apart-far near far q (Some row) apart is =
    elim (fin.get near q) as (λ r. (IsSome r → fin.get far q ≡ None) → r ≡ None) [
      | None ↦ λ _. refl
      | Some _ ↦ λ none. let same : Some row.now ≡ None = is ∙ none refl in cc
    ] (apart q)

-- ---- a row is put into either

or_put : (b : Bool) (row : Cells) (near far : Option Cells) → option_or (cond b (Some row) near) far ≡ cond b (Some row) (option_or near far)
or_put true row near far = refl
or_put false row near far = refl

pub beside-near : (near far : Database) (k : Key) (row : Cells) → beside (fin.insert near k row) far ≡ fin.insert (beside near far) k row
beside-near near far k row = fin.same_map key_cmp_total key_cmp-IsAntisymmetric _ _ (λ q.
    get-beside (fin.insert near k row) far q ∙ ap (λ r. option_or r (fin.get far q)) (fin.get-insert key_cmp_total near k row q)
    ∙ or_put (eq_by_cmp key_cmp q k) row (fin.get near q) (fin.get far q)
    ∙ sym (fin.get-insert key_cmp_total (beside near far) k row q ∙ ap (cond (eq_by_cmp key_cmp q k) (Some row)) (get-beside near far q)))

pub beside-far : (near far : Database) (k : Key) (row : Cells) → fin.get near k ≡ None → beside near (fin.insert far k row) ≡ fin.insert (beside near far) k row
beside-far near far k row none = fin.same_map key_cmp_total key_cmp-IsAntisymmetric _ _ (λ q.
    get-beside near (fin.insert far k row) q ∙ ap (λ r. option_or (fin.get near q) r) (fin.get-insert key_cmp_total far k row q)
    ∙ elim (eq_by_cmp key_cmp q k) as (λ b. eq_by_cmp key_cmp q k ≡ b
    → option_or (fin.get near q) (cond b (Some row) (fin.get far q)) ≡ cond b (Some row) (option_or (fin.get near q) (fin.get far q))) [
      | true ↦ λ tied. ap (λ r. option_or r (Some row)) (ap (fin.get near) (same_key q k tied) ∙ none)
      | false ↦ λ _. refl
    ] refl
    ∙ sym (fin.get-insert key_cmp_total (beside near far) k row q ∙ ap (cond (eq_by_cmp key_cmp q k) (Some row)) (get-beside near far q)))

pub apart-put_near : (near far : Database) (k : Key) (row : Cells) → IsApart near far → fin.get far k ≡ None → IsApart (fin.insert near k row) far
apart-put_near near far k row apart none q some =
    elim (eq_by_cmp key_cmp q k) as (λ b. eq_by_cmp key_cmp q k ≡ b → IsSome (cond b (Some row) (fin.get near q)) → fin.get far q ≡ None) [
      | true ↦ λ tied _. ap (fin.get far) (same_key q k tied) ∙ none
      | false ↦ λ _ there. apart q there
    ] refl (subst IsSome (fin.get-insert key_cmp_total near k row q) some)

pub apart-put_far : (near far : Database) (k : Key) (row : Cells) → IsApart near far → fin.get near k ≡ None → IsApart near (fin.insert far k row)
apart-put_far near far k row apart none q some =
    fin.get-insert key_cmp_total far k row q
    ∙ elim (eq_by_cmp key_cmp q k) as (λ b. eq_by_cmp key_cmp q k ≡ b → cond b (Some row) (fin.get far q) ≡ None) [
      | true ↦ λ tied. let there : IsSome {T = Cells} None = subst IsSome (ap (fin.get near) (same_key q k tied) ∙ none) some in cc
      | false ↦ λ _. apart q some
    ] refl

-- ---- a row is removed from both

or_removed : (b : Bool) (near far : Option Cells) → option_or (cond b None near) (cond b None far) ≡ cond b None (option_or near far)
or_removed true near far = refl
or_removed false near far = refl

pub beside-removed : (near far : Database) (k : Key) → beside (fin.remove near k) (fin.remove far k) ≡ fin.remove (beside near far) k
beside-removed near far k = fin.same_map key_cmp_total key_cmp-IsAntisymmetric _ _ (λ q.
    get-beside (fin.remove near k) (fin.remove far k) q
    ∙ (λ i. option_or (fin.get-remove key_cmp_total near k q i) (fin.get-remove key_cmp_total far k q i))
    ∙ or_removed (eq_by_cmp key_cmp q k) (fin.get near q) (fin.get far q)
    ∙ sym (fin.get-remove key_cmp_total (beside near far) k q ∙ ap (cond (eq_by_cmp key_cmp q k) None) (get-beside near far q)))

still : (m : Database) (k q : Key) → IsSome (fin.get (fin.remove m k) q) → IsSome (fin.get m q)
still m k q some =
    elim (eq_by_cmp key_cmp q k) as (λ b. IsSome (cond b None (fin.get m q)) → IsSome (fin.get m q)) [
      | true ↦ λ there. cc
      | false ↦ λ there. there
    ] (subst IsSome (fin.get-remove key_cmp_total m k q) some)

pub apart-shrunk : (near far : Database) (k : Key) → IsApart near far → IsApart (fin.remove near k) far
apart-shrunk near far k apart q some = apart q (still near k q some)

none-removed : (b : Bool) (row : Option Cells) → row ≡ None → cond b None row ≡ None
none-removed true row none = refl
none-removed false row none = none

pub apart-removed : (near far : Database) (k : Key) → IsApart near far → IsApart (fin.remove near k) (fin.remove far k)
apart-removed near far k apart q some = fin.get-remove key_cmp_total far k q
    ∙ none-removed (eq_by_cmp key_cmp q k) (fin.get far q) (apart-shrunk near far k apart q some)

-- what has no row at a key stays as it is
pub remove-none : (m : Database) (k : Key) → fin.get m k ≡ None → fin.remove m k ≡ m
remove-none m k none = fin.same_map key_cmp_total key_cmp-IsAntisymmetric _ _ (λ q.
    fin.get-remove key_cmp_total m k q
    ∙ elim (eq_by_cmp key_cmp q k) as (λ b. eq_by_cmp key_cmp q k ≡ b → cond b None (fin.get m q) ≡ fin.get m q) [
      | true ↦ λ tied. sym (ap (fin.get m) (same_key q k tied) ∙ none)
      | false ↦ λ _. refl
    ] refl)

-- a key whose row stood in the first
found_first : (near far : Option Cells) → is_some near ≡ true → is_some (option_or near far) ≡ true
found_first None far some = cc
found_first (Some row) far some = refl

pub near-found : (near far : Database) (k : Key) → is_some (fin.get near k) ≡ true → true ≡ is_some (fin.get (beside near far) k)
near-found near far k some = sym (ap is_some (get-beside near far k) ∙ found_first (fin.get near k) (fin.get far k) some)

pub near-removed : (near far : Database) (k : Key) → IsApart near far → is_some (fin.get near k) ≡ true
    → beside (fin.remove near k) far ≡ fin.remove (beside near far) k
near-removed near far k apart some = ap (beside (fin.remove near k)) (sym (remove-none far k (apart k some))) ∙ beside-removed near far k

-- and one whose row did not
not_first : (near far : Option Cells) → is_some near ≡ false → is_some far ≡ is_some (option_or near far)
not_first None far none = refl
not_first (Some row) far none = cc

pub far-found : (near far : Database) (k : Key) → is_some (fin.get near k) ≡ false → is_some (fin.get far k) ≡ is_some (fin.get (beside near far) k)
far-found near far k none = not_first (fin.get near k) (fin.get far k) none ∙ sym (ap is_some (get-beside near far k))

-- ---- the rows of both

pub adds-both : (near far : Database) (one two : Entries) → IsApart near far → Adds near [] one → two ≡ one ++ fin.entries far
    → IsPermutation (fin.entries (beside near far)) two
adds-both near far one two apart adds is =
    subst (λ es. IsPermutation (fin.entries (beside near far)) es) (sym is)
    (IsPermutation-trans _ _ _ (IsPermutation-sym _ _ (beside-permuted near far apart)) (IsPermutation-append_left (fin.entries far) _ _ adds))
