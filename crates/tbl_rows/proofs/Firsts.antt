-- The map of one row or of none, and such a map beside another one.
use Rattle.std.proofs.Common.{◌≡◌, Bool, ◌++◌, Option, Some, None, cond, true, false, not, refl, sym, ap, subst, ◌∙◌}
use Rattle.std.specs.Option.{IsSome, option_or, option_copied, is_some}
use Rattle.std.specs.Ordering.{eq_by_cmp}
use Rattle.std.specs.Borrow.{Bor}
use Rattle.std.specs.List.Sorted.{IsPermutation}
use Rattle.std.proofs.lemmas.List.{append_assoc}
use Rattle.std.proofs.lemmas.List.Sorted.{IsPermutation-sym, IsPermutation-trans, IsPermutation-append_left, IsPermutation-append_right}
use Rattle.std.specs.FinMap as fin
use Rattle.aria_base.specs.Orders.{key_cmp, Cells, Database}
use Rattle.aria_base.specs.declared.keys.Key.{Key}
use Rattle.aria_base.proofs.Orders.{key_cmp_total, key_cmp-IsAntisymmetric, same_key}
use Rattle.tbl_rows.specs.Pools.{Entries, Adds, beside, only, IsApart}
use Rattle.tbl_rows.proofs.Beside.{get-beside, beside-near, beside-far, beside-permuted}

-- ---- one row or none

pub get-none : (q : Key) → fin.get {X = Cells} {R = key_cmp} fin.empty q ≡ None
get-none q = fin.get-empty key_cmp q

pub get-only : (e : Key × Cells) (q : Key) → fin.get (only (Some e)) q ≡ cond (eq_by_cmp key_cmp q e.0) (Some e.1) None
get-only e q = fin.get-insert key_cmp_total fin.empty e.0 e.1 q ∙ ap (cond (eq_by_cmp key_cmp q e.0) (Some e.1)) (get-none q)

pub get-here : (e : Key × Cells) (q : Key) → eq_by_cmp key_cmp q e.0 ≡ true → fin.get (only (Some e)) q ≡ Some e.1
get-here e q tied = get-only e q ∙ ap (λ b. cond b (Some e.1) None) tied

pub get-other : (e : Key × Cells) (q : Key) → eq_by_cmp key_cmp q e.0 ≡ false → fin.get (only (Some e)) q ≡ None
get-other e q apart = get-only e q ∙ ap (λ b. cond b (Some e.1) None) apart

over : (b : Bool) (was row : Cells) → cond b (Some row) None ≡ cond b (Some row) (cond b (Some was) None)
over true was row = refl
over false was row = refl

pub only-set : (e : Key × Cells) (k : Key) (row : Cells) → eq_by_cmp key_cmp k e.0 ≡ true → only (Some (e.0, row)) ≡ fin.insert (only (Some e)) k row
only-set e k row tied = fin.same_map key_cmp_total key_cmp-IsAntisymmetric _ _ (λ q.
    get-only (e.0, row) q
    ∙ over (eq_by_cmp key_cmp q e.0) e.1 row
    ∙ ap (λ x. cond (eq_by_cmp key_cmp q x) (Some row) (cond (eq_by_cmp key_cmp q e.0) (Some e.1) None)) (sym (same_key k e.0 tied))
    ∙ sym (fin.get-insert key_cmp_total (only (Some e)) k row q ∙ ap (cond (eq_by_cmp key_cmp q k) (Some row)) (get-only e q)))

gone : (b : Bool) (row : Cells) → None ≡ cond b None (cond b (Some row) None)
gone true row = refl
gone false row = refl

pub only-removed : (e : Key × Cells) (k : Key) → eq_by_cmp key_cmp k e.0 ≡ true → fin.empty ≡ fin.remove (only (Some e)) k
only-removed e k tied = fin.same_map key_cmp_total key_cmp-IsAntisymmetric _ _ (λ q.
    get-none q ∙ gone (eq_by_cmp key_cmp q e.0) e.1
    ∙ ap (λ x. cond (eq_by_cmp key_cmp q x) None (cond (eq_by_cmp key_cmp q e.0) (Some e.1) None)) (sym (same_key k e.0 tied))
    ∙ sym (fin.get-remove key_cmp_total (only (Some e)) k q ∙ ap (cond (eq_by_cmp key_cmp q k) None) (get-only e q)))

-- ---- what was found is there, and what was not is not

pub absent : (r : Option (Bor Cells)) (row : Option Cells) → option_copied r ≡ row → is_some r ≡ false → row ≡ None
absent None row is none = sym is
absent (Some r) row is none = cc

pub present : (r : Option (Bor Cells)) (row : Option Cells) → option_copied r ≡ row → is_some r ≡ true → IsSome row
present None row is some = cc
present (Some r) row is some = subst IsSome is refl

pub only-gone : (o : Option (Key × Cells)) (k : Key) → IsSome (fin.get (only o) k) → fin.empty ≡ fin.remove (only o) k
only-gone None k some = let there : IsSome {T = Cells} None = subst IsSome (get-none k) some in cc
only-gone (Some e) k some =
    elim (eq_by_cmp key_cmp k e.0) as (λ b. eq_by_cmp key_cmp k e.0 ≡ b → fin.empty ≡ fin.remove (only (Some e)) k) [
      | true ↦ λ tied. only-removed e k tied
      | false ↦ λ apart. let there : IsSome {T = Cells} None = subst IsSome (get-other e k apart) some in cc
    ] refl

-- ---- the rows whose keys pass a test

pub get-kept : (m : Database) (p : Key → Bool) (q : Key) → fin.get (fin.retain_keys m p) q ≡ cond (p q) (fin.get m q) None
get-kept m p q = fin.get-retain_keys m p q (λ x tie. ap p (sym (key_cmp-IsAntisymmetric q x tie)))

none-kept : (b : Bool) → cond {A = Option Cells} b None None ≡ None
none-kept true = refl
none-kept false = refl

pub empty-kept : (p : Key → Bool) → fin.empty ≡ fin.retain_keys {X = Cells} {R = key_cmp} fin.empty p
empty-kept p = fin.same_map key_cmp_total key_cmp-IsAntisymmetric _ _ (λ q.
    get-none q ∙ sym (get-kept fin.empty p q ∙ ap (λ r. cond (p q) r None) (get-none q) ∙ none-kept (p q)))

pub only-kept : (e : Key × Cells) (p : Key → Bool) → p e.0 ≡ true → only (Some e) ≡ fin.retain_keys (only (Some e)) p
only-kept e p kept = fin.same_map key_cmp_total key_cmp-IsAntisymmetric _ _ (λ q.
    get-only e q
    ∙ elim (eq_by_cmp key_cmp q e.0) as (λ b. eq_by_cmp key_cmp q e.0 ≡ b → cond b (Some e.1) None ≡ cond (p q) (cond b (Some e.1) None) None) [
      | true ↦ λ tied. ap (λ b. cond b (Some e.1) None) (sym (ap p (same_key q e.0 tied) ∙ kept))
      | false ↦ λ _. sym (none-kept (p q))
    ] refl
    ∙ sym (get-kept (only (Some e)) p q ∙ ap (λ r. cond (p q) r None) (get-only e q)))

pub only-left : (e : Key × Cells) (p : Key → Bool) → p e.0 ≡ false → fin.empty ≡ fin.retain_keys (only (Some e)) p
only-left e p left = fin.same_map key_cmp_total key_cmp-IsAntisymmetric _ _ (λ q.
    get-none q
    ∙ elim (eq_by_cmp key_cmp q e.0) as (λ b. eq_by_cmp key_cmp q e.0 ≡ b → None ≡ cond (p q) (cond b (Some e.1) None) None) [
      | true ↦ λ tied. sym (ap (λ b. cond b (Some e.1) None) (ap p (same_key q e.0 tied) ∙ left))
      | false ↦ λ _. sym (none-kept (p q))
    ] refl
    ∙ sym (get-kept (only (Some e)) p q ∙ ap (λ r. cond (p q) r None) (get-only e q)))

-- ---- two maps, the rows of both whose keys pass a test

or_kept : (b : Bool) (near far : Option Cells) → option_or (cond b near None) (cond b far None) ≡ cond b (option_or near far) None
or_kept true near far = refl
or_kept false near far = refl

pub beside-kept : (near far : Database) (p : Key → Bool) → beside (fin.retain_keys near p) (fin.retain_keys far p) ≡ fin.retain_keys (beside near far) p
beside-kept near far p = fin.same_map key_cmp_total key_cmp-IsAntisymmetric _ _ (λ q.
    get-beside (fin.retain_keys near p) (fin.retain_keys far p) q
    ∙ (λ i. option_or (get-kept near p q i) (get-kept far p q i))
    ∙ or_kept (p q) (fin.get near q) (fin.get far q)
    ∙ sym (get-kept (beside near far) p q ∙ ap (λ r. cond (p q) r None) (get-beside near far q)))

passed : (b : Bool) (near far : Option Cells) → (IsSome near → far ≡ None) → IsSome (cond b near None) → cond b far None ≡ None
passed true near far apart some = apart some
passed false near far apart some = refl

pub apart-kept : (near far : Database) (p : Key → Bool) → IsApart near far → IsApart (fin.retain_keys near p) (fin.retain_keys far p)
apart-kept near far p apart q some = get-kept far p q ∙ passed (p q) (fin.get near q) (fin.get far q) (apart q) (subst IsSome (get-kept near p q) some)

-- ---- a row of the second becomes one of the first

pub beside-moved : (near far : Database) (k : Key) (row : Cells) → fin.get near k ≡ None
    → beside (fin.insert near k row) far ≡ beside near (fin.insert far k row)
beside-moved near far k row none = beside-near near far k row ∙ sym (beside-far near far k row none)

-- ---- a key that neither has

pub added-both : (near far : Database) (k : Key) → fin.get near k ≡ None → fin.get far k ≡ None → true ≡ not (is_some (fin.get (beside near far) k))
added-both near far k one two = sym (ap (λ r. not (is_some r)) (get-beside near far k ∙ (λ i. option_or (one i) (two i))))

-- ---- the rows of both in a list

pub adds-two : (near far : Database) (before between after : Entries) → IsApart near far → Adds near before between → Adds far between after
    → Adds (beside near far) before after
adds-two near far before between after apart one two =
    let both : IsPermutation ((before ++ fin.entries near) ++ fin.entries far) after =
    IsPermutation-trans _ _ _ (IsPermutation-append_left (fin.entries far) _ _ one) two in
    IsPermutation-trans _ _ _ (IsPermutation-append_right before _ _ (IsPermutation-sym _ _ (beside-permuted near far apart)))
    (subst (λ es. IsPermutation es after) (append_assoc before (fin.entries near) (fin.entries far)) both)
