-- A list of rows with their keys, and the map that it makes, where a row is set, added or removed.
use Rattle.std.proofs.Common.{◌≡◌, ℕ, ◌<◌, [], ◌∷◌, ◌++◌, length, Option, Some, None, Bool, cond, true, false, refl, sym, ap, subst, ◌∙◌}
use Rattle.std.specs.Prelude.{slice_index_or, slice_set, option_to_list, MatchOption}
use Rattle.std.specs.Option.{IsSome, IfSome}
use Rattle.std.specs.List.{position, filter, swap_remove}
use Rattle.std.specs.Ordering.{eq_by_cmp}
use Rattle.std.specs.declared.cmp.Ordering.TheVariants.{Equal}
use Rattle.std.specs.FinMap as fin
use Rattle.std.specs.FinMap.Entries.{find-where_key}
use Rattle.std.proofs.Math.Seq.{map-set_same}
use Rattle.std.proofs.lemmas.List.{append-nil}
use Rattle.std.proofs.lemmas.List.Sorted.{IsPermutation-middle, IsPermutation-swap_remove}
use Rattle.std.specs.List.{IsDistinct}
use Rattle.aria_base.specs.Orders.{key_cmp, Cells, Database}
use Rattle.aria_base.specs.declared.keys.Key.{Key}
use Rattle.aria_base.proofs.Orders.{key_cmp_total, key_cmp-IsAntisymmetric, same_key}
use Rattle.tbl_rows.specs.Pools.{Entries, AllApart}
use Rattle.tbl_rows.proofs.Searched.{is_entry_of, find-none, is_at-position, find-at, find-set}
use Rattle.tbl_rows.proofs.Beside.{remove-none}
use Rattle.tbl_rows.proofs.Listed.{nil_apart, find-head, apart-cons, apart-tail, apart-append, apart-permutation, find-permutation}

-- ---- the row of a key, which stands at a place

pub get-at : (es : Entries) (q : Key) (i : ℕ) (e : Key × Cells) → position (is_entry_of q) es ≡ Some i → e ≡ slice_index_or es i e
    → fin.get (fin.from_entries {R = key_cmp} es) q ≡ Some e.1
get-at es q i e some is = fin.get-from_entries key_cmp_total es q ∙ find-at es q i e (is_at-position es q i e some) ∙ ap (λ e. Some e.1) (sym is)

pub get-absent : (es : Entries) (q : Key) → position (is_entry_of q) es ≡ None → fin.get (fin.from_entries {R = key_cmp} es) q ≡ None
get-absent es q none = fin.get-from_entries key_cmp_total es q ∙ find-none es q none

pub apart-set : (es : Entries) (i : ℕ) (e : Key × Cells) (row : Cells) → e ≡ slice_index_or es i e → AllApart es → AllApart (slice_set es i (e.0, row))
apart-set es i e row is apart = subst (IsDistinct (eq_by_cmp key_cmp)) (sym (map-set_same (λ e. e.0) es i (e.0, row) e (ap (λ e. e.0) is))) apart

pub set-at : (es : Entries) (k : Key) (i : ℕ) (e : Key × Cells) (row : Cells) → position (is_entry_of k) es ≡ Some i → e ≡ slice_index_or es i e
    → fin.from_entries {R = key_cmp} (slice_set es i (e.0, row)) ≡ fin.insert (fin.from_entries es) k row
set-at es k i e row some is = fin.same_map key_cmp_total key_cmp-IsAntisymmetric _ _ (λ q.
    fin.get-from_entries key_cmp_total _ q ∙ ap (λ x. fin.find key_cmp q (slice_set es i (x.0, row))) is
    ∙ find-set es k q row i e (is_at-position es k i e some)
    ∙ sym (fin.get-insert key_cmp_total (fin.from_entries es) k row q ∙ ap (cond (eq_by_cmp key_cmp q k) (Some row)) (fin.get-from_entries key_cmp_total es q)))

-- ---- a row at a key that has none

pub apart-single : (e : Key × Cells) → AllApart (e ∷ [])
apart-single e = apart-cons e [] refl nil_apart

pub apart-push : (es : Entries) (k : Key) (row : Cells) → position (is_entry_of k) es ≡ None → AllApart es → AllApart (es ++ (k, row) ∷ [])
apart-push es k row none apart = apart-append es ((k, row) ∷ []) apart (apart-single (k, row)) (λ q some.
    elim (eq_by_cmp key_cmp q k) as (λ b. eq_by_cmp key_cmp q k ≡ b → cond b (Some row) None ≡ None) [
      | true ↦ λ tied. let there : IsSome {T = Cells} None = subst IsSome (ap (λ x. fin.find key_cmp x es) (same_key q k tied) ∙ find-none es k none) some in cc
      | false ↦ λ _. refl
    ] refl)

pub push-absent : (es : Entries) (k : Key) (row : Cells) → position (is_entry_of k) es ≡ None
    → fin.from_entries {R = key_cmp} (es ++ (k, row) ∷ []) ≡ fin.insert (fin.from_entries es) k row
push-absent es k row none = fin.from_entries_push key_cmp_total key_cmp-IsAntisymmetric es k row (find-none es k none)

-- ---- an entry is taken out

find-taken : (e : Key × Cells) (es : Entries) (k q : Key) → AllApart (e ∷ es) → k ≡ e.0
    → fin.find key_cmp q es ≡ cond (eq_by_cmp key_cmp q k) None (fin.find key_cmp q (e ∷ es))
find-taken e es k q apart is =
    rw is
    (elim (eq_by_cmp key_cmp q e.0) as (λ b. eq_by_cmp key_cmp q e.0 ≡ b → fin.find key_cmp q es ≡ cond b None (cond b (Some e.1) (fin.find key_cmp q es))) [
      | true ↦ λ tied. ap (λ x. fin.find key_cmp x es) (same_key q e.0 tied) ∙ find-head e es apart
      | false ↦ λ _. refl
    ] refl)

within : (es : Entries) (k : Key) (i : ℕ) (d : Key × Cells) → position (is_entry_of k) es ≡ Some i → i < length es
within es k i d some = (is_at-position es k i d some).below

pub apart-swap_remove : (es : Entries) (k : Key) (i : ℕ) (e : Key × Cells) → position (is_entry_of k) es ≡ Some i → e ≡ slice_index_or es i e → AllApart es
    → AllApart (swap_remove es i e)
apart-swap_remove es k i e some is apart = apart-tail e _ (apart-permutation es _ (IsPermutation-swap_remove es i e (within es k i e some) is) apart)

pub swap_remove-at : (es : Entries) (k : Key) (i : ℕ) (e : Key × Cells) → AllApart es → position (is_entry_of k) es ≡ Some i → e ≡ slice_index_or es i e
    → fin.from_entries {R = key_cmp} (swap_remove es i e) ≡ fin.remove (fin.from_entries es) k
swap_remove-at es k i e apart some is =
    let moved = IsPermutation-swap_remove es i e (within es k i e some) is in
    let same : k ≡ e.0 = same_key k _ ((is_at-position es k i e some).here) ∙ ap (λ e. e.0) (sym is) in
    fin.same_map key_cmp_total key_cmp-IsAntisymmetric _ _ (λ q.
    fin.get-from_entries key_cmp_total _ q
    ∙ find-taken e (swap_remove es i e) k q (apart-permutation es _ moved apart) same
    ∙ ap (cond (eq_by_cmp key_cmp q k) None) (sym (find-permutation es _ q apart moved) ∙ sym (fin.get-from_entries key_cmp_total es q))
    ∙ sym (fin.get-remove key_cmp_total (fin.from_entries es) k q))

pub remove-absent : (es : Entries) (k : Key) → position (is_entry_of k) es ≡ None → fin.from_entries {R = key_cmp} es ≡ fin.remove (fin.from_entries es) k
remove-absent es k none = sym (remove-none (fin.from_entries es) k (get-absent es k none))

-- ---- the last entry is taken out, if there is one

last-first : (rest : Entries) (e : Key × Cells) → AllApart (rest ++ e ∷ []) → AllApart (e ∷ rest)
last-first rest e apart = subst (λ es. AllApart (e ∷ es)) (append-nil rest) (apart-permutation _ _ (IsPermutation-middle rest e []) apart)

module _ (es rest : Entries) (apart : AllApart es) where
  pub taken-apart : (taken : Option (Key × Cells)) → es ≡ rest ++ option_to_list taken → AllApart rest
  taken-apart None is = subst AllApart (is ∙ append-nil rest) apart
  taken-apart (Some e) is = apart-tail e rest (last-first rest e (subst AllApart is apart))

  pub taken-is : (m : Database) (taken : Option (Key × Cells)) → fin.from_entries es ≡ m → es ≡ rest ++ option_to_list taken
      → MatchOption taken (fin.from_entries rest ≡ m) (λ e. m ≡ fin.insert (fin.from_entries rest) e.0 e.1)
  taken-is m None made is = ap fin.from_entries (sym (is ∙ append-nil rest)) ∙ made
  taken-is m (Some e) made is = sym made ∙ ap fin.from_entries is
      ∙ fin.from_entries_push key_cmp_total key_cmp-IsAntisymmetric rest e.0 e.1 (find-head e rest (last-first rest e (subst AllApart is apart)))

  pub taken-gone : (taken : Option (Key × Cells)) → es ≡ rest ++ option_to_list taken
      → IfSome taken (λ e. fin.get (fin.from_entries {R = key_cmp} rest) e.0 ≡ None)
  taken-gone None is = tt
  taken-gone (Some e) is = fin.get-from_entries key_cmp_total rest e.0 ∙ find-head e rest (last-first rest e (subst AllApart is apart))

-- ---- the entries whose keys pass a test

pub from_entries-filter : (p : Key → Bool) (es : Entries) → fin.from_entries {R = key_cmp} (filter (λ e. p e.0) es) ≡ fin.retain_keys (fin.from_entries es) p
from_entries-filter p es = fin.same_map key_cmp_total key_cmp-IsAntisymmetric _ _ (λ q.
    let alike : (x : Key) → key_cmp q x ≡ Equal → p x ≡ p q = λ x tie. ap p (sym (key_cmp-IsAntisymmetric q x tie)) in
    fin.get-from_entries key_cmp_total _ q ∙ find-where_key key_cmp p q alike es
    ∙ sym (fin.get-retain_keys (fin.from_entries es) p q alike ∙ ap (λ row. cond (p q) row None) (fin.get-from_entries key_cmp_total es q)))

pub apart-filter : (p : Key → Bool) (es : Entries) → AllApart es → AllApart (filter (λ e. p e.0) es)
apart-filter p [] apart = nil_apart
apart-filter p (e ∷ es) apart =
    let rest = apart-filter p es (apart-tail e es apart) in
    let none : fin.find key_cmp e.0 (filter (λ e. p e.0) es) ≡ None =
    find-where_key key_cmp p e.0 (λ x tie. ap p (sym (key_cmp-IsAntisymmetric e.0 x tie))) es
    ∙ ap (λ row. cond (p e.0) row None) (find-head e es apart)
    ∙ elim (p e.0) as (λ b. cond {A = Option Cells} b None None ≡ None) [ true ↦ refl | false ↦ refl ] in
    elim (p e.0) as (λ b. AllApart (cond b (e ∷ filter (λ e. p e.0) es) (filter (λ e. p e.0) es))) [
      | true ↦ apart-cons e _ none rest
      | false ↦ rest
    ]
