-- A copy of an ordered map, row by row.
use Rattle.std.proofs.Common.{◌≡◌, List, [], ◌∷◌, None, Some, cond, refl, sym, ap, ◌∙◌}
use Rattle.std.proofs.Math.Path.{fun_ext}
use Rattle.std.specs.Cmp.{eq_by_cmp_equiv}
use Rattle.std.specs.Ordering.{eq_by_cmp}
use Rattle.std.specs.List.Sorted.{IsStrictlySortedBy}
use Rattle.std.proofs.lemmas.Map.Keys.{IsDistinct-from_sorted}
use Rattle.std.specs.Map.{lookup, keys_of, update_all}
use Rattle.std.proofs.lemmas.Map.Made.{update_all_none}
use Rattle.std.specs.BTreeMap.{is_at}
use Rattle.std.specs.FinMap as fin
use Rattle.aria_base.specs.Orders.{key_cmp, Cells}
use Rattle.aria_base.specs.declared.keys.Key.{Key}
use Rattle.aria_base.proofs.Orders.{key_cmp_total, key_cmp-IsAntisymmetric, derived_cmp, derived_total}
use Rattle.aria_base.proofs.Trees.{get-lookup}

pub from_entries-same : (es fs : List (Key × Cells)) → ((q : Key) → lookup (is_at (derived_cmp q)) fs ≡ lookup (is_at (derived_cmp q)) es)
    → fin.from_entries {R = key_cmp} fs ≡ fin.from_entries es
from_entries-same es fs is = fin.same_map key_cmp_total key_cmp-IsAntisymmetric _ _ (λ q. get-lookup fs q ∙ is q ∙ sym (get-lookup es q))

-- with these entries and, in turn, the ones that are left, a map is what all entries make
pub record WillCopy (done left all : List (Key × Cells)) : Type 0 where
  pub is : update_all (eq_by_cmp derived_cmp) (λ q. lookup (is_at (derived_cmp q)) done) left ≡ update_all (eq_by_cmp derived_cmp) (λ _. None) all

pub copied-more : (es fs left more all : List (Key × Cells)) (e : Key × Cells) (k : Key) (row : Cells) → WillCopy es left all → left ≡ e ∷ more → k ≡ e.0
    → row ≡ e.1 → ((q : Key) → lookup (is_at (derived_cmp q)) fs ≡ cond (is_at (derived_cmp k) q) (Some row) (lookup (is_at (derived_cmp q)) es))
    → WillCopy fs more all
copied-more es fs left more all e k row before step key value is = record {
  is = ap (λ f. update_all (eq_by_cmp derived_cmp) f more) (fun_ext (λ q. is q
      ∙ (λ i. cond (is_at (derived_cmp (key i)) q) (Some (value i)) (lookup (is_at (derived_cmp q)) es))))
      ∙ ap (update_all (eq_by_cmp derived_cmp) (λ q. lookup (is_at (derived_cmp q)) es)) (sym step) ∙ before.is;
}

pub from_entries-copied : (es fs left : List (Key × Cells)) → IsStrictlySortedBy derived_cmp (keys_of es) → WillCopy fs left es → left ≡ []
    → fin.from_entries {R = key_cmp} fs ≡ fin.from_entries es
from_entries-copied es fs left rise copied ended =
    let is = ap (update_all (eq_by_cmp derived_cmp) (λ q. lookup (is_at (derived_cmp q)) fs)) (sym ended) ∙ copied.is in
    from_entries-same es fs (λ q. ap (λ f. f q) is ∙ update_all_none (eq_by_cmp_equiv derived_total) (eq_by_cmp derived_cmp) (λ x y. refl) es q
    (IsDistinct-from_sorted derived_cmp (keys_of es) rise))
