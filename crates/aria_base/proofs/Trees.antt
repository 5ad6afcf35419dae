-- What the maps of the libraries say of their entries, as finite maps say it, whatever stands at the keys.
use Rattle.std.proofs.Common.{◌≡◌, List, [], ◌∷◌, ◌++◌, Option, Some, None, Bool, cond, true, false, ◌&&◌, refl, sym, ap, subst, ◌∙◌}
use Rattle.std.specs.Prelude.{T}
use Rattle.std.specs.Option.{option_or}
use Rattle.std.specs.Cmp.{eq_by_cmp_equiv}
use Rattle.std.specs.Ordering.{eq_by_cmp, is_eq, is_lt}
use Rattle.std.specs.declared.cmp.Ordering.TheVariants.{Less}
use Rattle.std.specs.List.{AllByRecursion}
use Rattle.std.specs.List.Sorted.{IsStrictlySortedBy}
use Rattle.std.proofs.lemmas.Map.Keys.{sorted_head, sorted_tail}
use Rattle.std.specs.Map.{lookup, keys_of}
use Rattle.std.specs.BTreeMap.{is_at}
use Rattle.std.specs.FinMap as fin
use Rattle.std.specs.FinMap.Entries.{below_all}
use Rattle.aria_base.specs.Orders.{key_cmp}
use Rattle.aria_base.specs.declared.keys.Key.{Key}
use Rattle.aria_base.proofs.Orders.{key_cmp_total, key_cmp-IsAntisymmetric, derived_cmp, derived-is, derived_same}

both : (a b : Bool) → T a → T b → T (a && b)
both true b p q = q
both false b p q = p

-- by any equality of keys that is that of their order
module _ {X : Type 0} (E : Key → Key → Bool) (same : (x y : Key) → E x y ≡ eq_by_cmp key_cmp x y) where
  lookup-find : (es : List (Key × X)) (q : Key) → lookup (E q) es ≡ fin.find key_cmp q es
  lookup-find [] q = refl
  lookup-find (e ∷ es) q = λ i. cond (same q e.0 i) (Some e.1) (lookup-find es q i)

  -- the finite map of the entries has at a key what a look-up finds
  pub get-by : (es : List (Key × X)) (q : Key) → fin.get (fin.from_entries {R = key_cmp} es) q ≡ lookup (E q) es
  get-by es q = fin.get-from_entries key_cmp_total es q ∙ sym (lookup-find es q)

  changed : (es fs : List (Key × X)) (k : Key) (w : Option X) → ((q : Key) → lookup (E q) fs ≡ cond (E k q) w (lookup (E q) es)) → (q : Key)
      → fin.get (fin.from_entries {R = key_cmp} fs) q ≡ cond (eq_by_cmp key_cmp q k) w (fin.get (fin.from_entries {R = key_cmp} es) q)
  changed es fs k w is q =
      get-by fs q ∙ is q ∙ ap (λ b. cond b w (lookup (E q) es)) (same k q ∙ (eq_by_cmp_equiv key_cmp_total).symm k q)
      ∙ ap (cond (eq_by_cmp key_cmp q k) w) (sym (get-by es q))

  pub insert-by : (es fs : List (Key × X)) (k : Key) (x : X) → ((q : Key) → lookup (E q) fs ≡ cond (E k q) (Some x) (lookup (E q) es))
      → fin.from_entries {R = key_cmp} fs ≡ fin.insert (fin.from_entries es) k x
  insert-by es fs k x is = fin.same_map key_cmp_total key_cmp-IsAntisymmetric _ _
      (λ q. changed es fs k (Some x) is q ∙ sym (fin.get-insert key_cmp_total _ k x q))

  pub remove-by : (es fs : List (Key × X)) (k : Key) → ((q : Key) → lookup (E q) fs ≡ cond (E k q) None (lookup (E q) es))
      → fin.from_entries {R = key_cmp} fs ≡ fin.remove (fin.from_entries es) k
  remove-by es fs k is = fin.same_map key_cmp_total key_cmp-IsAntisymmetric _ _
      (λ q. changed es fs k None is q ∙ sym (fin.get-remove key_cmp_total _ k q))

-- the equality by the derived order, which the ordered map goes by
abbrev tied : Key → Key → Bool
tied x = is_at (derived_cmp x)

same_tied : (x y : Key) → tied x y ≡ eq_by_cmp key_cmp x y
same_tied x y = ap is_eq (derived-is x y)

module _ {X : Type 0} where
  -- a look-up in two lists is one in the first, and where nothing is there, in the second
  pub find-append : (q : Key) (xs ys : List (Key × X)) → fin.find key_cmp q (xs ++ ys) ≡ option_or (fin.find key_cmp q xs) (fin.find key_cmp q ys)
  find-append q [] ys = refl
  find-append q (x ∷ xs) ys =
      elim (eq_by_cmp key_cmp q x.0) as (λ b. cond b (Some x.1) (fin.find key_cmp q (xs ++ ys)) ≡ option_or (cond b (Some x.1) (fin.find key_cmp q xs))
      (fin.find key_cmp q ys)) [
        | true ↦ refl
        | false ↦ find-append q xs ys
      ]

  pub get-lookup : (es : List (Key × X)) (q : Key) → fin.get (fin.from_entries {R = key_cmp} es) q ≡ lookup (is_at (derived_cmp q)) es
  get-lookup = get-by tied same_tied

  pub from_entries-insert : (es fs : List (Key × X)) (k : Key) (x : X)
      → ((q : Key) → lookup (is_at (derived_cmp q)) fs ≡ cond (is_at (derived_cmp k) q) (Some x) (lookup (is_at (derived_cmp q)) es))
      → fin.from_entries {R = key_cmp} fs ≡ fin.insert (fin.from_entries es) k x
  from_entries-insert = insert-by tied same_tied

  pub from_entries-remove : (es fs : List (Key × X)) (k : Key)
      → ((q : Key) → lookup (is_at (derived_cmp q)) fs ≡ cond (is_at (derived_cmp k) q) None (lookup (is_at (derived_cmp q)) es))
      → fin.from_entries {R = key_cmp} fs ≡ fin.remove (fin.from_entries es) k
  from_entries-remove = remove-by tied same_tied

  below_all-from : (k : Key) (es : List (Key × X)) → AllByRecursion (λ y. key_cmp k y ≡ Less) (keys_of es) → T (below_all key_cmp k es)
  below_all-from k [] below = tt
  below_all-from k (e ∷ es) below = both _ _ (subst (λ r. T (is_lt r)) (sym below.0) tt) (below_all-from k es below.1)

  is_sorted-from : (es : List (Key × X)) → IsStrictlySortedBy key_cmp (keys_of es) → T (fin.is_sorted key_cmp es)
  is_sorted-from [] rise = tt
  is_sorted-from (e ∷ es) rise = both _ _ (below_all-from e.0 es (sorted_head key_cmp e.0 (keys_of es) rise))
      (is_sorted-from es (sorted_tail key_cmp e.0 (keys_of es) rise))

  -- a list whose keys rise is that of the map which has at each key what is found in it
  pub entries-is : (m : fin.FinMap key_cmp X) (es : List (Key × X)) → IsStrictlySortedBy key_cmp (keys_of es)
      → ((q : Key) → fin.get m q ≡ fin.find key_cmp q es) → fin.entries m ≡ es
  entries-is m es rise is =
      let sorted = is_sorted-from es rise in
      ap fin.entries (fin.same_map key_cmp_total key_cmp-IsAntisymmetric m (fin.from_sorted es) (λ q. is q ∙ sym (fin.get-from_sorted key_cmp es q sorted)))
      ∙ fin.entries-from_sorted key_cmp es sorted

  pub entries-from_entries : (es : List (Key × X)) → IsStrictlySortedBy derived_cmp (keys_of es) → fin.entries (fin.from_entries {R = key_cmp} es) ≡ es
  entries-from_entries es rise = entries-is _ es (subst (λ cmp. IsStrictlySortedBy cmp (keys_of es)) derived_same rise) (fin.get-from_entries key_cmp_total es)
