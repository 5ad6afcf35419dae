-- The places of a list's keys, with one more key behind it.
use Rattle.std.proofs.Common.{◌≡◌, ℕ, zero, suc, ◌+◌, List, [], ◌∷◌, ◌++◌, length, Option, Some, None, Bool, cond, true, false, refl, sym, ap, subst, ◌∙◌, arith}
use Rattle.std.specs.Prelude.{is_some, slice_index_or, slice_set}
use Rattle.std.specs.Option.{IfSome, option_or}
use Rattle.std.specs.List.{position, position_from}
use Rattle.std.specs.Ordering.{eq_by_cmp, is_eq}
use Rattle.std.specs.Cmp.{eq_by_cmp_equiv}
use Rattle.std.specs.BTreeMap.{is_at, get}
use Rattle.std.proofs.lemmas.List.{map-append}
use Rattle.std.proofs.lemmas.Iterator.Adapters.{position_from-zero}
use Rattle.aria_base.specs.Orders.{key_cmp, Cells}
use Rattle.aria_base.specs.declared.keys.Key.{Key}
use Rattle.aria_base.proofs.Orders.{key_cmp_total, derived_cmp, derived-is, same_key}
use Rattle.batch_rules.specs.Touches.{is_among, keys_of}
use Rattle.batch_rules.proofs.Judges.{is_some-position_from}
use Rattle.batch_rules.proofs.Lists.{position_from-map}
use Rattle.tbl_snapshot.specs.Layers.{Buffer}
use Rattle.tbl_snapshot.proofs.Buffers.{is_write_of}
use Rattle.tbl_snapshot.specs.Places.{place_in, first_place, HasPlaces}
use Rattle.tbl_snapshot.specs.declared.places.Places.{Places}

last_from : (p : Key → Bool) (n : ℕ) (ks : List Key) (k : Key)
    → position_from p n (ks ++ k ∷ []) ≡ option_or (position_from p n ks) (cond (p k) (Some (n + length ks)) None)
last_from p n [] k = ap (λ m. cond (p k) (Some m) None) (omega arith)
last_from p n (x ∷ xs) k =
    elim (p x) as (λ b. cond b (Some n) (position_from p (n + 1) (xs ++ k ∷ []))
    ≡ option_or (cond b (Some n) (position_from p (n + 1) xs)) (cond (p k) (Some (n + length (x ∷ xs))) None)) [
      | true ↦ refl
      | false ↦ last_from p (n + 1) xs k ∙ ap (λ m. option_or (position_from p (n + 1) xs) (cond (p k) (Some m) None)) (omega arith)
    ]

from_zero : (n : ℕ) → 0 + n ≡ n
from_zero n = omega arith

-- the place of a key in the longer list
abbrev longer : Option ℕ → Bool → ℕ → Option ℕ
longer at here n = option_or at (cond here (Some n) None)

elsewhere : (at : Option ℕ) (n : ℕ) → at ≡ longer at false n
elsewhere None n = refl
elsewhere (Some i) n = refl

there : (at : Option ℕ) (n : ℕ) → is_some at ≡ true → at ≡ longer at true n
there None n some = cc
there (Some i) n some = refl

here : (at : Option ℕ) (n : ℕ) → is_some at ≡ false → Some n ≡ longer at true n
here None n none = refl
here (Some i) n none = cc

module _ (m : Places) (ks : List Key) (k : Key) (has : HasPlaces ks m) where
  abbrev Longer : Option ℕ → Key → Type 0
  Longer at q = at ≡ first_place (ks ++ k ∷ []) q

  by_longer : (at : Option ℕ) (q : Key) → at ≡ longer (place_in m q) (eq_by_cmp key_cmp q k) (length ks) → Longer at q
  by_longer at q is =
      is ∙ ap (λ p. longer p (eq_by_cmp key_cmp q k) (length ks)) (has q)
      ∙ sym (last_from (eq_by_cmp key_cmp q) 0 ks k ∙ ap (longer (first_place ks q) (eq_by_cmp key_cmp q k)) (from_zero (length ks)))

  -- a key that is in the list already
  pub stays : is_some (place_in m k) ≡ true → HasPlaces (ks ++ k ∷ []) m
  stays some q = by_longer (place_in m q) q (elim (eq_by_cmp key_cmp q k) as (λ b. eq_by_cmp key_cmp q k ≡ b
      → place_in m q ≡ longer (place_in m q) b (length ks)) [
        | true ↦ λ t. there (place_in m q) (length ks) (ap (λ q. is_some (place_in m q)) (same_key q k t) ∙ some)
        | false ↦ λ t. elsewhere (place_in m q) (length ks)
      ] refl)

  -- a new one
  pub notes : (g : Places) (n : ℕ) → length ks ≡ n → is_some (place_in m k) ≡ false
      → ((q : Key) → get derived_cmp g.map q ≡ cond (is_at (derived_cmp k) q) (Some n) (get derived_cmp m.map q)) → HasPlaces (ks ++ k ∷ []) g
  notes g n long none is q = by_longer (place_in g q) q (is q
      ∙ ap (λ b. cond b (Some n) (place_in m q)) (ap is_eq (derived-is k q) ∙ (eq_by_cmp_equiv key_cmp_total).symm k q)
      ∙ ap (λ n. cond (eq_by_cmp key_cmp q k) (Some n) (place_in m q)) (sym long)
      ∙ elim (eq_by_cmp key_cmp q k) as (λ b. eq_by_cmp key_cmp q k ≡ b
      → cond b (Some (length ks)) (place_in m q) ≡ longer (place_in m q) b (length ks)) [
        | true ↦ λ t. here (place_in m q) (length ks) (ap (λ q. is_some (place_in m q)) (same_key q k t) ∙ none)
        | false ↦ λ t. elsewhere (place_in m q) (length ks)
      ] refl)

-- what the places say of the list
pub among-places : (ks : List Key) (at : Option Places) (m : Places) (q : Key) → IfSome at (HasPlaces ks) → at ≡ Some m
    → is_some (place_in m q) ≡ is_among key_cmp ks q
among-places ks at m q has is = ap is_some (subst (λ o. IfSome o (HasPlaces ks)) is has q) ∙ is_some-position_from (eq_by_cmp key_cmp q) 0 ks

pub write-places : (ws : Buffer) (at : Option Places) (m : Places) (q : Key) → IfSome at (HasPlaces (keys_of ws)) → at ≡ Some m
    → place_in m q ≡ position (is_write_of q) ws
write-places ws at m q has is =
    subst (λ o. IfSome o (HasPlaces (keys_of ws))) is has q ∙ position_from-map (eq_by_cmp key_cmp q) (λ w. w.0) 0 ws
    ∙ sym (position_from-zero (is_write_of q) ws)

-- the keys of writes with one more, and with another row at a place
pub keys_more : (ws : Buffer) (k : Key) (row : Option Cells) → keys_of (ws ++ (k, row) ∷ []) ≡ keys_of ws ++ k ∷ []
keys_more ws k row = map-append (λ w. w.0) ws ((k, row) ∷ [])

keys_set : (ws : Buffer) (i : ℕ) (row : Option Cells) (d : Key × Option Cells) → keys_of (slice_set ws i ((slice_index_or ws i d).0, row)) ≡ keys_of ws
keys_set [] i row d = refl
keys_set (w ∷ ws) zero row d = refl
keys_set (w ∷ ws) (suc i) row d = ap (λ ks. w.0 ∷ ks) (keys_set ws i row d)

pub keys_set_at : (ws : Buffer) (i : ℕ) (row : Option Cells) (old : Key × Option Cells) → old ≡ slice_index_or ws i old
    → keys_of (slice_set ws i (old.0, row)) ≡ keys_of ws
keys_set_at ws i row old is = subst (λ w. keys_of (slice_set ws i (w.0, row)) ≡ keys_of ws) (sym is) (keys_set ws i row old)
