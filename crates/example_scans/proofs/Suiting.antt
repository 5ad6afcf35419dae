-- The routine suits a catalogue with open orders; and an engine that has none yet.
use Rattle.std.proofs.Common.{◌≡◌, ℤ, ◌<◌, List, [], ◌∷◌, length, take, slice_get, true, Some, None, Option, subst, sym, refl, arith}
use Rattle.std.specs.Prelude.{IsSomeAnd}
use Rattle.std.specs.List.{All}
use Rattle.std.proofs.lemmas.List.Elements.{All-nil}
use Rattle.aria_base.specs.declared.keys.Part.TheVariants as part
use Rattle.aria_base.specs.declared.schemas.Table.{Table}
use Rattle.aria_base.specs.declared.values.Kind.{Kind}
use Rattle.aria_base.specs.declared.values.Kind.TheVariants as kind
use Rattle.proc_lang.specs.Catalogs.{Plan}
use Rattle.range_rules.specs.declared.routines.NumberedWork.{NumberedWork}
use Rattle.range_rules.specs.declared.routines.Seen.{Seen}
use Rattle.range_rules.specs.declared.routines.Seen.TheVariants.{One, Wrote, Many}
use Rattle.range_rules.specs.Walks.{follow}
use Rattle.range_suits.specs.Suits.{FitsAction, FitsPrefix, Suits, is_taken}
use Rattle.example_scans.specs.Orders.{HasOrders, has_customer, open_orders}

module _ (schema : List Table) (has : HasOrders schema) where
  prefix_fits : (customer : ℤ) → FitsPrefix schema (record { table = 0; parts = part.Int customer ∷ [] })
  prefix_fits customer = at (slice_get schema 0) has
    where
      at : (table : Option Table) → IsSomeAnd table (λ t. (kind.Int ∷ kind.Int ∷ [] ≡ t.key) × (kind.Int ∷ [] ≡ t.cols))
          → IsSomeAnd table (λ t. (1 < length t.key) × (kind.Int ∷ [] ≡ take 1 t.key))
      at None fits = absurd fits
      at (Some t) fits = subst (λ (key : List Kind). (1 < length key) × (kind.Int ∷ [] ≡ take 1 key)) fits.0 (omega arith, refl)

  asks : (nums : List ℤ) (seen : List Seen) → FitsAction schema (follow (open_orders nums) seen)
  asks [] seen = tt
  asks (customer ∷ []) [] = prefix_fits customer
  asks (customer ∷ []) (One row ∷ seen) = tt
  asks (customer ∷ []) (Wrote ∷ seen) = tt
  asks (customer ∷ []) (Many rows ∷ seen) = tt
  asks (customer ∷ more ∷ rest) seen = tt

  pub orders_suit : Suits schema has_customer (λ q call. follow (open_orders call.nums))
  orders_suit call q seen taken first last = asks call.nums seen

pub none_waits : (plan : Plan) (waiting : List NumberedWork) → waiting ≡ [] → All (λ w. is_taken plan has_customer w.work ≡ true) waiting
none_waits plan waiting e = subst (All (λ w. is_taken plan has_customer w.work ≡ true)) (sym e) (All-nil (λ w. is_taken plan has_customer w.work ≡ true))

-- what is taken by one catalogue is taken by an equal one
pub taken_on : (plan next : Plan) (waiting : List NumberedWork) → next ≡ plan → All (λ w. is_taken plan has_customer w.work ≡ true) waiting
    → All (λ w. is_taken next has_customer w.work ≡ true) waiting
taken_on plan next waiting e all = subst (λ (p : Plan). All (λ w. is_taken p has_customer w.work ≡ true) waiting) (sym e) all
