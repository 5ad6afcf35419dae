-- Batches worked out: keys are accounts, rows are balances, and an end is a Bool, true where the run is done.
use Rattle.std.proofs.Common.{◌≡◌, ℕ, ◌+◌, List, [], ◌∷◌, map, Bool, true, refl}
use Rattle.std.specs.Option.{option_map}
use Rattle.std.specs.Ordering.{nat_cmp}
use Rattle.std.specs.FinMap.{FinMap}
use Rattle.batch_rules.specs.declared.verdicts.Rule.{Rule}
use Rattle.batch_rules.specs.declared.verdicts.Rule.TheVariants.{Plain, Reorder}
use Rattle.batch_rules.specs.declared.verdicts.Cause.TheVariants.{Waw, Raw, Both}
use Rattle.batch_rules.specs.Trees.{Tree, Ends, Reads, Writes}
use Rattle.batch_rules.specs.Batches.{Fate, Ended, Waits, ordered, batch}

-- the balance of one account is written over another's
abbrev copy : ℕ → ℕ → Tree ℕ ℕ Bool
copy from to = Reads from (λ row. Writes to row (Ends true))

-- an account that has a balance gets more
abbrev add : ℕ → ℕ → Tree ℕ ℕ Bool
add account more = Reads account (λ row. Writes account (option_map (λ balance. balance + more) row) (Ends true))

abbrev fates_of : Rule → ℕ → FinMap nat_cmp ℕ → List (Tree ℕ ℕ Bool) → List (Fate ℕ Bool)
fates_of rule percent start list = map (λ e. e.fate) (batch (λ done. done) (λ t. t) rule percent start list).entries

abbrev order_of : Rule → ℕ → FinMap nat_cmp ℕ → List (Tree ℕ ℕ Bool) → List ℕ
order_of rule percent start list = map (λ e. e.judged.tid) (ordered (batch (λ done. done) (λ t. t) rule percent start list).entries)

abbrev ring : List (Tree ℕ ℕ Bool)
ring = copy 1 2 ∷ copy 2 3 ∷ copy 3 1 ∷ []

-- the second reads what the first writes, and goes ahead of it; the third would have to stand before the second and behind the first
ring_reordered : (start : FinMap nat_cmp ℕ) → (fates_of Reorder 101 start ring ≡ Ended true ∷ Ended true ∷ Waits (Both 2 1) ∷ [])
    × (order_of Reorder 101 start ring ≡ 2 ∷ 1 ∷ [])
ring_reordered start = (refl, refl)

-- what the third waits for does not finish either
ring_plain : (start : FinMap nat_cmp ℕ) → (fates_of Plain 101 start ring ≡ Ended true ∷ Waits (Raw 1) ∷ Waits (Raw 2) ∷ [])
    × (order_of Plain 101 start ring ≡ 1 ∷ [])
ring_plain start = (refl, refl)

-- one of two waits: it runs late at fifty of a hundred, and not at fifty-one
two_adds : (start : FinMap nat_cmp ℕ) → (order_of Reorder 50 start (add 1 5 ∷ add 1 7 ∷ []) ≡ 1 ∷ 2 ∷ [])
    × (fates_of Reorder 51 start (add 1 5 ∷ add 1 7 ∷ []) ≡ Ended true ∷ Waits (Waw 1) ∷ [])
two_adds start = (refl, refl)
