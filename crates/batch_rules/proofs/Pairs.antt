-- What holds of each item of a list and each later one.
use Rattle.std.proofs.Common.{List, [], ◌∷◌, ◌++◌, map, arith}
use Rattle.std.specs.Prelude.{⊤}
use Rattle.std.specs.List.{All, AllPairs}
use Rattle.std.proofs.lemmas.List.Elements.{All-cons, All-head, All-tail, All-weaker}
use Rattle.std.proofs.lemmas.List.Kept.{AllPairs-cons}
use Rattle.std.proofs.lemmas.List.Sorted.{IsPermutation-middle, IsPermutation-sym, All-permutation}
use Rattle.batch_rules.proofs.Lists.{All-unmapped}

module _ {X : Type 0} (P : X → X → Type 0) where
  abbrev pub Pairs : List X → Type 0
  Pairs [] = ⊤
  Pairs (x ∷ xs) = All (P x) xs × Pairs xs

  pub AllPairs-from_pairs : (xs : List X) → Pairs xs → AllPairs P xs
  AllPairs-from_pairs [] p = λ i j d below last. absurd (omega arith)
  AllPairs-from_pairs (x ∷ xs) p = AllPairs-cons P x xs p.0 (AllPairs-from_pairs xs p.1)

  -- an item between two parts of a list
  pub Pairs_middle : (us : List X) (x : X) (vs : List X) → Pairs (us ++ vs) → All (λ u. P u x) us → All (P x) vs → Pairs (us ++ x ∷ vs)
  Pairs_middle [] x vs p before after = (after, p)
  Pairs_middle (u ∷ us) x vs p before after = (
    All-permutation (P u) (x ∷ (us ++ vs)) (us ++ x ∷ vs) (IsPermutation-sym _ _ (IsPermutation-middle us x vs))
        (All-cons (P u) x (us ++ vs) (All-head (λ u. P u x) u us before) p.0),
    Pairs_middle us x vs p.1 (All-tail (λ u. P u x) u us before) after,
  )

-- pairs of images are pairs
pub Pairs-mapped : {X Y : Type 0} (P : Y → Y → Type 0) (f : X → Y) (xs : List X) → Pairs P (map f xs) → Pairs (λ x y. P (f x) (f y)) xs
Pairs-mapped P f [] p = tt
Pairs-mapped P f (x ∷ xs) p = (All-unmapped (P (f x)) f xs p.0, Pairs-mapped P f xs p.1)

pub Pairs-weaker : {X : Type 0} (P Q : X → X → Type 0) → ((x y : X) → P x y → Q x y) → (xs : List X) → Pairs P xs → Pairs Q xs
Pairs-weaker P Q h [] p = tt
Pairs-weaker P Q h (x ∷ xs) p = (All-weaker (P x) (Q x) (h x) xs p.0, Pairs-weaker P Q h xs p.1)
