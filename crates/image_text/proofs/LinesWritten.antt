-- The lines of one item more.
use Rattle.std.proofs.Common.{◌≡◌, ℕ, ◌+◌, ◌<◌, List, [], ◌∷◌, ◌++◌, length, get_or, take, ap, subst, sym, ◌∙◌}
use Rattle.std.specs.Prelude.{All}
use Rattle.std.proofs.lemmas.List.{append_assoc, take_more, flat_map_more}
use Rattle.std.proofs.lemmas.List.Elements.{All-more}
use Rattle.image_text.specs.Lines.{written}

module _ {X : Type 0} (xs : List X) (i : ℕ) (x : X) (below : i < length xs) (is : x ≡ get_or xs i x) where
  pub written_more : (write : X → List ℕ) → written write (take (i + 1) xs) ≡ written write (take i xs) ++ (write x ++ 10 ∷ [])
  written_more write =
      ap (written write) (take_more xs i x below) ∙ sym (flat_map_more (λ y. write y ++ 10 ∷ []) [] (take i xs) (get_or xs i x))
      ∙ ap (λ (y : X). written write (take i xs) ++ (write y ++ 10 ∷ [])) (sym is)

  pub written_on : (write : X → List ℕ) (before out more : List ℕ) → out ≡ before ++ written write (take i xs) → more ≡ out ++ (write x ++ 10 ∷ [])
      → more ≡ before ++ written write (take (i + 1) xs)
  written_on write before out more o m =
      m ∙ ap (λ (l : List ℕ). l ++ (write x ++ 10 ∷ [])) o ∙ append_assoc before (written write (take i xs)) (write x ++ 10 ∷ [])
      ∙ ap (λ (l : List ℕ). before ++ l) (sym (written_more write))

  pub all_on : (P : X → Type 0) → All P (take i xs) → P x → All P (take (i + 1) xs)
  all_on P all h = All-more P xs i x below all (subst P is h)
