-- A list that is cut into two, of which each part was worked on.
use Rattle.std.proofs.Common.{◌≡◌, ap, sym, ◌∙◌, ℕ, List, ◌++◌, map, take, drop}
use Rattle.std.proofs.lemmas.List.{map-append, take-append-drop}

pub done_cut : {A : Type 0} (f : A → A) (at : ℕ) (items front back some last all : List A) → front ≡ take at items → back ≡ drop at items
    → some ≡ map f front → last ≡ map f back → all ≡ some ++ last → all ≡ map f items
done_cut f at items front back some last all e d ours theirs both =
    both ∙ ap (λ xs. xs ++ last) ours ∙ ap (λ ys. map f front ++ ys) theirs ∙ sym (map-append f front back)
    ∙ ap (map f) (ap (λ xs. xs ++ back) e ∙ ap (λ ys. take at items ++ ys) d ∙ take-append-drop at items)
