-- The last change may be made first.
use Rattle.std.proofs.Common.{◌≡◌, List, [], ◌∷◌, ◌++◌, Option, refl, sym, ap, ◌∙◌, Ordering}
use Rattle.std.specs.FinMap.{FinMap}
use Rattle.batch_rules.specs.Trees.{set_at}
use Rattle.batch_rules.specs.Touches.{overwritten}

module _ {K V : Type 0} {R : K → K → Ordering} where
  pub overwritten-push : (db : FinMap R V) (ws : List (K × Option V)) (w : K × Option V)
      → overwritten db (ws ++ w ∷ []) ≡ overwritten (set_at db w.0 w.1) ws
  overwritten-push db [] w = refl
  overwritten-push db (v ∷ vs) w = ap (λ m. set_at m v.0 v.1) (overwritten-push db vs w)

  -- what the changes come to, where the last of them is made and the rest follow
  pub last_put : (db new all : FinMap R V) (ws rest : List (K × Option V)) (k : K) (row : Option V) → ws ≡ rest ++ (k, row) ∷ []
      → new ≡ set_at db k row → overwritten db ws ≡ all
      → overwritten new rest ≡ all
  last_put db new all ws rest k row is made was =
      ap (λ m. overwritten m rest) made ∙ sym (ap (overwritten db) is ∙ overwritten-push db rest (k, row)) ∙ was
