-- Drawing several things, one by one.
use Rattle.std.proofs.Common.{◌≡◌, refl, ap, ◌∙◌, ℕ, zero, suc, ◌+◌, ◌&&◌, [], ◌∷◌, ◌++◌, Bool, true, arith}
use Rattle.std.specs.List.{list_all}
use Rattle.std.proofs.lemmas.List.Folds.{list_all-append}
use Rattle.rand_pcg.specs.Lcg.{Lcg}
use Rattle.load_gen.specs.Draws.{Drawn, times}

pub times-none : {A : Type 0} (d : Drawn A) (g : Lcg) → times 0 d g ≡ ([], g)
unfolding times
times-none d g = refl

-- one more thing
pub times-more : {A : Type 0} (n : ℕ) (d : Drawn A) (g : Lcg)
    → times (n + 1) d g ≡ ((times n d g).0 ++ (d (times n d g).1).0 ∷ [], (d (times n d g).1).1)
unfolding times
times-more n d g = let e : n + 1 ≡ suc n = omega arith in ap (λ k. times k d g) e

-- what holds of each thing that is drawn holds of all
pub times-all : {A : Type 0} (p : A → Bool) (n : ℕ) (d : Drawn A) → ((g : Lcg) → p (d g).0 ≡ true) → (g : Lcg)
    → list_all p (times n d g).0 ≡ true
unfolding times
times-all p zero d each g = refl
times-all p (suc n) d each g =
    list_all-append p (times n d g).0 ((d (times n d g).1).0 ∷ [])
    ∙ (λ i. times-all p n d each g i && (each (times n d g).1 i && true))
