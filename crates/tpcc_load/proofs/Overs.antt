-- Drawing for each of several numbers, and laying what is drawn.
use Rattle.std.proofs.Common.{◌≡◌, refl, ap, sym, ◌∙◌, ℕ, suc, ◌+◌, List, [], ◌∷◌, ◌++◌, arith}
use Rattle.std.specs.FinMap as fin
use Rattle.rand_pcg.specs.Lcg.{Lcg}
use Rattle.aria_base.specs.Orders.{Database}
use Rattle.load_gen.specs.Draws.{Drawn}
use Rattle.tpcc_load.specs.Draws.{over}
use Rattle.tpcc_load.specs.Rows.{Row, laid, laid_drawn}

pub over-none : {A : Type 0} (d : ℕ → Drawn (List A)) (g : Lcg) → over 0 d g ≡ ([], g)
unfolding over
over-none d g = refl

-- one number more
pub over-more : {A : Type 0} (n : ℕ) (d : ℕ → Drawn (List A)) (g : Lcg)
    → over (n + 1) d g ≡ ((over n d g).0 ++ (d (n + 1) (over n d g).1).0, (d (n + 1) (over n d g).1).1)
unfolding over
over-more n d g = let e : n + 1 ≡ suc n = omega arith in ap (λ k. over k d g) e

pub laid-append : (rows : Database) (some more : List Row) → laid rows (some ++ more) ≡ laid (laid rows some) more
unfolding laid
laid-append rows [] more = refl
laid-append rows (r ∷ rs) more = laid-append (fin.insert rows r.0 r.1) rs more

-- the rows that are drawn for one number more are laid behind the others
pub laid-more : (n : ℕ) (d : ℕ → Drawn (List Row)) (start rows now : Database) (g at behind : Lcg)
    → (rows, at) ≡ laid_drawn start (over n d g) → (now, behind) ≡ laid_drawn rows (d (n + 1) at)
    → (now, behind) ≡ laid_drawn start (over (n + 1) d g)
laid-more n d start rows now g at behind p q =
    q ∙ ap (λ x. laid_drawn x.0 (d (n + 1) x.1)) p
    ∙ (λ i. (sym (laid-append start (over n d g).0 (d (n + 1) (over n d g).1).0) i, (d (n + 1) (over n d g).1).1))
    ∙ ap (laid_drawn start) (sym (over-more n d g))

pub laid-none : (d : ℕ → Drawn (List Row)) (rows : Database) (g : Lcg) → (rows, g) ≡ laid_drawn rows (over 0 d g)
unfolding over laid
laid-none d rows g = refl
