-- Rows that fit the tables of an engine that begins, and works that are all taken.
use Rattle.std.proofs.Common.{◌≡◌, ◌∙◌, sym, ap, subst, Bool, true, List}
use Rattle.std.specs.List.{All, list_all}
use Rattle.std.proofs.lemmas.List.Sums.{AllPass-from_list_all}
use Rattle.aria_base.specs.Orders.{Database}
use Rattle.aria_base.specs.Schemas.{IsConsistent}
use Rattle.proc_lang.specs.Catalogs.{Plan}

pub fit_again : (plan named copy : Plan) (rows held again : Database) → IsConsistent plan.tables rows → copy ≡ named → named ≡ plan → again ≡ held
    → held ≡ rows → IsConsistent copy.tables again
fit_again plan named copy rows held again fit c n a h =
    subst (λ (p : Plan). IsConsistent p.tables again) (sym (c ∙ n)) (subst (IsConsistent plan.tables) (sym (a ∙ h)) fit)

pub all_taken : {X : Type 0} (test : X → Bool) (xs slice : List X) (taken : Bool) → taken ≡ list_all test slice → slice ≡ xs → taken ≡ true
    → All (λ x. test x ≡ true) xs
all_taken test xs slice taken is s holds = AllPass-from_list_all test xs (sym (ap (list_all test) s) ∙ sym is ∙ holds)
