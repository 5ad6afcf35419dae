-- Rows that fit the tables of order entry: those of a mix, and those without one.
use Rattle.std.proofs.Common.{◌≡◌, ◌∙◌, sym, ap, subst, None}
use Rattle.std.specs.FinMap as fin
use Rattle.aria_base.specs.Orders.{Database}
use Rattle.aria_base.specs.Schemas.{IsConsistent}
use Rattle.aria_base.specs.declared.keys.Key.{Key}
use Rattle.aria_base.proofs.Fitting.{fit_changed}
use Rattle.aria_base.proofs.Orders.{key_cmp_total}
use Rattle.cat_builtin.specs.Tpcc.{tpcc}
use Rattle.proc_lang.specs.Catalogs.{Plan}

pub fit_copy : (plan : Plan) (rows held copy : Database) → plan ≡ tpcc → IsConsistent plan.tables rows → copy ≡ held → held ≡ rows
    → IsConsistent tpcc.tables copy
fit_copy plan rows held copy is fit same holds =
    subst (λ (p : Plan). IsConsistent p.tables copy) is (subst (IsConsistent plan.tables) (sym (same ∙ holds)) fit)

pub fit_without : (before after : Database) (k : Key) → IsConsistent tpcc.tables before → after ≡ fin.remove before k → IsConsistent tpcc.tables after
fit_without before after k fit is =
    fit_changed tpcc.tables before after k None fit tt (λ q. ap (λ (m : Database). fin.get m q) is ∙ fin.get-remove key_cmp_total before k q)
