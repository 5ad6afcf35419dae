-- Rows of a schema: none are such rows, and they stay so where one key's row is another one that fits, or none.
use Rattle.std.proofs.Common.{◌≡◌, ◌∙◌, refl, sym, ap, subst, true, false, cond, Option, None, Some, List}
use Rattle.std.specs.Prelude.{⊤}
use Rattle.std.specs.Ordering.{eq_by_cmp}
use Rattle.std.specs.FinMap as fin
use Rattle.aria_base.specs.Orders.{Cells, Database, key_cmp}
use Rattle.aria_base.specs.Schemas.{Fits, IsConsistent}
use Rattle.aria_base.specs.declared.keys.Key.{Key}
use Rattle.aria_base.specs.declared.schemas.Table.{Table}
use Rattle.aria_base.proofs.Orders.{key_cmp_total, same_key}

-- the row, if there is one, fits at the key
abbrev pub MayStand : List Table → Key → Option Cells → Type 0
MayStand tables key None = ⊤
MayStand tables key (Some row) = Fits tables key row

pub none_fit : (tables : List Table) (db : Database) → db ≡ fin.empty → IsConsistent tables db
none_fit tables db e key row found =
    subst (MayStand tables key) (sym (fin.get-empty key_cmp key) ∙ sym (ap (λ (m : Database). fin.get m key) e) ∙ found) tt

-- this row, or none, stands at one key now, and all others as before
pub fit_changed : (tables : List Table) (before after : Database) (k : Key) (row : Option Cells) → IsConsistent tables before → MayStand tables k row
    → ((q : Key) → fin.get after q ≡ cond (eq_by_cmp key_cmp q k) row (fin.get before q)) → IsConsistent tables after
fit_changed tables before after k row c may is q cells e = elim (eq_by_cmp key_cmp q k) as (λ b. eq_by_cmp key_cmp q k ≡ b
    → cond b row (fin.get before q) ≡ Some cells → Fits tables q cells) [
      | true ↦ λ same e. subst (λ k. Fits tables k cells) (sym (same_key q k same)) (subst (MayStand tables k) e may)
      | false ↦ λ other e. c q cells e
    ] refl (sym (is q) ∙ e)

pub fit_with : (tables : List Table) (before after : Database) (k : Key) (row : Cells) → IsConsistent tables before → Fits tables k row
    → after ≡ fin.insert before k row
    → IsConsistent tables after
fit_with tables before after k row c fits put =
    fit_changed tables before after k (Some row) c fits (λ q. ap (λ (m : Database). fin.get m q) put ∙ fin.get-insert key_cmp_total before k row q)
