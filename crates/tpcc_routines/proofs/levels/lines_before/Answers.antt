use Rattle.std.proofs.Common.{◌≡◌, ℤ, pos, ◌-ℤ◌, [], ◌∷◌, sym, subst, ◌∙◌, Some, Option, FitsSigned, to_z, of_z, w64, rules}
use Rattle.std.proofs.lemmas.Int.{to_z-of_z}
use Rattle.cat_builtin.specs.Warehouses as table
use Rattle.range_rules.specs.Walks.{Walk}
use Rattle.tpcc_routines.specs.Routines.{in_range, on_number, find_all}
use Rattle.tpcc_routines.specs.Turns.{TurnsLines}
use Rattle.tpcc_routines.proofs.levels.lines_before.Goals as goal

pub returns-in-Some : goal.returns-in-Some
returns-in-Some c go =
    let find : ℤ → Walk = λ o. find_all table.order_lines (c.args.at.w ∷ c.args.at.d ∷ o ∷ []) 5 go in
    let fits : FitsSigned w64 c.in-Some.order = search rules in
    let same : to_z w64 (of_z w64 c.in-Some.order) ≡ c.in-Some.order = to_z-of_z w64 c.in-Some.order fits in
    let is : in_range (c.args.next.now -ℤ pos c.args.behind) ≡ Some c.in-Some.order = sym c.less.ensures ∙ c.in-Some.is in
    subst (λ (o : Option ℤ). TurnsLines (on_number find o) go c.args.seen.now c.lines_at.result) (sym is)
    (subst (λ o. TurnsLines (find o) go c.args.seen.now c.lines_at.result) same (c.lines_at.ensures go))
