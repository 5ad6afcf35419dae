use Rattle.std.proofs.Common.{[], ◌∷◌, ◌++◌, map, ap, subst, ◌∙◌}
use Rattle.std.specs.Map.Iter.{deref_pair}
use Rattle.std.specs.List.Sorted.{IsPermutation}
use Rattle.std.specs.FinMap as fin
use Rattle.std.proofs.lemmas.List.{map-append, append-nil}
use Rattle.tbl_rows.proofs.Edited.{apart-single}
use Rattle.tbl_rows.proofs.Listed.{nil_apart, adds-listed}
use Rattle.tbl_rows.proofs.first_rows.FirstRow.list.Goals as goal

pub returns-in_ok-push-in-Some : goal.returns-in_ok-push-in-Some
returns-in_ok-push-in-Some c =
    let before = map deref_pair c.args.out.now.items in
    let is = ap (map deref_pair) c.in_ok-push-in-Some.ensures.items ∙ map-append deref_pair c.args.out.now.items _
    ∙ (λ i. before ++ (c.key.ensures i, c.row.ensures i) ∷ []) in
    rw (← c.self.view_is, c.in-Some.is, is) (adds-listed (c.in-Some.entry ∷ []) before (apart-single c.in-Some.entry))

pub returns-in-None : goal.returns-in-None
returns-in-None c =
    let before = map deref_pair c.args.out.now.items in
    rw (← c.self.view_is, c.in-None.is) (subst (IsPermutation (before ++ fin.entries fin.empty)) (append-nil before) (adds-listed [] before nil_apart))
