use Rattle.std.proofs.Common.{◌++◌, map, sym, ap, ◌∙◌}
use Rattle.std.specs.Map.Iter.{deref_pair}
use Rattle.std.proofs.lemmas.List.{drop_all, append-nil}
use Rattle.tbl_rows.proofs.Listed.{adds-listed}
use Rattle.tbl_rows.proofs.more_rows.MoreRows.list.Goals as goal

pub returns : goal.returns
returns c =
    let all = sym (append-nil (map deref_pair c.loop-entry.out.items))
    ∙ ap (λ es. map deref_pair c.loop-entry.out.items ++ es)
    (sym (drop_all c.loop-entry.entry-index c.deref-entry-items.result.now c.loop-entry-test.false)) ∙ c.loop-entry.invariant
    ∙ ap (λ es. map deref_pair c.args.out.now.items ++ es) c.deref-entry-items.ensures.value in
    rw (← c.self.view_is, all) (adds-listed _ _ c.self.invariant)
