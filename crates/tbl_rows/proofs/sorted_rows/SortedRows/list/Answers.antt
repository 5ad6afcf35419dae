use Rattle.std.proofs.Common.{◌++◌, ap, sym, ◌∙◌, map}
use Rattle.std.specs.Map.Iter.{deref_pair}
use Rattle.aria_base.proofs.Trees.{entries-from_entries}
use Rattle.tbl_rows.proofs.sorted_rows.SortedRows.list.Goals as goal

pub loop-key-init : goal.loop-key-init
loop-key-init c =
    let given = c.into_iter-key-iterator.ensures.into_iter_gives in
    rw (← c.self.view_is) (ap (λ es. map deref_pair c.args.out.now.items ++ es) (given.0 ∙ sym (entries-from_entries _ given.5)))
