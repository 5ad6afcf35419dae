use Rattle.std.proofs.Common.{◌++◌, rules, ap, ◌∙◌, map}
use Rattle.std.proofs.lemmas.List.{map-append}
use Rattle.std.proofs.lemmas.List.Sorted.{ranks_by, answers_always}
use Rattle.std.specs.Map.Iter.{deref_pair}
use Rattle.std.specs.Ordering.{is_lt}
use Rattle.aria_base.proofs.Orders.{derived_cmp, derived_total}
use Rattle.tbl_rows.proofs.Beside.{adds-both}
use Rattle.tbl_rows.proofs.Listed.{entries-sorted}
use Rattle.tbl_rows.proofs.rows.Rows.list.Goals as goal

pub returns : goal.returns
returns c =
    let sorted = c.in_ok-sort_by.ensures in
    let all = adds-both c.self.inside.pool c.self.inside.overflow (map deref_pair c.list.new.out.items)
    (map deref_pair c.list-2.new.out.items) c.self.invariant (rw c.new-rows.ensures.items at c.in_ok-list.ensures) c.in_ok-list-2.ensures in
    let listed = entries-sorted _ c.list-2.new.out.items c.sort_by.new.self.items all sorted.permutation
    (sorted.sorted (λ a b. is_lt (derived_cmp a.0.now b.0.now)) (ranks_by derived_total (λ a. a.0.now))
    (answers_always _ _ _ (λ f a r f' k. search rules))) in
    rw (← c.self.view_is) (ap (map deref_pair) c.in_ok-append.ensures.items ∙ map-append deref_pair c.args.out.now.items c.sort_by.new.self.items
    ∙ ap (λ es. map deref_pair c.args.out.now.items ++ es) listed)
