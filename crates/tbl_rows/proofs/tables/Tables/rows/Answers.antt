use Rattle.std.proofs.Common.{◌≡◌, ◌++◌, [], rules, sym, ap, ◌∙◌, map, drop}
use Rattle.std.specs.FinMap as fin
use Rattle.std.specs.List.Sorted.{IsPermutation}
use Rattle.std.proofs.lemmas.List.{drop_all, append-nil}
use Rattle.std.proofs.lemmas.List.Sorted.{ranks_by, answers_always, IsPermutation-sym}
use Rattle.std.specs.Map.Iter.{deref_pair}
use Rattle.std.specs.Ordering.{is_lt}
use Rattle.aria_base.proofs.Orders.{derived_cmp, derived_total}
use Rattle.tbl_rows.specs.Shards.{joined}
use Rattle.tbl_rows.proofs.Spread.{listed}
use Rattle.tbl_rows.proofs.Together.{rows_of, joined-permuted}
use Rattle.tbl_rows.proofs.Listed.{entries-sorted}
use Rattle.tbl_rows.proofs.tables.Tables.rows.Goals as goal

pub returns : goal.returns
returns c =
    let left : listed (rows_of (drop c.loop-shard.shard-index c.deref-shard-items.result.now)) ≡ [] =
    ap (λ ps. listed (rows_of ps)) (drop_all c.loop-shard.shard-index c.deref-shard-items.result.now c.loop-shard-test.false) in
    let all = sym (append-nil (map deref_pair c.loop-shard.rows.items)) ∙ ap (λ es. map deref_pair c.loop-shard.rows.items ++ es) (sym left)
    ∙ c.loop-shard.invariant ∙ ap (λ ps. listed (rows_of ps)) c.deref-shard-items.ensures.value in
    let sorted = c.in_ok-sort_by.ensures in
    let moved : IsPermutation (fin.entries (joined c.self.inside.shards.items)) (map deref_pair c.loop-shard.rows.items) =
    rw all (IsPermutation-sym _ _ (joined-permuted c.self.inside.shards.items c.self.invariant)) in
    rw (← c.self.view_is) (entries-sorted _ c.loop-shard.rows.items c.sort_by.new.self.items moved sorted.permutation
    (sorted.sorted (λ a b. is_lt (derived_cmp a.0.now b.0.now)) (ranks_by derived_total (λ a. a.0.now)) (answers_always _ _ _ (λ f a r f' k. search rules))))
