use Rattle.std.proofs.Common.{map, sym, ap, ◌∙◌}
use Rattle.std.specs.Map.Iter.{deref_pair}
use Rattle.std.proofs.lemmas.List.{drop_all}
use Rattle.range_runs.specs.Indexes.{with_keys}
use Rattle.range_runs.proofs.Following.{all_listed}
use Rattle.range_runs.proofs.indexes.Index.of.Goals as goal

pub returns : goal.returns
returns c = all_listed c.loop-key.index c.args.tables.now
    (sym (ap (λ xs. with_keys c.loop-key.index (map (λ e. e.0) (map deref_pair xs)))
    (drop_all c.loop-key.key-index c.deref-key-items.result.now c.loop-key-test.false)) ∙ c.loop-key.invariant)
