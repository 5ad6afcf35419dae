use Rattle.std.proofs.Common.{sym, ap, ◌∙◌}
use Rattle.std.proofs.lemmas.List.{drop_all}
use Rattle.batch_rules.specs.Touches.{keys_of}
use Rattle.range_runs.specs.Indexes.{with_keys}
use Rattle.range_runs.proofs.Following.{exactly}
use Rattle.range_runs.proofs.indexes.Index.of_writes.Goals as goal

pub returns : goal.returns
returns c = exactly c.loop-key.index (keys_of c.args.writes.now)
    (sym (ap (λ xs. with_keys c.loop-key.index (keys_of xs)) (drop_all c.loop-key.key-index c.args.writes.now c.loop-key-test.false))
    ∙ c.loop-key.invariant)
