use Rattle.std.proofs.Common.{◌≡◌, ◌++◌, map, drop}
use Rattle.node_batch.specs.Entries.{entry_of, own_entries}
use Rattle.node_batch.specs.OwnRuns.{told_of}
use Rattle.node_batch.proofs.entries.entries_of.Given as goal

abbrev pub invariant-loop-place : goal.invariant-loop-place
invariant-loop-place l = map entry_of l.entries.items
    ++ own_entries l.catalog l.site l.place (drop l.place l.list) (drop l.place l.fates) (map told_of (drop l.place l.runs))
    ≡ own_entries l.catalog l.site 0 l.list l.fates (map told_of l.runs)
