use Rattle.std.proofs.Common.{◌≡◌, ◌++◌, map, drop}
use Rattle.node_batch.specs.Letters.{message_of}
use Rattle.node_batch.specs.Mails.{own_mails}
use Rattle.node_batch.specs.OwnRuns.{told_of}
use Rattle.node_batch.proofs.mails.push_own_runs.Given as goal

abbrev pub invariant-loop-place : goal.invariant-loop-place
invariant-loop-place l = map message_of l.out.items ++ own_mails l.catalog l.site l.place (drop l.place l.list) (map told_of (drop l.place l.runs))
    ≡ map message_of l.initial.out.items ++ own_mails l.catalog l.site 0 l.list (map told_of l.runs)
