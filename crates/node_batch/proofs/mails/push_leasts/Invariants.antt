use Rattle.std.proofs.Common.{◌≡◌, ◌++◌, map, drop}
use Rattle.node_batch.specs.Letters.{message_of, holders_of}
use Rattle.node_batch.specs.Mails.{leasts_mails}
use Rattle.node_batch.proofs.mails.push_leasts.Given as goal

abbrev pub invariant-loop-place : goal.invariant-loop-place
invariant-loop-place l = map message_of l.out.items ++ leasts_mails l.site l.place (map holders_of (drop l.place l.leasts))
    ≡ map message_of l.initial.out.items ++ leasts_mails l.site 0 (map holders_of l.leasts)
