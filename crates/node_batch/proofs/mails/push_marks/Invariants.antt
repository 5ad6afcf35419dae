use Rattle.std.proofs.Common.{◌≡◌, ◌++◌, map}
use Rattle.std.specs.List.{range_with_len}
use Rattle.node_rules.specs.Messages.{Marks}
use Rattle.node_batch.specs.Letters.{message_of}
use Rattle.node_batch.specs.Mails.{mail, part_at}
use Rattle.node_batch.proofs.mails.push_marks.Given as goal

abbrev pub invariant-loop-node : goal.invariant-loop-node
invariant-loop-node l = map message_of l.out.items ≡ map message_of l.initial.out.items
    ++ map (λ node. mail l.site l.tid node (Marks (part_at l.site.nodes node l.outcome))) (range_with_len 0 l.node)
