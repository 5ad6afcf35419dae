use Rattle.std.proofs.Common.{◌≡◌, take}
use Rattle.aria_base.specs.Orders.{key_cmp}
use Rattle.aria_base.specs.declared.keys.Key.{Key}
use Rattle.batch_rules.specs.Touches.{is_among}
use Rattle.node_batch.specs.Firsts.{first_in, or_first}
use Rattle.node_batch.proofs.firsts.note_keys.Given as goal

abbrev pub invariant-loop-key : goal.invariant-loop-key
invariant-loop-key l = (q : Key) → first_in l.firsts q ≡ or_first (first_in l.initial.firsts q) (is_among key_cmp (take l.key-index l.keys) q) l.tid
