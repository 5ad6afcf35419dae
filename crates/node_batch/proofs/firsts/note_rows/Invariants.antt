use Rattle.std.proofs.Common.{◌≡◌, take}
use Rattle.aria_base.specs.Orders.{key_cmp}
use Rattle.aria_base.specs.declared.keys.Key.{Key}
use Rattle.batch_rules.specs.Touches.{is_among, keys_of}
use Rattle.node_batch.specs.Firsts.{first_in, or_first}
use Rattle.node_batch.proofs.firsts.note_rows.Given as goal

abbrev pub invariant-loop-row : goal.invariant-loop-row
invariant-loop-row l = (q : Key)
    → first_in l.firsts q ≡ or_first (first_in l.initial.firsts q) (is_among key_cmp (keys_of (take l.row-index l.rows)) q) l.tid
