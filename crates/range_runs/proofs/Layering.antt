-- The keys that are kept of an overlay's writes, after a read and after a write.
use Rattle.std.proofs.Common.{◌≡◌, ◌∷◌, Option, Some, None, sym, ap, subst, ◌∙◌}
use Rattle.std.specs.Option.{IfSome}
use Rattle.aria_base.specs.Orders.{key_cmp, Cells}
use Rattle.aria_base.specs.declared.keys.Key.{Key}
use Rattle.aria_base.proofs.Orders.{key_cmp_total, key_cmp-IsAntisymmetric}
use Rattle.batch_rules.specs.Plays.{Seen, after_read, after_write}
use Rattle.batch_rules.specs.Touches.{is_among, keys_of}
use Rattle.batch_rules.proofs.Maps.{is_among-with_write}
use Rattle.tbl_snapshot.specs.Layers.{Layer, Buffer, seen_of}
use Rattle.range_runs.specs.Indexes.{Listed, HasExactly}

pub keys-read : (before after : Layer) (k : Key) (keys : Option Listed) → seen_of after ≡ after_read (seen_of before) k
    → IfSome keys (HasExactly (keys_of before.noted.writes)) → IfSome keys (HasExactly (keys_of after.noted.writes))
keys-read before after k keys is has =
    subst (λ (ws : Buffer). IfSome keys (HasExactly (keys_of ws))) (sym (ap (λ (s : Seen key_cmp Cells). s.noted.writes) is)) has

pub keys-written : (before after : Layer) (k : Key) (row : Option Cells) (keys : Option Listed) → seen_of after ≡ after_write (seen_of before) k row
    → IfSome keys (HasExactly (k ∷ keys_of before.noted.writes)) → IfSome keys (HasExactly (keys_of after.noted.writes))
keys-written before after k row None is has = tt
keys-written before after k row (Some index) is has = λ q.
    has q ∙ sym (ap (λ (s : Seen key_cmp Cells). is_among key_cmp (keys_of s.noted.writes) q) is
    ∙ is_among-with_write key_cmp_total key_cmp-IsAntisymmetric before.noted.writes k row q)
