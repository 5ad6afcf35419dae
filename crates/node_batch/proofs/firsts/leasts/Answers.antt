use Rattle.std.proofs.Common.{◌<◌, length, map, take, ap, ◌∙◌, ◌+◌, arith}
use Rattle.batch_rules.specs.Touches.{is_among, keys_of}
use Rattle.aria_base.specs.Orders.{key_cmp}
use Rattle.node_batch.specs.Firsts.{first_in, or_first, reads_in, writes_in}
use Rattle.node_batch.specs.Letters.{sets_of}
use Rattle.node_batch.proofs.Noted.{knows_more, taken, count, one_least}
use Rattle.node_batch.proofs.firsts.leasts.Goals as goal

pub loop-place-preserved : goal.loop-place-preserved
loop-place-preserved c =
    let i = c.loop-place.place in
    let lt : c.loop-place.place < length c.args.parts.now = omega (arith, c.loop-place-test.true) in
    let part = c.index-parts-place.result in
    let at = c.index-parts-place.is in
    let earlier = map sets_of (take i c.args.parts.now) in
    record {
      so_far = one_least c.args.parts.now i part at lt c.loop-place.leasts.items c.push.new.self.items c.least_behind.result c.in_ok-push.ensures.items
          (c.least_behind.ensures earlier c.loop-place.invariant.writers c.loop-place.invariant.readers) _ c.loop-place.invariant.so_far;
      writers = knows_more writes_in earlier _ c.loop-place.writers c.note_rows.new.firsts (sets_of part) (i + 1) c.loop-place.invariant.writers
          (λ q. c.in_ok-note_rows.ensures q
          ∙ ap (λ rows. or_first (first_in c.loop-place.writers q) (is_among key_cmp (keys_of rows) q) (i + 1)) c.as_slice.ensures)
          (count c.args.parts.now i part at lt) (taken c.args.parts.now i part at lt);
      readers = knows_more reads_in earlier _ c.loop-place.readers c.note_keys.new.firsts (sets_of part) (i + 1) c.loop-place.invariant.readers
          (λ q. c.in_ok-note_keys.ensures q
          ∙ ap (λ keys. or_first (first_in c.loop-place.readers q) (is_among key_cmp keys q) (i + 1)) c.as_slice-in-loop-place.ensures)
          (count c.args.parts.now i part at lt) (taken c.args.parts.now i part at lt);
    }
