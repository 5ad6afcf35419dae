use Rattle.std.specs.Map.Iter.{deref_pair}
use Rattle.image_text.specs.Exactly.{line_of_row}
use Rattle.image_text.specs.Entries.{IsRowHeld}
use Rattle.image_text.proofs.LinesWritten.{written_on, all_on}
use Rattle.image_text.proofs.bodies.append_rows.Goals as goal

pub loop-key-preserved : goal.loop-key-preserved
loop-key-preserved c = record {
  text = written_on _ _ _ c.loop-key-test.true c.loop-key-item.is (λ row. line_of_row c.args.catalog.now (deref_pair row)) _ _ _ c.loop-key.invariant.text
      c.in_ok-append_row_ended.ensures.text;
  held = all_on _ _ _ c.loop-key-test.true c.loop-key-item.is (λ row. IsRowHeld (deref_pair row)) c.loop-key.invariant.held
      c.in_ok-append_row_ended.ensures.held;
}
