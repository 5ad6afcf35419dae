use Rattle.std.proofs.Common.{◌≡◌, ◌++◌, take}
use Rattle.std.specs.List.{All}
use Rattle.std.specs.Map.Iter.{deref_pair}
use Rattle.image_text.specs.Lines.{written}
use Rattle.image_text.specs.Exactly.{line_of_row}
use Rattle.image_text.specs.Entries.{IsRowHeld}
use Rattle.image_text.proofs.bodies.append_rows.Given as goal

abbrev pub invariant-loop-key : goal.invariant-loop-key
invariant-loop-key l = record {
  text : l.out.items ≡ l.initial.out.items ++ written (λ row. line_of_row l.catalog (deref_pair row)) (take l.key-index l.rows);
  held : All (λ row. IsRowHeld (deref_pair row)) (take l.key-index l.rows);
}
