use Rattle.std.proofs.Common.{◌≡◌, ◌++◌, map, take, flat_map}
use Rattle.std.specs.Map.Iter.{deref_pair}
use Rattle.answer_text.specs.States.{row_text}
use Rattle.answer_text.proofs.states.append_rows.Given as goal

abbrev pub invariant-loop-key : goal.invariant-loop-key
invariant-loop-key l = l.out.items ≡ l.initial.out.items ++ flat_map (row_text l.tables) (map deref_pair (take l.key-index l.rows))
