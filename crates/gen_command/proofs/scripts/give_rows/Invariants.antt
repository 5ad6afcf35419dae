use Rattle.std.proofs.Common.{◌≤◌, map, flat_map}
use Rattle.std.specs.Map.Iter.{deref_pair}
use Rattle.std.specs.Slice.Iter.{chunks_rest}
use Rattle.answer_text.specs.States.{row_text}
use Rattle.gen_command.specs.Pieces.{LeadsTo}
use Rattle.gen_command.proofs.scripts.give_rows.Given as goal

abbrev pub invariant-loop-piece : goal.invariant-loop-piece
invariant-loop-piece g l =
    (goal.iterator-loop-piece g).can_next l.piece-iterator
    × (goal.iterator-loop-piece g).is_finite l.piece-iterator
    × (g.K.Sink.faults l.initial.out ≤ g.K.Sink.faults l.out)
    × LeadsTo (flat_map (row_text l.tables) (map deref_pair (chunks_rest l.piece-iterator))) (g.K.Sink.given l.out)
    (flat_map (row_text l.tables) (map deref_pair l.rows)) (g.K.Sink.given l.initial.out)
