use Rattle.std.proofs.Common.{◌≡◌, ◌==◌, length}
use Rattle.std.specs.List.{slice_split}
use Rattle.script_text.specs.Tokens.{all_after, all_of, tuple_of}
use Rattle.script_text.proofs.readers.read_tuples.Given as goal

abbrev pub invariant-loop-front : goal.invariant-loop-front
invariant-loop-front l = all_after tuple_of l.all.items (slice_split (λ b. b == 59) l.rest) ≡ all_of tuple_of (slice_split (λ b. b == 59) l.bytes)

abbrev pub decreases-loop-front : goal.decreases-loop-front
decreases-loop-front l = length l.rest
