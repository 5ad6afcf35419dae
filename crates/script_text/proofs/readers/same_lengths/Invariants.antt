use Rattle.std.proofs.Common.{◌≡◌, ◌==◌, drop, length}
use Rattle.std.specs.List.{list_all}
use Rattle.script_text.proofs.readers.same_lengths.Given as goal

abbrev pub invariant-loop-tuple : goal.invariant-loop-tuple
invariant-loop-tuple l = list_all (λ u. length u == length l.first) (drop l.tuple-index l.rest) ≡ list_all (λ u. length u == length l.first) l.rest
