use Rattle.std.proofs.Common.{◌≡◌, ◌<◌, ◌==◌, length, take}
use Rattle.std.specs.List.{slice_split}
use Rattle.aria_base.specs.declared.limits.TheConstants.{LONGEST_TUPLE}
use Rattle.script_text.specs.Numbers.{number_of}
use Rattle.script_text.specs.Tokens.{all_after, all_of}
use Rattle.script_text.proofs.readers.read_tuple.Given as goal

abbrev pub invariant-loop-front : goal.invariant-loop-front
invariant-loop-front l = record {
  read : all_after number_of (take l.count l.numbers) (slice_split (λ b. b == 44) l.rest) ≡ all_of number_of (slice_split (λ b. b == 44) l.bytes);
  few : l.count < LONGEST_TUPLE;
  room : length l.numbers ≡ LONGEST_TUPLE;
}

abbrev pub decreases-loop-front : goal.decreases-loop-front
decreases-loop-front l = length l.rest
