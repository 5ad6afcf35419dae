use Rattle.std.proofs.Common.{◌≡◌, ◌<◌, ◌^◌, drop}
use Rattle.command_words.specs.Values.{digits_after}
use Rattle.command_words.proofs.values.read_digits.Given as goal

abbrev pub invariant-loop-byte : goal.invariant-loop-byte
invariant-loop-byte l = (digits_after l.number (drop l.byte-index l.text) ≡ digits_after 0 l.text) × (l.number < 10 ^ l.byte-index)
