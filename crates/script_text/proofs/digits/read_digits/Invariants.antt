use Rattle.std.proofs.Common.{◌≡◌, ◌<◌, ◌^◌, drop}
use Rattle.script_text.specs.Numbers.{digits_after}
use Rattle.script_text.proofs.digits.read_digits.Given as goal

abbrev pub invariant-loop-byte : goal.invariant-loop-byte
invariant-loop-byte l = (digits_after l.number (drop l.byte-index l.bytes) ≡ digits_after 0 l.bytes) × (l.number < 10 ^ l.byte-index)
