use Rattle.std.proofs.Common.{◌≡◌, drop}
use Rattle.std.specs.List.{list_all}
use Rattle.aria_base.specs.Texts.{is_in_word}
use Rattle.aria_base.proofs.texts.is_word.Given as goal

abbrev pub invariant-loop-byte : goal.invariant-loop-byte
invariant-loop-byte l = list_all is_in_word (drop l.byte-index l.bytes) ≡ list_all is_in_word l.bytes
