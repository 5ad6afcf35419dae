use Rattle.std.proofs.Common.{◌≡◌, ◌==◌, drop}
use Rattle.std.specs.List.{list_all}
use Rattle.script_text.proofs.forms.is_blank.Given as goal

abbrev pub invariant-loop-byte : goal.invariant-loop-byte
invariant-loop-byte l = list_all (λ b. b == 32) (drop l.byte-index l.bytes) ≡ list_all (λ b. b == 32) l.bytes
