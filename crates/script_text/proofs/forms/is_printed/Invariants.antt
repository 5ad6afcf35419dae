use Rattle.std.proofs.Common.{◌≡◌, ◌&&◌, drop}
use Rattle.script_text.specs.Forms.{is_printed}
use Rattle.script_text.proofs.forms.is_printed.Given as goal

abbrev pub invariant-loop-byte : goal.invariant-loop-byte
invariant-loop-byte l = (l.all && is_printed (drop l.byte-index l.bytes)) ≡ is_printed l.bytes
