use Rattle.std.proofs.Common.{◌≡◌, ◌++◌, map, drop, string_bytes}
use Rattle.aria_cli.specs.Told.{shown_byte}
use Rattle.aria_cli.proofs.hints.shown.Given as goal

abbrev pub invariant-loop-byte : goal.invariant-loop-byte
invariant-loop-byte l = string_bytes l.text ++ map shown_byte (drop l.byte-index l.front) ≡ map shown_byte l.front
