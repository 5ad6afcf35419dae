use Rattle.std.proofs.Common.{◌≡◌, [], map, drop, string_bytes}
use Rattle.aria_cli.specs.Told.{with_words}
use Rattle.aria_cli.proofs.hints.shown_words.Given as goal

abbrev pub invariant-loop-word : goal.invariant-loop-word
invariant-loop-word l = with_words (string_bytes l.text) (map string_bytes (drop l.word-index l.words)) ≡ with_words [] (map string_bytes l.words)
