use Rattle.std.proofs.Common.{◌≡◌, map, drop, string_bytes, None, []}
use Rattle.command_words.specs.Lines.{options_of}
use Rattle.command_words.specs.Rows.{opt_of}
use Rattle.command_words.proofs.lines.options.Given as goal

abbrev pub invariant-loop-word : goal.invariant-loop-word
invariant-loop-word l = options_of (map opt_of l.table) l.reading.given l.reading.pending (map string_bytes (drop l.word-index l.words)) ≡ options_of
    (map opt_of l.table) [] None (map string_bytes l.words)
