use Rattle.std.proofs.Common.{◌≡◌, take, drop}
use Rattle.script_text.specs.Cuts.{tokens, tokens_from}
use Rattle.script_text.proofs.cuts.token_len.Given as goal

abbrev pub invariant-loop-at : goal.invariant-loop-at
invariant-loop-at l = tokens_from (take l.at l.line) l.quoted (drop l.at l.line) ≡ tokens l.line
