use Rattle.std.proofs.Common.{◌≡◌, length}
use Rattle.script_text.specs.Cuts.{tokens}
use Rattle.script_text.specs.Tokens.{all_after, all_of}
use Rattle.script_text.proofs.readers.read_tokens.Given as goal

abbrev pub invariant-loop-token : goal.invariant-loop-token
invariant-loop-token g l = all_after g.T.FromToken.of l.all.items (tokens l.rest) ≡ all_of g.T.FromToken.of (tokens l.line)

abbrev pub decreases-loop-token : goal.decreases-loop-token
decreases-loop-token g l = length l.rest
