use Rattle.std.proofs.Common.{◌≡◌, map, take}
use Rattle.batch_engine.specs.Answers.{is_final}
use Rattle.batch_engine.proofs.answers.finals_of.Given as goal

abbrev pub invariant-loop-line : goal.invariant-loop-line
invariant-loop-line l = l.finals.items ≡ map (λ line. is_final line.reply) (take l.line-index l.lines)
