use Rattle.std.proofs.Common.{◌≡◌, ◌+◌, ◌-◌, length, take, drop, get_or, arith, rules}
use Rattle.std.proofs.lemmas.Grind.{common_steps}
use Rattle.script_text.proofs.Splits.{splits_there}
use Rattle.script_text.proofs.cuts.cut_at.Goals as goal

pub returns-then-other-byte-clause-split : goal.returns-then-other-byte-clause-split
returns-then-other-byte-clause-split c =
    let bytes = c.args.bytes.now in
    let at = c.loop-at.at in
    let here : get_or bytes at 0 ≡ c.args.byte = search rules in
    let more : take (length bytes - (at + 1)) (drop (at + 1) bytes) ≡ drop (at + 1) bytes = grind (arith, common_steps) in
    rw more (splits_there c.args.byte bytes at (omega arith) here c.loop-at.invariant)
