use Rattle.std.proofs.Common.{◌≤◌, arith}
use Rattle.key_numbering.proofs.Growing.{at_most}
use Rattle.key_numbering.proofs.kept.Kept.number.Goals as goal

pub numbered-requires-clause-room : goal.numbered-requires-clause-room
numbered-requires-clause-room g c =
    let more = at_most c.args.self c.args.sets.now in
    let kept = c.requires.not_full in
    let touched = c.requires.touched in
    omega arith
