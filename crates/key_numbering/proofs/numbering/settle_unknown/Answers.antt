use Rattle.std.proofs.Common.{◌≤◌, ◌<◌, ap, drop, length, arith}
use Rattle.std.specs.FinMap as fin
use Rattle.key_numbering.specs.Lookups.{settled, shown}
use Rattle.key_numbering.specs.Numbers.{with_key}
use Rattle.key_numbering.proofs.Settling.{longer_at}
use Rattle.key_numbering.proofs.numbering.settle_unknown.Goals as goal

pub number_of-requires : goal.number_of-requires
number_of-requires c =
    let within : c.loop-one.one-index < length c.args.unknown.now = omega arith in
    let longer : fin.len (with_key c.loop-one.kept c.one-item.result.key.now) ≤ fin.len
    (settled (c.loop-one.kept, c.loop-one.numbers.items) (shown (drop c.loop-one.one-index c.args.unknown.now))).0 =
    longer_at (c.loop-one.kept, c.loop-one.numbers.items) c.args.unknown.now c.loop-one.one-index c.one-item.result within c.one-item.is in
    let same = ap (λ p. fin.len p.0) c.loop-one.invariant.1 in
    let most = c.requires.count in
    omega arith
