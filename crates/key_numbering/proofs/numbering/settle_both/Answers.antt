use Rattle.std.proofs.Common.{◌≤◌, arith}
use Rattle.std.specs.FinMap as fin
use Rattle.key_numbering.specs.Lookups.{settled_by}
use Rattle.key_numbering.specs.declared.kept.TheConstants.{MOST_KEYS}
use Rattle.key_numbering.proofs.Settling.{longer_by}
use Rattle.key_numbering.proofs.numbering.settle_both.Goals as goal

pub settle-requires-clause-count : goal.settle-requires-clause-count
settle-requires-clause-count c =
    let longer = longer_by (settled_by c.args.kept.now c.args.found.reads).0 c.args.found.writes in
    let most : fin.len (settled_by (settled_by c.args.kept.now c.args.found.reads).0 c.args.found.writes).0 ≤ MOST_KEYS = c.requires.count in
    omega arith
