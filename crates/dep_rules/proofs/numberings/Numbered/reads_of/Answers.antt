use Rattle.std.proofs.Common.{◌<◌, ◌-◌, length, arith}
use Rattle.dep_rules.proofs.Joined.{at_below}
use Rattle.dep_rules.proofs.numberings.Numbered.reads_of.Goals as goal

pub returns-clause-below : goal.returns-clause-below
returns-clause-below c =
    let first = c.requires.0 in
    let last = c.requires.1 in
    let sheet = c.reads_at.ensures.sheet in
    let same = sheet.same in
    let within : c.args.tid - 1 < length c.args.self.now.reads = omega arith in
    at_below c.args.self.now.keys c.args.self.now.reads (c.args.tid - 1) c.reads_at.result.now within sheet.reads_below c.reads_at.ensures.list
