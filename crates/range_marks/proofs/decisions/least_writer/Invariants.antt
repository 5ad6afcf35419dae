use Rattle.std.proofs.Common.{◌≡◌, drop, None}
use Rattle.dep_rules.specs.Words.{least_of}
use Rattle.range_marks.specs.Decisions.{writer_of}
use Rattle.range_marks.proofs.decisions.least_writer.Given as goal

abbrev pub invariant-loop-key : goal.invariant-loop-key
invariant-loop-key l = least_of (writer_of l.words l.tag l.tid) l.least (drop l.key-index l.keys) ≡ least_of (writer_of l.words l.tag l.tid) None l.keys
