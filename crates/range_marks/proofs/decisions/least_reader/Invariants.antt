use Rattle.std.proofs.Common.{◌≡◌, drop, None}
use Rattle.dep_rules.specs.Words.{least_of}
use Rattle.range_marks.specs.Decisions.{reader_of}
use Rattle.range_marks.proofs.decisions.least_reader.Given as goal

abbrev pub invariant-loop-key : goal.invariant-loop-key
invariant-loop-key l = least_of (reader_of l.words l.tag l.tid) l.least (drop l.key-index l.keys) ≡ least_of (reader_of l.words l.tag l.tid) None l.keys
