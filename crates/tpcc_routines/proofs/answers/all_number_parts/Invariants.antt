use Rattle.std.proofs.Common.{◌≡◌, drop}
use Rattle.std.specs.List.{list_all}
use Rattle.tpcc_routines.specs.Answers.{is_number_part}
use Rattle.tpcc_routines.proofs.answers.all_number_parts.Given as goal

abbrev pub invariant-loop-part : goal.invariant-loop-part
invariant-loop-part l = list_all is_number_part (drop l.part-index l.parts) ≡ list_all is_number_part l.parts
