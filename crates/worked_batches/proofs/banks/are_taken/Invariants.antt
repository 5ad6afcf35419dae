use Rattle.std.proofs.Common.{◌≡◌, drop}
use Rattle.std.specs.List.{list_all}
use Rattle.proc_lang.specs.Catalogs.{takes}
use Rattle.worked_batches.proofs.banks.are_taken.Given as goal

abbrev pub invariant-loop-call : goal.invariant-loop-call
invariant-loop-call l = list_all (takes l.catalog) (drop l.call-index l.calls) ≡ list_all (takes l.catalog) l.calls
