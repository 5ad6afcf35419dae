use Rattle.std.proofs.Common.{◌≡◌, length, drop, ◌==◌}
use Rattle.std.specs.List.{list_all}
use Rattle.proc_lang.proofs.catalogs.arg_fits.Given as goal

abbrev pub invariant-loop-tuple : goal.invariant-loop-tuple
invariant-loop-tuple l = list_all (λ t. length t == l.width) (drop l.tuple-index l.tuple-items) ≡ list_all (λ t. length t == l.width) l.tuple-items
