use Rattle.std.proofs.Common.{◌≡◌, drop}
use Rattle.proc_lang.specs.Catalogs.{args_fit}
use Rattle.proc_lang.proofs.catalogs.args_fit.Given as goal

abbrev pub invariant-loop-at : goal.invariant-loop-at
invariant-loop-at l = args_fit (drop l.at l.kinds) (drop l.at l.args) ≡ args_fit l.kinds l.args
