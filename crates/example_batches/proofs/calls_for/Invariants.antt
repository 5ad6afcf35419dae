use Rattle.std.proofs.Common.{◌≡◌, true}
use Rattle.std.specs.List.{All}
use Rattle.proc_lang.specs.Catalogs.{takes}
use Rattle.example_batches.proofs.calls_for.Given as goal

abbrev pub invariant-loop-account : goal.invariant-loop-account
invariant-loop-account l = All (λ call. takes l.engine.plan call ≡ true) l.calls.items
