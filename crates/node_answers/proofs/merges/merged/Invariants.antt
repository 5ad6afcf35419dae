use Rattle.std.proofs.Common.{◌≡◌, List, take}
use Rattle.aria_base.specs.declared.calls.Request.{Request}
use Rattle.aria_base.specs.declared.keys.Key.{Key}
use Rattle.batch_rules.specs.Batches.{Entry as Settled}
use Rattle.proc_lang.specs.declared.ends.End.{End}
use Rattle.node_answers.specs.Merges.{settled_in, AreShares}
use Rattle.node_answers.proofs.merges.merged.Given as goal

abbrev pub invariant-loop-place : goal.invariant-loop-place
invariant-loop-place l = (entries : List (Settled Key Request End)) → AreShares l.seats l.batch entries → settled_in l.all.items ≡ take l.place entries
