use Rattle.std.proofs.Common.{◌≡◌, ◌++◌, ℕ, drop}
use Rattle.install_phase.specs.Dues.{shown}
use Rattle.install_phase.specs.Installs.{written}
use Rattle.install_phase.specs.Writes.{at_shards}
use Rattle.install_phase.proofs.listings.dues_of.Given as goal

abbrev pub invariant-loop-changes : goal.invariant-loop-changes
invariant-loop-changes l = (next : ℕ)
    × (shown l.dues.items ++ at_shards l.shards (written next (drop l.changes-index l.list) l.rest) ≡ at_shards l.shards (written 1 l.list l.verdicts))
