use Rattle.std.proofs.Common.{◌≡◌, take}
use Rattle.install_phase.specs.Dues.{shown}
use Rattle.install_phase.specs.Writes.{finished}
use Rattle.install_phase.proofs.makings.make_own.Given as goal

abbrev pub invariant-loop-due : goal.invariant-loop-due
invariant-loop-due g l = l.shard ≡ finished (shown (take l.due-index l.dues)) l.initial.shard
