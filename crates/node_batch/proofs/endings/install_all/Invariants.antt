use Rattle.std.proofs.Common.{◌≡◌, map, drop}
use Rattle.node_batch.specs.Endings.{all_installed}
use Rattle.node_batch.specs.Letters.{sets_of}
use Rattle.node_batch.proofs.endings.install_all.Given as goal

abbrev pub invariant-loop-place : goal.invariant-loop-place
invariant-loop-place l = all_installed l.rows (map sets_of (drop l.place l.parts)) (drop l.place l.fates) ≡ all_installed l.initial.rows
    (map sets_of l.parts) l.fates
