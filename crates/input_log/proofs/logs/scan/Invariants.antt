use Rattle.std.proofs.Common.{◌≡◌, ◌-◌, ◌≤◌, length}
use Rattle.std.specs.Prelude.{IfSome}
use Rattle.disk_model.specs.Histories.{current, Still}
use Rattle.input_log.proofs.Scans.{Goes}
use Rattle.input_log.proofs.logs.scan.Given as goal

abbrev pub invariant-loop-payloads : goal.invariant-loop-payloads
invariant-loop-payloads g l = record {
  within : l.at ≤ l.len;
  empty : length l.payloads.items ≡ 0 → l.at ≡ 0;
  still : Still (g.D.Disk.history l.fn.disk) (g.D.Disk.history l.disk);
  size : IfSome (current (g.D.Disk.history l.fn.disk) l.file) (λ f. l.len ≡ length f.seen);
  goes : Goes (current (g.D.Disk.history l.fn.disk) l.file) l.payloads.items l.at;
}

abbrev pub decreases-loop-payloads : goal.decreases-loop-payloads
decreases-loop-payloads g l = l.len - l.at
