use Rattle.std.proofs.Common.{◌≡◌}
use Rattle.disk_model.specs.Histories.{current, EachImage}
use Rattle.disk_model.specs.Recorded.{history_of}
use Rattle.input_log.specs.Layout.{EndsAt}
use Rattle.worked_stores.proofs.logs.appended.Given as goal

abbrev pub invariant-loop-payload : goal.invariant-loop-payload
invariant-loop-payload l = record { file : l.end.file ≡ 3; ends : EachImage (current (history_of l.disk) 3) (λ image. EndsAt image l.end.at l.end.batches) }
