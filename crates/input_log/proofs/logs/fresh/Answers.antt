use Rattle.std.proofs.Common.{[], ◌∷◌}
use Rattle.disk_model.specs.Files.{put}
use Rattle.disk_model.proofs.Spans.{stable_untouched}
use Rattle.input_log.proofs.Stages.{fresh_ends}
use Rattle.input_log.proofs.logs.fresh.Goals as goal

pub returns-clause-ends : goal.returns-clause-ends
returns-clause-ends g c = rw c.in_ok-write_synced.ensures.written (fresh_ends _)

pub returns-clause-stable : goal.returns-clause-stable
returns-clause-stable g c = rw c.in_ok-write_synced.ensures.written (stable_untouched _ (λ f. put f.seen 0 (0 ∷ [])))
