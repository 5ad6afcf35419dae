use Rattle.std.proofs.Common.{[], ◌∷◌}
use Rattle.disk_model.specs.Files.{put}
use Rattle.disk_model.proofs.Spans.{stable_untouched}
use Rattle.checkpoint.proofs.Torn.{shut_written}
use Rattle.checkpoint.proofs.slots.blank.Goals as goal

pub returns-clause-shut : goal.returns-clause-shut
returns-clause-shut g c = rw c.in_ok-write_synced.ensures.written (shut_written _)

pub returns-clause-stable : goal.returns-clause-stable
returns-clause-stable g c = rw c.in_ok-write_synced.ensures.written (stable_untouched _ (λ f. put f.seen 0 (0 ∷ [])))
