use Rattle.run_commands.specs.Outs.{is_each}
use Rattle.serving.specs.Stored.{state_at}
use Rattle.store_commands.specs.Replays.{crowded_out}
use Rattle.store_openings.specs.Openings.{log_in}
use Rattle.store_laws.proofs.Replied.{replayed_as}
use Rattle.store_laws.proofs.laws.replay_answers.Goals as goal

pub returns : goal.returns
returns c settings images k later roomy = replayed_as k.plan (is_each settings.listing) (crowded_out (log_in k) (images (log_in k))) 0 (state_at k) later roomy
