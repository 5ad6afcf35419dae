use Rattle.batch_rules.specs.Touches.{keys_of}
use Rattle.range_runs.proofs.Following.{exactly-more}
use Rattle.range_runs.proofs.overlays.keys_with.Goals as goal

pub returns : goal.returns
returns c = exactly-more c.in_ok-keys.keys c.follow_one.new.self c.args.key.now (keys_of c.args.writes.now) c.in_ok-keys.ensures c.in_ok-follow_one.ensures
