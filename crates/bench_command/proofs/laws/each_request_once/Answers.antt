use Rattle.bench_command.proofs.Once.{each_once}
use Rattle.bench_command.proofs.laws.each_request_once.Goals as goal

pub returns : goal.returns
returns c = λ settings. each_once settings
