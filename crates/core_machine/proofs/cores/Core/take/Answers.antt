use Rattle.std.proofs.Common.{refl}
use Rattle.core_machine.proofs.Taking.{takes}
use Rattle.core_machine.proofs.cores.Core.take.Goals as goal

pub returns : goal.returns
returns c = λ b es taken next. takes b es c.args.event c.args.self.now c.perform.new.self _ taken next c.perform.ensures.named
    (record {
      catalog = refl;
      rule = refl;
      list = refl;
      phase = refl;
      outcomes = refl;
      writers = λ key. refl;
      readers = λ key. refl;
      verdicts = refl;
      tables = refl;
      came = c.in_ok-insert.ensures.updates.0;
    })
    c.in_ok-perform.ensures.performed
