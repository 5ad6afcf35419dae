use Rattle.std.proofs.Common.{List, subst, sym}
use Rattle.std.specs.Prelude.{IfOk}
use Rattle.aria_base.specs.declared.calls.Call.{Call}
use Rattle.serving.specs.Lives.{MayServe}
use Rattle.bench_command.specs.Turns.{IsBehind}
use Rattle.bench_command.proofs.Bounds.{may_drain}
use Rattle.bench_command.proofs.turns.Turn.drained.Goals as goal

pub with-requires-clause-may : goal.with-requires-clause-may
with-requires-clause-may g c κs within =
    subst (λ (calls : List Call). MayServe c.args.self.live calls) (sym c.new.ensures.items) (may_drain _ c.args.self c.requires.stands c.requires.early)

pub returns-clause-behind : goal.returns-clause-behind
returns-clause-behind g c =
    subst (λ (calls : List Call). IfOk c.with.result (IsBehind c.args.self calls)) c.new.ensures.items c.with.ensures.behind
