use Rattle.std.proofs.Common.{List, subst}
use Rattle.std.specs.Prelude.{IfOk}
use Rattle.aria_base.specs.declared.calls.Call.{Call}
use Rattle.proc_lang.specs.Catalogs.{Plan}
use Rattle.bench_command.specs.Turns.{IsBehind, Stands}
use Rattle.bench_command.proofs.Bounds.{stands_own}
use Rattle.bench_command.proofs.turns.Turn.next.Goals as goal

pub with-requires-clause-stands : goal.with-requires-clause-stands
with-requires-clause-stands g c κs within = stands_own _ c.args.self c.requires.stands

pub returns-clause-behind : goal.returns-clause-behind
returns-clause-behind g c =
    subst (λ (calls : List Call). IfOk c.with.result (IsBehind c.args.self calls)) c.in_ok-calls.ensures.calls c.with.ensures.behind

pub returns-clause-stands : goal.returns-clause-stands
returns-clause-stands g c =
    subst (λ (plan : Plan). IfOk c.with.result (Stands plan)) c.requires.stands.plan c.with.ensures.stands
