use Rattle.std.proofs.lemmas.Result.{err_from_is_err_and}
use Rattle.script_course.proofs.Turns.{front_longer}
use Rattle.workloads.specs.Generators.{plan_of}
use Rattle.gen_command.specs.Scripts.{batches_text, calls_of, head_text}
use Rattle.gen_command.proofs.Leads.{gives_behind}
use Rattle.gen_command.proofs.scripts.give_script.Goals as goal

pub returns-in_err-catalog-clause-gives : goal.returns-in_err-catalog-clause-gives
returns-in_err-catalog-clause-gives g c =
    let it = c.args.generator.now in
    let batches = batches_text (plan_of it).procs 1 (calls_of it c.args.amount.size c.args.amount.batches) in
    let p = err_from_is_err_and c.from_residual.result c.from_residual.ensures.1 in
    rw p.1 (front_longer (g.K.Sink.given c.args.out.now) (g.K.Sink.given c.give_head.new.out) (head_text it) batches c.in_err-catalog.ensures.gives)

pub returns-clause-gives : goal.returns-clause-gives
returns-clause-gives g c =
    let it = c.args.generator.now in
    let batches = batches_text (plan_of it).procs 1 (calls_of it c.args.amount.size c.args.amount.batches) in
    gives_behind (g.K.Sink.given c.args.out.now) (g.K.Sink.given c.give_head.new.out) (g.K.Sink.given c.give_batches.new.out) c.give_batches.result
    (head_text it) batches
    c.in_ok-catalog.ensures.gives c.give_batches.ensures.gives
