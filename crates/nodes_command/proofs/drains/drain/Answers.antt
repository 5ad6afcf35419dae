use Rattle.std.proofs.Common.{◌≡◌, ◌-◌, ◌<◌, length, arith}
use Rattle.nodes_command.specs.Bases.{state_now}
use Rattle.nodes_command.proofs.Draining.{cut_next, ends_last, ends_quiet, leads_all, leads_next}
use Rattle.nodes_command.proofs.States.{waiting_now}
use Rattle.nodes_command.proofs.drains.drain.Goals as goal

pub loop-init : goal.loop-init
loop-init g c =
    let many = length (state_now c.args.start).waiting in
    record {
      sink = omega arith;
      done = c.requires.done;
      plan = c.requires.plan;
      leads = leads_all c.args.catalog.now c.args.each c.args.line (state_now c.args.start) (many - 0) (g.K.Sink.given c.args.out.now) (omega arith);
    }

pub returns-then-waiting-eq0-clause-serves : goal.returns-then-waiting-eq0-clause-serves
returns-then-waiting-eq0-clause-serves g c =
    let n = c.loop.nodes in
    let here = waiting_now n c.loop.invariant.done in
    let none : length (state_now n).waiting ≡ 0 = omega (arith, here, c.waiting.ensures, c.if-waiting-eq0.true) in
    ends_quiet c.args.catalog.now c.args.each c.args.line (state_now c.args.start) (length (state_now c.args.start).waiting - c.loop.counter) (state_now n)
    (g.K.Sink.given c.args.out.now) (g.K.Sink.given c.loop.out) none c.loop.invariant.leads

pub returns-clause-serves : goal.returns-clause-serves
returns-clause-serves g c =
    let first = waiting_now c.args.start c.requires.done in
    let last : length (state_now c.args.start).waiting - c.loop.counter ≡ 0 = omega (arith, first, c.waiting-end.ensures, c.loop-test.false) in
    ends_last c.args.catalog.now c.args.each c.args.line (state_now c.args.start) (length (state_now c.args.start).waiting - c.loop.counter)
    (state_now c.loop.nodes) (g.K.Sink.given c.args.out.now) (g.K.Sink.given c.loop.out) last c.loop.invariant.leads

pub returns-in-Err-clause-serves : goal.returns-in-Err-clause-serves
returns-in-Err-clause-serves g c =
    let n = c.loop.nodes in
    let here = waiting_now n c.loop.invariant.done in
    let first = waiting_now c.args.start c.requires.done in
    let within : c.loop.counter < length (state_now c.args.start).waiting = omega (arith, first, c.loop-test.true, c.waiting-end.ensures) in
    cut_next c.args.catalog.now c.args.each c.args.line (state_now c.args.start) (length (state_now c.args.start).waiting) c.loop.counter (state_now n)
    (g.K.Sink.given c.args.out.now) (g.K.Sink.given c.loop.out) within (λ none. omega (arith, here, none, c.waiting.ensures, c.if-waiting-eq0.false))
    c.loop.invariant.leads (g.K.Sink.given c.drain_one.new.out) c.in-Err.stop c.in-Err.ensures.serves

pub loop-preserved : goal.loop-preserved
loop-preserved g c =
    let n = c.loop.nodes in
    let here = waiting_now n c.loop.invariant.done in
    let first = waiting_now c.args.start c.requires.done in
    let within : c.loop.counter < length (state_now c.args.start).waiting = omega (arith, first, c.loop-test.true, c.waiting-end.ensures) in
    record {
      sink = omega (arith, c.loop.invariant.sink, c.drain_one.ensures.sink);
      done = c.in-Ok.ensures.done;
      plan = c.in-Ok.ensures.plan;
      leads = leads_next c.args.catalog.now c.args.each c.args.line (state_now c.args.start) (length (state_now c.args.start).waiting) c.loop.counter
          (state_now n) (g.K.Sink.given c.args.out.now) (g.K.Sink.given c.loop.out) within
          (λ none. omega (arith, here, none, c.waiting.ensures, c.if-waiting-eq0.false)) c.loop.invariant.leads
          (state_now c.in-Ok.next) (g.K.Sink.given c.drain_one.new.out) c.in-Ok.ensures.serves;
    }
