use Rattle.std.proofs.Common.{ℕ, ◌++◌, List, ap, sym, ◌∙◌, arith}
use Rattle.script_text.specs.Lines.{Scan, unreturned}
use Rattle.script_text.specs.Runs.{place}
use Rattle.script_text.proofs.Runs.{line_taken, line_refused, rest_taken, rest_refused}
use Rattle.script_text.proofs.lines.Lines.scan.Goals as goal

pub loop-front-preserved : goal.loop-front-preserved
loop-front-preserved c =
    let line = c.in_ok-line_of.ensures ∙ ap (λ (begun : List ℕ). unreturned (begun ++ c.in-Some.front.now)) c.begun_at.ensures.begun in
    let scans = line_taken c.loop-front.lines.items (place c.args.self.now c.loop-front.fresh c.loop-front.taken c.loop-front.count) c.loop-front.rest.now
    c.in-Some.front.now c.in-Some.behind.now c.in_ok-line_of.field-0 c.in-Ok.next _ c.in-Some.ensures.cut c.loop-front.invariant.scans line
    c.in-Ok.ensures.line c.in-Ok.ensures.taken c.in-Ok.ensures.limit in
    let pushed = c.in_ok-push.ensures.items in
    record { scans = rw pushed scans; within = c.in-Ok.ensures.limit; counted = omega (arith, c.in-Ok.ensures.taken) }

pub returns-in-Err-clause-lines : goal.returns-in-Err-clause-lines
returns-in-Err-clause-lines c =
    c.stopped.ensures.lines ∙ sym (line_refused c.loop-front.lines.items (place c.args.self.now c.loop-front.fresh c.loop-front.taken c.loop-front.count) c.loop-front.rest.now
    c.in-Some.front.now c.in-Some.behind.now c.in-Err.kind _ c.in-Some.ensures.cut c.loop-front.invariant.scans c.take.ensures.short
    c.loop-front.invariant.within c.in-Err.ensures.past).lines

pub returns-in-Err-clause-fault : goal.returns-in-Err-clause-fault
returns-in-Err-clause-fault c =
    c.stopped.ensures.end
    ∙ sym (line_refused c.loop-front.lines.items (place c.args.self.now c.loop-front.fresh c.loop-front.taken c.loop-front.count) c.loop-front.rest.now
    c.in-Some.front.now c.in-Some.behind.now c.in-Err.kind _ c.in-Some.ensures.cut c.loop-front.invariant.scans c.take.ensures.short
    c.loop-front.invariant.within c.in-Err.ensures.past).fault

pub returns-in-Ok-take-clause-lines : goal.returns-in-Ok-take-clause-lines
returns-in-Ok-take-clause-lines c =
    sym (ap (λ (s : Scan). s.lines) (rest_taken c.loop-front.lines.items (place c.args.self.now c.loop-front.fresh c.loop-front.taken c.loop-front.count)
    c.loop-front.rest.now c.in-Ok-take.taken _ c.in_default.ensures.cut c.loop-front.invariant.scans c.in-Ok-take.ensures.line c.in-Ok-take.ensures.taken
    c.in-Ok-take.ensures.limit))

pub returns-in-Ok-take-clause-fault : goal.returns-in-Ok-take-clause-fault
returns-in-Ok-take-clause-fault c =
    sym (ap (λ (s : Scan). s.fault) (rest_taken c.loop-front.lines.items (place c.args.self.now c.loop-front.fresh c.loop-front.taken c.loop-front.count)
    c.loop-front.rest.now c.in-Ok-take.taken _ c.in_default.ensures.cut c.loop-front.invariant.scans c.in-Ok-take.ensures.line c.in-Ok-take.ensures.taken
    c.in-Ok-take.ensures.limit))

pub returns-in-Ok-take-clause-taken : goal.returns-in-Ok-take-clause-taken
returns-in-Ok-take-clause-taken c =
    ap (λ (s : Scan). s.feed) (rest_taken c.loop-front.lines.items (place c.args.self.now c.loop-front.fresh c.loop-front.taken c.loop-front.count)
    c.loop-front.rest.now c.in-Ok-take.taken _ c.in_default.ensures.cut c.loop-front.invariant.scans c.in-Ok-take.ensures.line c.in-Ok-take.ensures.taken
    c.in-Ok-take.ensures.limit)

pub returns-in-Err-take-clause-lines : goal.returns-in-Err-take-clause-lines
returns-in-Err-take-clause-lines c =
    c.stopped-in-Err-take.ensures.lines ∙ sym (rest_refused c.loop-front.lines.items (place c.args.self.now c.loop-front.fresh c.loop-front.taken c.loop-front.count) c.loop-front.rest.now
    c.in-Err-take.kind _ c.in_default.ensures.cut c.loop-front.invariant.scans c.take-2.ensures.short c.loop-front.invariant.within
    c.in-Err-take.ensures.past).lines

pub returns-in-Err-take-clause-fault : goal.returns-in-Err-take-clause-fault
returns-in-Err-take-clause-fault c =
    c.stopped-in-Err-take.ensures.end
    ∙ sym (rest_refused c.loop-front.lines.items (place c.args.self.now c.loop-front.fresh c.loop-front.taken c.loop-front.count) c.loop-front.rest.now
    c.in-Err-take.kind _ c.in_default.ensures.cut c.loop-front.invariant.scans c.take-2.ensures.short c.loop-front.invariant.within
    c.in-Err-take.ensures.past).fault
