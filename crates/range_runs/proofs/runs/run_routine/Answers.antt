use Rattle.std.proofs.Common.{◌≡◌, ◌≤◌, None, rules, sym, ap, subst, ◌∙◌, arith}
use Rattle.range_rules.specs.Courses.{ran_by, at_start, after_action, stop_of}
use Rattle.range_rules.specs.declared.routines.TheConstants.{MOST_ACTIONS}
use Rattle.range_rules.proofs.Courses.{Leads, leads_from, leads_on, leads_to, leads_out}
use Rattle.range_runs.specs.Windows.{course_of}
use Rattle.range_runs.proofs.runs.run_routine.Goals as goal

pub loop-made-init : goal.loop-made-init
loop-made-init g c =
    let act = g.R.Routine.act c.args.routines.now c.args.q c.args.call.now in
    let begins : course_of c.over-window.result c.new-seen.result.items ≡ at_start c.args.snapshot = λ i. course_of (c.over-window.ensures i)
    (c.new-seen.ensures.items i) in record {
      base = ap (λ glass. glass.layer.base) c.over-window.ensures;
      leads = subst (Leads act c.args.snapshot 0) (sym begins) (leads_from act c.args.snapshot);
    }

pub returns-in-Stop : goal.returns-in-Stop
returns-in-Stop g c =
    let act = g.R.Routine.act c.args.routines.now c.args.q c.args.call.now in
    let few : c.loop-made._made ≤ MOST_ACTIONS = let below = c.loop-made-test.true in omega arith in
    c.ran.ensures ∙ ap ran_by
    (sym (leads_to act c.args.snapshot c.loop-made._made (course_of c.loop-made.window c.loop-made.seen.items) c.in-Stop.end few c.loop-made.invariant.leads
    (ap act (sym c.deref.ensures.value) ∙ sym c.in_ok-action.ensures ∙ c.in-Stop.is)))

pub loop-made-preserved : goal.loop-made-preserved
loop-made-preserved g c =
    let act = g.R.Routine.act c.args.routines.now c.args.q c.args.call.now in
    let before = course_of c.loop-made.window c.loop-made.seen.items in
    let going : stop_of c.in_ok-action.action ≡ None = search rules in
    let is : c.in_ok-action.action ≡ act c.loop-made.seen.items = c.in_ok-action.ensures ∙ ap act c.deref.ensures.value in
    let next : course_of c.perform.new.self c.push.new.self.items ≡ after_action before c.in_ok-action.action =
    ap (course_of c.perform.new.self) c.in_ok-push-in_default.ensures.items ∙ c.in_ok-answer-in_default.ensures.course c.loop-made.seen.items in record {
      base = c.in_ok-answer-in_default.ensures.base ∙ c.loop-made.invariant.base;
      leads = leads_on act c.args.snapshot c.loop-made._made before _ c.in_ok-action.action c.loop-made.invariant.leads is going next;
    }

pub returns-in-Stop-2 : goal.returns-in-Stop-2
returns-in-Stop-2 g c =
    let act = g.R.Routine.act c.args.routines.now c.args.q c.args.call.now in
    let few : c.loop-made._made ≤ MOST_ACTIONS = omega arith in
    c.ran-in-Stop-2.ensures
    ∙ ap ran_by (sym (leads_to act c.args.snapshot c.loop-made._made (course_of c.loop-made.window c.loop-made.seen.items) c.in-Stop-2.end few
    c.loop-made.invariant.leads
    (ap act (sym c.deref-2.ensures.value) ∙ sym c.in_ok-end.ensures ∙ c.in-Stop-2.is)))

pub returns : goal.returns
returns g c =
    let act = g.R.Routine.act c.args.routines.now c.args.q c.args.call.now in
    let last = course_of c.loop-made.window c.loop-made.seen.items in
    let all : c.loop-made._made ≡ MOST_ACTIONS = omega arith in
    let going : stop_of c.in_ok-end.field-0 ≡ None = search rules in
    c.ran-in_default-2.ensures
    ∙ ap ran_by (sym (leads_out act c.args.snapshot last (subst (λ n. Leads act c.args.snapshot n last) all c.loop-made.invariant.leads)
    (ap stop_of (ap act (sym c.deref-2.ensures.value) ∙ sym c.in_ok-end.ensures) ∙ going)))
