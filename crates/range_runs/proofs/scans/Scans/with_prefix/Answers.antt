use Rattle.std.proofs.Common.{List, sym, ap, subst, ◌∙◌}
use Rattle.std.specs.FinMap as fin
use Rattle.range_rules.specs.declared.routines.Prefix.{Prefix}
use Rattle.range_runs.specs.Marks.{HasMarks}
use Rattle.range_runs.proofs.Marking.{marked_more, noted_before, noted_new}
use Rattle.range_runs.proofs.scans.Scans.with_prefix.Goals as goal

pub returns-then-contains : goal.returns-then-contains
returns-then-contains c =
    let marks = c.self.inside.marks in
    rw (← c.self.view_is) (noted_before c.self.inside.list.items marks c.args.prefix c.see_prefix.ensures c.self.invariant
    (ap (fin.contains_key marks) (sym c.in_ok-mark.ensures) ∙ sym c.contains.ensures ∙ c.if-contains.true))

pub invariant_of-more : goal.invariant_of-more
invariant_of-more c = subst (λ (list : List Prefix). HasMarks list c.add.new.self) (sym c.in_ok-push.ensures.items)
    (marked_more c.self.inside.list.items c.self.inside.marks c.add.new.self c.args.prefix c.see_prefix.ensures c.self.invariant
    (c.in_ok-add.ensures.added ∙ ap (λ key. fin.insert c.self.inside.marks key tt) c.in_ok-mark.ensures))

pub returns : goal.returns
returns c =
    let marks = c.self.inside.marks in
    rw (← c.self.view_is) (c.in_ok-push.ensures.items ∙ noted_new c.self.inside.list.items marks c.args.prefix c.see_prefix.ensures c.self.invariant
    (ap (fin.contains_key marks) (sym c.in_ok-mark.ensures) ∙ sym c.contains.ensures ∙ c.if-contains.false))
