use Rattle.std.proofs.Common.{ap, sym, ◌∙◌, ◌++◌, ◌+◌, subst}
use Rattle.load_gen.specs.Draws.{IsPast}
use Rattle.load_gen.proofs.Advances.{past-trans}
use Rattle.tpcc_load.specs.Draws.{over}
use Rattle.tpcc_load.specs.Requests.{line, line_at}
use Rattle.tpcc_load.proofs.Advances.{lines-advance, line_at-advances}
use Rattle.tpcc_load.proofs.Overs.{over-none, over-more}
use Rattle.tpcc_load.proofs.requests.lines.Goals as goal

pub loop-line-init : goal.loop-line-init
loop-line-init c =
    let none = over-none (line_at c.args.settings.now c.args.start) c.args.draws.now in
    (c.in_ok-lines.ensures.items ∙ sym (ap (λ x. x.0) none), sym (ap (λ x. x.1) none))

pub loop-line-preserved : goal.loop-line-preserved
loop-line-preserved c =
    let d = line_at c.args.settings.now c.args.start in
    let n = c.loop-line.line in
    let s = c.args.settings.now in
    let w = c.args.start.w in
    let now = c.loop-line.draws in
    let more = over-more n d c.args.draws.now in
    let at = c.loop-line.invariant.1 in (
      c.in_ok-push.ensures.items
          ∙ (λ i. c.loop-line.invariant.0 i ++ (sym c.one_line.ensures.line ∙ ap (λ b. (line s w b now).0) c.fails_at-fails.ensures
          ∙ ap (λ g. (d (n + 1) g).0) at) i)
          ∙ sym (ap (λ x. x.0) more),
      c.one_line.ensures.past ∙ ap (λ b. (line s w b now).1) c.fails_at-fails.ensures ∙ ap (λ g. (d (n + 1) g).1) at ∙ sym (ap (λ x. x.1) more),
    )

pub returns-in_err-push-clause-further : goal.returns-in_err-push-clause-further
returns-in_err-push-clause-further c =
    let s = c.args.settings.now in
    let n = c.loop-line.line in
    let g = c.args.draws.now in
    let d = line_at s c.args.start in
    let at = c.one_line.ensures.past ∙ ap (λ b. (line s c.args.start.w b c.loop-line.draws).1) c.fails_at-fails.ensures
    ∙ ap (λ g. (d (n + 1) g).1) c.loop-line.invariant.1 in
    subst (IsPast g) (sym at) (past-trans g (over n d g).1 _ (lines-advance s c.args.start n g) (line_at-advances s c.args.start (n + 1) (over n d g).1))

pub returns-clause-further : goal.returns-clause-further
returns-clause-further c =
    subst (IsPast c.args.draws.now) (sym c.loop-line.invariant.1) (lines-advance c.args.settings.now c.args.start c.loop-line.line c.args.draws.now)
