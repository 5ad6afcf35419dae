use Rattle.std.proofs.Common.{◌≡◌, ap, ◌∙◌}
use Rattle.batch_core.specs.declared.answers.Answer.{Answer}
use Rattle.serving.specs.Lives.{next_answer, plan_of}
use Rattle.bench_command.specs.Tallies.{with_lines}
use Rattle.bench_command.specs.declared.turns.Turn.{Turn}
use Rattle.bench_command.proofs.Bounds.{behind_next, has_room, stands_next}
use Rattle.bench_command.proofs.turns.Turn.with.Goals as goal

pub with-tally-requires : goal.with-tally-requires
with-tally-requires g c =
    let lines : c.as_slice.result.now ≡ (next_answer c.args.self.live c.args.calls.items).lines =
    c.as_slice.ensures ∙ ap (λ (a : Answer). a.lines) c.in_ok-live.ensures.answer in
    rw lines (has_room (plan_of c.args.self.live) c.args.self c.args.calls.items c.requires.stands c.requires.early c.requires.may)

pub returns-clause-behind : goal.returns-clause-behind
returns-clause-behind g c =
    let lines : c.as_slice.result.now ≡ (next_answer c.args.self.live c.args.calls.items).lines =
    c.as_slice.ensures ∙ ap (λ (a : Answer). a.lines) c.in_ok-live.ensures.answer in
    let after : Turn = record { live = c.in_ok-live.live; tally = c.with-tally.result } in
    behind_next c.args.self after c.args.calls.items c.in_ok-live.ensures.next (c.with-tally.ensures ∙ ap (with_lines c.args.self.tally) lines)

pub returns-clause-stands : goal.returns-clause-stands
returns-clause-stands g c =
    let lines : c.as_slice.result.now ≡ (next_answer c.args.self.live c.args.calls.items).lines =
    c.as_slice.ensures ∙ ap (λ (a : Answer). a.lines) c.in_ok-live.ensures.answer in
    let after : Turn = record { live = c.in_ok-live.live; tally = c.with-tally.result } in
    stands_next (plan_of c.args.self.live) c.args.self after c.args.calls.items c.requires.stands c.requires.may c.in_ok-live.ensures.next
    (c.with-tally.ensures ∙ ap (with_lines c.args.self.tally) lines)
