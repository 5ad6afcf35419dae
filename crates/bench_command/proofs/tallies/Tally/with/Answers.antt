use Rattle.std.proofs.Common.{◌≡◌, ◌+◌, ◌-◌, ◌∷◌, [], suc, drop, length, drop-cons, add-one, ap, sym, subst, ◌∙◌, arith}
use Rattle.std.proofs.lemmas.List.{drop_all}
use Rattle.batch_core.specs.declared.answers.Line.{Line}
use Rattle.bench_command.specs.Tallies.{HasRoom, with_lines}
use Rattle.bench_command.specs.declared.tallies.Tally.{Tally}
use Rattle.bench_command.proofs.Tallied.{noted_on, room_on, room_one, with_lines-none}
use Rattle.bench_command.proofs.tallies.Tally.with.Goals as goal

pub noted-tally-requires : goal.noted-tally-requires
noted-tally-requires c =
    let n = length c.args.lines.now in
    let i = c.loop-line.line-index in
    let left : n - i ≡ suc (n - (i + 1)) = omega (arith, c.loop-line-test.true) in
    room_one c.loop-line.tally (n - i) (n - (i + 1)) left c.loop-line.invariant.room

pub loop-line-preserved : goal.loop-line-preserved
loop-line-preserved c =
    let n = length c.args.lines.now in
    let i = c.loop-line.line-index in
    let line : Line = c.line-item.result in
    let left : n - i ≡ suc (n - (i + 1)) = omega (arith, c.loop-line-test.true) in
    let cut : drop i c.args.lines.now ≡ line ∷ drop (i + 1) c.args.lines.now =
    drop-cons c.args.lines.now i line c.loop-line-test.true
    ∙ ap (λ (x : Line). x ∷ drop (suc i) c.args.lines.now) (sym c.line-item.is)
    ∙ ap (λ k. line ∷ drop k c.args.lines.now) (sym (add-one i)) in
    record {
      room = subst (λ (t : Tally). HasRoom t (n - (i + 1))) (sym c.noted-tally.ensures)
          (room_on c.loop-line.tally line.reply (n - i) (n - (i + 1)) left c.loop-line.invariant.room);
      leads = ap (λ (t : Tally). with_lines t (drop (i + 1) c.args.lines.now)) c.noted-tally.ensures
          ∙ noted_on c.loop-line.tally line (drop (i + 1) c.args.lines.now) (drop i c.args.lines.now) cut
          ∙ c.loop-line.invariant.leads;
    }

pub returns : goal.returns
returns c =
    let none : drop c.loop-line.line-index c.args.lines.now ≡ [] = drop_all c.loop-line.line-index c.args.lines.now (omega arith) in
    sym (with_lines-none c.loop-line.tally) ∙ ap (with_lines c.loop-line.tally) (sym none) ∙ c.loop-line.invariant.leads
