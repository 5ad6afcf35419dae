use Rattle.std.proofs.Common.{rules, ◌≡◌, sym, subst, ℕ}
use Rattle.std.specs.Prelude.{Err}
use Rattle.script_places.specs.Places.{Asked, asked}
use Rattle.script_text.specs.Answers.{Answers}
use Rattle.script_text.specs.Lines.{line_after}
use Rattle.nodes_command.specs.Asks.{asked_among}
use Rattle.nodes_command.proofs.Told.{asked_is, refused_is}
use Rattle.nodes_command.proofs.asks.ask_among.Goals as goal

pub returns-in-Ok : goal.returns-in-Ok
returns-in-Ok c =
    subst (λ (n : ℕ). Answers (asked_among c.args.called c.args.place c.args.counts c.args.line.now) n c.allow.result) c.saturating_add-number.ensures
    (subst (λ (x : Asked). Answers x c.saturating_add-number.result c.allow.result)
    (sym (asked_is c.args.counts c.args.place c.requires.silent c.requires.mode c.args.line.now c.args.called c.in-Ok.asked c.in-Ok.ensures)) c.allow.ensures)

pub returns-in-Err-Line : goal.returns-in-Err-Line
returns-in-Err-Line c =
    let refusal = c.in-Err-Line.refusal in
    let said : asked c.args.place c.args.counts c.args.line.now ≡ Err refusal.kind = search rules in
    let at : refusal.line ≡ line_after c.args.place.lines = search rules in
    subst (λ (n : ℕ). Answers (asked_among c.args.called c.args.place c.args.counts c.args.line.now) n c.refuse_among.result) at
    (subst (λ (x : Asked). Answers x refusal.line c.refuse_among.result)
    (sym (refused_is c.args.counts c.args.place c.requires.silent c.requires.mode c.args.line.now c.args.called refusal.kind said)) c.refuse_among.ensures)
