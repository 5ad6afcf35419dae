use Rattle.std.proofs.Common.{rules, ◌≡◌, ◌==◌, ◌∷◌, sym, length}
use Rattle.std.specs.List.{position_or_len}
use Rattle.command_words.proofs.TableLemmas.{name_alone}
use Rattle.command_words.proofs.lines.parts.Goals as goal

pub returns-in-None : goal.returns-in-None
returns-in-None c =
    let is : c.args.word.now ≡ 45 ∷ 45 ∷ c.in_ok-body.body.now = search rules in
    let none : position_or_len (λ b. b == 61) c.in_ok-body.body.now ≡ length c.in_ok-body.body.now = search rules in
    name_alone c.args.word.now c.in_ok-body.body.now is (sym c.if-is_empty.ensures) none
