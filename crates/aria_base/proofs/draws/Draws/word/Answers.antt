use Rattle.std.proofs.Common.{ap, ◌∙◌}
use Rattle.aria_base.specs.Draws.{next_word, past_word}
use Rattle.aria_base.proofs.Words.{past_standing}
use Rattle.aria_base.proofs.draws.Draws.word.Goals as goal

pub returns-clause-placed : goal.returns-clause-placed
returns-clause-placed c number stream place stands =
    let step = c.next_word.ensures in
    let before = c.self.view_is ∙ stands in
    (ap (λ p. p.0) step ∙ ap next_word before, ap (λ p. p.1) step ∙ ap past_word before ∙ past_standing number stream place)
