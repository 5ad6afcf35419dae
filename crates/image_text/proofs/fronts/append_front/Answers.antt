use Rattle.std.proofs.Common.{◌≡◌, ◌++◌, ap, ◌∙◌}
use Rattle.std.proofs.lemmas.Result.{on_ok_weaker}
use Rattle.image_text.specs.Fronts.{pieces_text}
use Rattle.image_text.proofs.FrontsRead.{front_written}
use Rattle.image_text.proofs.fronts.append_front.Goals as goal

pub returns-clause-text : goal.returns-clause-text
returns-clause-text c =
    let text = c.as_slice.ensures.value ∙ c.in_ok-text.ensures.text in
    on_ok_weaker c.append_pieces.result (λ pieces. front_written _ _ _ c.args.catalog.now c.in_ok-extend_from_slice.ensures.items (pieces
    ∙ ap (λ l. c.extend_from_slice.new.self.items ++ pieces_text l) text)) c.append_pieces.ensures
