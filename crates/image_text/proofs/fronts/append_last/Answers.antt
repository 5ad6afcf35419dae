use Rattle.std.proofs.Common.{◌≡◌, ◌<◌, false, length, sym, ◌∙◌, arith}
use Rattle.std.specs.Prelude.{◌==◌}
use Rattle.std.proofs.lemmas.Result.{on_ok_weaker}
use Rattle.std.proofs.lemmas.Grind.{common_steps}
use Rattle.image_text.proofs.FrontsRead.{last_written}
use Rattle.image_text.proofs.fronts.append_last.Goals as goal

pub returns : goal.returns
returns c =
    let some : (length c.args.text.now == 0) ≡ false = sym c.is_empty.ensures ∙ c.if-is_empty.false in
    on_ok_weaker c.append_piece.result (λ piece. last_written _ _ _ (grind (arith, common_steps, some)) c.requires piece) c.append_piece.ensures
