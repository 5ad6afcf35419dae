use Rattle.std.proofs.Common.{◌≡◌, List, ℕ, false, ap, sym, ◌∙◌}
use Rattle.image_text.specs.Fronts.{joined_from}
use Rattle.image_text.proofs.FrontsRead.{no_feed, next_piece}
use Rattle.image_text.proofs.fronts.joined.Goals as goal

pub returns-in_default-cut_at : goal.returns-in_default-cut_at
returns-in_default-cut_at c = no_feed c.loop-line.text.items c.loop-line.rest.now c.in-Some.line.now c.in-Some.ensures c.in_default-cut_at.ensures.cut
    ∙ c.loop-line.invariant

pub loop-line-preserved : goal.loop-line-preserved
loop-line-preserved c =
    ap (λ (l : List ℕ). joined_from l false c.in-Some-cut_at.after.now) c.in_ok-extend_from_slice.ensures.items
    ∙ next_piece _ c.loop-line.rest.now c.in-Some.line.now c.in-Some-cut_at.piece.now c.in-Some-cut_at.after.now c.in-Some.ensures c.in-Some-cut_at.ensures.cut
    ∙ c.loop-line.invariant
