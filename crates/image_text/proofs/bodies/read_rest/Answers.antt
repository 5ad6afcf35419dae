use Rattle.std.proofs.Common.{◌≡◌, Option, Some, ap, sym, subst, ◌∙◌}
use Rattle.image_text.specs.Lines.{lines_taken}
use Rattle.image_text.specs.Entries.{Taken, take, AreHeld}
use Rattle.image_text.proofs.BodiesRead.{rest_found}
use Rattle.image_text.proofs.bodies.read_rest.Goals as goal

pub returns-clause-rest : goal.returns-clause-rest
returns-clause-rest c =
    let taken = sym c.in-Some.is ∙ c.in_ok-entries.ensures ∙ ap (λ (s : Taken). lines_taken (take c.args.catalog.now) s c.args.bytes.now) c.new.ensures in
    ap Some (rest_found c.args.catalog.now c.args.bytes.now _ _ _ _ taken c.into_parts-rows.ensures.rows c.into_parts-rows.ensures.held c.in_ok-tables.ensures)
    ∙ taken

pub returns-clause-held : goal.returns-clause-held
returns-clause-held c =
    let taken = sym c.in-Some.is ∙ c.in_ok-entries.ensures ∙ ap (λ (s : Taken). lines_taken (take c.args.catalog.now) s c.args.bytes.now) c.new.ensures in
    subst AreHeld (sym (rest_found c.args.catalog.now c.args.bytes.now _ _ _ _ taken c.into_parts-rows.ensures.rows c.into_parts-rows.ensures.held
    c.in_ok-tables.ensures)) c.into_parts-rows.ensures.are_held
