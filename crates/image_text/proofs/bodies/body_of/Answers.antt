use Rattle.std.proofs.Common.{◌≡◌, ℕ, List, ◌++◌, map, ap, ◌∙◌}
use Rattle.std.specs.Map.Iter.{deref_pair}
use Rattle.image_text.specs.Fronts.{front_text}
use Rattle.image_text.proofs.BodiesRead.{body_joined, rows_held, body_written}
use Rattle.image_text.proofs.bodies.body_of.Goals as goal

pub returns-clause-text : goal.returns-clause-text
returns-clause-text c =
    let rows = ap (λ l. map deref_pair l) c.as_slice.ensures.value ∙ c.in_ok-rows.ensures in
    let front = c.in_ok-append_front.ensures.text ∙ ap (λ (l : List ℕ). l ++ front_text c.args.catalog.now) c.new-body.ensures.items in
    body_joined deref_pair c.args.catalog.now c.args.tables.now c.args.held.now _ _ _ _ rows front c.in_ok-append_rows.ensures.text
    c.in_ok-append_requests.ensures.text

pub returns-clause-again : goal.returns-clause-again
returns-clause-again c =
    let rows = ap (λ l. map deref_pair l) c.as_slice.ensures.value ∙ c.in_ok-rows.ensures in
    let held = rows_held deref_pair c.args.tables.now _ rows c.in_ok-append_rows.ensures.held in
    let front = c.in_ok-append_front.ensures in
    body_written _ (c.args.catalog.now, c.args.tables.now, c.args.held.now) (returns-clause-text c) front.catalog front.told c.requires.rows c.requires.calls
    held c.in_ok-append_requests.ensures.args
