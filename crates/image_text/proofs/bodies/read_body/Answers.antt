use Rattle.image_text.proofs.BodiesRead.{no_front, no_rest, body_found, body_fits, held_fit}
use Rattle.image_text.proofs.bodies.read_body.Goals as goal

pub returns-in_default-clause-values : goal.returns-in_default-clause-values
returns-in_default-clause-values c = no_front _ (rw c.in_default.is at c.in_ok-catalog.ensures.front)

pub returns-in_default-2-clause-values : goal.returns-in_default-2-clause-values
returns-in_default-2-clause-values c =
    no_rest c.args.bytes.now c.in-Some.rest.now c.in-Some.catalog (rw c.in-Some.is at c.in_ok-catalog.ensures.front)
    (rw c.in_default-2.is at c.in_ok-tables.ensures.rest)

pub returns-clause-values : goal.returns-clause-values
returns-clause-values c =
    let rest = c.in_ok-tables.ensures in
    let front = c.in_ok-catalog.ensures in
    body_found c.args.bytes.now c.in-Some.rest.now (c.in-Some.catalog, c.in-Some-2.tables, c.in-Some-2.held.items)
    (rw c.in-Some.is at front.front) (rw c.in-Some.is at front.catalog) (rw c.in-Some.is at front.told)
    (rw c.in-Some-2.is at rest.rest) (rw c.in-Some-2.is at rest.held)

pub returns-clause-rows : goal.returns-clause-rows
returns-clause-rows c = body_fits c.args.bytes.now (c.in-Some.catalog, c.in-Some-2.tables, c.in-Some-2.held.items) (returns-clause-values c)

pub returns-clause-calls : goal.returns-clause-calls
returns-clause-calls c = held_fit c.args.bytes.now (c.in-Some.catalog, c.in-Some-2.tables, c.in-Some-2.held.items) (returns-clause-values c)
