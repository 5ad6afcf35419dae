use Rattle.std.proofs.Common.{◌≡◌, ◌++◌, map, Some, sym, ap, ◌∙◌, subst, arith, true, false}
use Rattle.std.specs.Prelude.{slice_set, slice_get, replicate}
use Rattle.std.proofs.lemmas.List.{map-append, length-map}
use Rattle.node_batch.specs.Letters.{net_of, message_of}
use Rattle.node_batch.specs.NodeBatches.{Shows, IsFresh}
use Rattle.node_rules.specs.Newses.{desk_with, news}
use Rattle.node_rules.specs.Worlds.{step, Deliver}
use Rattle.node_world.specs.Worlds.{net_in, world_in}
use Rattle.node_batch.specs.Sames.{same_message}
use Rattle.node_world.specs.Steps.{IsOn}
use Rattle.node_rules.proofs.Picks.{get_above}
use Rattle.node_seats.proofs.Keeping.{stands}
use Rattle.node_world.proofs.Delivered.{flagged_there, to_seat, desk, shown, is_fresh, few, nodes_here, given_on}
use Rattle.node_world.proofs.worlds.World.give.Goals as goal

-- the places that the code looks at
pub index_mut-seat-requires : goal.index_mut-seat-requires
index_mut-seat-requires c =
    let ready = c.requires.ready in
    let w = c.args.self.now in
    let l = get_above w.sent.items c.args.k c.requires.sent in
    let there = to_seat ready.0 w ready.1 c.args.k l.0 l.1 in
    let to = c.requires.to l.0 l.1 in
    omega arith

pub index_mut-requires : goal.index_mut-requires
index_mut-requires c =
    let ready = c.requires.ready in
    rw c.args.self.now.given.ok.0 (flagged_there ready.0 c.args.self.now ready.1 c.args.k c.requires.sent)

pub give-requires-clause-nodes : goal.give-requires-clause-nodes
give-requires-clause-nodes c =
    let ready = c.requires.ready in
    let w = c.args.self.now in
    let l = c.index.result.now in
    let at = stands w.sent.items c.args.k l c.requires.sent c.index.ensures in
    let to = c.requires.to l at in
    let s0 = c.index_mut-seat.result.now in
    let there = to_seat ready.0 w ready.1 c.args.k l at in
    let seat : slice_get w.seats.items l.addressee ≡ Some s0
    = ap (slice_get w.seats.items) to ∙ stands w.seats.items c.args.to s0 (omega arith) c.index_mut-seat.ensures.value in
    let new = c.requires.new l s0 at seat in
    let same = nodes_here ready.0 w ready.1 c.args.k l at s0 seat new.1 new.0 in
    let some = ready.1.keeps.some_node in
    let most = ready.1.keeps.few_nodes in
    (omega arith, omega arith)

pub give-requires-clause-few : goal.give-requires-clause-few
give-requires-clause-few c =
    let ready = c.requires.ready in
    let w = c.args.self.now in
    let l = c.index.result.now in
    let at = stands w.sent.items c.args.k l c.requires.sent c.index.ensures in
    let to = c.requires.to l at in
    let s0 = c.index_mut-seat.result.now in
    let there = to_seat ready.0 w ready.1 c.args.k l at in
    let seat : slice_get w.seats.items l.addressee ≡ Some s0
    = ap (slice_get w.seats.items) to ∙ stands w.seats.items c.args.to s0 (omega arith) c.index_mut-seat.ensures.value in
    let new = c.requires.new l s0 at seat in
    few ready.0 w ready.1 c.args.k l at s0 seat new.1 new.0

pub give-requires-clause-fresh : goal.give-requires-clause-fresh
give-requires-clause-fresh c =
    let ready = c.requires.ready in
    let w = c.args.self.now in
    let l = c.index.result.now in
    let at = stands w.sent.items c.args.k l c.requires.sent c.index.ensures in
    let to = c.requires.to l at in
    let s0 = c.index_mut-seat.result.now in
    let there = to_seat ready.0 w ready.1 c.args.k l at in
    let seat : slice_get w.seats.items l.addressee ≡ Some s0
    = ap (slice_get w.seats.items) to ∙ stands w.seats.items c.args.to s0 (omega arith) c.index_mut-seat.ensures.value in
    let new = c.requires.new l s0 at seat in
    let d = desk ready.0 w ready.1 c.args.k l at s0 seat new.1 new.0 in (
      d,
      shown ready.0 w ready.1 c.args.k l at s0 seat new.1 new.0,
      subst (λ n. IsFresh (net_of w.catalog w.rule n same_message) d (message_of l)) (sym (nodes_here ready.0 w ready.1 c.args.k l at s0 seat new.1 new.0))
          (is_fresh ready.0 w ready.1 c.args.k l at s0 seat new.1 new.0),
    )

pub returns-clause-on : goal.returns-clause-on
returns-clause-on c = λ start ready.
    let w = c.args.self.now in
    let k = c.args.k in
    let l = c.index.result.now in
    let at = stands w.sent.items k l c.requires.sent c.index.ensures in
    let to = c.requires.to l at in
    let s0 = c.index_mut-seat.result.now in
    let there = to_seat start w ready k l at in
    let seat : slice_get w.seats.items l.addressee ≡ Some s0
    = ap (slice_get w.seats.items) to ∙ stands w.seats.items c.args.to s0 (omega arith) c.index_mut-seat.ensures.value in
    let new = c.requires.new l s0 at seat in
    let d = desk start w ready k l at s0 seat new.1 new.0 in
    let shows = shown start w ready k l at s0 seat new.1 new.0 in
    let nodes = nodes_here start w ready k l at s0 seat new.1 new.0 in
    let fresh = subst (λ n. IsFresh (net_of w.catalog w.rule n same_message) d (message_of l)) (sym nodes)
    (is_fresh start w ready k l at s0 seat new.1 new.0) in
    let told = c.in_ok-give.ensures.shows d shows fresh in
    let out = c.give.new.out.items in
    let shows_after = subst (λ n. Shows w.catalog w.rule same_message (desk_with (net_of w.catalog w.rule n same_message) d (message_of l))
    c.give.new.self.bench) nodes told.0 in
    let mails = told.1 ∙ ap (λ l0. map message_of l0 ++ news (net_of w.catalog w.rule s0.bench.site.nodes same_message) d (message_of l))
    c.new-out.ensures.items
    ∙ ap (λ n. news (net_of w.catalog w.rule n same_message) d (message_of l)) nodes in
    let fixed = c.in_ok-send.ensures.fixed in
    let rest = c.in_ok-send.ensures.rest in
    let sent = ap (map message_of) c.in_ok-send.ensures.sent ∙ map-append message_of w.sent.items out in
    let flags = c.in_ok-send.ensures.given ∙ ap (λ n. slice_set w.given.items k true ++ replicate n false) (sym (length-map out message_of)) in
    subst (λ n. IsOn start (step (net_in w) (world_in start w) (Deliver k)) c.send.new.self n) to
    (given_on start w ready k l at s0 seat new.1 new.0 c.give.new.self out c.in_ok-give.ensures.site c.in_ok-give.ensures.same
    c.in_ok-give.ensures.given shows_after mails c.send.new.self
    (λ i. record {
      plan = fixed.catalog i;
      rule = fixed.rule i;
      nodes = fixed.nodes i;
      started = map (λ new. new.items) (rest.0 i).items;
      requests = rest.1 i;
      sent = sent i;
      flags = flags i;
      seats = (ap (λ v. v.items) rest.2 ∙ ap (λ n. slice_set w.seats.items n c.give.new.self) (sym to)) i;
    }))
