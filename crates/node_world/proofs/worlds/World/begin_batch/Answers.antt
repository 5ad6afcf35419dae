use Rattle.std.proofs.Common.{◌++◌, length, map, false, sym, ap, ◌∙◌, arith}
use Rattle.std.specs.Prelude.{replicate}
use Rattle.std.proofs.lemmas.Option.{same_Some}
use Rattle.node_seats.specs.declared.seats.Seat.{Seat}
use Rattle.std.proofs.lemmas.List.{map-append, length-map}
use Rattle.node_batch.specs.Letters.{message_of}
use Rattle.node_rules.specs.Worlds.{turn}
use Rattle.node_world.specs.Worlds.{net_in, world_in}
use Rattle.node_seats.proofs.Keeping.{stands}
use Rattle.node_world.proofs.Parts.{fixed_both, fixed_self}
use Rattle.node_world.proofs.Turning.{desk, shown, some_nodes, few_here, behind_on, first_on, turned}
use Rattle.node_world.proofs.worlds.World.begin_batch.Goals as goal

pub first_runs-requires-clause-nodes : goal.first_runs-requires-clause-nodes
first_runs-requires-clause-nodes c =
    let on = c.requires.started in
    let w = c.args.self.now in
    let s = c.index-seat.result.now in
    let many = on.2.keeps.many_seats in
    let below = c.requires.below in
    some_nodes on.0 w on.2.keeps c.args.n s (stands w.seats.items c.args.n s (omega arith) c.index-seat.ensures)

pub first_runs-requires-clause-few : goal.first_runs-requires-clause-few
first_runs-requires-clause-few c =
    let on = c.requires.started in
    let w = c.args.self.now in
    let s = c.index-seat.result.now in
    let many = on.2.keeps.many_seats in
    let below = c.requires.below in
    few_here on.0 w on.2.keeps c.args.n s (stands w.seats.items c.args.n s (omega arith) c.index-seat.ensures) on.2.starting.holds below

pub first_runs-requires-clause-shown : goal.first_runs-requires-clause-shown
first_runs-requires-clause-shown c =
    let on = c.requires.started in
    let w = c.args.self.now in
    let s = c.index-seat.result.now in
    let many = on.2.keeps.many_seats in
    let below = c.requires.below in
    let at = stands w.seats.items c.args.n s (omega arith) c.index-seat.ensures in
    (w.rule, desk on.0 w on.2.keeps c.args.n s at, shown on.0 w on.2.keeps c.args.n s at)

-- a node that is behind
pub returns-then-len-old-clause-fixed : goal.returns-then-len-old-clause-fixed
returns-then-len-old-clause-fixed c = fixed_self c.args.self.now

pub returns-then-len-old-clause-started : goal.returns-then-len-old-clause-started
returns-then-len-old-clause-started c = λ start end st.
    let w = c.args.self.now in
    let s = c.index.result.now in
    let many = st.keeps.many_seats in
    let below = c.requires.below in
    let a = c.len.ensures in
    let b = s.entries.ok.0 in
    let lt = c.if-len-old.true in
    behind_on start end w c.args.n c.args.old st below s (stands w.seats.items c.args.n s (omega arith) c.index.ensures) (omega arith)

-- one that comes to the batch
pub go_on-requires : goal.go_on-requires
go_on-requires c =
    let f = c.requires.started in
    let start = f.0 in
    let end = f.1 in
    let st = f.2 in
    let w = c.args.self.now in
    let s = c.index-seat.result.now in
    let many = st.keeps.many_seats in
    let below = c.requires.below in
    let at = stands w.seats.items c.args.n s (omega arith) c.index-seat.ensures in
    let there = stands w.seats.items c.args.n c.index.result.now (omega arith) c.index.ensures in
    let count = ap (λ (x : Seat). length x.entries.items) (same_Some s c.index.result.now (sym at ∙ there)) in
    let a = c.len.ensures in
    let b = c.index.result.now.entries.ok.0 in
    let le = c.if-len-old.false in
    let out = c.in_ok-out.out.items in
    let fixed = c.in_ok-send.ensures.fixed in
    let rest = c.in_ok-send.ensures.rest in
    let sent = ap (map message_of) c.in_ok-send.ensures.sent ∙ map-append message_of w.sent.items out in
    let given = c.in_ok-send.ensures.given ∙ ap (λ k. w.given.items ++ replicate k false) (sym (length-map out message_of)) in
    let on = first_on start end w c.args.n c.args.old st below s at (omega arith) out
    (c.in_ok-out.ensures w.rule (desk start w st.keeps c.args.n s at) (shown start w st.keeps c.args.n s at)) c.send.new.self
    (λ i. record {
      plan = fixed.catalog i;
      rule = fixed.rule i;
      nodes = fixed.nodes i;
      started = map (λ new. new.items) (rest.0 i).items;
      requests = rest.1 i;
      sent = sent i;
      flags = given i;
      seats = (rest.2 i).items;
    }) in
    record { on = (start, turn (net_in w) (world_in start w) c.args.n, on) }

pub returns-clause-fixed : goal.returns-clause-fixed
returns-clause-fixed c = fixed_both _ _ _ c.in_ok-send.ensures.fixed c.in_ok-go_on.ensures.fixed

pub returns-clause-started : goal.returns-clause-started
returns-clause-started c = λ start end st.
    let w = c.args.self.now in
    let s = c.index-seat.result.now in
    let many = st.keeps.many_seats in
    let below = c.requires.below in
    let at = stands w.seats.items c.args.n s (omega arith) c.index-seat.ensures in
    let there = stands w.seats.items c.args.n c.index.result.now (omega arith) c.index.ensures in
    let count = ap (λ (x : Seat). length x.entries.items) (same_Some s c.index.result.now (sym at ∙ there)) in
    let a = c.len.ensures in
    let b = c.index.result.now.entries.ok.0 in
    let le = c.if-len-old.false in
    let out = c.in_ok-out.out.items in
    let fixed = c.in_ok-send.ensures.fixed in
    let rest = c.in_ok-send.ensures.rest in
    let sent = ap (map message_of) c.in_ok-send.ensures.sent ∙ map-append message_of w.sent.items out in
    let given = c.in_ok-send.ensures.given ∙ ap (λ k. w.given.items ++ replicate k false) (sym (length-map out message_of)) in
    let on = first_on start end w c.args.n c.args.old st below s at (omega arith) out
    (c.in_ok-out.ensures w.rule (desk start w st.keeps c.args.n s at) (shown start w st.keeps c.args.n s at)) c.send.new.self
    (λ i. record {
      plan = fixed.catalog i;
      rule = fixed.rule i;
      nodes = fixed.nodes i;
      started = map (λ new. new.items) (rest.0 i).items;
      requests = rest.1 i;
      sent = sent i;
      flags = given i;
      seats = (rest.2 i).items;
    }) in
    let kept = c.in_ok-go_on.ensures.kept start (turn (net_in w) (world_in start w) c.args.n) on in
    turned start end w c.args.n c.args.old st below s at c.go_on.new.self (fixed_both _ _ _ fixed c.in_ok-go_on.ensures.fixed) kept.0 kept.1
