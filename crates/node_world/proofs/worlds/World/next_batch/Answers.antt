use Rattle.std.proofs.Common.{◌≡◌, ℕ, ◌+◌, List, ◌++◌, [], length, map, refl, sym, ap, ◌∙◌, subst, arith, Some, false}
use Rattle.std.specs.Prelude.{slice_get, slice_index_or, replicate}
use Rattle.std.proofs.lemmas.List.{map-append, length-map}
use Rattle.std.proofs.lemmas.Option.{same_Some}
use Rattle.aria_base.specs.Orders.{key_cmp, Cells, Database}
use Rattle.aria_base.specs.declared.calls.Request.{Request}
use Rattle.proc_lang.specs.declared.ends.End.{End}
use Rattle.node_rules.specs.Worlds.{World as Definition}
use Rattle.node_batch.specs.Letters.{net_of, message_of}
use Rattle.node_batch.specs.Sames.{same_message}
use Rattle.node_batch.proofs.Kept.{mapped_at}
use Rattle.node_seats.specs.Seats.{IsCompleted}
use Rattle.node_batch.specs.declared.mails.Site.{Site}
use Rattle.node_world.specs.Worlds.{started_in}
use Rattle.node_world.specs.Steps.{IsOn}
use Rattle.node_seats.specs.declared.seats.Seat.{Seat}
use Rattle.node_world.specs.declared.worlds.World.{World}
use Rattle.node_seats.proofs.Keeping.{stands}
use Rattle.node_world.proofs.Turning.{desk, shown, some_nodes, long_started, few, batch_few, last_on, next_on, more_done, next_desk, next_shown, next_few}
use Rattle.node_world.proofs.worlds.World.next_batch.Goals as goal

place_of : (start : Database) (end : Definition key_cmp Cells Request End) (w : World) (n : ℕ) → IsOn start end w n → (s : Seat)
    → s ≡ slice_index_or w.seats.items n s → slice_get w.seats.items n ≡ Some s
place_of start end w n on s e = let many = on.keeps.many_seats in let below = on.going.below in stands w.seats.items n s (omega arith) e

-- the batch behind those that the node has completed
pub complete-requires-clause-few : goal.complete-requires-clause-few
complete-requires-clause-few c =
    let f = c.requires.on in
    let s = c.index_mut-seat.result.now in
    few f.0 f.1 c.args.self.now c.args.n f.2 f.3 s (place_of f.0 f.1 c.args.self.now c.args.n f.2 s c.index_mut-seat.ensures.value)

pub complete-requires-clause-batch : goal.complete-requires-clause-batch
complete-requires-clause-batch c =
    let f = c.requires.on in
    let s = c.index_mut-seat.result.now in
    batch_few f.0 f.1 c.args.self.now c.args.n f.2 f.3 s (place_of f.0 f.1 c.args.self.now c.args.n f.2 s c.index_mut-seat.ensures.value)

pub complete-requires-clause-shown : goal.complete-requires-clause-shown
complete-requires-clause-shown c =
    let f = c.requires.on in
    let w = c.args.self.now in
    let s = c.index_mut-seat.result.now in
    let at = place_of f.0 f.1 w c.args.n f.2 s c.index_mut-seat.ensures.value in
    (w.rule, desk f.0 w f.2.keeps c.args.n s at, shown f.0 w f.2.keeps c.args.n s at)

pub complete-requires-2-clause-nodes : goal.complete-requires-2-clause-nodes
complete-requires-2-clause-nodes c =
    let f = c.requires.on in
    let s = c.index_mut-seat-2.result.now in
    some_nodes f.0 c.args.self.now f.2.keeps c.args.n s (place_of f.0 f.1 c.args.self.now c.args.n f.2 s c.index_mut-seat-2.ensures.value)

pub complete-requires-2-clause-few : goal.complete-requires-2-clause-few
complete-requires-2-clause-few c =
    let f = c.requires.on in
    let s = c.index_mut-seat-2.result.now in
    few f.0 f.1 c.args.self.now c.args.n f.2 f.3 s (place_of f.0 f.1 c.args.self.now c.args.n f.2 s c.index_mut-seat-2.ensures.value)

pub complete-requires-2-clause-batch : goal.complete-requires-2-clause-batch
complete-requires-2-clause-batch c =
    let f = c.requires.on in
    let s = c.index_mut-seat-2.result.now in
    batch_few f.0 f.1 c.args.self.now c.args.n f.2 f.3 s (place_of f.0 f.1 c.args.self.now c.args.n f.2 s c.index_mut-seat-2.ensures.value)

pub complete-requires-2-clause-shown : goal.complete-requires-2-clause-shown
complete-requires-2-clause-shown c =
    let f = c.requires.on in
    let w = c.args.self.now in
    let s = c.index_mut-seat-2.result.now in
    let at = place_of f.0 f.1 w c.args.n f.2 s c.index_mut-seat-2.ensures.value in
    (w.rule, desk f.0 w f.2.keeps c.args.n s at, shown f.0 w f.2.keeps c.args.n s at)

-- it was the last one
pub returns-clause-more : goal.returns-clause-more
returns-clause-more c =
    let f = c.requires.on in
    let w = c.args.self.now in
    let s = c.index_mut-seat-2.result.now in
    let at = place_of f.0 f.1 w c.args.n f.2 s c.index_mut-seat-2.ensures.value in
    let done = c.in_ok-complete-2.ensures w.rule (desk f.0 w f.2.keeps c.args.n s at) (shown f.0 w f.2.keeps c.args.n s at) in
    more_done f.0 f.1 w c.args.n f.2 f.3 s at c.complete-2.new.self _ done.entries _ refl

pub returns-clause-on : goal.returns-clause-on
returns-clause-on c = λ start end on d.
    let w = c.args.self.now in
    let s = c.index_mut-seat-2.result.now in
    let at = place_of start end w c.args.n on s c.index_mut-seat-2.ensures.value in
    let here = desk start w on.keeps c.args.n s at in
    let done = c.in_ok-complete-2.ensures w.rule here (shown start w on.keeps c.args.n s at) in
    let read = place_of start end w c.args.n on c.index.result.now c.index.ensures in
    let same = same_Some s c.index.result.now (sym at ∙ read) in
    let count = ap (λ (x : Seat). length x.entries.items) same in
    let a = c.len-next.ensures in
    let b = c.index.result.now.entries.ok.0 in
    let long = c.len.ensures in
    let all = w.started.ok.0 in
    let many = long_started start w on.keeps c.args.n s at in
    let last = c.if-next-len.false in
    last_on start end w c.args.n on d s at c.complete-2.new.self
    (subst (λ new. IsCompleted (net_of w.catalog w.rule s.bench.site.nodes same_message) here new s c.complete-2.new.self)
    (c.deref-2.ensures.value ∙ c.new-none.ensures.items) done)
    (omega arith) _ refl

-- the next one begins
at_place : (w : World) (i k : ℕ) (new : List Request) → new ≡ slice_index_or (started_in w) i [] → i ≡ k → new ≡ slice_index_or (started_in w) k []
at_place w i k new e same = e ∙ ap (λ i. slice_index_or (started_in w) i []) same

pub first_runs-requires-clause-nodes : goal.first_runs-requires-clause-nodes
first_runs-requires-clause-nodes c =
    let f = c.requires.on in
    let w = c.args.self.now in
    let s = c.index_mut-seat.result.now in
    let at = place_of f.0 f.1 w c.args.n f.2 s c.index_mut-seat.ensures.value in
    let done = c.in_ok-complete.ensures w.rule (desk f.0 w f.2.keeps c.args.n s at) (shown f.0 w f.2.keeps c.args.n s at) in
    let some = some_nodes f.0 w f.2.keeps c.args.n s at in
    let same = ap (λ (x : Site). x.nodes) done.site in
    omega arith

pub first_runs-requires-clause-few : goal.first_runs-requires-clause-few
first_runs-requires-clause-few c =
    let f = c.requires.on in
    let w = c.args.self.now in
    let s = c.index_mut-seat.result.now in
    let at = place_of f.0 f.1 w c.args.n f.2 s c.index_mut-seat.ensures.value in
    let done = c.in_ok-complete.ensures w.rule (desk f.0 w f.2.keeps c.args.n s at) (shown f.0 w f.2.keeps c.args.n s at) in
    let read = place_of f.0 f.1 w c.args.n f.2 c.index.result.now c.index.ensures in
    let count = ap (λ (x : Seat). length x.entries.items) (same_Some s c.index.result.now (sym at ∙ read)) in
    let a = c.len-next.ensures in
    let b = c.index.result.now.entries.ok.0 in
    let long = c.len.ensures in
    let all = w.started.ok.0 in
    let many = long_started f.0 w f.2.keeps c.args.n s at in
    let up = c.if-next-len.true in
    let new = c.deref.ensures.value ∙ ap (λ b. b.items) c.index-then-next-len.ensures
    ∙ sym (mapped_at (λ b. b.items) w.started.items (c.len-next.result + 1) c.index-then-next-len.result.now [] (omega arith)) in
    next_few f.0 f.1 w c.args.n f.2 f.3 s at c.complete.new.self c.deref.result.now
    (at_place w (c.len-next.result + 1) (length s.entries.items + 1) c.deref.result.now new (omega arith)) done (omega arith)

pub first_runs-requires-clause-shown : goal.first_runs-requires-clause-shown
first_runs-requires-clause-shown c =
    let f = c.requires.on in
    let w = c.args.self.now in
    let s = c.index_mut-seat.result.now in
    let at = place_of f.0 f.1 w c.args.n f.2 s c.index_mut-seat.ensures.value in
    let done = c.in_ok-complete.ensures w.rule (desk f.0 w f.2.keeps c.args.n s at) (shown f.0 w f.2.keeps c.args.n s at) in
    let read = place_of f.0 f.1 w c.args.n f.2 c.index.result.now c.index.ensures in
    let count = ap (λ (x : Seat). length x.entries.items) (same_Some s c.index.result.now (sym at ∙ read)) in
    let a = c.len-next.ensures in
    let b = c.index.result.now.entries.ok.0 in
    let long = c.len.ensures in
    let all = w.started.ok.0 in
    let up = c.if-next-len.true in
    let new = c.deref.ensures.value ∙ ap (λ b. b.items) c.index-then-next-len.ensures
    ∙ sym (mapped_at (λ b. b.items) w.started.items (c.len-next.result + 1) c.index-then-next-len.result.now [] (omega arith)) in
    let e = at_place w (c.len-next.result + 1) (length s.entries.items + 1) c.deref.result.now new (omega arith) in (
      w.rule,
      next_desk f.0 f.1 w c.args.n f.2 f.3 s at c.complete.new.self c.deref.result.now e done,
      next_shown f.0 f.1 w c.args.n f.2 f.3 s at c.complete.new.self c.deref.result.now e done,
    )

pub returns-then-next-len-clause-more : goal.returns-then-next-len-clause-more
returns-then-next-len-clause-more c =
    let f = c.requires.on in
    let w = c.args.self.now in
    let s = c.index_mut-seat.result.now in
    let at = place_of f.0 f.1 w c.args.n f.2 s c.index_mut-seat.ensures.value in
    let done = c.in_ok-complete.ensures w.rule (desk f.0 w f.2.keeps c.args.n s at) (shown f.0 w f.2.keeps c.args.n s at) in
    more_done f.0 f.1 w c.args.n f.2 f.3 s at c.complete.new.self _ done.entries c.send.new.self.seats.items (ap (λ v. v.items) c.in_ok-send.ensures.rest.2)

pub returns-then-next-len-clause-on : goal.returns-then-next-len-clause-on
returns-then-next-len-clause-on c = λ start end on d.
    let w = c.args.self.now in
    let s = c.index_mut-seat.result.now in
    let at = place_of start end w c.args.n on s c.index_mut-seat.ensures.value in
    let done = c.in_ok-complete.ensures w.rule (desk start w on.keeps c.args.n s at) (shown start w on.keeps c.args.n s at) in
    let read = place_of start end w c.args.n on c.index.result.now c.index.ensures in
    let count = ap (λ (x : Seat). length x.entries.items) (same_Some s c.index.result.now (sym at ∙ read)) in
    let a = c.len-next.ensures in
    let b = c.index.result.now.entries.ok.0 in
    let long = c.len.ensures in
    let all = w.started.ok.0 in
    let many = long_started start w on.keeps c.args.n s at in
    let up = c.if-next-len.true in
    let new = c.deref.ensures.value ∙ ap (λ b. b.items) c.index-then-next-len.ensures
    ∙ sym (mapped_at (λ b. b.items) w.started.items (c.len-next.result + 1) c.index-then-next-len.result.now [] (omega arith)) in
    let e = at_place w (c.len-next.result + 1) (length s.entries.items + 1) c.deref.result.now new (omega arith) in
    let out = c.in_ok-out.out.items in
    let fixed = c.in_ok-send.ensures.fixed in
    let rest = c.in_ok-send.ensures.rest in
    let sent = ap (map message_of) c.in_ok-send.ensures.sent ∙ map-append message_of w.sent.items out in
    let given = c.in_ok-send.ensures.given ∙ ap (λ k. w.given.items ++ replicate k false) (sym (length-map out message_of)) in
    next_on start end w c.args.n on d s at c.complete.new.self c.deref.result.now e done (omega arith) out
    (λ desk shows. c.in_ok-out.ensures w.rule desk shows) c.send.new.self
    (λ i. record {
      plan = fixed.catalog i;
      rule = fixed.rule i;
      nodes = fixed.nodes i;
      started = map (λ new. new.items) (rest.0 i).items;
      requests = rest.1 i;
      sent = sent i;
      flags = given i;
      seats = (rest.2 i).items;
    })
