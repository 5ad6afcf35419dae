-- A node that goes on to its next batch, and its turn at the start of one, in code.
use Rattle.std.proofs.Common.{◌≡◌, ℕ, ◌+◌, ◌-◌, ◌^◌, ◌<◌, ◌≤◌, List, [], ◌∷◌, ◌++◌, map, length, Bool, true, false, Some, None, refl, sym, ap, ◌∙◌, subst, arith}
use Rattle.std.specs.Prelude.{slice_get, slice_index_or, slice_set, replicate, nat_lt, ◌&&◌}
use Rattle.std.proofs.lemmas.Bool.{and_parts, and_left, lt-ltb, le-ltb, ltb-true}
use Rattle.std.proofs.lemmas.List.{length-map, length_push}
use Rattle.aria_base.specs.Orders.{key_cmp, Cells, Database}
use Rattle.aria_base.specs.declared.keys.Key.{Key}
use Rattle.aria_base.specs.declared.calls.Call.{Call}
use Rattle.aria_base.specs.declared.calls.Request.{Request}
use Rattle.batch_core.specs.Steps.{numbered}
use Rattle.aria_base.specs.declared.limits.TheConstants.{MOST_REQUESTS}
use Rattle.proc_lang.specs.declared.ends.End.{End}
use Rattle.node_rules.specs.Messages.{Message}
use Rattle.node_rules.specs.Nets.{Net}
use Rattle.node_rules.specs.Dues.{Desk, is_over}
use Rattle.node_rules.specs.Newses.{first_news}
use Rattle.node_rules.specs.Truths.{Holds}
use Rattle.node_rules.specs.Worlds.{Node, desk_for, desk_of, turn, step, Start}
use Rattle.node_rules.specs.Worlds.{World as Definition}
use Rattle.node_rules.proofs.Events.{rested}
use Rattle.node_rules.proofs.Picks.{get_above}
use Rattle.node_batch.specs.Letters.{net_of, message_of}
use Rattle.node_batch.specs.NodeBatches.{Shows}
use Rattle.node_batch.specs.Sames.{same_message}
use Rattle.node_batch.specs.declared.letters.Letter.{Letter}
use Rattle.node_batch.proofs.Sames.{is_net}
use Rattle.node_turns.specs.Goings.{IsGoing, IsStarting}
use Rattle.batch_rules.specs.Batches.{Entry as Settled}
use Rattle.node_batch.specs.Entries.{entry_of}
use Rattle.node_seats.specs.Nodes.{settled_of, AreKept, node_of, done_by}
use Rattle.node_world.specs.Worlds.{net_in, sent_in, started_in, world_in, done_in, Keeps}
use Rattle.node_seats.specs.Seats.{IsCompleted, IsLengthened}
use Rattle.node_world.specs.Steps.{IsFixed, IsReady, IsOn, IsDone, IsStarted}
use Rattle.node_seats.specs.declared.seats.Seat.{Seat}
use Rattle.node_world.specs.declared.worlds.World.{World}
use Rattle.node_seats.proofs.Completing.{more_sent, completed_kept, last_going, next_going}
use Rattle.node_seats.proofs.Few.{few_listed}
use Rattle.node_turns.proofs.Going.{gone, begun_first}
use Rattle.node_seats.proofs.Keeping.{get_set_same, node_here, nodes_on}
use Rattle.node_seats.proofs.Lengthening.{none_past, is_longer, kept_longer}
use Rattle.node_world.proofs.Parts.{Parts, parts_in, on_parts, started_parts, net_fixed}
use Rattle.node_turns.proofs.Starting.{next_node, all_nodes_done}
use Rattle.node_world.proofs.Behind.{done_at}

-- ---- what holds of a node that keeps

module _ (start : Database) (w : World) (keeps : Keeps start w) (n : ℕ) (s : Seat) (seat : slice_get w.seats.items n ≡ Some s) where
  abbrev pub desk : Desk key_cmp Cells Request
  desk = desk_for (net_in w) (started_in w) n (node_of (sent_in w) s)

  pub shown : Shows w.catalog w.rule same_message desk s.bench
  shown = (keeps.each n s seat).shows

  pub nodes_here : s.bench.site.nodes ≡ w.nodes
  nodes_here = (keeps.each n s seat).site

  pub some_nodes : 0 < s.bench.site.nodes
  some_nodes = let same = nodes_here in let some = keeps.some_node in omega arith

  pub few_here : Holds (net_in w) start (world_in start w) → n < w.nodes → length s.bench.list.items < 2 ^ 32 - 1
  few_here holds lt =
      let most = few_listed w.catalog w.rule w.nodes start (started_in w) w.requests (sent_in w) w.given.items w.seats.items keeps holds n s lt seat in
      let all = keeps.few in
      omega arith

  pub desk_here : desk_of (net_in w) (world_in start w) n ≡ desk
  desk_here = λ i. desk_for (net_in w) (started_in w) n (node_here w.catalog w.rule w.nodes start (sent_in w) w.seats.items n s seat i)

  pub done_is : ((world_in start w).node n).done ≡ length s.entries.items
  done_is = ap (λ (x : Node key_cmp Cells Request End). x.done) (node_here w.catalog w.rule w.nodes start (sent_in w) w.seats.items n s seat)

  pub long_started : length (started_in w) ≡ length w.started.items
  long_started = length-map w.started.items (λ new. new.items)

  -- the code's test
  pub over_is : (over : Bool) → over ≡ is_over (net_of w.catalog w.rule s.bench.site.nodes same_message) desk
      → (nat_lt (length s.entries.items) (length w.started.items) && over)
      ≡ (nat_lt ((world_in start w).node n).done (length (world_in start w).started) && is_over (net_in w) (desk_of (net_in w) (world_in start w) n))
  over_is over e = λ i. nat_lt (sym done_is i) (sym long_started i)
      && (e ∙ ap (λ k. is_over (net_of w.catalog w.rule k same_message) desk) nodes_here ∙ ap (is_over (net_in w)) (sym desk_here)) i

  abbrev test : Bool
  test = nat_lt ((world_in start w).node n).done (length (world_in start w).started) && is_over (net_in w) (desk_of (net_in w) (world_in start w) n)

  pub over_on : length s.entries.items < length w.started.items → (over : Bool)
      → over ≡ is_over (net_of w.catalog w.rule s.bench.site.nodes same_message) desk → over ≡ test
  over_on lt over e = sym (ap (λ b. b && over) (lt-ltb _ _ lt)) ∙ over_is over e

  pub over_off : length w.started.items ≤ length s.entries.items → false ≡ test
  over_off le =
      let over = is_over (net_of w.catalog w.rule s.bench.site.nodes same_message) desk in
      sym (and_left (nat_lt (length s.entries.items) (length w.started.items)) over (le-ltb _ _ le)) ∙ over_is over refl

-- ---- a node that rests, and one whose batch is over

module _ (start : Database) (end : Definition key_cmp Cells Request End) (w : World) (n : ℕ) (on : IsOn start end w n) where
  pub is_gone : (nat_lt ((world_in start w).node n).done (length (world_in start w).started) && is_over (net_in w)
      (desk_of (net_in w) (world_in start w) n)) ≡ false
      → world_in start w ≡ end
  is_gone off = sym (gone (net_in w) (is_net w.catalog w.rule w.nodes on.keeps.some_node) start end (world_in start w) n on.going (λ lt.
      sym (ap (λ b. b && is_over (net_in w) (desk_of (net_in w) (world_in start w) n)) (lt-ltb _ _ lt)) ∙ off))

  pub is_done : (nat_lt ((world_in start w).node n).done (length (world_in start w).started) && is_over (net_in w)
      (desk_of (net_in w) (world_in start w) n)) ≡ true
      → IsDone start w n
  is_done e = let p = and_parts _ _ e in record { behind = ltb-true _ _ p.0; over = p.1 }

  pub place : (s : Seat) × (slice_get w.seats.items n ≡ Some s)
  place = get_above w.seats.items n (let lt = on.going.below in let many = on.keeps.many_seats in omega arith)

  pub less_left : IsDone start w n → done_in w n < length w.started.items
  less_left d =
      let s = place in
      let at = done_at start w on.keeps n s.0 s.1 in
      let same = done_is start w on.keeps n s.0 s.1 in
      let long = long_started start w on.keeps n s.0 s.1 in
      let lt = d.behind in
      omega arith

  module _ (d : IsDone start w n) (s0 : Seat) (seat : slice_get w.seats.items n ≡ Some s0) where
    abbrev N : Net key_cmp Cells Request End
    N = net_in w

    abbrev here : Desk key_cmp Cells Request
    here = desk start w on.keeps n s0 seat

    pub less : length s0.entries.items < length (started_in w)
    less = let same = done_is start w on.keeps n s0 seat in let lt = d.behind in omega arith

    over : is_over N here ≡ true
    over = sym (ap (is_over N) (desk_here start w on.keeps n s0 seat)) ∙ d.over

    pub few : length s0.bench.list.items < 2 ^ 32 - 1
    few = few_here start w on.keeps n s0 seat on.going.holds on.going.below

    pub batch_few : s0.bench.site.batch < 2 ^ 64 - 1
    batch_few =
        let lt = less in
        let many = long_started start w on.keeps n s0 seat in
        let ok = w.started.ok in
        let small = w.started.small in
        let same = (shown start w on.keeps n s0 seat).batch_is in
        omega arith

    completed_by : (s1 : Seat) (new : List Request) → new ≡ slice_index_or (started_in w) (length s0.entries.items + 1) []
        → IsCompleted (net_of w.catalog w.rule s0.bench.site.nodes same_message) here new s0 s1
        → IsCompleted N here (slice_index_or (started_in w) (length s0.entries.items + 1) []) s0 s1
    completed_by s1 new e c = subst (λ (p : ℕ × List Request). IsCompleted (net_of w.catalog w.rule p.0 same_message) here p.1 s0 s1)
        (λ i. (nodes_here start w on.keeps n s0 seat i, e i)) c

    abbrev pub after : Seat → List (Message Key Cells) → Parts
    after s1 more = record {
      plan = w.catalog;
      rule = w.rule;
      nodes = w.nodes;
      started = started_in w;
      requests = w.requests;
      sent = sent_in w ++ more;
      flags = w.given.items ++ replicate (length more) false;
      seats = slice_set w.seats.items n s1;
    }

    abbrev pub after_last : Seat → Parts
    after_last s1 = record {
      plan = w.catalog;
      rule = w.rule;
      nodes = w.nodes;
      started = started_in w;
      requests = w.requests;
      sent = sent_in w;
      flags = w.given.items;
      seats = slice_set w.seats.items n s1;
    }

    -- it was the last batch
    pub last_on : (s1 : Seat) → IsCompleted (net_of w.catalog w.rule s0.bench.site.nodes same_message) here [] s0 s1
        → length (started_in w) ≤ length s0.entries.items + 1 → (v : World) → parts_in v ≡ after_last s1 → IsOn start end v n
    last_on s1 c le v parts =
        let done = completed_by s1 [] (sym (none_past (started_in w) (length s0.entries.items + 1) le)) c in
        on_parts v (after_last s1) parts start end n
        (completed_kept w.catalog w.rule w.nodes start (started_in w) w.requests (sent_in w) w.given.items w.seats.items on.keeps n s0 seat s1 done)
        (last_going w.catalog w.rule w.nodes start (started_in w) w.requests (sent_in w) w.given.items w.seats.items on.keeps n s0 seat s1 done
        (is_net w.catalog w.rule w.nodes on.keeps.some_node) end on.going less over le)

    -- and the next one begins
    pub next_on : (s1 : Seat) (new : List Request) → new ≡ slice_index_or (started_in w) (length s0.entries.items + 1) []
        → IsCompleted (net_of w.catalog w.rule s0.bench.site.nodes same_message) here new s0 s1
        → length s0.entries.items + 1 < length (started_in w) → (out : List Letter)
        → ((desk : Desk key_cmp Cells Request) → Shows w.catalog w.rule same_message desk s1.bench
        → map message_of out ≡ first_news (net_of w.catalog w.rule s1.bench.site.nodes same_message) desk)
        → (v : World) → parts_in v ≡ after s1 (map message_of out) → IsOn start end v n
    next_on s1 new e c up out mails v parts =
        let done = completed_by s1 new e c in
        let kept = completed_kept w.catalog w.rule w.nodes start (started_in w) w.requests (sent_in w) w.given.items w.seats.items on.keeps n s0 seat s1 done in
        let is = kept.each n s1 (get_set_same w.seats.items n s1 s0 seat) in
        on_parts v (after s1 (map message_of out)) parts start end n
        (more_sent w.catalog w.rule w.nodes start (started_in w) w.requests (sent_in w) (map message_of out) w.given.items (slice_set w.seats.items n s1) kept)
        (next_going w.catalog w.rule w.nodes start (started_in w) w.requests (sent_in w) w.given.items w.seats.items on.keeps n s0 seat s1 done
        (is_net w.catalog w.rule w.nodes on.keeps.some_node) end on.going less over up (map message_of out)
        (mails (desk_for N (started_in w) n (node_of (sent_in w) s1)) is.shows
        ∙ ap (λ k. first_news (net_of w.catalog w.rule k same_message) (desk_for N (started_in w) n (node_of (sent_in w) s1))) is.site))

    pub more_done : (s1 : Seat) (e : List (Settled Key Request End)) → settled_of s1 ≡ settled_of s0 ++ e ∷ [] → (after : List Seat)
        → after ≡ slice_set w.seats.items n s1 → done_by after n ≡ done_in w n + 1
    more_done s1 e same all seats =
        let after = ap (λ r. elim r [ None ↦ 0 | Some s ↦ length s.entries.items ]) (ap (λ ss. slice_get ss n) seats
        ∙ get_set_same w.seats.items n s1 s0 seat) in
        let before = done_at start w on.keeps n s0 seat in
        let long = sym (length-map s1.entries.items (λ batch. map entry_of batch.items)) ∙ ap length same ∙ length_push (settled_of s0) e
        ∙ ap (λ k. k + 1) (length-map s0.entries.items (λ batch. map entry_of batch.items)) in
        after ∙ long ∙ ap (λ k. k + 1) (sym before)

    module _ (s1 : Seat) (new : List Request) (e : new ≡ slice_index_or (started_in w) (length s0.entries.items + 1) [])
        (c : IsCompleted (net_of w.catalog w.rule s0.bench.site.nodes same_message) here new s0 s1) where
      there : slice_get (slice_set w.seats.items n s1) n ≡ Some s1
      there = get_set_same w.seats.items n s1 s0 seat

      kept : AreKept w.catalog w.rule w.nodes start (started_in w) w.requests (sent_in w) w.given.items (slice_set w.seats.items n s1)
      kept = completed_kept w.catalog w.rule w.nodes start (started_in w) w.requests (sent_in w) w.given.items w.seats.items on.keeps n s0 seat s1
          (completed_by s1 new e c)

      abbrev pub next_desk : Desk key_cmp Cells Request
      next_desk = desk_for N (started_in w) n (node_of (sent_in w) s1)

      pub next_shown : Shows w.catalog w.rule same_message next_desk s1.bench
      next_shown = (kept.each n s1 there).shows

      pub next_nodes : 0 < s1.bench.site.nodes
      next_nodes = let same = (kept.each n s1 there).site in let some = on.keeps.some_node in omega arith

      pub next_few : length s0.entries.items + 1 < length (started_in w) → length s1.bench.list.items < 2 ^ 32 - 1
      next_few up =
          let more = first_news N next_desk in
          let going = next_going w.catalog w.rule w.nodes start (started_in w) w.requests (sent_in w) w.given.items w.seats.items on.keeps n s0 seat s1
          (completed_by s1 new e c) (is_net w.catalog w.rule w.nodes on.keeps.some_node) end on.going less over up more refl in
          let most = few_listed w.catalog w.rule w.nodes start (started_in w) w.requests (sent_in w ++ more)
          (w.given.items ++ replicate (length more) false) (slice_set w.seats.items n s1)
          (more_sent w.catalog w.rule w.nodes start (started_in w) w.requests (sent_in w) more w.given.items (slice_set w.seats.items n s1) kept)
          going.holds n s1 on.going.below there in
          let all = on.keeps.few in
          omega arith

-- ---- a node's turn at the start of a batch

module _ (start : Database) (end : Definition key_cmp Cells Request End) (w : World) (n old : ℕ) (st : IsStarted start end w n old) (below : n < w.nodes)
    (s0 : Seat) (seat : slice_get w.seats.items n ≡ Some s0) where
  abbrev net : Net key_cmp Cells Request End
  net = net_in w

  abbrev u : Definition key_cmp Cells Request End
  u = world_in start w

  next : IsStarting net start end (turn net u n) (n + 1) old
  next = next_node net (is_net w.catalog w.rule w.nodes st.keeps.some_node) start end u n old st.starting below

  -- it is behind
  pub behind_on : length s0.entries.items < old → IsStarted start end w (n + 1) old
  behind_on lt =
      let same = done_is start w st.keeps n s0 seat in
      record {
        keeps = st.keeps;
        starting = subst (λ v. IsStarting net start end v (n + 1) old)
            (rested net (is_net w.catalog w.rule w.nodes st.keeps.some_node) u n (st.starting.rests n (omega arith) below (omega arith))) next;
      }

  -- it comes to the new batch
  module _ (le : old ≤ length s0.entries.items) where
    at_rest : (u.node n).done ≡ old
    at_rest =
        let same = done_is start w st.keeps n s0 seat in
        let most = st.starting.reach n (omega arith) below in
        omega arith

    lt : (u.node n).done < length u.started
    lt = let long = st.starting.long in let same = at_rest in omega arith

    abbrev pub after_first : List (Message Key Cells) → Parts
    after_first more = record {
      plan = w.catalog;
      rule = w.rule;
      nodes = w.nodes;
      started = started_in w;
      requests = w.requests;
      sent = sent_in w ++ more;
      flags = w.given.items ++ replicate (length more) false;
      seats = w.seats.items;
    }

    pub first_on : (out : List Letter) → map message_of out ≡ first_news (net_of w.catalog w.rule s0.bench.site.nodes same_message)
        (desk start w st.keeps n s0 seat)
        → (v : World) → parts_in v ≡ after_first (map message_of out) → IsOn start (turn net u n) v n
    first_on out mails v parts =
        let more = map message_of out in
        let said : more ≡ first_news net (desk_of net u n)
        = mails ∙ ap (λ k. first_news (net_of w.catalog w.rule k same_message) (desk start w st.keeps n s0 seat)) (nodes_here start w st.keeps n s0 seat)
        ∙ ap (first_news net) (sym (desk_here start w st.keeps n s0 seat)) in
        let stays = nodes_on w.catalog w.rule w.nodes start (sent_in w) more w.seats.items (λ i s e. (st.keeps.each i s e).numbers) in
        on_parts v (after_first more) parts start (turn net u n) n
        (more_sent w.catalog w.rule w.nodes start (started_in w) w.requests (sent_in w) more w.given.items w.seats.items st.keeps)
        (subst (λ v. IsGoing net start (turn net u n) v n)
        (λ i. record { started = started_in w; sent = sent_in w ++ sym said i; node = sym stays i })
        (begun_first net (is_net w.catalog w.rule w.nodes st.keeps.some_node) start u n below st.starting.holds lt
        (st.starting.begins n (omega arith) below at_rest) (turn net u n) refl))

  pub turned : (v : World) → IsFixed w v → Keeps start v → world_in start v ≡ turn net u n → IsStarted start end v (n + 1) old
  turned v f k e = record {
    keeps = k;
    starting = subst (λ (p : Net key_cmp Cells Request End × Definition key_cmp Cells Request End). IsStarting p.0 start end p.1 (n + 1) old)
        (λ i. (sym (net_fixed w v f) i, sym e i)) next;
  }

-- ---- a batch that is kept

module _ (start : Database) (w : World) (r : IsReady start w) (calls : List Call) (longer : List Seat) where
  abbrev new : List Request
  new = numbered w.requests calls

  abbrev pub pushed : Parts
  pushed = record {
    plan = w.catalog;
    rule = w.rule;
    nodes = w.nodes;
    started = started_in w ++ new ∷ [];
    requests = w.requests + length calls;
    sent = sent_in w;
    flags = w.given.items;
    seats = longer;
  }

  pub pushed_on : length longer ≡ length w.seats.items
      → ((n : ℕ) (s t : Seat) → slice_get w.seats.items n ≡ Some s → slice_get longer n ≡ Some t → IsLengthened (length w.started.items) new s t)
      → w.requests + length calls ≤ MOST_REQUESTS → (v : World) → parts_in v ≡ pushed
      → IsStarted start (step (net_in w) (world_in start w) (Start new)) v 0 (length w.started.items)
  pushed_on many each room v parts =
      let long : length w.started.items ≡ length (started_in w) = sym (length-map w.started.items (λ new. new.items)) in
      let lengthened : (n : ℕ) (s t : Seat) → slice_get w.seats.items n ≡ Some s → slice_get longer n ≡ Some t → IsLengthened (length (started_in w)) new s t
      = λ n s t a b. subst (λ d. IsLengthened d new s t) long (each n s t a b) in
      subst (IsStarted start (step (net_in w) (world_in start w) (Start new)) v 0) (sym long)
      (started_parts v pushed parts start (step (net_in w) (world_in start w) (Start new)) 0 (length (started_in w))
      (kept_longer w.catalog w.rule w.nodes start (started_in w) w.requests (sent_in w) w.given.items w.seats.items r.keeps r.reached calls longer many
      lengthened room)
      (is_longer w.catalog w.rule w.nodes start (started_in w) w.requests (sent_in w) w.given.items w.seats.items r.keeps r.reached calls longer many
      lengthened))

-- all nodes had their turns
pub all_turned : (start : Database) (end : Definition key_cmp Cells Request End) (w : World) (n old : ℕ) → IsStarted start end w n old → w.nodes ≤ n
    → Keeps start w × (world_in start w ≡ end)
all_turned start end w n old st le =
    (st.keeps, sym (all_nodes_done (net_in w) (is_net w.catalog w.rule w.nodes st.keeps.some_node) start end (world_in start w) n old st.starting le))
