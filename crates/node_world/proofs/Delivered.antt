-- The delivery of a message, in code.
use Rattle.std.proofs.Common.{◌≡◌, ℕ, zero, suc, None, ◌-◌, ◌^◌, ◌<◌, ◌≤◌, ◌⊎◌, inl, inr, ⊎_elim, List, [], ◌∷◌, ◌++◌, map, length, true, false, Some, refl, sym, ap, ◌∙◌, subst}
use Rattle.std.proofs.Common.{arith}
use Rattle.std.specs.Prelude.{slice_get, slice_index_or, slice_set, replicate}
use Rattle.std.specs.Option.{option_map}
use Rattle.std.proofs.lemmas.Bool.{cases_eq}
use Rattle.std.proofs.lemmas.Option.{slice_get-map, same_Some}
use Rattle.std.proofs.lemmas.List.{length-map}
use Rattle.std.proofs.lemmas.List.Elements.{All-contains}
use Rattle.aria_base.specs.Orders.{key_cmp, Cells, Database}
use Rattle.aria_base.specs.declared.calls.Request.{Request}
use Rattle.aria_base.specs.declared.keys.Key.{Key}
use Rattle.proc_lang.specs.declared.ends.End.{End}
use Rattle.node_rules.specs.Messages.{Message}
use Rattle.node_rules.specs.Dues.{Desk}
use Rattle.node_rules.specs.Worlds.{Deliver, step, deliver, desk_for}
use Rattle.node_rules.specs.Worlds.{World as Definition}
use Rattle.node_rules.specs.Newses.{desk_with, news}
use Rattle.node_rules.specs.Truths.{IsSent}
use Rattle.node_rules.proofs.Holding.{get_has}
use Rattle.node_rules.proofs.Picks.{get_below, get_above}
use Rattle.node_batch.specs.NodeBatches.{Shows, IsFresh}
use Rattle.node_batch.specs.Letters.{message_of}
use Rattle.node_batch.specs.Entries.{entry_of}
use Rattle.node_batch.specs.Sames.{same_message}
use Rattle.node_batch.specs.declared.letters.Letter.{Letter}
use Rattle.node_seats.specs.Nodes.{given_of, settled_of, node_of}
use Rattle.node_world.specs.Worlds.{net_in, sent_in, started_in, world_in}
use Rattle.node_world.specs.Steps.{IsReady, IsNew, IsOld, IsOn}
use Rattle.node_seats.specs.declared.seats.Seat.{Seat}
use Rattle.node_world.specs.declared.worlds.World.{World}
use Rattle.node_seats.proofs.Taking.{other_batch, given_before, fresh, all_kept, is_going}
use Rattle.node_seats.proofs.Few.{few_listed}
use Rattle.node_world.proofs.Parts.{Parts, parts_in, on_parts}

module _ (start : Database) (w : World) (r : IsReady start w) (k : ℕ) (l : Letter) (at : slice_get w.sent.items k ≡ Some l) where
  abbrev m : Message Key Cells
  m = message_of l

  abbrev u : Definition key_cmp Cells Request End
  u = world_in start w

  message_at : slice_get (sent_in w) k ≡ Some m
  message_at = slice_get-map message_of w.sent.items k ∙ ap (option_map message_of) at

  pub to_seat : l.addressee < length w.seats.items
  to_seat =
      let is = All-contains (IsSent (net_in w) start (started_in w) u.node) (sent_in w) m r.reached.holds.sent (get_has (sent_in w) k m message_at) in
      let to = is.is.addressee in
      let many = r.keeps.many_seats in
      omega arith

  pub flag_there : k < length w.given.items
  flag_there =
      let many = r.keeps.many_flags in
      let all = length-map w.sent.items message_of in
      let lt = get_below w.sent.items k l at in
      omega arith

  module _ (s0 : Seat) (seat : slice_get w.seats.items l.addressee ≡ Some s0) where
    -- one of another batch, or one that was given before
    pub unchanged : (slice_index_or w.given.items k false ≡ true) ⊎ (l.batch ≡ s0.bench.site.batch → ⊥) → step (net_in w) u (Deliver k) ≡ u
    unchanged c = ap (deliver (net_in w) u) message_at ∙ ⊎_elim
        (λ same. ⊎_elim
        (λ flag. given_before w.catalog w.rule w.nodes start (started_in w) w.requests (sent_in w) w.given.items w.seats.items r.keeps r.reached k m message_at
        s0 seat same flag)
        (λ off. absurd (off same))
        c)
        (λ off. other_batch w.catalog w.rule w.nodes start (started_in w) w.requests (sent_in w) w.given.items w.seats.items r.keeps r.reached k m message_at
        s0 seat off)
        (cases_eq l.batch s0.bench.site.batch)

    module _ (batch : l.batch ≡ s0.bench.site.batch) (none : slice_index_or w.given.items k false ≡ false) where
      abbrev pub desk : Desk key_cmp Cells Request
      desk = desk_for (net_in w) (started_in w) l.addressee (node_of (sent_in w) s0)

      pub shown : Shows w.catalog w.rule same_message desk s0.bench
      shown = (r.keeps.each l.addressee s0 seat).shows

      pub nodes_here : s0.bench.site.nodes ≡ w.nodes
      nodes_here = (r.keeps.each l.addressee s0 seat).site

      pub is_fresh : IsFresh (net_in w) desk m
      is_fresh = fresh w.catalog w.rule w.nodes start (started_in w) w.requests (sent_in w) w.given.items w.seats.items r.keeps r.reached k m message_at s0
          seat batch none

      pub few : length s0.bench.list.items < 2 ^ 32 - 1
      few =
          let most = few_listed w.catalog w.rule w.nodes start (started_in w) w.requests (sent_in w) w.given.items w.seats.items r.keeps r.reached.holds
          l.addressee s0
          (let lt = to_seat in let many = r.keeps.many_seats in omega arith) seat in
          let all = r.keeps.few in
          omega arith

      -- ---- what the node and its news make of all nodes

      module _ (s1 : Seat) (out : List Letter) where
        abbrev pub after : Parts
        after = record {
          plan = w.catalog;
          rule = w.rule;
          nodes = w.nodes;
          started = started_in w;
          requests = w.requests;
          sent = sent_in w ++ map message_of out;
          flags = slice_set w.given.items k true ++ replicate (length (map message_of out)) false;
          seats = slice_set w.seats.items l.addressee s1;
        }

        pub given_on : s1.bench.site ≡ s0.bench.site → (s1.carried ≡ s0.carried) × (s1.entries ≡ s0.entries) → given_of s1 ≡ given_of s0 ++ k ∷ []
            → Shows w.catalog w.rule same_message (desk_with (net_in w) desk m) s1.bench → map message_of out ≡ news (net_in w) desk m
            → (v : World) → parts_in v ≡ after → IsOn start (step (net_in w) u (Deliver k)) v l.addressee
        given_on site same given shows mails v parts =
            let settled : settled_of s1 ≡ settled_of s0 = λ i. map (λ batch. map entry_of batch.items) (same.1 i).items in
            let many : length s1.entries.items ≡ length s0.entries.items = λ i. length (same.1 i).items in
            subst (λ e. IsOn start e v l.addressee) (sym (ap (deliver (net_in w) u) message_at))
            (on_parts v after parts start (deliver (net_in w) u (Some m)) l.addressee
            (all_kept w.catalog w.rule w.nodes start (started_in w) w.requests (sent_in w) w.given.items w.seats.items r.keeps r.reached k m message_at s0 seat
            batch none s1 (map message_of out) site same.0 settled many given shows mails)
            (is_going w.catalog w.rule w.nodes start (started_in w) w.requests (sent_in w) w.given.items w.seats.items r.keeps r.reached k m message_at s0 seat
            batch none s1 (map message_of out) site same.0 settled many given shows mails))

-- ---- what the code looks at

module _ (start : Database) (w : World) (r : IsReady start w) (k : ℕ) (lt : k < length w.sent.items) where
  pub flagged_there : k < length w.given.items
  flagged_there = let l = get_above w.sent.items k lt in flag_there start w r k l.0 l.1

  pub seat_of : (l : Letter) → slice_get w.sent.items k ≡ Some l → (s : Seat) × (slice_get w.seats.items l.addressee ≡ Some s)
  seat_of l at = get_above w.seats.items l.addressee (to_seat start w r k l at)

  pub old_same : IsOld k w → world_in start w ≡ step (net_in w) (world_in start w) (Deliver k)
  old_same old =
      let l = get_above w.sent.items k lt in
      let s = seat_of l.0 l.1 in
      sym (unchanged start w r k l.0 l.1 s.0 s.1 (old l.0 s.0 l.1 s.1))

-- by the message and its node
module _ (w : World) (k : ℕ) (l0 : Letter) (at : slice_get w.sent.items k ≡ Some l0) (s0 : Seat) (seat : slice_get w.seats.items l0.addressee ≡ Some s0) where
  both_are : (l : Letter) (s : Seat) → slice_get w.sent.items k ≡ Some l → slice_get w.seats.items l.addressee ≡ Some s → (l0 ≡ l) × (s0 ≡ s)
  both_are l s a b =
      let same = same_Some l0 l (sym at ∙ a) in
      (same, same_Some s0 s (sym seat ∙ ap (λ (x : Letter). slice_get w.seats.items x.addressee) same ∙ b))

  pub is_other : (l0.batch ≡ s0.bench.site.batch → ⊥) → IsOld k w
  is_other off = λ l s a b. let same = both_are l s a b in inr
      (λ e. off (ap (λ (x : Letter). x.batch) same.0 ∙ e ∙ sym (ap (λ (x : Seat). x.bench.site.batch) same.1)))

  pub is_current : slice_index_or w.given.items k false ≡ false → l0.batch ≡ s0.bench.site.batch → IsNew k w
  is_current none e = λ l s a b. let same = both_are l s a b in
      (none, sym (ap (λ (x : Letter). x.batch) same.0) ∙ e ∙ ap (λ (x : Seat). x.bench.site.batch) same.1)

-- no message has that number
pub none_sent : (start : Database) (w : World) (k : ℕ) → length w.sent.items ≤ k → world_in start w ≡ step (net_in w) (world_in start w) (Deliver k)
none_sent start w k le =
    let long = length-map w.sent.items message_of in
    sym (ap (deliver (net_in w) (world_in start w)) (past (sent_in w) k (omega arith)))
  where
    past : (ms : List (Message Key Cells)) (k : ℕ) → length ms ≤ k → slice_get ms k ≡ None
    past [] k le = refl
    past (m ∷ ms) zero le = absurd (omega arith)
    past (m ∷ ms) (suc k) le = past ms k (omega arith)

-- it was given before
pub is_given : (w : World) (k : ℕ) → slice_index_or w.given.items k false ≡ true → IsOld k w
is_given w k flag = λ l s a b. inl flag
