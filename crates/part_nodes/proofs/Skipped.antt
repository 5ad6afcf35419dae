-- Messages that a pass need not deliver: those of batches that their nodes have completed.
use Rattle.std.proofs.Common.{◌≡◌, ℕ, zero, suc, ◌+◌, ◌-◌, ◌<◌, ◌≤◌, List, [], ◌∷◌, ◌++◌, length, false, refl, sym, ap, ◌∙◌, arith}
use Rattle.std.specs.Prelude.{slice_get, nat_lt, ◌&&◌}
use Rattle.std.specs.List.{range_with_len}
use Rattle.std.proofs.lemmas.Bool.{ne_eqb}
use Rattle.std.proofs.lemmas.List.{length-append, length-map}
use Rattle.std.proofs.lemmas.List.Elements.{All-contains}
use Rattle.aria_base.specs.Orders.{Cells, Database}
use Rattle.aria_base.specs.declared.calls.Request.{Request}
use Rattle.aria_base.specs.declared.keys.Key.{Key}
use Rattle.node_rules.specs.Messages.{Message}
use Rattle.node_rules.specs.Nets.{IsNet, all_nodes}
use Rattle.node_rules.specs.Worlds.{NetEvent, Start, Deliver, deliver, step, turn, turn_all, deliver_each, is_behind}
use Rattle.node_rules.specs.Laws.{IsReached}
use Rattle.node_rules.specs.Truths.{IsSent}
use Rattle.node_rules.proofs.Events.{dropped}
use Rattle.node_rules.proofs.Holding.{get_has}
use Rattle.node_rules.proofs.Leads.{turns_leads, deliver_leads}
use Rattle.node_rules.proofs.Picks.{get_above}
use Rattle.node_batch.proofs.Pushed.{range_more}
use Rattle.node_seats.proofs.Keeping.{get_left}
use Rattle.node_world.specs.Steps.{IsReady}
use Rattle.node_world.specs.Worlds.{net_in, started_in, sent_in, world_in}
use Rattle.node_world.specs.declared.worlds.World.{World}
use Rattle.node_world.proofs.Behind.{same_done}
use Rattle.part_nodes.specs.Ready.{ArePast, AreReady}
use Rattle.part_nodes.specs.declared.nodes.Nodes.{Nodes}
use Rattle.part_nodes.proofs.Passes.{N, W, each_push}
use Rattle.part_nodes.proofs.Wholes.{all_done}

-- ---- what holds between two events

pub world_ready : (n : Nodes) → AreReady n → IsReady n.start.value n.world
world_ready n r = record { keeps = r.keeps; reached = r.reached }

pub are_ready : (n : Nodes) → IsReady n.start.value n.world → ArePast n.settled (world_in n.start.value n.world) → AreReady n
are_ready n r p = record { keeps = r.keeps; reached = r.reached; settled = p }

-- before the first message
pub none_past : (w : W) → ArePast 0 w
none_past w = record { sent = omega arith; past = λ k m lt at. absurd (omega arith) }

-- ---- events only add messages, and complete batches

past_on : (many : ℕ) (u v : W) (more : List (Message Key Cells)) → v.sent ≡ u.sent ++ more → ((i : ℕ) → (u.node i).done ≤ (v.node i).done)
    → ArePast many u → ArePast many v
past_on many u v more sent up p =
    let low = p.sent in
    record {
      sent = let long = ap length sent ∙ length-append u.sent more in omega arith;
      past = λ k m lt at.
          let done = p.past k m lt (sym (get_left u.sent more k (omega arith)) ∙ ap (λ s. slice_get s k) (sym sent) ∙ at) in
          let higher = up m.addressee in
          omega arith;
    }

module _ (net : N) (many : ℕ) where
  turn_all_past : (ns : List ℕ) (w : W) → ArePast many w → ArePast many (turn_all net w ns)
  turn_all_past [] w p = p
  turn_all_past (n ∷ ns) w p =
      let l = turns_leads net (length w.started - (w.node n).done) w n in
      turn_all_past ns (turn net w n) (past_on many w (turn net w n) l.sent.0 l.sent.1 l.done p)

  pub step_past : (w : W) (e : NetEvent Request) → ArePast many w → ArePast many (step net w e)
  step_past w (Start new) p = turn_all_past (all_nodes net) (record { started = w.started ++ new ∷ []; sent = w.sent; node = w.node })
      (record { sent = p.sent; past = p.past })
  step_past w (Deliver k) p =
      let l = deliver_leads net w (slice_get w.sent k) in
      past_on many w (deliver net w (slice_get w.sent k)) l.sent.0 l.sent.1 l.done p

-- ---- a pass

module _ (net : N) (is : IsNet net) (start : Database) (w : W) (r : IsReached net start w) (many : ℕ) (p : ArePast many w) where
  changes_nothing : (k : ℕ) → k < many → step net w (Deliver k) ≡ w
  changes_nothing k lt =
      let low = p.sent in
      let m = get_above w.sent k (omega arith) in
      let done = p.past k m.0 lt m.1 in
      ap (deliver net w) m.1
      ∙ dropped net is start w r m.0 (get_has w.sent k m.0 m.1)
      (ap (λ b. b && nat_lt (w.node m.0.addressee).done (length w.started))
      (ne_eqb m.0.batch ((w.node m.0.addressee).done + 1) (λ e. omega arith)))

  -- it may begin behind them
  pub skipped : (n : ℕ) → n ≤ many → deliver_each net w (range_with_len 0 n) ≡ w
  skipped zero le = refl
  skipped (suc n) le = ap (deliver_each net w) (range_more 0 n) ∙ each_push net w (range_with_len 0 n) (0 + n)
      ∙ ap (λ v. step net v (Deliver (0 + n))) (skipped n (omega arith)) ∙ changes_nothing (0 + n) (omega arith)

-- ---- no node is behind

pub all_past : (start : Database) (w : World) (r : IsReady start w) → is_behind (net_in w) (world_in start w) ≡ false
    → (many : ℕ) → many ≡ length (sent_in w) → ArePast many (world_in start w)
all_past start w r off many count = record {
  sent = omega arith;
  past = λ k m lt at.
      let s = All-contains (IsSent (net_in w) start (started_in w) (world_in start w).node) (sent_in w) m r.reached.holds.sent
      (get_has (sent_in w) k m at) in
      let high = s.high in
      let to = s.is.addressee in
      let done = all_done start w r off m.addressee to in
      let same = same_done start w r.keeps m.addressee to in
      let long = length-map w.started.items (λ new. new.items) in
      omega arith;
}
