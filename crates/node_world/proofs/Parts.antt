-- What code shows of all nodes, as one value: whatever holds of it holds where code shows the same.
use Rattle.std.proofs.Common.{◌≡◌, ℕ, ◌+◌, ◌-◌, List, [], ◌∷◌, ◌++◌, length, Bool, refl, sym, ap, ◌∙◌, subst, arith}
use Rattle.std.specs.Prelude.{slice_get}
use Rattle.aria_base.specs.Orders.{key_cmp, Cells, Database}
use Rattle.aria_base.specs.declared.keys.Key.{Key}
use Rattle.aria_base.specs.declared.calls.Request.{Request}
use Rattle.batch_rules.specs.declared.verdicts.Rule.{Rule}
use Rattle.proc_lang.specs.Catalogs.{Plan}
use Rattle.proc_lang.specs.declared.ends.End.{End}
use Rattle.node_rules.specs.Messages.{Message}
use Rattle.node_rules.specs.Nets.{Net, all_nodes}
use Rattle.node_rules.specs.Worlds.{World as Definition}
use Rattle.node_rules.specs.Worlds.{NetEvent, at_first, turn, turn_all, step, Start, Deliver}
use Rattle.node_rules.specs.Laws.{IsReached}
use Rattle.node_rules.proofs.Reached.{first_reached, step_reached}
use Rattle.node_batch.proofs.Sames.{is_net}
use Rattle.node_rules.proofs.Leads.{turns_leads, deliver_leads}
use Rattle.node_batch.specs.Letters.{net_of}
use Rattle.node_batch.specs.Sames.{same_message}
use Rattle.node_turns.specs.Goings.{IsGoing, IsStarting}
use Rattle.node_seats.specs.Nodes.{total, world_of, AreKept}
use Rattle.node_world.specs.Worlds.{net_in, started_in, sent_in, world_in, Keeps}
use Rattle.node_world.specs.Steps.{IsFixed, IsReady, IsOn, IsStarted}
use Rattle.node_seats.specs.declared.seats.Seat.{Seat}
use Rattle.node_world.specs.declared.worlds.World.{World}
use Rattle.node_seats.proofs.Lengthening.{total-push}

pub record Parts : Type 0 where
  pub plan : Plan
  pub rule : Rule
  pub nodes : ℕ
  pub started : List (List Request)
  pub requests : ℕ
  pub sent : List (Message Key Cells)
  pub flags : List Bool
  pub seats : List Seat

abbrev pub parts_in : World → Parts
parts_in w = record {
  plan = w.catalog;
  rule = w.rule;
  nodes = w.nodes;
  started = started_in w;
  requests = w.requests;
  sent = sent_in w;
  flags = w.given.items;
  seats = w.seats.items;
}

abbrev pub net_by : Parts → Net key_cmp Cells Request End
net_by p = net_of p.plan p.rule p.nodes same_message

abbrev pub world_by : Database → Parts → Definition key_cmp Cells Request End
world_by start p = world_of p.plan p.rule p.nodes start p.started p.sent p.seats

abbrev pub KeptBy : Database → Parts → Type 0
KeptBy start p = AreKept p.plan p.rule p.nodes start p.started p.requests p.sent p.flags p.seats

-- other code shows this
module _ (w : World) (p : Parts) (same : parts_in w ≡ p) (start : Database) where
  pub net_same : net_in w ≡ net_by p
  net_same = ap net_by same

  pub kept_on : KeptBy start p → KeptBy start (parts_in w)
  kept_on k = subst (KeptBy start) (sym same) k

  module _ (end : Definition key_cmp Cells Request End) (n : ℕ) where
    pub on_parts : KeptBy start p → IsGoing (net_by p) start end (world_by start p) n → IsOn start end w n
    on_parts k g = record {
      keeps = kept_on k;
      going = subst (λ p. IsGoing (net_by p) start end (world_by start p) n) (sym same) g;
    }

    pub started_parts : (old : ℕ) → KeptBy start p → IsStarting (net_by p) start end (world_by start p) n old → IsStarted start end w n old
    started_parts old k s = record {
      keeps = kept_on k;
      starting = subst (λ p. IsStarting (net_by p) start end (world_by start p) n old) (sym same) s;
    }

-- the same, part by part
pub same_parts : (w : World) (p : Parts) → w.catalog ≡ p.plan → w.rule ≡ p.rule → w.nodes ≡ p.nodes → started_in w ≡ p.started
    → w.requests ≡ p.requests → sent_in w ≡ p.sent → w.given.items ≡ p.flags → w.seats.items ≡ p.seats → parts_in w ≡ p
same_parts w p plan rule nodes started requests sent flags seats = λ i. record {
  plan = plan i;
  rule = rule i;
  nodes = nodes i;
  started = started i;
  requests = requests i;
  sent = sent i;
  flags = flags i;
  seats = seats i;
}

-- the nets of an event
pub net_fixed : (old new : World) → IsFixed old new → net_in new ≡ net_in old
net_fixed old new f = λ i. net_of (f.catalog i) (f.rule i) (f.nodes i) same_message

pub fixed_both : (a b c : World) → IsFixed a b → IsFixed b c → IsFixed a c
fixed_both a b c f g = record { catalog = g.catalog ∙ f.catalog; rule = g.rule ∙ f.rule; nodes = g.nodes ∙ f.nodes }

pub fixed_self : (a : World) → IsFixed a a
fixed_self a = record { catalog = refl; rule = refl; nodes = refl }

-- ---- how many requests were started

turned_started : (net : Net key_cmp Cells Request End) (w : Definition key_cmp Cells Request End) (ns : List ℕ) → (turn_all net w ns).started ≡ w.started
turned_started net w [] = refl
turned_started net w (n ∷ ns) = turned_started net (turn net w n) ns ∙ (turns_leads net (length w.started - (w.node n).done) w n).started

module _ (start : Database) (w v : World) (before : Keeps start w) (after : Keeps start v) where
  pub same_requests : (k : ℕ) → world_in start v ≡ step (net_in w) (world_in start w) (Deliver k) → v.requests ≡ w.requests
  same_requests k e =
      let same : started_in v ≡ started_in w = ap (λ (d : Definition key_cmp Cells Request End). d.started) e
      ∙ (deliver_leads (net_in w) (world_in start w) (slice_get (sent_in w) k)).started in
      after.counted ∙ ap total same ∙ sym before.counted

  pub more_requests : (new : List Request) → world_in start v ≡ step (net_in w) (world_in start w) (Start new) → v.requests ≡ w.requests + length new
  more_requests new e =
      let same : started_in v ≡ started_in w ++ new ∷ [] = ap (λ (d : Definition key_cmp Cells Request End). d.started) e
      ∙ turned_started (net_in w) (record { started = started_in w ++ new ∷ []; sent = sent_in w; node = (world_in start w).node }) (all_nodes (net_in w)) in
      let sum = total-push (started_in w) new in
      let old = before.counted in
      let all = after.counted ∙ ap total same in
      omega arith

-- ---- between two events

pub begun_ready : (start : Database) (w : World) → Keeps start w → world_in start w ≡ at_first (net_in w) start → IsReady start w
begun_ready start w keeps e = record {
  keeps = keeps;
  reached = subst (IsReached (net_in w) start) (sym e) (first_reached (net_in w) (is_net w.catalog w.rule w.nodes keeps.some_node) start);
}

pub step_ready : (start : Database) (w v : World) (e : NetEvent Request) → IsReady start w → IsFixed w v → Keeps start v
    → world_in start v ≡ step (net_in w) (world_in start w) e → IsReady start v
step_ready start w v e r f keeps same = record {
  keeps = keeps;
  reached = subst (λ (p : Net key_cmp Cells Request End × Definition key_cmp Cells Request End). IsReached p.0 start p.1)
      (λ i. (sym (net_fixed w v f) i, sym same i))
      (step_reached (net_in w) (is_net w.catalog w.rule w.nodes r.keeps.some_node) start (world_in start w) e r.reached);
}
