-- The start of a batch, node after node.
use Rattle.std.proofs.Common.{◌≡◌, ℕ, zero, suc, ◌+◌, ◌-◌, ◌<◌, ◌≤◌, ◌⊎◌, inl, inr, ⊎_elim, List, [], ◌∷◌, ◌++◌, map, length, true, false, Some, None}
use Rattle.std.proofs.Common.{refl, sym, ap, ◌∙◌, subst, Ordering, arith, Contains}
use Rattle.std.specs.Prelude.{if◌then◌else◌, slice_index_or}
use Rattle.std.specs.List.{All, range_with_len}
use Rattle.std.specs.Option.{option_map}
use Rattle.std.specs.FinMap.{FinMap}
use Rattle.std.proofs.lemmas.Option.{none-some, same_Some, slice_get-get_or}
use Rattle.std.proofs.lemmas.List.{get_or_append_left, length_push}
use Rattle.std.proofs.lemmas.List.Elements.{All-contains, All-nil, All-cons, All-map, All-append}
use Rattle.std.specs.FinMap as fin
use Rattle.node_rules.specs.Messages.{Ask, Told, Marks, Fate, Message}
use Rattle.node_rules.specs.Nets.{Net, IsNet, owner, tids, all_nodes}
use Rattle.node_rules.specs.Dues.{Desk, message, part_at, sets_on, told_rows, wanted, marks_due, run_due, own_requests, asked_in, told_due, has_marks, least_due}
use Rattle.node_rules.specs.Dues.{has_holders, verdict_here, fate_due, due, is_over}
use Rattle.node_rules.specs.Worlds.{Node, World, desk_for, desk_of, send, complete, turns, turn, turn_all}
use Rattle.node_rules.specs.Truths.{IsSent}
use Rattle.node_rules.specs.Laws.{IsReached}
use Rattle.node_turns.specs.Goings.{IsStarting}
use Rattle.node_rules.proofs.Picks.{All-flat_map, All-filter_map}
use Rattle.node_rules.proofs.News.{new_all}
use Rattle.node_rules.proofs.Leads.{turns_leads, turns_else}
use Rattle.node_rules.proofs.Resting.{rests_on}
use Rattle.node_rules.proofs.Holding.{get_has, turns_keep, started_holds}

module _ {K V Q A : Type 0} {R : K → K → Ordering} (net : Net R V Q A) where
  -- what is due at a node is its own
  abbrev Mine : ℕ → Message K V → Type 0
  Mine n x = x.sender ≡ n

  module _ (desk : Desk R V Q) where
    run_mine : (e : ℕ × Q) → All (Mine desk.node) (run_due net desk e)
    run_mine e = elim (wanted net desk e.0 e.1) as
        (λ r. All (Mine desk.node) (elim r [ None ↦ marks_due net desk e.0 e.1 | Some k ↦ message net desk e.0 (net.home k) (Ask k) ∷ [] ])) [
          | None ↦ All-map (Mine desk.node) (λ to. message net desk e.0 to (Marks (part_at net to (sets_on net (told_rows net desk e.0) e.1)))) (all_nodes net)
              (λ k d lt. refl)
          | Some k ↦ All-cons (Mine desk.node) (message net desk e.0 (net.home k) (Ask k)) [] refl (All-nil (Mine desk.node))
        ]

    abbrev tell : Message K V → K → Message K V
    tell m k = message net desk m.tid (owner net m.tid) (Told k (fin.get desk.rows k))

    told_mine : (m y : Message K V) → told_due net desk m ≡ Some y → Mine desk.node y
    told_mine m y e = elim (asked_in net desk m.content) as (λ r. option_map (tell m) r ≡ Some y → Mine desk.node y) [
      | None ↦ λ e. absurd (none-some y e)
      | Some k ↦ λ e. ap (λ (x : Message K V). x.sender) (sym (same_Some (tell m k) y e))
    ] e

    least_mine : All (Mine desk.node) (if has_marks net desk then map (least_due net desk) (tids desk.list) else [])
    least_mine = elim (has_marks net desk) as (λ b. All (Mine desk.node) (if b then map (least_due net desk) (tids desk.list) else [])) [
      | true ↦ All-map (Mine desk.node) (least_due net desk) (tids desk.list) (λ k d lt. refl)
      | false ↦ All-nil (Mine desk.node)
    ]

    fate_mine : (e : ℕ × Q) → All (Mine desk.node) (fate_due net desk e)
    fate_mine e = elim (has_holders net desk e.0) as
        (λ b. All (Mine desk.node) (if b then map (λ node. message net desk e.0 node (Fate (verdict_here net desk e.0))) (all_nodes net) else [])) [
          | true ↦ All-map (Mine desk.node) (λ node. message net desk e.0 node (Fate (verdict_here net desk e.0))) (all_nodes net) (λ k d lt. refl)
          | false ↦ All-nil (Mine desk.node)
        ]

    due_mine : All (Mine desk.node) (due net desk)
    due_mine =
        let runs = All-flat_map (Mine desk.node) (run_due net desk) (own_requests net desk) (λ k d lt. run_mine (slice_index_or (own_requests net desk) k d)) in
        let tolds = All-filter_map (Mine desk.node) (told_due net desk) desk.given (λ k d lt y e. told_mine (slice_index_or desk.given k d) y e) in
        let fates = All-flat_map (Mine desk.node) (fate_due net desk) (own_requests net desk)
        (λ k d lt. fate_mine (slice_index_or (own_requests net desk) k d)) in
        All-append (Mine desk.node) _ _ (All-append (Mine desk.node) _ _ (All-append (Mine desk.node) _ _ runs tolds) least_mine) fates

  -- a turn sends the node's own messages
  abbrev From : World R V Q A → ℕ → Message K V → Type 0
  From w n x = Contains w.sent x ⊎ (x.sender ≡ n)

  send_mine : (w v : World R V Q A) (n : ℕ) → All (From w n) v.sent → All (From w n) (send net v n).sent
  send_mine w v n a = new_all net (From w n) v.sent (due net (desk_of net v n)) a (λ k d lt. inr (due_mine (desk_of net v n) k d lt))

  turns_mine : (most : ℕ) (w v : World R V Q A) (n : ℕ) → All (From w n) v.sent → All (From w n) (turns net most v n).sent
  turns_mine zero w v n a = a
  turns_mine (suc most) w v n a = elim (is_over net (desk_of net v n)) as
      (λ b. All (From w n) (if b then turns net most (complete net (send net v n) n) n else send net v n).sent) [
        | true ↦ turns_mine most w (complete net (send net v n) n) n (send_mine w v n a)
        | false ↦ send_mine w v n a
      ]

  turn_mine : (w : World R V Q A) (n : ℕ) (x : Message K V) → Contains (turn net w n).sent x → From w n x
  turn_mine w n x c = All-contains (From w n) (turn net w n).sent x
      (turns_mine (length w.started - (w.node n).done) w w n (λ k d lt. inl (get_has w.sent k (slice_index_or w.sent k d) (slice_get-get_or w.sent k d lt)))) c

module _ {K V Q A : Type 0} {R : K → K → Ordering} (net : Net R V Q A) (is : IsNet net) (start : FinMap R V) where
  pub next_node : (end w : World R V Q A) (n old : ℕ) → IsStarting net start end w n old → n < net.nodes → IsStarting net start end (turn net w n) (n + 1) old
  next_node end w n old s below =
      let most = length w.started - (w.node n).done in
      let leads = turns_leads net most w n in
      record {
        long = ap length leads.started ∙ s.long;
        holds = turns_keep net is start most w n below s.holds refl;
        rests = λ i le lt less.
            let same = turns_else net most w n i (λ e. absurd (omega arith)) in
            let done = ap (λ (x : Node R V Q A). x.done) same in
            rests_on net is w (turn net w n) i leads same (s.rests i (omega arith) lt (omega arith));
        begins = λ i le lt at.
            let same = turns_else net most w n i (λ e. absurd (omega arith)) in
            let done = ap (λ (x : Node R V Q A). x.done) same in
            let b = s.begins i (omega arith) lt (omega arith) in
            record {
              nothing = ap (λ (x : Node R V Q A). x.given) same ∙ b.nothing;
              unsent = λ x c from. ⊎_elim
                  (λ old. let low = b.unsent x old from in omega arith)
                  (λ mine. absurd (omega arith))
                  (turn_mine net w n x c);
            };
        reach = λ i le lt.
            let same = turns_else net most w n i (λ e. absurd (omega arith)) in
            let done = ap (λ (x : Node R V Q A). x.done) same in
            let low = s.reach i (omega arith) lt in
            omega arith;
        to = s.to ∙ (let e : net.nodes - n ≡ suc (net.nodes - (n + 1)) = omega arith in ap (λ k. turn_all net w (range_with_len n k)) e);
      }

  pub all_nodes_done : (end w : World R V Q A) (n old : ℕ) → IsStarting net start end w n old → net.nodes ≤ n → end ≡ w
  all_nodes_done end w n old s le = s.to ∙ (let e : net.nodes - n ≡ zero = omega arith in ap (λ k. turn_all net w (range_with_len n k)) e)

  -- at first
  pub is_starting : (w : World R V Q A) (new : List Q) → IsReached net start w
      → IsStarting net start (turn_all net (record { started = w.started ++ new ∷ []; sent = w.sent; node = w.node }) (all_nodes net))
      (record { started = w.started ++ new ∷ []; sent = w.sent; node = w.node }) 0 (length w.started)
  is_starting w new r =
      let v : World R V Q A = record { started = w.started ++ new ∷ []; sent = w.sent; node = w.node } in
      let back : net.nodes ≡ net.nodes - 0 = omega arith in
      record {
        long = length_push w.started new;
        holds = started_holds net is start w new r.holds;
        rests = λ i le lt less.
            let old = r.rests i lt in
            let list = get_or_append_left w.started (new ∷ []) [] (w.node i).done less in
            let desk : desk_for net w.started i (w.node i) ≡ desk_for net (w.started ++ new ∷ []) i (w.node i)
            = λ j. record {
              node = i;
              rows = (w.node i).rows;
              batch = (w.node i).done + 1;
              list = (w.node i).carried ++ sym list j;
              given = (w.node i).given;
            } in
            record {
              sent_all = λ _. subst (λ d. All (Contains w.sent) (due net d)) desk (old.sent_all less);
              not_over = λ _. ap (is_over net) (sym desk) ∙ old.not_over less;
            };
        begins = λ i le lt at. record {
          nothing = none_given (w.node i).given (λ k d below.
              let g = (r.holds.nodes i lt).given k d below in
              let s = All-contains (IsSent net start w.started w.node) w.sent _ r.holds.sent g.sent_once in
              let high = s.high in
              let batch = g.batch in
              absurd (omega arith));
          unsent = λ x c from. let s = All-contains (IsSent net start w.started w.node) w.sent x r.holds.sent c in let high = s.high in omega arith;
        };
        reach = λ i le lt. (r.holds.nodes i lt).done;
        to = ap (λ k. turn_all net v (range_with_len 0 k)) back;
      }
    where
      none_given : (ms : List (Message K V)) → All (λ _. ⊥) ms → ms ≡ []
      none_given [] a = refl
      none_given (m ∷ ms) a = absurd (a 0 m (omega arith))
