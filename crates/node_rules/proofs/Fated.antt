-- A fate goes to all nodes at once, and a node completes a batch by the fates alone.
use Rattle.std.proofs.Common.{◌≡◌, ℕ, zero, suc, ◌+◌, ◌-◌, ◌<◌, ◌≤◌, ⊎_elim, List, [], ◌∷◌, ◌++◌, map, length, true, false, Some, None, refl, sym, ap, ◌∙◌}
use Rattle.std.proofs.Common.{subst, Ordering, arith, Contains}
use Rattle.std.specs.Prelude.{slice_get, slice_index_or, is_some, if◌then◌else◌}
use Rattle.std.specs.Option.{option_map}
use Rattle.std.specs.List.{All}
use Rattle.std.specs.FinMap as fin
use Rattle.std.specs.FinMap.{FinMap}
use Rattle.std.proofs.lemmas.Bool.{cases_eq, cases_lt, false≢true}
use Rattle.std.proofs.lemmas.Option.{same_Some}
use Rattle.std.proofs.lemmas.List.Elements.{All-nil, All-cons, All-append, All-map, All-contains, All-contains_itself, All-head, All-tail}
use Rattle.node_rules.specs.Messages.{Content, Ask, Told, Marks, Least, Fate, Message, fate_in, of_tid}
use Rattle.node_rules.specs.Nets.{Net, IsNet, owner, all_nodes, tids}
use Rattle.node_rules.specs.Dues.{Desk, message, own_requests, wanted, marks_due, run_due, asked_in, told_due, has_marks, least_due, has_holders}
use Rattle.node_rules.specs.Dues.{verdict_here, fate_due, due, fate_of, is_over}
use Rattle.node_rules.specs.Worlds.{Node, World, NetEvent, Start, Deliver, with_node, with_all_new, at_first, desk_of, send, completed, complete, turns}
use Rattle.node_rules.specs.Worlds.{turn, turn_all, is_current, given_also, keep, deliver, step, steps}
use Rattle.node_rules.specs.Truths.{Course, course, IsGiven, Holds, to_node, WasFated, Fated}
use Rattle.node_rules.proofs.Picks.{All-flat_map, All-filter_map, list_all-all, some_is, has_number}
use Rattle.node_rules.proofs.News.{new_all, old_all, has_all}
use Rattle.node_rules.proofs.Courses.{course-push}
use Rattle.node_rules.proofs.Growing.{with_here, with_else}
use Rattle.node_rules.proofs.Given.{of_tid_some, same_list}
use Rattle.node_rules.proofs.Members.{flat_has, picked, due_fate}
use Rattle.node_rules.proofs.Holding.{get_has, send_keeps, complete_keeps, keep_keeps, to_below, started_holds, all_below, first_holds}

pub has_map : {X Y : Type 0} (f : X → Y) (xs : List X) (x : X) → Contains xs x → Contains (map f xs) (f x)
has_map f [] x c = absurd (let lt = c.1 in omega arith)
has_map f (z ∷ zs) x (zero, lt, e) = (zero, omega arith, ap f e)
has_map f (z ∷ zs) x (suc k, lt, e) = let rest = has_map f zs x (k, omega arith, e) in let low = rest.1 in (suc rest.0, omega arith, rest.2)

module _ {K V Q A : Type 0} {R : K → K → Ordering} (net : Net R V Q A) (desk : Desk R V Q) where
  -- a fate that is due is due to all nodes
  abbrev Spread : Message K V → Type 0
  Spread m = is_some (fate_in m.content) ≡ true → (n : ℕ) → n < net.nodes → Contains (due net desk) (to_node net m n)

  run_spread : (e : ℕ × Q) → All Spread (run_due net desk e)
  run_spread e = elim (wanted net desk e.0 e.1) as
      (λ r. All Spread (elim r [ None ↦ marks_due net desk e.0 e.1 | Some k ↦ message net desk e.0 (net.home k) (Ask k) ∷ [] ])) [
        | None ↦ All-map Spread _ (all_nodes net) (λ k d lt f. absurd (false≢true f))
        | Some k ↦ All-cons Spread _ [] ((λ f. absurd (false≢true f))) (All-nil Spread)
      ]

  told_case : (m : Message K V) (content : Content K V) (y : Message K V)
      → option_map (λ k. message net desk m.tid (owner net m.tid) (Told k (fin.get desk.rows k))) (asked_in net desk content) ≡ Some y → Spread y
  told_case m (Ask k) y e = subst Spread (same_Some (message net desk m.tid (owner net m.tid) (Told k (fin.get desk.rows k))) y e)
      ((λ f. absurd (false≢true f)))
  told_case m (Told k row) y e = cc
  told_case m (Marks sets) y e = cc
  told_case m (Least holders) y e = cc
  told_case m (Fate verdict) y e = cc

  told_spread : (m y : Message K V) → told_due net desk m ≡ Some y → Spread y
  told_spread m y e = told_case m m.content y e

  leasts_spread : All Spread (if has_marks net desk then map (least_due net desk) (tids desk.list) else [])
  leasts_spread = elim (has_marks net desk) as (λ b. All Spread (if b then map (least_due net desk) (tids desk.list) else [])) [
    | true ↦ All-map Spread (least_due net desk) (tids desk.list) (λ k d lt f. absurd (false≢true f))
    | false ↦ All-nil Spread
  ]

  fates_spread : (e : ℕ × Q) → Contains (own_requests net desk) e → All Spread (fate_due net desk e)
  fates_spread e own = elim (has_holders net desk e.0) as (λ b. has_holders net desk e.0 ≡ b
      → All Spread (if b then map (λ to. message net desk e.0 to (Fate (verdict_here net desk e.0))) (all_nodes net) else [])) [
        | true ↦ λ t. All-map Spread (λ to. message net desk e.0 to (Fate (verdict_here net desk e.0))) (all_nodes net) (λ k d lt _ n below.
            due_fate net desk _ (flat_has (fate_due net desk) (own_requests net desk) e _ own
            (subst (λ b. Contains (if b then map (λ to. message net desk e.0 to (Fate (verdict_here net desk e.0))) (all_nodes net) else [])
            (message net desk e.0 n (Fate (verdict_here net desk e.0)))) (sym t)
            (has_map (λ to. message net desk e.0 to (Fate (verdict_here net desk e.0))) (all_nodes net) n
            (has_number 0 net.nodes n (omega arith) (omega arith))))))
        | false ↦ λ t. All-nil Spread
      ] refl

  pub due_spread : All Spread (due net desk)
  due_spread = All-append Spread _ _ (All-append Spread _ _ (All-append Spread _ _
      (All-flat_map Spread (run_due net desk) (own_requests net desk) (λ k d lt. run_spread _))
      (All-filter_map Spread (told_due net desk) desk.given (λ k d lt. told_spread (slice_index_or desk.given k d))))
      leasts_spread)
      (All-flat_map Spread (fate_due net desk) (own_requests net desk) (λ k d lt. fates_spread _ (All-contains_itself (own_requests net desk) k d lt)))

module _ {K V Q A : Type 0} {R : K → K → Ordering} (net : Net R V Q A) (is : IsNet net) (begun : FinMap R V) where
  abbrev pub Both : World R V Q A → Type 0
  Both w = Holds net begun w × Fated net begun w

  fated_on : (sent more : List (Message K V)) (batch tid n : ℕ) → ((m : Message K V) → Contains sent m → Contains more m) → WasFated net sent batch tid n
      → WasFated net more batch tid n
  fated_on sent more batch tid n f was =
      record {
        fate = was.fate;
        among = f was.fate was.among;
        batch_is = was.batch_is;
        tid_is = was.tid_is;
        addressee = was.addressee;
        is_fate =
            was.is_fate;
      }

  send_fated : (w : World R V Q A) (n : ℕ) → Fated net begun w → Fated net begun (send net w n)
  send_fated w n f =
      let now = due net (desk_of net w n) in
      let old = old_all net w.sent now in
      record {
        spread = new_all net (λ m. is_some (fate_in m.content) ≡ true → (i : ℕ) → i < net.nodes
            → Contains (with_all_new net w.sent now) (to_node net m i)) w.sent now
            (λ k d lt fate i below. old _ (f.spread k d lt fate i below))
            (λ k d lt fate i below. All-contains (Contains (with_all_new net w.sent now)) now _ (has_all net is w.sent now)
            (due_spread net (desk_of net w n) k d lt fate i below));
        past = λ i below d lt tid low high. fated_on w.sent _ (d + 1) tid i old (f.past i below d lt tid low high);
      }

  -- one node changed, which completed no less
  changed_fated : (w : World R V Q A) (n : ℕ) (x : Node R V Q A) → Fated net begun w
      → (n < net.nodes → (d : ℕ) → d < x.done → (tid : ℕ) → 1 ≤ tid → tid < 1 + length (course net begun w.started d).list
      → WasFated net w.sent (d + 1) tid n)
      → Fated net begun (record { started = w.started; sent = w.sent; node = with_node w.node n x })
  changed_fated w n x f past = record {
    spread = f.spread;
    past = λ i below. ⊎_elim
        (λ same. subst (λ (y : Node R V Q A). (d : ℕ) → d < y.done → (tid : ℕ) → 1 ≤ tid → tid < 1 + length (course net begun w.started d).list
        → WasFated net w.sent (d + 1) tid i)
        (sym (ap (with_node w.node n x) same ∙ with_here net w.started w.node n x))
        (subst (λ i. (d : ℕ) → d < x.done → (tid : ℕ) → 1 ≤ tid → tid < 1 + length (course net begun w.started d).list
        → WasFated net w.sent (d + 1) tid i) (sym same) (past (subst (λ i. i < net.nodes) same below))))
        (λ off. subst (λ (y : Node R V Q A). (d : ℕ) → d < y.done → (tid : ℕ) → 1 ≤ tid → tid < 1 + length (course net begun w.started d).list
        → WasFated net w.sent (d + 1) tid i)
        (sym (with_else net w.started w.node n x i off)) (f.past i below))
        (cases_eq i n);
  }

  module _ (w : World R V Q A) (n : ℕ) (below : n < net.nodes) (h : Holds net begun w) (f : Fated net begun w)
      (over : is_over net (desk_of net w n) ≡ true) where
    this_fated : (tid : ℕ) → 1 ≤ tid → tid < 1 + length (course net begun w.started (w.node n).done).list → WasFated net w.sent ((w.node n).done + 1) tid n
    this_fated tid low high =
        let long = ap length (same_list net is begun w h n below) in
        let has = All-contains (λ tid. is_some (fate_of net (desk_of net w n) tid) ≡ true) (tids (desk_of net w n).list) tid
        (list_all-all (λ tid. is_some (fate_of net (desk_of net w n) tid)) _ over) (has_number 1 _ tid low (omega arith)) in
        let v = some_is (fate_of net (desk_of net w n) tid) has in
        let at = picked (of_tid fate_in tid) (w.node n).given v.0 v.1 in
        let g = All-contains (IsGiven net w.sent n (w.node n).done) (w.node n).given at.0 (h.nodes n below).given at.1 in
        let t = of_tid_some fate_in tid at.0 v.0 at.2 in
        record { fate = at.0; among = g.sent_once; batch_is = g.batch; tid_is = t.0; addressee = g.addressee; is_fate = ap is_some t.1 }

    complete_fated : Fated net begun (complete net w n)
    complete_fated = changed_fated w n (completed net w n) f (λ _ d lt. ⊎_elim
        (λ low. f.past n below d low)
        (λ high. let same : (w.node n).done ≡ d = omega arith in
        subst (λ d. (tid : ℕ) → 1 ≤ tid → tid < 1 + length (course net begun w.started d).list → WasFated net w.sent (d + 1) tid n) same this_fated)
        (cases_lt d (w.node n).done))

  turns_both : (most : ℕ) (w : World R V Q A) (n : ℕ) → n < net.nodes → Both w → most ≡ length w.started - (w.node n).done → Both (turns net most w n)
  turns_both zero w n below h e = h
  turns_both (suc most) w n below h e =
      let behind : (w.node n).done < length w.started = omega arith in
      let held = send_keeps net is begun w n below behind h.0 in
      let fated = send_fated w n h.1 in
      elim (is_over net (desk_of net w n)) as (λ b. is_over net (desk_of net w n) ≡ b
      → Both (if b then turns net most (complete net (send net w n) n) n else send net w n)) [
        | true ↦ λ t. turns_both most (complete net (send net w n) n) n below
            (complete_keeps net is begun (send net w n) n below behind held t, complete_fated (send net w n) n below held fated t)
            (let up = ap (λ (x : Node R V Q A). x.done) (with_here net w.started w.node n (completed net (send net w n) n)) in omega arith)
        | false ↦ λ t. (held, fated)
      ] refl

  turn_all_both : (ns : List ℕ) (w : World R V Q A) → All (λ n. n < net.nodes) ns → Both w → Both (turn_all net w ns)
  turn_all_both [] w a h = h
  turn_all_both (n ∷ ns) w a h = turn_all_both ns (turn net w n) (All-tail (λ n. n < net.nodes) n ns a)
      (turns_both _ w n (All-head (λ n. n < net.nodes) n ns a) h refl)

  keep_fated : (w : World R V Q A) (m : Message K V) → Fated net begun w → Fated net begun (keep net w m)
  keep_fated w m f = elim (is_current net w m) as
      (λ b. Fated net begun (record {
        started = w.started;
        sent = w.sent;
        node =
            if b then with_node w.node m.addressee (given_also net (w.node m.addressee) m) else w.node;
      })) [
        | true ↦ changed_fated w m.addressee (given_also net (w.node m.addressee) m) f (λ below. f.past m.addressee below)
        | false ↦ f
      ]

  deliver_both : (w : World R V Q A) (k : ℕ) → Both w → Both (deliver net w (slice_get w.sent k))
  deliver_both w k h = elim (slice_get w.sent k) as (λ r. slice_get w.sent k ≡ r → Both (deliver net w r)) [
    | None ↦ λ e. h
    | Some m ↦ λ e.
        let sent = get_has w.sent k m e in
        turns_both _ (keep net w m) m.addressee (to_below net is begun w m h.0 sent) (keep_keeps net is begun w m h.0 sent, keep_fated w m h.1) refl
  ] refl

  started_fated : (w : World R V Q A) (new : List Q) → Both w → Fated net begun (record { started = w.started ++ new ∷ []; sent = w.sent; node = w.node })
  started_fated w new h = record {
    spread = h.1.spread;
    past = λ n below d lt tid low.
        let done = (h.0.nodes n below).done in
        let same = course-push net begun w.started new d (omega arith) in
        subst (λ (c : Course R V Q). tid < 1 + length c.list → WasFated net w.sent (d + 1) tid n) (sym same) (h.1.past n below d lt tid low);
  }

  pub step_both : (w : World R V Q A) (e : NetEvent Q) → Both w → Both (step net w e)
  step_both w (Start new) h = turn_all_both (all_nodes net) _ (all_below net is begun) (started_holds net is begun w new h.0, started_fated w new h)
  step_both w (Deliver k) h = deliver_both w k h

  pub steps_both : (es : List (NetEvent Q)) (w : World R V Q A) → Both w → Both (steps net w es)
  steps_both [] w h = h
  steps_both (e ∷ es) w h = steps_both es (step net w e) (step_both w e h)

  pub first_both : Both (at_first net begun)
  first_both = (first_holds net is begun, record { spread = All-nil _; past = λ n below d lt. absurd (omega arith) })
