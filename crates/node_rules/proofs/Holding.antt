-- The invariant: it holds at first, and every event keeps it.
use Rattle.std.proofs.Common.{◌≡◌, ℕ, zero, suc, ◌+◌, ◌-◌, ◌<◌, ⊎_elim, List, [], ◌∷◌, ◌++◌, length, true, false, Some, None, refl, sym, ap, ◌∙◌, subst}
use Rattle.std.proofs.Common.{Ordering, arith, Contains}
use Rattle.std.specs.Prelude.{slice_get, slice_index_or, ◌==◌, if◌then◌else◌}
use Rattle.std.specs.List.{All, filter}
use Rattle.std.specs.FinMap.{FinMap, get-retain_keys}
use Rattle.std.proofs.lemmas.Bool.{cases_eq, cases_lt, and_parts, eqb-true, ltb-true}
use Rattle.std.proofs.lemmas.List.{length_push, get_or_append_left, get_or_push}
use Rattle.std.proofs.lemmas.List.Elements.{All-nil, All-head, All-tail, All-contains}
use Rattle.batch_rules.specs.Touches.{is_among, keys_of}
use Rattle.node_rules.specs.Messages.{Message}
use Rattle.node_rules.specs.Nets.{Net, IsNet, owner, is_at, all_nodes}
use Rattle.node_rules.specs.Dues.{Desk, told, has_marks, has_holders, due, is_over}
use Rattle.node_rules.specs.Worlds.{Node, World, NetEvent, Start, Deliver, with_node, at_first, is_in, desk_of, send, completed, complete, turns, turn}
use Rattle.node_rules.specs.Worlds.{turn_all, is_current, given_also, keep, deliver, start, step, steps}
use Rattle.node_rules.specs.Truths.{Between, Course, between, course, entries_on, next, row_at, IsSent, IsGiven, NodeHolds, Holds}
use Rattle.node_rules.proofs.Picks.{in_range}
use Rattle.node_rules.proofs.News.{new_one, new_all, old_one, old_all}
use Rattle.node_rules.proofs.Courses.{between-more, between-push, course-push}
use Rattle.node_rules.proofs.Growing.{Grows, sent_grows, told_more, marks_more, holders_more, grows_started, grows_with, with_here, with_else}
use Rattle.node_rules.proofs.Sending.{due_sent}
use Rattle.node_rules.proofs.Ending.{rows_are, waiting_are, entries_are}

pub get_has : {X : Type 0} (xs : List X) (k : ℕ) (x : X) → slice_get xs k ≡ Some x → Contains xs x
get_has [] k x e = cc
get_has (y ∷ ys) zero x e = (zero, omega arith, let same : y ≡ x = cc in same)
get_has (y ∷ ys) (suc k) x e = let rest = get_has ys k x e in let lt = rest.1 in (suc rest.0, omega arith, rest.2)

module _ {K V Q A : Type 0} {R : K → K → Ordering} (net : Net R V Q A) (is : IsNet net) (begun : FinMap R V) where
  abbrev Held : World R V Q A → Type 0
  Held w = Holds net begun w

  abbrev One : List (List Q) → List (Message K V) → ℕ → Node R V Q A → Type 0
  One started sent n x = NodeHolds net begun started sent n x

  -- more may have been sent
  one_sent : (started : List (List Q)) (sent more : List (Message K V)) (n : ℕ) (x : Node R V Q A)
      → ((m : Message K V) → Contains sent m → Contains more m) → One started sent n x → One started more n x
  one_sent started sent more n x f h = record {
    done = h.done;
    rows = h.rows;
    carried = h.carried;
    count = h.count;
    entries = h.entries;
    given = λ k d lt. let g = h.given k d lt in record { sent_once = f _ g.sent_once; addressee = g.addressee; batch = g.batch };
  }

  -- one node changed
  one_changed : (w : World R V Q A) (n : ℕ) (x : Node R V Q A) → Held w → One w.started w.sent n x → (i : ℕ) → i < net.nodes
      → One w.started w.sent i (with_node w.node n x i)
  one_changed w n x h one i lt = ⊎_elim
      (λ same. subst (λ i. One w.started w.sent i (with_node w.node n x i)) (sym same)
      (subst (One w.started w.sent n) (sym (with_here net w.started w.node n x)) one))
      (λ off. subst (One w.started w.sent i) (sym (with_else net w.started w.node n x i off)) (h.nodes i lt))
      (cases_eq i n)

  changed : (w : World R V Q A) (n : ℕ) (x : Node R V Q A) → Held w → One w.started w.sent n x → Grows net w.started w.node w.started (λ _. x) n
      → Held (record { started = w.started; sent = w.sent; node = with_node w.node n x })
  changed w n x h one grows = record {
    nodes = one_changed w n x h one;
    sent = λ k d lt. sent_grows net is begun w.started w.started w.node (with_node w.node n x) (grows_with net w.started w.node n x grows) (omega arith)
        (λ _ _. refl) _ (h.sent k d lt);
  }

  -- ---- a node's turn

  pub send_keeps : (w : World R V Q A) (n : ℕ) → n < net.nodes → (w.node n).done < length w.started → Held w → Held (send net w n)
  send_keeps w n below behind h = record {
    nodes = λ i lt. one_sent w.started w.sent _ i (w.node i) (old_all net w.sent (due net (desk_of net w n))) (h.nodes i lt);
    sent = new_all net (IsSent net begun w.started w.node) w.sent (due net (desk_of net w n)) h.sent (due_sent net is begun w h n below behind);
  }

  module _ (w : World R V Q A) (n : ℕ) (below : n < net.nodes) (behind : (w.node n).done < length w.started) (h : Held w)
      (over : is_over net (desk_of net w n) ≡ true) where
    abbrev done : ℕ
    done = (w.node n).done

    later : between net begun w.started (done + 1) ≡ next net (between net begun w.started done) (slice_index_or w.started done [])
    later = between-more net begun w.started done behind

    entry_lists : (d : ℕ) → d < done + 1
        → slice_index_or (completed net w n).entries d [] ≡ filter (λ e. owner net e.judged.tid == n) (entries_on net (course net begun w.started d))
    entry_lists d lt =
        let one = h.nodes n below in
        let count = one.count in
        ⊎_elim
        (λ low. get_or_append_left (w.node n).entries _ [] d (omega arith) ∙ one.entries d low)
        (λ high. let same : done ≡ d = omega arith in
        subst (λ d. slice_index_or (completed net w n).entries d [] ≡ filter (λ e. owner net e.judged.tid == n)
        (entries_on net (course net begun w.started d))) same
        (get_or_push (w.node n).entries _ [] done count ∙ entries_are net is begun w h n below behind over))
        (cases_lt d done)

    one_more : One w.started w.sent n (completed net w n)
    one_more = record {
      done = omega arith;
      rows = λ k. rows_are net is begun w h n below behind over k ∙ ap (λ (b : Between R V Q). row_at net n b.rows k) (sym later);
      carried = waiting_are net is begun w h n below behind over ∙ ap (λ (b : Between R V Q). b.waiting) (sym later);
      count = length_push (w.node n).entries _ ∙ ap (λ l. l + 1) (h.nodes n below).count;
      entries = entry_lists;
      given = All-nil _;
    }

    pub complete_keeps : Held (complete net w n)
    complete_keeps = changed w n (completed net w n) h one_more (record {
      done = omega arith;
      told = λ same. absurd (omega arith);
      marks = λ same. absurd (omega arith);
      given = λ same. absurd (omega arith);
      holders = λ same. absurd (omega arith);
    })

  pub turns_keep : (most : ℕ) (w : World R V Q A) (n : ℕ) → n < net.nodes → Held w → most ≡ length w.started - (w.node n).done → Held (turns net most w n)
  turns_keep zero w n below h e = h
  turns_keep (suc most) w n below h e =
      let behind : (w.node n).done < length w.started = omega arith in
      let sent = send_keeps w n below behind h in
      elim (is_over net (desk_of net w n)) as (λ b. is_over net (desk_of net w n) ≡ b
      → Held (if b then turns net most (complete net (send net w n) n) n else send net w n)) [
        | true ↦ λ t. turns_keep most (complete net (send net w n) n) n below (complete_keeps (send net w n) n below behind sent t)
            (let up = ap (λ (x : Node R V Q A). x.done) (with_here net w.started w.node n (completed net (send net w n) n)) in omega arith)
        | false ↦ λ t. sent
      ] refl

  turn_keeps : (w : World R V Q A) (n : ℕ) → n < net.nodes → Held w → Held (turn net w n)
  turn_keeps w n below h = turns_keep (length w.started - (w.node n).done) w n below h refl

  turn_all_keeps : (ns : List ℕ) (w : World R V Q A) → All (λ n. n < net.nodes) ns → Held w → Held (turn_all net w ns)
  turn_all_keeps [] w a h = h
  turn_all_keeps (n ∷ ns) w a h =
      turn_all_keeps ns (turn net w n) (All-tail (λ n. n < net.nodes) n ns a) (turn_keeps w n (All-head (λ n. n < net.nodes) n ns a) h)

  -- ---- events

  module _ (w : World R V Q A) (m : Message K V) (h : Held w) (sent : Contains w.sent m) where
    abbrev to : ℕ
    to = m.addressee

    pub to_below : to < net.nodes
    to_below = (All-contains (IsSent net begun w.started w.node) w.sent m h.sent sent).is.addressee

    abbrev with_given : List (Message K V) → Desk R V Q
    with_given given = record {
      node = to;
      rows = (w.node to).rows;
      batch = (w.node to).done + 1;
      list =
          (w.node to).carried ++ slice_index_or w.started (w.node to).done [];
      given = given;
    }

    kept : m.batch ≡ (w.node to).done + 1 → (w.node to).done < length w.started
        → Held (record { started = w.started; sent = w.sent; node = with_node w.node to (given_also net (w.node to) m) })
    kept batch behind =
        let one = h.nodes to to_below in
        changed w to (given_also net (w.node to) m) h
        (record {
          done = one.done;
          rows = one.rows;
          carried = one.carried;
          count = one.count;
          entries = one.entries;
          given = new_one net (IsGiven net w.sent to (w.node to).done) (w.node to).given m one.given
              (record { sent_once = sent; addressee = refl; batch = batch });
        })
        (record {
          done = omega arith;
          told = λ same tid k e. elim (is_in net (w.node to).given m) as
              (λ b. is_among R (keys_of (told net (with_given (if b then (w.node to).given else (w.node to).given ++ m ∷ [])) tid)) k ≡ true) [
                | true ↦ e
                | false ↦ told_more net (desk_of net w to) (m ∷ []) tid k e
              ];
          marks = λ same lt e. elim (is_in net (w.node to).given m) as
              (λ b. has_marks net (with_given (if b then (w.node to).given else (w.node to).given ++ m ∷ [])) ≡ true) [
                | true ↦ e
                | false ↦ marks_more net (desk_of net w to) (m ∷ []) e
              ];
          given = λ same x c. old_one net (w.node to).given m x c;
          holders = λ same tid e. elim (is_in net (w.node to).given m) as
              (λ b. has_holders net (with_given (if b then (w.node to).given else (w.node to).given ++ m ∷ [])) tid ≡ true) [
                | true ↦ e
                | false ↦ holders_more net (desk_of net w to) (m ∷ []) tid e
              ];
        })

    pub keep_keeps : Held (keep net w m)
    keep_keeps = elim (is_current net w m) as (λ b. is_current net w m ≡ b
        → Held (record { started = w.started; sent = w.sent; node = if b then with_node w.node to (given_also net (w.node to) m) else w.node })) [
          | true ↦ λ t. let parts = and_parts _ _ t in kept (eqb-true _ _ parts.0) (ltb-true _ _ parts.1)
          | false ↦ λ t. h
        ] refl

  pub deliver_keeps : (w : World R V Q A) (k : ℕ) → Held w → Held (deliver net w (slice_get w.sent k))
  deliver_keeps w k h = elim (slice_get w.sent k) as (λ r. slice_get w.sent k ≡ r → Held (deliver net w r)) [
    | None ↦ λ e. h
    | Some m ↦ λ e. let sent = get_has w.sent k m e in turn_keeps (keep net w m) m.addressee (to_below w m h sent) (keep_keeps w m h sent)
  ] refl

  one_started : (started : List (List Q)) (new : List Q) (sent : List (Message K V)) (n : ℕ) (x : Node R V Q A) → One started sent n x
      → One (started ++ new ∷ []) sent n x
  one_started started new sent n x h =
      let low = h.done in
      let long = length_push started new in
      record {
        done = omega arith;
        rows = λ k. h.rows k ∙ ap (λ (b : Between R V Q). row_at net n b.rows k) (sym (between-push net begun started new x.done low));
        carried = h.carried ∙ ap (λ (b : Between R V Q). b.waiting) (sym (between-push net begun started new x.done low));
        count = h.count;
        entries = λ d lt. h.entries d lt
            ∙ ap (λ (c : Course R V Q). filter (λ e. owner net e.judged.tid == n) (entries_on net c))
            (sym (course-push net begun started new d (omega arith)));
        given = h.given;
      }

  pub all_below : All (λ n. n < net.nodes) (all_nodes net)
  all_below k d lt = let r = in_range 0 net.nodes k d lt in let high = r.1 in omega arith

  pub started_holds : (w : World R V Q A) (new : List Q) → Held w → Held (record { started = w.started ++ new ∷ []; sent = w.sent; node = w.node })
  started_holds w new h = record {
    nodes = λ n lt. one_started w.started new w.sent n (w.node n) (h.nodes n lt);
    sent = λ k d lt. sent_grows net is begun w.started (w.started ++ new ∷ []) w.node w.node (grows_started net w.started new w.node)
        (let long = length_push w.started new in omega arith) (course-push net begun w.started new) _ (h.sent k d lt);
  }

  pub start_keeps : (w : World R V Q A) (new : List Q) → Held w → Held (start net w new)
  start_keeps w new h = turn_all_keeps (all_nodes net) _ all_below (started_holds w new h)

  pub step_keeps : (w : World R V Q A) (e : NetEvent Q) → Held w → Held (step net w e)
  step_keeps w (Start new) h = start_keeps w new h
  step_keeps w (Deliver k) h = deliver_keeps w k h

  pub steps_keep : (es : List (NetEvent Q)) (w : World R V Q A) → Held w → Held (steps net w es)
  steps_keep [] w h = h
  steps_keep (e ∷ es) w h = steps_keep es (step net w e) (step_keeps w e h)

  pub first_holds : Held (at_first net begun)
  first_holds = record {
    nodes = λ n lt. record {
      done = omega arith;
      rows = λ k. get-retain_keys begun (is_at net n) k (λ x t. ap (is_at net n) (sym (is.antisymmetric k x t)));
      carried = refl;
      count = refl;
      entries = λ d lt. absurd (omega arith);
      given = All-nil _;
    };
    sent = All-nil _;
  }

  -- after any events
  pub always : (es : List (NetEvent Q)) → Held (steps net (at_first net begun) es)
  always es = steps_keep es (at_first net begun) first_holds
