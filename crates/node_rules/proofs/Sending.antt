-- What is due at a node is true: each message that it may send has its definition's value.
use Rattle.std.proofs.Common.{◌≡◌, ℕ, ◌+◌, ◌-◌, ◌<◌, ◌≤◌, inr, List, [], ◌∷◌, map, length, take, Bool, true, false, Some, None, Option, refl, sym, ap, ◌∙◌}
use Rattle.std.proofs.Common.{subst, Ordering, arith, Contains}
use Rattle.std.specs.Prelude.{slice_get, is_some, ◌==◌, if◌then◌else◌, unwrap_or}
use Rattle.std.specs.Option.{option_map}
use Rattle.std.specs.List.{All, filter, list_any, position_from}
use Rattle.std.specs.FinMap as fin
use Rattle.std.specs.FinMap.{FinMap}
use Rattle.std.proofs.Math.Nat.{mod-lt}
use Rattle.std.proofs.lemmas.Bool.{eqb-true, eq-eqb}
use Rattle.std.proofs.lemmas.Option.{same_Some}
use Rattle.std.proofs.lemmas.List.Elements.{All-nil, All-cons, All-append, All-filter, All-map, All-head, All-tail, All-contains, All-contains_itself}
use Rattle.std.proofs.lemmas.List.Elements.{filter_passes}
use Rattle.batch_rules.specs.Touches.{keys_of, outside}
use Rattle.batch_rules.specs.Trees.{trace_of}
use Rattle.batch_rules.specs.Verdicts.{meets, least, verdict_by, verdict_on}
use Rattle.batch_rules.proofs.Lists.{position_from-map}
use Rattle.node_rules.specs.Messages.{Holders, Content, Ask, Told, Marks, Least, Fate, Message}
use Rattle.node_rules.specs.Nets.{Net, IsNet, owner, is_at, tids, all_nodes}
use Rattle.node_rules.specs.Dues.{Desk, no_sets, no_holders, both, lesser, by_sets, holders_on, part_at, sets_on, message, all_requests, own_requests, told}
use Rattle.node_rules.specs.Dues.{told_rows, wanted, marks_due, run_due, asked_in, told_due, marks_of, has_marks, sets_of, least_due, holders_from}
use Rattle.node_rules.specs.Dues.{has_holders, holders_of, least_of, verdict_here, fate_due, due}
use Rattle.node_rules.specs.Worlds.{World}
use Rattle.node_rules.specs.Truths.{Course, on, there, Says, IsTrue, Before, Since, Wants, WasMarked, IsSent, Holds}
use Rattle.node_rules.proofs.Picks.{All-flat_map, All-filter_map, some_is, list_all-all, enumerated, StandsAt, in_range, get_above, get_below, has_number}
use Rattle.node_rules.proofs.Places.{map_places}
use Rattle.node_rules.proofs.Runs.{same_wanted, same_reads, same_writes, wanted_touched}
use Rattle.node_rules.proofs.Parts.{keys-filter, meets_at, meets_parts, least_over, least_over-is, position_same}
use Rattle.node_rules.proofs.Given.{At, sent_at, done_at, desk_at, course_at, Here, given_at, same_list, told_all, marks_are, holders_are}

module _ {K V Q A : Type 0} {R : K → K → Ordering} (net : Net R V Q A) (is : IsNet net) (start : FinMap R V)
    (w : World R V Q A) (h : Holds net start w) (n : ℕ) (below : n < net.nodes) (behind : (w.node n).done < length w.started) where
  abbrev done : ℕ
  done = done_at net is start w h n below

  abbrev desk : Desk R V Q
  desk = desk_at net is start w h n below

  abbrev c : Course R V Q
  c = course_at net is start w h n below

  abbrev Sent : Message K V → Type 0
  Sent = IsSent net start w.started w.node

  -- a message of the current batch with its definition's value
  sends : (m : Message K V) → m.batch ≡ done + 1 → At net start w.started w.node done m → Sent m
  sends m e t = sent_at net start w.started w.node m done behind e t

  owner_below : (tid : ℕ) → owner net tid < net.nodes
  owner_below tid = mod-lt (tid - 1) is.some_node

  node_below : All (λ to. to < net.nodes) (all_nodes net)
  node_below k d lt = let r = in_range 0 net.nodes k d lt in let high = r.1 in omega arith

  -- ---- requests

  pub own_stand : All (λ e. StandsAt 1 c.list e × (owner net e.0 ≡ n)) (own_requests net desk)
  own_stand = subst (λ l. All (λ e. StandsAt 1 l e × (owner net e.0 ≡ n)) (own_requests net desk)) (same_list net is start w h n below) (λ k d lt. (
    All-filter (λ e. owner net e.0 == n) (StandsAt 1 desk.list) (all_requests net desk) (enumerated 1 desk.list) k d lt,
    eqb-true _ _ (filter_passes (λ e. owner net e.0 == n) (all_requests net desk) k d lt),
  ))

  pub request_at : (tid : ℕ) → 1 ≤ tid → tid < 1 + length desk.list → (q : Q) × (slice_get c.list (tid - 1) ≡ Some q)
  request_at tid low high = subst (λ l. (q : Q) × (slice_get l (tid - 1) ≡ Some q)) (same_list net is start w h n below)
      (get_above desk.list (tid - 1) (omega arith))

  -- ---- runs on what was told

  module _ (tid : ℕ) (q : Q) (low : 1 ≤ tid) (stands : slice_get c.list (tid - 1) ≡ Some q) (own : owner net tid ≡ n) where
    mark_sent : outside R (both (keys_of (told net desk tid))) (trace_of (net.tree q) c.rows) ≡ None → (to : ℕ) → to < net.nodes
        → Sent (message net desk tid to (Marks (part_at net to (sets_on net (told_rows net desk tid) q))))
    mark_sent inside to high =
        let a = told_all net is start w h n below tid in
        let reads = same_reads is.total is.antisymmetric c.rows net.is_done (net.tree q) (told net desk tid) a inside in
        let rows = same_writes is.total is.antisymmetric c.rows net.is_done (net.tree q) (told net desk tid) a inside in
        sends _ refl (record {
          is = record {
            sender = below;
            addressee = high;
            tid = low;
            request = q;
            stands = stands;
            says =
                (sym own, λ i. part_at net to (record { reads = reads i; rows = rows i }));
          };
          before = inr (refl, inside);
        })

    marks_sent : outside R (both (keys_of (told net desk tid))) (trace_of (net.tree q) c.rows) ≡ None → All Sent (marks_due net desk tid q)
    marks_sent inside = All-map Sent (λ to. message net desk tid to (Marks (part_at net to (sets_on net (told_rows net desk tid) q)))) (all_nodes net)
        (λ k d lt. mark_sent inside _ (node_below k d lt))

    ask_sent : (k : K) → outside R (both (keys_of (told net desk tid))) (trace_of (net.tree q) c.rows) ≡ Some k
        → Sent (message net desk tid (net.home k) (Ask k))
    ask_sent k e = sends _ refl (record {
      is = record {
        sender = below;
        addressee = is.home k;
        tid = low;
        request = q;
        stands = stands;
        says =
            (sym own, refl, wanted_touched is.total (keys_of (told net desk tid)) (trace_of (net.tree q) c.rows) k e);
      };
      before = inr (refl, inr e);
    })

    run_sent : All Sent (run_due net desk (tid, q))
    run_sent =
        let same = same_wanted is.total is.antisymmetric c.rows net.is_done (net.tree q) (told net desk tid) (told_all net is start w h n below tid) in
        elim (wanted net desk tid q) as (λ r. wanted net desk tid q ≡ r
        → All Sent (elim r [ None ↦ marks_due net desk tid q | Some k ↦ message net desk tid (net.home k) (Ask k) ∷ [] ])) [
          | None ↦ λ t. marks_sent (sym same ∙ t)
          | Some k ↦ λ t. All-cons Sent _ [] (ask_sent k (sym same ∙ t)) (All-nil Sent)
        ] refl

  -- ---- rows that were asked for

  told_case : (m : Message K V) → Contains desk.given m → Here net is start w h n below m → (content : Content K V) → m.content ≡ content
      → (y : Message K V) (t : IsTrue net c m)
      → Says net c m.tid t.request m.sender m.addressee content → Before net start w.started w.node c.rows t.request m content
      → option_map (λ k. message net desk m.tid (owner net m.tid) (Told k (fin.get desk.rows k))) (asked_in net desk content) ≡ Some y → Sent y
  told_case m among g (Ask k) same y t s b e =
      let home : net.home k ≡ n = sym s.1 ∙ g.1 in
      let row : fin.get desk.rows k ≡ fin.get c.rows k = (h.nodes n below).rows k ∙ ap (λ b. if b then fin.get c.rows k else None) (eq-eqb _ _ home) in
      let told = message net desk m.tid (owner net m.tid) (Told k (fin.get desk.rows k)) in
      let it : m ≡ record { batch = done + 1; tid = m.tid; sender = owner net m.tid; addressee = n; content = Ask k } =
      λ i. record { batch = g.2 i; tid = m.tid; sender = s.0 i; addressee = g.1 i; content = same i } in
      subst Sent (same_Some told y e) (sends _ refl (record {
        is = record {
          sender = below;
          addressee = owner_below m.tid;
          tid = t.tid;
          request = t.request;
          stands = t.stands;
          says =
              (sym home, refl, s.2, row);
        };
        before = (
          inr (refl, subst (Contains desk.given) it among),
          subst (λ (p : ℕ × ℕ). Since net start w.started w.node p.0 p.1 (Wants net start w.started w.node c.rows t.request m.tid k p.0))
              (λ i. (s.0 i, g.2 i)) b,
        );
      }))
  told_case m among g (Told k row) same y t s b e = cc
  told_case m among g (Marks sets) same y t s b e = cc
  told_case m among g (Least holders) same y t s b e = cc
  told_case m among g (Fate verdict) same y t s b e = cc

  told_sent : (m : Message K V) → Contains desk.given m → Here net is start w h n below m → (y : Message K V) → told_due net desk m ≡ Some y → Sent y
  told_sent m among g y e = told_case m among g m.content refl y g.0.is g.0.is.says g.0.before e

  -- ---- the least holders here

  module _ (marked : has_marks net desk ≡ true) where
    has_each : All (λ tid. is_some (marks_of net desk tid) ≡ true) (tids desk.list)
    has_each = list_all-all (λ tid. is_some (marks_of net desk tid)) (tids desk.list) marked

    has_at : (tid : ℕ) → 1 ≤ tid → tid < 1 + length desk.list → is_some (marks_of net desk tid) ≡ true
    has_at tid low high = All-contains (λ tid. is_some (marks_of net desk tid) ≡ true) (tids desk.list) tid has_each
        (has_number 1 (length desk.list) tid low high)

    pub sets_are : (tid : ℕ) (q : Q) → is_some (marks_of net desk tid) ≡ true → slice_get c.list (tid - 1) ≡ Some q
        → sets_of net desk tid ≡ there net c.rows n q
    sets_are tid q has stands =
        let s = some_is (marks_of net desk tid) has in
        ap (λ r. unwrap_or r no_sets) s.1 ∙ (marks_are net is start w h n below tid q stands s.0 s.1).are

    least_sent : (tid : ℕ) → 1 ≤ tid → tid < 1 + length desk.list → is_some (marks_of net desk tid) ≡ true → Sent (least_due net desk tid)
    least_sent tid low high has =
        let q = request_at tid low high in
        let mine = sets_are tid q.0 has q.1 in
        let earlier : map (sets_of net desk) (take (tid - 1) (tids desk.list)) ≡ map (there net c.rows n) (take (tid - 1) c.list)
        = subst (λ l. map (sets_of net desk) (take (tid - 1) (tids desk.list)) ≡ map (there net c.rows n) (take (tid - 1) l))
        (same_list net is start w h n below)
        (map_places (sets_of net desk) (there net c.rows n) 1 desk.list (λ t x first e.
        sets_are t x (has_at t first (let lt = get_below desk.list (t - 1) x e in omega arith))
        (subst (λ l. slice_get l (t - 1) ≡ Some x) (same_list net is start w h n below) e)) (tid - 1)) in
        sends _ refl (record {
          is = record {
            sender = below;
            addressee = owner_below tid;
            tid = low;
            request = q.0;
            stands = q.1;
            says =
                (refl, λ i. holders_on (by_sets R) (earlier i) (mine i));
          };
          before = inr (refl, marked);
        })

    leasts_sent : All Sent (map (least_due net desk) (tids desk.list))
    leasts_sent = All-map Sent (least_due net desk) (tids desk.list) (λ k d lt. let r = in_range 1 (length desk.list) k d lt in
        least_sent _ r.0 r.1 (has_each k d lt))

  -- ---- verdicts

  module _ (tid : ℕ) (q : Q) (low : 1 ≤ tid) (stands : slice_get c.list (tid - 1) ≡ Some q) (own : owner net tid ≡ n)
      (has : has_holders net desk tid ≡ true) where
    from_each : All (λ from. is_some (holders_from net desk tid from) ≡ true) (all_nodes net)
    from_each = list_all-all (λ from. is_some (holders_from net desk tid from)) (all_nodes net) has

    abbrev earlier : List Q
    earlier = take (tid - 1) c.list

    abbrev there_on : ℕ → Holders
    there_on from = holders_on (by_sets R) (map (there net c.rows from) earlier) (there net c.rows from q)

    least_is : (side : Holders → Option ℕ) (nodes : List ℕ) → All (λ from. is_some (holders_from net desk tid from) ≡ true) nodes → (f : ℕ → Q → Bool)
        → ((from : ℕ) → side (there_on from) ≡ position_from (f from) 1 earlier)
        → least_of net desk side tid nodes ≡ least_over f 1 earlier nodes
    least_is side [] a f e = refl
    least_is side (from ∷ nodes) a f e =
        let s = some_is (holders_from net desk tid from) (All-head (λ from. is_some (holders_from net desk tid from) ≡ true) from nodes a) in
        let here : holders_of net desk tid from ≡ there_on from = ap (λ r. unwrap_or r no_holders) s.1
        ∙ (holders_are net is start w h n below tid q stands from s.0 s.1).are in
        let rest = least_is side nodes (All-tail (λ from. is_some (holders_from net desk tid from) ≡ true) from nodes a) f e in
        λ i. lesser ((ap side here ∙ e from) i) (rest i)

    -- by the parts of two sets at each node
    abbrev by_parts : (Q → List K) → (Q → List K) → ℕ → Q → Bool
    by_parts mine theirs from o = meets_at is.total is.antisymmetric net.home (mine q) (theirs o) from

    abbrev reads : Q → List K
    reads o = (sets_on net c.rows o).reads

    abbrev writes : Q → List K
    writes o = keys_of (sets_on net c.rows o).rows

    rows_keys : (from : ℕ) (o : Q) → keys_of (there net c.rows from o).rows ≡ filter (λ k. net.home k == from) (writes o)
    rows_keys from o = keys-filter (is_at net from) (sets_on net c.rows o).rows

    all_parts : (mine theirs : Q → List K) → least_over (by_parts mine theirs) 1 earlier (all_nodes net) ≡ least (λ o. meets R (mine q) (theirs o)) earlier
    all_parts mine theirs = least_over-is (by_parts mine theirs) 1 earlier (all_nodes net)
        ∙ position_same (λ o. list_any (λ from. by_parts mine theirs from o) (all_nodes net)) (λ o. meets R (mine q) (theirs o)) 1 earlier
        (λ o. meets_parts is.total is.antisymmetric net.home (mine q) (theirs o) net.nodes is.home)

    waw_is : least_of net desk (λ h. h.waw) tid (all_nodes net) ≡ least ((on net c.rows).waw q) earlier
    waw_is = least_is (λ h. h.waw) (all_nodes net) from_each (by_parts writes writes)
        (λ from. position_from-map ((by_sets R).waw (there net c.rows from q)) (there net c.rows from) 1 earlier
        ∙ position_same _ (by_parts writes writes from) 1 earlier (λ o i. meets R (rows_keys from q i) (rows_keys from o i)))
        ∙ all_parts writes writes

    raw_is : least_of net desk (λ h. h.raw) tid (all_nodes net) ≡ least ((on net c.rows).raw q) earlier
    raw_is = least_is (λ h. h.raw) (all_nodes net) from_each (by_parts reads writes)
        (λ from. position_from-map ((by_sets R).raw (there net c.rows from q)) (there net c.rows from) 1 earlier
        ∙ position_same _ (by_parts reads writes from) 1 earlier (λ o i. meets R (there net c.rows from q).reads (rows_keys from o i)))
        ∙ all_parts reads writes

    war_is : least_of net desk (λ h. h.war) tid (all_nodes net) ≡ least ((on net c.rows).war q) earlier
    war_is = least_is (λ h. h.war) (all_nodes net) from_each (by_parts writes reads)
        (λ from. position_from-map ((by_sets R).war (there net c.rows from q)) (there net c.rows from) 1 earlier
        ∙ position_same _ (by_parts writes reads from) 1 earlier (λ o i. meets R (rows_keys from q i) (there net c.rows from o).reads))
        ∙ all_parts writes reads

    pub verdict_is : verdict_here net desk tid ≡ verdict_on (on net c.rows) net.rule earlier q
    verdict_is = λ i. verdict_by net.rule (waw_is i) (raw_is i) (war_is i)

    all_marked : (from : ℕ) → from < net.nodes → WasMarked net start w.started w.node from (done + 1)
    all_marked from lt =
        let has = All-contains (λ from. is_some (holders_from net desk tid from) ≡ true) (all_nodes net) from from_each
        (has_number 0 net.nodes from (omega arith) (omega arith)) in
        let s = some_is (holders_from net desk tid from) has in
        (holders_are net is start w h n below tid q stands from s.0 s.1).marked

    fate_sent : (to : ℕ) → to < net.nodes → Sent (message net desk tid to (Fate (verdict_here net desk tid)))
    fate_sent to high = sends _ refl (record {
      is = record { sender = below; addressee = high; tid = low; request = q; stands = stands; says = (sym own, verdict_is) };
      before = (all_marked, inr (refl, has));
    })

    fates_sent : All Sent (map (λ to. message net desk tid to (Fate (verdict_here net desk tid))) (all_nodes net))
    fates_sent = All-map Sent (λ to. message net desk tid to (Fate (verdict_here net desk tid))) (all_nodes net) (λ k d lt. fate_sent _ (node_below k d lt))

  -- ---- all that is due

  run_of_each : (e : ℕ × Q) → StandsAt 1 c.list e × (owner net e.0 ≡ n) → All Sent (run_due net desk e)
  run_of_each e s = run_sent e.0 e.1 s.0.0 s.0.1 s.1

  fate_of_each : (e : ℕ × Q) → StandsAt 1 c.list e × (owner net e.0 ≡ n) → All Sent (fate_due net desk e)
  fate_of_each e s = elim (has_holders net desk e.0) as (λ b. has_holders net desk e.0 ≡ b
      → All Sent (if b then map (λ to. message net desk e.0 to (Fate (verdict_here net desk e.0))) (all_nodes net) else [])) [
        | true ↦ λ t. fates_sent e.0 e.1 s.0.0 s.0.1 s.1 t
        | false ↦ λ t. All-nil Sent
      ] refl

  leasts_due : All Sent (if has_marks net desk then map (least_due net desk) (tids desk.list) else [])
  leasts_due = elim (has_marks net desk) as (λ b. has_marks net desk ≡ b → All Sent (if b then map (least_due net desk) (tids desk.list) else [])) [
    | true ↦ λ t. leasts_sent t
    | false ↦ λ t. All-nil Sent
  ] refl

  pub due_sent : All Sent (due net desk)
  due_sent = All-append Sent _ _ (All-append Sent _ _ (All-append Sent _ _
      (All-flat_map Sent (run_due net desk) (own_requests net desk) (λ k d lt. run_of_each _ (own_stand k d lt)))
      (All-filter_map Sent (told_due net desk) desk.given
      (λ k d lt. told_sent _ (All-contains_itself desk.given k d lt) (given_at net is start w h n below k d lt))))
      leasts_due)
      (All-flat_map Sent (fate_due net desk) (own_requests net desk) (λ k d lt. fate_of_each _ (own_stand k d lt)))
