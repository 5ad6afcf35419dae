-- A batch that is over at a node leaves there what one database has.
use Rattle.std.proofs.Common.{◌≡◌, ℕ, ◌+◌, ◌-◌, ◌<◌, ◌≤◌, ◌⊎◌, ⊎_elim, List, [], ◌∷◌, map, length, Bool, true, false, cond, Some, None, Option, refl, sym}
use Rattle.std.proofs.Common.{ap, ◌∙◌, subst, Ordering, arith}
use Rattle.std.specs.Prelude.{is_some, not, ◌==◌, if◌then◌else◌, unwrap_or}
use Rattle.std.specs.List.{All, filter, enumerate_from}
use Rattle.std.specs.Ordering.{eq_by_cmp}
use Rattle.std.specs.Cmp.{IsTotalOrder}
use Rattle.std.specs.FinMap as fin
use Rattle.std.specs.FinMap.{FinMap, IsAntisymmetric, find}
use Rattle.std.proofs.lemmas.Simd.{map-map}
use Rattle.std.proofs.lemmas.Bool.{eqb-true}
use Rattle.std.proofs.lemmas.List.Elements.{All-contains, All-filter, filter_passes}
use Rattle.batch_rules.specs.declared.verdicts.Verdict.{Verdict}
use Rattle.batch_rules.specs.declared.verdicts.Verdict.TheVariants.{Finish, Wait}
use Rattle.batch_rules.specs.Touches.{keys_of, outside, overwritten, installed}
use Rattle.batch_rules.specs.Trees.{trace_of, end_of}
use Rattle.batch_rules.specs.Verdicts.{finishes, waits}
use Rattle.batch_rules.specs.Batches.{Carrier, Judged, Entry, finishing, waiting, fate_after, after_commit}
use Rattle.batch_rules.proofs.Installs.{installed-map, installed_same}
use Rattle.batch_rules.proofs.Lists.{filter-map, map_same}
use Rattle.batch_rules.proofs.Maps.{get-overwritten, same_key}
use Rattle.node_rules.specs.Nets.{Net, IsNet, owner, is_at, tids}
use Rattle.node_rules.specs.Dues.{Desk, both, told, told_rows, all_requests, marks_of, has_marks, sets_of, fate_of, is_over}
use Rattle.node_rules.specs.Worlds.{World, finishes_by, fate_by_verdict, verdict_of, entry_of, finishing_tids, rows_left, waiting_left, entries_left}
use Rattle.node_rules.specs.Truths.{Course, on, carrier, judged_list, entries_on, there, Holds, row_at}
use Rattle.node_rules.proofs.Picks.{some_is, list_all-all, list_all-from, in_range, get_below, has_number}
use Rattle.node_rules.proofs.Places.{Stands, all_stand, list_tids, list_requests, settled-map}
use Rattle.node_rules.proofs.Runs.{same_end}
use Rattle.node_rules.proofs.Given.{done_at, desk_at, course_at, same_list, told_all, marks_are, fate_is}
use Rattle.node_rules.proofs.Sending.{request_at, sets_are}

-- ---- rows of a node's keys

module _ {K V : Type 0} {R : K → K → Ordering} (o : IsTotalOrder R) (anti : IsAntisymmetric R) (p : K → Bool) where
  find-part : (ws : List (K × Option V)) (k : K) → find R k (filter (λ row. p row.0) ws) ≡ cond (p k) (find R k ws) None
  find-part [] k = elim (p k) as (λ b. ◌≡◌ {A = Option (Option V)} None (cond b None None)) [ true ↦ refl | false ↦ refl ]
  find-part (w ∷ ws) k = elim (eq_by_cmp R k w.0) as (λ t. eq_by_cmp R k w.0 ≡ t
      → find R k (cond (p w.0) (w ∷ filter (λ row. p row.0) ws) (filter (λ row. p row.0) ws)) ≡ cond (p k) (cond t (Some w.1) (find R k ws)) None) [
        | true ↦ λ t. elim (p w.0) as (λ b. p w.0 ≡ b
            → find R k (cond b (w ∷ filter (λ row. p row.0) ws) (filter (λ row. p row.0) ws)) ≡ cond (p k) (Some w.1) None) [
              | true ↦ λ h. ap (λ t. cond t (Some w.1) (find R k (filter (λ row. p row.0) ws))) t
                  ∙ sym (ap (λ b. cond b (Some w.1) None) (ap p (same_key anti k w.0 t) ∙ h))
              | false ↦ λ h. find-part ws k ∙ ap (λ b. cond b (find R k ws) None) (ap p (same_key anti k w.0 t) ∙ h)
                  ∙ sym (ap (λ b. cond b (Some w.1) None) (ap p (same_key anti k w.0 t) ∙ h))
            ] refl
        | false ↦ λ t. elim (p w.0) as (λ b. find R k (cond b (w ∷ filter (λ row. p row.0) ws) (filter (λ row. p row.0) ws)) ≡ cond (p k) (find R k ws) None) [
          | true ↦ ap (λ t. cond t (Some w.1) (find R k (filter (λ row. p row.0) ws))) t ∙ find-part ws k
          | false ↦ find-part ws k
        ]
      ] refl

  overwritten_part : (m db : FinMap R V) (ws : List (K × Option V)) (k : K) → fin.get m k ≡ (if p k then fin.get db k else None)
      → fin.get (overwritten m (filter (λ row. p row.0) ws)) k ≡ (if p k then fin.get (overwritten db ws) k else None)
  overwritten_part m db ws k e = get-overwritten o m (filter (λ row. p row.0) ws) k
      ∙ (λ i. unwrap_or (find-part ws k i) (e i))
      ∙ elim (p k) as (λ b. unwrap_or (cond b (find R k ws) None) (if b then fin.get db k else None)
      ≡ (if b then unwrap_or (find R k ws) (fin.get db k) else None)) [ true ↦ refl | false ↦ refl ]
      ∙ ap (λ r. if p k then r else None) (sym (get-overwritten o db ws k))

  -- the parts of rows on the part of a database
  pub installed_part : {X : Type 0} (rows : X → List (K × Option V)) (m db : FinMap R V) (xs : List X) (k : K)
      → fin.get m k ≡ (if p k then fin.get db k else None)
      → fin.get (installed (λ x. filter (λ row. p row.0) (rows x)) m xs) k ≡ (if p k then fin.get (installed rows db xs) k else None)
  installed_part rows m db [] k e = e
  installed_part rows m db (x ∷ xs) k e =
      installed_part rows (overwritten m (filter (λ row. p row.0) (rows x))) (overwritten db (rows x)) xs k (overwritten_part m db (rows x) k e)

-- ---- the end of a batch

fate_same : {K V A O : Type 0} (by : Carrier K V A O) (o : O) (v : Verdict) (end : A) → end ≡ by.end o
    → fate_by_verdict {K = K} end v ≡ fate_after by o v []
fate_same by o (Finish raw) end e = ap (λ a. fate_by_verdict a (Finish raw)) e
fate_same by o (Wait cause) end e = refl

module _ {K V Q A : Type 0} {R : K → K → Ordering} (net : Net R V Q A) (is : IsNet net) (start : FinMap R V)
    (w : World R V Q A) (h : Holds net start w) (n : ℕ) (below : n < net.nodes) (behind : (w.node n).done < length w.started)
    (over : is_over net (desk_at net is start w h n below) ≡ true) where
  abbrev desk : Desk R V Q
  desk = desk_at net is start w h n below

  abbrev c : Course R V Q
  c = course_at net is start w h n below

  abbrev ds : List (Judged Q)
  ds = judged_list net c.rows c.list

  abbrev Stand : Judged Q → Type 0
  Stand = Stands (on net c.rows) net.rule c.list

  stand : All Stand ds
  stand = all_stand (on net c.rows) net.rule c.list

  list : desk.list ≡ c.list
  list = same_list net is start w h n below

  fate_given : (tid : ℕ) → 1 ≤ tid → tid < 1 + length desk.list → is_some (fate_of net desk tid) ≡ true
  fate_given tid low high = All-contains (λ tid. is_some (fate_of net desk tid) ≡ true) (tids desk.list) tid
      (list_all-all (λ tid. is_some (fate_of net desk tid)) (tids desk.list) over) (has_number 1 (length desk.list) tid low high)

  -- a node that has the fates has the marks
  marked_by : (tid : ℕ) → 1 ≤ tid → tid < 1 + length desk.list → has_marks net desk ≡ true
  marked_by tid low high =
      let q = request_at net is start w h n below behind tid low high in
      let v = some_is (fate_of net desk tid) (fate_given tid low high) in
      let f = fate_is net is start w h n below tid q.0 q.1 v.0 v.1 in
      ⊎_elim (λ past. absurd (omega arith)) (λ at. at.1) (f.marked n below)

  marked : has_marks net desk ≡ true
  marked = list_all-from (λ tid. is_some (marks_of net desk tid)) (tids desk.list) (λ k d lt.
      let r = in_range 1 (length desk.list) k d lt in
      list_all-all (λ tid. is_some (marks_of net desk tid)) (tids desk.list) (marked_by _ r.0 r.1) k d lt)

  module _ (d : Judged Q) (s : Stand d) where
    high : d.tid < 1 + length desk.list
    high = let lt = get_below c.list (d.tid - 1) d.request s.at in let low = s.low in let same = ap length list in omega arith

    fate_at : fate_of net desk d.tid ≡ Some d.verdict
    fate_at =
        let v = some_is (fate_of net desk d.tid) (fate_given d.tid s.low high) in
        let f = fate_is net is start w h n below d.tid d.request s.at v.0 v.1 in
        v.1 ∙ ap (λ (v : Verdict). Some v) (f.verdict ∙ sym s.verdict)

    has_at : is_some (marks_of net desk d.tid) ≡ true
    has_at = All-contains (λ tid. is_some (marks_of net desk tid) ≡ true) (tids desk.list) d.tid
        (list_all-all (λ tid. is_some (marks_of net desk tid)) (tids desk.list) marked) (has_number 1 (length desk.list) d.tid s.low high)

    sets_at : sets_of net desk d.tid ≡ there net c.rows n d.request
    sets_at = sets_are net is start w h n below behind marked d.tid d.request has_at s.at

    end_at : owner net d.tid ≡ n → end_of (net.tree d.request) (told_rows net desk d.tid) ≡ end_of (net.tree d.request) c.rows
    end_at own =
        let m = some_is (marks_of net desk d.tid) has_at in
        let told_all_of = (marks_are net is start w h n below d.tid d.request s.at m.0 m.1).told in
        ⊎_elim (λ past. let e = own in absurd (omega arith)) (λ at.
        same_end is.total is.antisymmetric c.rows net.is_done (net.tree d.request) (told net desk d.tid) (told_all net is start w h n below d.tid) at.1)
        (subst (λ from. (done_at net is start w h n below + 1 ≤ (w.node from).done) ⊎ (((w.node from).done + 1 ≡ done_at net is start w h n below + 1)
        × (outside R (both (keys_of (told net
        (record { node = from; rows = (w.node from).rows; batch = (w.node from).done + 1; list = (w.node from).carried; given = (w.node from).given })
        d.tid))) (trace_of (net.tree d.request) c.rows) ≡ None))) own told_all_of)

    verdict_at : verdict_of net desk d.tid ≡ d.verdict
    verdict_at = ap (λ r. unwrap_or r (Finish false)) fate_at

    entry_at : owner net d.tid ≡ n → entry_of net desk (d.tid, d.request) ≡ record {
      judged = d;
      fate =
          fate_after (carrier net c.rows) d.request d.verdict [];
    }
    entry_at own =
        let fate = ap (fate_by_verdict (end_of (net.tree d.request) (told_rows net desk d.tid))) verdict_at
        ∙ fate_same (carrier net c.rows) d.request d.verdict _ (end_at own) in
        λ i. record { judged = record { tid = d.tid; request = d.request; verdict = verdict_at i }; fate = fate i }

    finishes_at : finishes d.verdict ≡ finishes_by (fate_of net desk d.tid)
    finishes_at = sym (ap finishes_by fate_at)

  abbrev part : Judged Q → List (K × Option V)
  part d = filter (λ row. is_at net n row.0) ((carrier net c.rows).rows d.request)

  tids_are : finishing_tids net desk ≡ map (λ d. d.tid) (finishing ds)
  tids_are = ap (λ l. filter (λ tid. finishes_by (fate_of net desk tid)) (tids l)) list
      ∙ ap (filter (λ tid. finishes_by (fate_of net desk tid))) (list_tids (on net c.rows) net.rule c.list)
      ∙ sym (filter-map (λ (d : Judged Q). d.tid) (λ d. finishes d.verdict) (λ tid. finishes_by (fate_of net desk tid)) ds
      (λ k d lt. finishes_at _ (stand k d lt)))

  left_are : rows_left net desk ≡ installed part desk.rows (finishing ds)
  left_are = ap (installed (λ tid. (sets_of net desk tid).rows) desk.rows) tids_are
      ∙ installed-map (λ tid. (sets_of net desk tid).rows) (λ (d : Judged Q). d.tid) desk.rows (finishing ds)
      ∙ installed_same (λ (d : Judged Q). (sets_of net desk d.tid).rows) part desk.rows (finishing ds)
      (All-filter (λ d. finishes d.verdict) (λ d. (sets_of net desk d.tid).rows ≡ part d) ds (λ k d lt i. (sets_at _ (stand k d lt) i).rows))

  -- the rows of its keys
  pub rows_are : (k : K) → fin.get (rows_left net desk) k ≡ row_at net n (after_commit (carrier net c.rows) c.rows ds) k
  rows_are k = ap (λ m. fin.get m k) left_are
      ∙ installed_part is.total is.antisymmetric (is_at net n) (λ (d : Judged Q). (carrier net c.rows).rows d.request) desk.rows c.rows (finishing ds) k
      ((h.nodes n below).rows k)

  requests_are : all_requests net desk ≡ map (λ d. (d.tid, d.request)) ds
  requests_are = ap (enumerate_from 1) list ∙ list_requests (on net c.rows) net.rule c.list

  -- what waits
  pub waiting_are : waiting_left net desk ≡ map (λ d. d.request) (waiting ds)
  waiting_are = ap (λ l. map (λ e. e.1) (filter (λ e. not (finishes_by (fate_of net desk e.0))) l)) requests_are
      ∙ ap (map (λ (e : ℕ × Q). e.1))
      (sym (filter-map (λ (d : Judged Q). (d.tid, d.request)) (λ d. waits d.verdict) (λ e. not (finishes_by (fate_of net desk e.0))) ds
      (λ k d lt. ap not (finishes_at _ (stand k d lt)))))
      ∙ map-map (λ (e : ℕ × Q). e.1) (λ (d : Judged Q). (d.tid, d.request)) (waiting ds)

  abbrev entry : Judged Q → Entry K Q A
  entry d = record { judged = d; fate = fate_after (carrier net c.rows) d.request d.verdict [] }

  own_entry : (d : Judged Q) → Stand d → (owner net d.tid == n) ≡ true → entry_of net desk (d.tid, d.request) ≡ entry d
  own_entry d s e = entry_at d s (eqb-true _ _ e)

  -- and what became of its own requests
  pub entries_are : entries_left net desk ≡ filter (λ e. owner net e.judged.tid == n) (entries_on net c)
  entries_are = ap (λ l. map (entry_of net desk) (filter (λ e. owner net e.0 == n) l)) requests_are
      ∙ ap (map (entry_of net desk)) (sym
      (filter-map (λ (d : Judged Q). (d.tid, d.request)) (λ d. owner net d.tid == n) (λ e. owner net e.0 == n) ds (λ k d lt. refl)))
      ∙ map-map (entry_of net desk) (λ (d : Judged Q). (d.tid, d.request)) (filter (λ d. owner net d.tid == n) ds)
      ∙ map_same (λ (d : Judged Q). entry_of net desk (d.tid, d.request)) entry (filter (λ d. owner net d.tid == n) ds)
      (λ k d lt. own_entry _ (All-filter (λ d. owner net d.tid == n) Stand ds stand k d lt) (filter_passes (λ d. owner net d.tid == n) ds k d lt))
      ∙ filter-map entry (λ d. owner net d.tid == n) (λ e. owner net e.judged.tid == n) ds (λ k d lt. refl)
      ∙ ap (filter (λ e. owner net e.judged.tid == n)) (sym (settled-map (carrier net c.rows) ds))
