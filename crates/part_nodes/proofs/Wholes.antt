-- Nodes at any time are one database: what is asked of them is what that database has.
use Rattle.std.proofs.Common.{◌≡◌, ℕ, zero, suc, ◌+◌, ◌-◌, ◌<◌, ◌≤◌, List, [], ◌∷◌, map, length, Bool, true, false, Some, None, refl, sym, ap, ◌∙◌, subst}
use Rattle.std.proofs.Common.{arith, take}
use Rattle.std.specs.Prelude.{slice_get, slice_index_or, nat_lt, nat_le, ◌%◌, ◌==◌, if◌then◌else◌}
use Rattle.std.specs.FinMap as fin
use Rattle.std.specs.List.{list_any, list_all, filter, range_with_len}
use Rattle.std.proofs.lemmas.List.{length-map, length-append, length-take-le}
use Rattle.std.proofs.lemmas.Bool.{and_parts, or_parts, leb-true, ltb-false}
use Rattle.aria_base.specs.Orders.{key_cmp, Cells, Database}
use Rattle.aria_base.specs.declared.keys.Key.{Key}
use Rattle.aria_base.specs.declared.calls.Request.{Request}
use Rattle.aria_base.specs.declared.limits.TheConstants.{MOST_REQUESTS}
use Rattle.batch_rules.specs.Batches.{Entry as Settled}
use Rattle.batch_core.specs.Steps.{State, list_of, answer, answer_by}
use Rattle.batch_core.specs.declared.answers.Answer.{Answer}
use Rattle.batch_core.specs.Serial.{IsSerialAnswer}
use Rattle.batch_core.proofs.Serial.{serial_answer}
use Rattle.proc_lang.specs.Catalogs.{run_of}
use Rattle.proc_lang.specs.declared.ends.End.{End}
use Rattle.std.specs.Borrow.{Bor}
use Rattle.node_rules.specs.Nets.{Net, IsNet}
use Rattle.node_rules.specs.Truths.{Course, NodeHolds, between, course, entries_on}
use Rattle.node_rules.specs.Worlds.{Node, is_behind}
use Rattle.node_rules.specs.Worlds.{World as Definition}
use Rattle.node_rules.proofs.Picks.{get_above, get_below}
use Rattle.node_batch.specs.Mails.{node_of as home_of}
use Rattle.node_batch.specs.Sames.{same_message}
use Rattle.node_batch.specs.declared.entries.Entry.{Entry as Own}
use Rattle.node_batch.proofs.Sames.{is_net}
use Rattle.node_world.specs.Worlds.{AreLevel}
use Rattle.part_nodes.specs.Asked.{state_in, handed_in}
use Rattle.part_nodes.specs.Databases.{HasPart, IsOneDatabase}
use Rattle.node_answers.specs.Merges.{settled_in, answer_in, AreShares}
use Rattle.node_seats.specs.Nodes.{ArePartsOf, total}
use Rattle.node_world.specs.Worlds.{net_in, sent_in, started_in, world_in, calls_in, done_in}
use Rattle.node_answers.specs.Runs.{IsRun}
use Rattle.node_world.specs.Steps.{IsReady}
use Rattle.node_seats.specs.declared.seats.Seat.{Seat}
use Rattle.node_world.specs.declared.worlds.World.{World}
use Rattle.node_seats.proofs.Few.{wait_few, total_front}
use Rattle.node_world.proofs.Behind.{here, done_here, same_done}
use Rattle.node_answers.proofs.Printed.{long, tids_are, printed}
use Rattle.node_answers.proofs.Stepped.{is_run, at_numbered, at_batches, at_requests}

all_at : {X : Type 0} (p : X → Bool) (xs : List X) (n : ℕ) (x : X) → list_all p xs ≡ true → slice_get xs n ≡ Some x → p x ≡ true
all_at p [] n x e at = cc
all_at p (y ∷ ys) zero x e at = let same : y ≡ x = cc in ap p (sym same) ∙ (and_parts (p y) (list_all p ys) e).0
all_at p (y ∷ ys) (suc n) x e at = all_at p ys n x (and_parts (p y) (list_all p ys) e).1 at

off_at : (p : ℕ → Bool) (base many n : ℕ) → list_any p (range_with_len base many) ≡ false → n < many → p (base + n) ≡ false
off_at p base zero n e lt = absurd (omega arith)
off_at p base (suc many) zero e lt = let at : base + zero ≡ base = omega arith in ap p at
    ∙ (or_parts (p base) (list_any p (range_with_len (base + 1) many)) e).0
off_at p base (suc many) (suc n) e lt =
    let at : base + suc n ≡ base + 1 + n = omega arith in
    ap p at ∙ off_at p (base + 1) many n (or_parts (p base) (list_any p (range_with_len (base + 1) many)) e).1 (omega arith)

-- as many calls as requests
total_calls : (news : List (List Request)) → total (map (map (λ q. q.call)) news) ≡ total news
total_calls [] = refl
total_calls (new ∷ news) =
    let long = length-map new (λ q. q.call) in
    let rest = total_calls news in
    omega arith

-- ---- one database

module _ (start : Database) (w : World) (r : IsReady start w) where
  abbrev net : Net key_cmp Cells Request End
  net = net_in w

  abbrev v : Definition key_cmp Cells Request End
  v = world_in start w

  pub net_is : IsNet net
  net_is = is_net w.catalog w.rule w.nodes r.keeps.some_node

  pub long_calls : length (calls_in w) ≡ length (started_in w)
  long_calls = length-map (started_in w) (map (λ (q : Request). q.call))

  pub run_at : (done : ℕ) → done ≤ length (calls_in w) → IsRun w.catalog w.rule w.nodes same_message start (calls_in w) done
  run_at done le = is_run w.catalog w.rule w.nodes same_message start (calls_in w) done le

  holds : (n : ℕ) → n < w.nodes → NodeHolds net start (started_in w) (sent_in w) n (v.node n)
  holds n lt = r.reached.holds.nodes n lt

  pub has_part : (n : ℕ) → n < w.nodes → HasPart start w n (v.node n)
  has_part n lt =
      let h = holds n lt in
      let all = long_calls in
      let low = h.done in
      let done = (v.node n).done in
      let run = run_at done (omega arith) in
      record {
        done = omega arith;
        rows = λ k. h.rows k ∙ (λ i. if home_of w.nodes k == n then fin.get (between net start (r.keeps.numbered i) done).rows k else None)
            ∙ ap (λ (db : Database). if home_of w.nodes k == n then fin.get db k else None) run.rows;
        carried = h.carried ∙ (λ i. (between net start (r.keeps.numbered i) done).waiting) ∙ run.waiting;
      }

  all_requests : (state_in start w (length (calls_in w))).requests ≡ w.requests
  all_requests = at_requests w.catalog w.rule w.nodes same_message start (calls_in w) ∙ total_calls (started_in w) ∙ sym r.keeps.counted

  pub one_database : IsOneDatabase start w
  one_database = record {
    net = is_net w.catalog w.rule w.nodes r.keeps.some_node;
    started = r.keeps.numbered;
    reached = r.reached;
    runs = run_at;
    counted = at_batches w.catalog w.rule w.nodes same_message start (calls_in w);
    numbered = all_requests;
    parts = has_part;
  }

  -- what the first node carries is what waits
  pub first_waits : (s : Seat) → slice_get w.seats.items 0 ≡ Some s → s.carried ≡ length (state_in start w (done_in w 0)).waiting
  first_waits s e =
      let some = r.keeps.some_node in
      let lt : 0 < w.nodes = omega arith in
      let seat = r.keeps.each 0 s e in
      let part = has_part 0 lt in
      sym (length-take-le s.carried s.bench.list.items seat.within)
      ∙ sym (ap (λ (x : Node key_cmp Cells Request End). length x.carried) (here start w r.keeps 0 s e)) ∙ ap length part.carried
      ∙ ap (λ d. length (state_in start w d).waiting) (same_done start w r.keeps 0 lt)

  -- ---- no node is behind

  module _ (off : is_behind net v ≡ false) where
    pub all_done : (n : ℕ) → n < w.nodes → done_in w n ≡ length w.started.items
    all_done n lt =
        let most = (holds n lt).done in
        let at : 0 + n ≡ n = omega arith in
        let least = ltb-false (v.node n).done (length (started_in w))
        (sym (ap (λ n. nat_lt (v.node n).done (length (started_in w))) at)
        ∙ off_at (λ n. nat_lt (v.node n).done (length (started_in w))) 0 w.nodes n off lt) in
        let long = length-map w.started.items (λ new. new.items) in
        let same = same_done start w r.keeps n lt in
        omega arith

    pub all_level : AreLevel w
    all_level n lt = all_done n lt ∙ sym (all_done 0 (omega arith))

  -- ---- rows

  pub parts_of : AreLevel w → ArePartsOf (state_in start w (done_in w 0)).rows w.nodes w.seats.items
  parts_of level n s e k =
      let many = r.keeps.many_seats in
      let lt : n < w.nodes = let low = get_below w.seats.items n s e in omega arith in
      let part = has_part n lt in
      let done = same_done start w r.keeps n lt ∙ level n lt in
      sym (ap (λ (x : Node key_cmp Cells Request End). fin.get x.rows k) (here start w r.keeps n s e)) ∙ part.rows k
      ∙ ap (λ d. if home_of w.nodes k == n then fin.get (state_in start w d).rows k else None) done

  -- ---- answers

  module _ (d : ℕ) (past : list_all (λ s. nat_le (d + 1) (length s.entries.items)) w.seats.items ≡ true) where
    pub past_seat : (n : ℕ) (s : Seat) → slice_get w.seats.items n ≡ Some s → d < length s.entries.items
    past_seat n s e = let le = leb-true (d + 1) (length s.entries.items) (all_at (λ s. nat_le (d + 1) (length s.entries.items)) w.seats.items n s past e) in
        omega arith

    pub was_started : d < length (calls_in w)
    was_started =
        let many = r.keeps.many_seats in
        let some = r.keeps.some_node in
        let s = get_above w.seats.items 0 (omega arith) in
        let low = past_seat 0 s.0 s.1 in
        let h = holds 0 (omega arith) in
        let most = h.done in
        let same = done_here start w r.keeps 0 s.0 s.1 in
        let all = long_calls in
        omega arith

    abbrev c : Course key_cmp Cells Request
    c = course net start (started_in w) d

    few_listed : length c.list ≤ MOST_REQUESTS
    few_listed =
        let lt = was_started in
        let all = long_calls in
        let waits = wait_few net (record { rows = start; waiting = [] }) (take d (started_in w)) in
        let front = total_front d (started_in w) in
        let both = length-append (between net start (started_in w) d).waiting (slice_index_or (started_in w) d []) in
        let count = r.keeps.counted in
        let most = r.keeps.few in
        omega arith

    pub shares : AreShares w.seats.items d (entries_on net c)
    shares =
        let count = long net c in
        let few = few_listed in
        record {
          few = omega arith;
          tids = tids_are net c;
          own = λ n s e.
              let many = r.keeps.many_seats in
              let lt : n < w.nodes = let low = get_below w.seats.items n s e in omega arith in
              let h = holds n lt in
              let same = done_here start w r.keeps n s e in
              let low = past_seat n s e in
              sym (ap (λ (x : Node key_cmp Cells Request End). slice_index_or x.entries d []) (here start w r.keeps n s e))
              ∙ h.entries d (omega arith)
              ∙ ap (λ k. filter (λ (e : Settled Key Request End). (e.judged.tid - 1) % k == n) (entries_on net c)) (sym many);
        }

    pub answered : (es : List (Bor Own)) → settled_in es ≡ entries_on net c
        → answer_in (d + 1) es ≡ answer (run_of w.catalog) (state_in start w d) (handed_in start w d)
    answered es same =
        let lt = was_started in
        printed net c (d + 1) es same
        ∙ (λ i. answer_by (λ r. r) (d + 1) (course net start (r.keeps.numbered i) d).list (entries_on net (course net start (r.keeps.numbered i) d)))
        ∙ (run_at d (omega arith)).answer lt

    pub is_serial : (a : Answer) → a ≡ answer (run_of w.catalog) (state_in start w d) (handed_in start w d)
        → IsSerialAnswer (run_of w.catalog) (state_in start w d).rows (list_of (state_in start w d) (handed_in start w d)) a (state_in start w (d + 1))
    is_serial a e =
        let lt = was_started in
        let law = serial_answer (run_of w.catalog) (state_in start w d) (handed_in start w d)
        (at_numbered w.catalog w.rule w.nodes same_message start (calls_in w) d) in
        subst (λ (p : Answer × State). IsSerialAnswer (run_of w.catalog) (state_in start w d).rows (list_of (state_in start w d) (handed_in start w d)) p.0 p.1)
        (λ i. (sym e i, sym ((run_at d (omega arith)).next lt) i)) law
