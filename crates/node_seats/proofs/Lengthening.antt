-- A batch that is kept, and the lists of the nodes that come to it.
use Rattle.std.proofs.Common.{◌≡◌, ℕ, zero, suc, ◌+◌, ◌<◌, ◌≤◌, ⊎_elim, List, [], ◌∷◌, ◌++◌, map, length, Bool, false, Some, None, Option, refl, sym, ap, ◌∙◌, subst, arith}
use Rattle.std.specs.Prelude.{slice_get, slice_index_or, slice_set, filter_map, take, eqb}
use Rattle.std.specs.List.{All, list_any}
use Rattle.std.proofs.lemmas.Bool.{cases_eq, cases_lt}
use Rattle.std.proofs.lemmas.Option.{same_Some}
use Rattle.std.proofs.lemmas.List.{append-nil, length-append, take-append-le, get_or_append_left}
use Rattle.aria_base.specs.Orders.{key_cmp, Cells, Database}
use Rattle.aria_base.specs.declared.keys.Key.{Key}
use Rattle.aria_base.specs.declared.calls.Call.{Call}
use Rattle.aria_base.specs.declared.calls.Request.{Request}
use Rattle.aria_base.specs.declared.limits.TheConstants.{MOST_REQUESTS}
use Rattle.batch_rules.specs.declared.verdicts.Rule.{Rule}
use Rattle.batch_core.specs.Steps.{numbered}
use Rattle.proc_lang.specs.Catalogs.{Plan}
use Rattle.proc_lang.specs.declared.ends.End.{End}
use Rattle.node_rules.specs.Messages.{Message}
use Rattle.node_rules.specs.Nets.{all_nodes}
use Rattle.node_rules.specs.Worlds.{Node, node_at_first, desk_for, turn_all}
use Rattle.node_rules.specs.Worlds.{World as Definition}
use Rattle.node_rules.specs.Laws.{IsReached}
use Rattle.node_rules.proofs.Picks.{get_above, get_below}
use Rattle.node_batch.specs.NodeBatches.{Shows}
use Rattle.node_batch.specs.Entries.{entry_of}
use Rattle.node_batch.specs.Sames.{same_message}
use Rattle.node_batch.specs.declared.mails.Site.{Site}
use Rattle.node_batch.proofs.Sames.{is_net}
use Rattle.node_turns.specs.Goings.{IsStarting}
use Rattle.node_seats.specs.Listed.{listed}
use Rattle.node_seats.specs.Nodes.{given_of, total, node_of, net, nodes_of, world_of, IsSeat, IsFlagged, AreKept}
use Rattle.node_seats.specs.Nodes.{news_of}
use Rattle.node_seats.specs.Seats.{IsLengthened}
use Rattle.node_seats.specs.declared.seats.Seat.{Seat}
use Rattle.node_seats.proofs.Keeping.{get_set_same, get_set_else, node_here}
use Rattle.node_turns.proofs.Starting.{is_starting}

-- ---- numbers

pub total-push : {X : Type 0} (news : List (List X)) (new : List X) → total (news ++ new ∷ []) ≡ total news + length new
total-push [] new = omega arith
total-push (x ∷ xs) new = let rest = total-push xs new in omega arith

calls_again : (n : ℕ) (calls : List Call) → map (λ (q : Request). q.call) (numbered n calls) ≡ calls
calls_again n [] = refl
calls_again n (c ∷ cs) = ap (λ l. c ∷ l) (calls_again (n + 1) cs)

pub numbered_many : (n : ℕ) (calls : List Call) → length (numbered n calls) ≡ length calls
numbered_many n [] = refl
numbered_many n (c ∷ cs) = ap suc (numbered_many (n + 1) cs)

news-push : (n m : ℕ) (bs : List (List Call)) (b : List Call) → m ≡ n + total (news_of n bs) → news_of n (bs ++ b ∷ []) ≡ news_of n bs ++ numbered m b ∷ []
news-push n m [] b e = let same : n ≡ m = omega arith in ap (λ k. numbered k b ∷ []) same
news-push n m (x ∷ xs) b e =
    let many = numbered_many n x in
    ap (λ l. numbered n x ∷ l) (news-push (n + length x) m xs b (omega arith))

pub map-push : {X Y : Type 0} (f : X → Y) (xs : List X) (x : X) → map f (xs ++ x ∷ []) ≡ map f xs ++ f x ∷ []
map-push f [] x = refl
map-push f (y ∷ ys) x = ap (λ l. f y ∷ l) (map-push f ys x)

-- started batches are the calls by their numbers, with one more
pub numbers_on : (started : List (List Request)) (requests : ℕ) (calls : List Call) → started ≡ news_of 0 (map (map (λ q. q.call)) started)
    → requests ≡ total started
    → started ++ numbered requests calls ∷ [] ≡ news_of 0 (map (map (λ q. q.call)) (started ++ numbered requests calls ∷ []))
numbers_on started requests calls e count =
    let bs = map (map (λ (q : Request). q.call)) started in
    let same = ap total e in
    (λ i. e i ++ numbered requests calls ∷ [])
    ∙ sym (news-push 0 requests bs calls (omega arith))
    ∙ ap (news_of 0) (ap (λ c. bs ++ c ∷ []) (sym (calls_again requests calls))
    ∙ sym (map-push (map (λ (q : Request). q.call)) started (numbered requests calls)))

pub none_past : {X : Type 0} (xs : List (List X)) (n : ℕ) → length xs ≤ n → slice_index_or xs n [] ≡ []
none_past [] n le = refl
none_past (x ∷ xs) zero le = absurd (omega arith)
none_past (x ∷ xs) (suc n) le = none_past xs n (omega arith)

last_at : {X : Type 0} (xs : List (List X)) (x : List X) (n : ℕ) → n ≡ length xs → slice_index_or (xs ++ x ∷ []) n [] ≡ x
last_at [] x n e = ap (λ k. slice_index_or (x ∷ []) k []) e
last_at (y ∷ ys) x zero e = absurd (omega arith)
last_at (y ∷ ys) x (suc n) e = last_at ys x n (omega arith)

module _ (plan : Plan) (rule : Rule) (nodes : ℕ) (start : Database) (started : List (List Request)) (requests : ℕ) (ms : List (Message Key Cells))
    (flags : List Bool) (seats : List Seat) (h : AreKept plan rule nodes start started requests ms flags seats)
    (reached : IsReached (net plan rule nodes start) start (world_of plan rule nodes start started ms seats)) (calls : List Call) (longer : List Seat)
    (many : length longer ≡ length seats)
    (each : (n : ℕ) (s t : Seat) → slice_get seats n ≡ Some s → slice_get longer n ≡ Some t → IsLengthened (length started) (numbered requests calls) s t) where
  abbrev new : List Request
  new = numbered requests calls

  abbrev all : List (List Request)
  all = started ++ new ∷ []

  abbrev u : Definition key_cmp Cells Request End
  u = world_of plan rule nodes start started ms seats

  abbrev v : Definition key_cmp Cells Request End
  v = record { started = all; sent = ms; node = u.node }

  old_seat : (n : ℕ) (t : Seat) → slice_get longer n ≡ Some t → (s : Seat) × (slice_get seats n ≡ Some s)
  old_seat n t e = get_above seats n (let lt = get_below longer n t e in omega arith)

  node_same : (n : ℕ) (s t : Seat) → slice_get seats n ≡ Some s → IsLengthened (length started) new s t → node_of ms t ≡ node_of ms s
  node_same n s t e l = ⊎_elim
      (λ less. ap (node_of ms) (l.behind less))
      (λ rest.
      let r = l.rest rest in
      λ i. record {
        rows = r.rows i;
        carried = ((λ i. take (r.carried i) (r.list i)) ∙ take-append-le s.carried s.bench.list.items new (h.each n s e).within) i;
        done = length (r.entries i).items;
        entries = map (λ batch. map entry_of batch.items) (r.entries i).items;
        given = filter_map (slice_get ms) (listed (r.given i).value);
      })
      (cases_lt (length s.entries.items) (length started))

  abbrev pick_node : ℕ → Option Seat → Node key_cmp Cells Request End
  pick_node n r = elim r [ None ↦ node_at_first (net plan rule nodes start) start n | Some s ↦ node_of ms s ]

  nodes_same : nodes_of plan rule nodes start ms longer ≡ u.node
  nodes_same = λ i n. one n i
    where
      one : (n : ℕ) → nodes_of plan rule nodes start ms longer n ≡ u.node n
      one n = elim (slice_get longer n) as (λ r. slice_get longer n ≡ r → pick_node n r ≡ u.node n) [
        | None ↦ λ e. sym (ap (pick_node n) (none_there n e))
        | Some t ↦ λ e. let s = old_seat n t e in node_same n s.0 t s.1 (each n s.0 t s.1 e) ∙ sym (node_here plan rule nodes start ms seats n s.0 s.1)
      ] refl
        where
          none_there : (n : ℕ) → slice_get longer n ≡ None → slice_get seats n ≡ None
          none_there n e = elim (slice_get seats n) as (λ r. slice_get seats n ≡ r → r ≡ None) [
            | None ↦ λ _. refl
            | Some s ↦ λ at. let t = get_above longer n (let lt = get_below seats n s at in omega arith) in
                let none : Some t.0 ≡ None = sym t.1 ∙ e in cc
          ] refl

  pub world_longer : world_of plan rule nodes start all ms longer ≡ v
  world_longer = λ i. record { started = all; sent = ms; node = nodes_same i }

  starting : IsStarting (net plan rule nodes start) start (turn_all (net plan rule nodes start) v (all_nodes (net plan rule nodes start))) v 0 (length started)
  starting = is_starting (net plan rule nodes start) (is_net plan rule nodes h.some_node) start u new reached

  pub is_longer : IsStarting (net plan rule nodes start) start (turn_all (net plan rule nodes start) v (all_nodes (net plan rule nodes start)))
      (world_of plan rule nodes start all ms longer) 0 (length started)
  is_longer = subst (λ w. IsStarting (net plan rule nodes start) start (turn_all (net plan rule nodes start) v (all_nodes (net plan rule nodes start))) w 0
      (length started))
      (sym world_longer) starting

  seat_longer : (n : ℕ) (s t : Seat) → n < nodes → slice_get seats n ≡ Some s → IsLengthened (length started) new s t → IsSeat plan rule nodes start all ms n t
  seat_longer n s t lt e l = ⊎_elim behind rest (cases_lt (length s.entries.items) (length started))
    where
      old : IsSeat plan rule nodes start started ms n s
      old = h.each n s e

      behind : length s.entries.items < length started → IsSeat plan rule nodes start all ms n t
      behind less = subst (IsSeat plan rule nodes start all ms n) (sym (l.behind less)) (record {
        shows = subst (λ d. Shows plan rule same_message d s.bench)
            (λ i. record {
              node = n;
              rows = s.bench.rows;
              batch = length s.entries.items + 1;
              list = take s.carried s.bench.list.items ++ sym (get_or_append_left started (new ∷ []) [] (length s.entries.items) less) i;
              given = filter_map (slice_get ms) (given_of s);
            }) old.shows;
        site = old.site;
        within = old.within;
        numbers = old.numbers;
      })

      rest : length started ≤ length s.entries.items → IsSeat plan rule nodes start all ms n t
      rest le =
          let r = l.rest le in
          let at = node_here plan rule nodes start ms seats n s e in
          let done = ap (λ (x : Node key_cmp Cells Request End). x.done) at in
          let most = (reached.holds.nodes n lt).done in
          let here : length s.entries.items ≡ length started = omega arith in
          let begins = starting.begins n (omega arith) lt (done ∙ here) in
          let none = none_past started (length s.entries.items) le in
          let whole : take s.carried s.bench.list.items ≡ s.bench.list.items
          = sym (append-nil (take s.carried s.bench.list.items)) ∙ ap (λ l. take s.carried s.bench.list.items ++ l) (sym none) ∙ old.shows.list_is in
          let same = node_same n s t e l in
          record {
            shows = r.shows plan rule (desk_for (net plan rule nodes start) all n (node_of ms t)) (record {
              node_is = old.shows.node_is ∙ sym (ap (λ (x : Site). x.node) r.site);
              batch_is = ap (λ (x : Node key_cmp Cells Request End). x.done + 1) same ∙ old.shows.batch_is ∙ sym (ap (λ (x : Site). x.batch) r.site);
              rows_are = refl;
              list_is = (λ i. (same i).carried ++ slice_index_or all (same i).done [])
                  ∙ (λ i. whole i ++ last_at started new (length s.entries.items) here i) ∙ sym r.list;
              given_is = ap (λ (x : Node key_cmp Cells Request End). x.given) (same ∙ sym at) ∙ begins.nothing;
            });
            site = ap (λ (x : Site). x.nodes) r.site ∙ old.site;
            within =
                let low = old.within in
                let carried = r.carried in
                let long = ap length r.list in
                let both = length-append s.bench.list.items new in
                omega arith;
            numbers =
                let given : given_of s ≡ given_of t = λ j. listed (sym r.given j).value in
                subst (All (λ k. k < length ms)) given old.numbers;
          }

  flag_same : (k : ℕ) (m : Message Key Cells) (n : ℕ) (s t : Seat) → IsLengthened (length started) new s t
      → IsFlagged plan rule nodes start k m s (slice_index_or flags k false) → IsFlagged plan rule nodes start k m t (slice_index_or flags k false)
  flag_same k m n s t l f = ⊎_elim
      (λ less. subst (λ s. IsFlagged plan rule nodes start k m s (slice_index_or flags k false)) (sym (l.behind less)) f)
      (λ le.
      let r = l.rest le in
      let many : length t.entries.items ≡ length s.entries.items = λ i. length (r.entries i).items in
      let given : given_of t ≡ given_of s = λ i. listed (r.given i).value in
      record {
        past = λ e. let high = f.past e in omega arith;
        now = λ e. f.now (e ∙ ap (λ c. c + 1) many) ∙ ap (list_any (eqb k)) (sym given);
      })
      (cases_lt (length s.entries.items) (length started))

  pub kept_longer : requests + length calls ≤ MOST_REQUESTS → AreKept plan rule nodes start all (requests + length calls) ms flags longer
  kept_longer room = record {
    some_node = h.some_node;
    few_nodes = h.few_nodes;
    many_seats = many ∙ h.many_seats;
    each = λ n t e.
        let s = old_seat n t e in
        let count = h.many_seats in
        seat_longer n s.0 t (let lt = get_below longer n t e in omega arith) s.1 (each n s.0 t s.1 e);
    many_flags = h.many_flags;
    flagged = λ k m t a b.
        let s = old_seat m.addressee t b in
        flag_same k m m.addressee s.0 t (each m.addressee s.0 t s.1 b) (h.flagged k m s.0 a s.1);
    numbered = numbers_on started requests calls h.numbered h.counted;
    counted =
        let sum = total-push started new in
        let long = numbered_many requests calls in
        let old = h.counted in
        omega arith;
    few = room;
  }

-- ---- seat after seat

pub lengthen_more : (done : ℕ) (new : List Request) (before seats : List Seat) (place : ℕ) (s0 t1 : Seat) → slice_get seats place ≡ Some s0
    → IsLengthened done new s0 t1
    → ((n : ℕ) (s t : Seat) → slice_get before n ≡ Some s → slice_get seats n ≡ Some t → (n < place → IsLengthened done new s t) × (place ≤ n → t ≡ s))
    → (n : ℕ) (s t : Seat) → slice_get before n ≡ Some s → slice_get (slice_set seats place t1) n ≡ Some t
    → (n < place + 1 → IsLengthened done new s t) × (place + 1 ≤ n → t ≡ s)
lengthen_more done new before seats place s0 t1 at long each n s t a b = ⊎_elim
    (λ same.
    let here : t1 ≡ t = same_Some t1 t (sym (get_set_same seats place t1 s0 at) ∙ ap (slice_get (slice_set seats place t1)) (sym same) ∙ b) in
    let old : s0 ≡ s = (each n s s0 a (ap (slice_get seats) same ∙ at)).1 (omega arith) in
    (λ lt. subst (λ (p : Seat × Seat). IsLengthened done new p.0 p.1) (λ i. (old i, here i)) long, λ le. absurd (omega arith)))
    (λ off.
    let was = each n s t a (sym (get_set_else seats place t1 n off) ∙ b) in
    (λ lt. was.0 (omega arith), λ le. was.1 (omega arith)))
    (cases_eq n place)
