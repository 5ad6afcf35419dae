-- No list is longer than all calls that were started.
use Rattle.std.proofs.Common.{◌≡◌, ℕ, zero, suc, ◌+◌, ◌<◌, ◌≤◌, List, [], ◌∷◌, ◌++◌, length, Bool, true, false, cond, Some, sym, ap, ◌∙◌, arith}
use Rattle.std.specs.Prelude.{slice_get, slice_index_or, take}
use Rattle.std.specs.List.{filter}
use Rattle.std.proofs.lemmas.List.{length-append, length-map}
use Rattle.aria_base.specs.Orders.{key_cmp, Cells, Database}
use Rattle.aria_base.specs.declared.calls.Request.{Request}
use Rattle.aria_base.specs.declared.keys.Key.{Key}
use Rattle.batch_rules.specs.declared.verdicts.Rule.{Rule}
use Rattle.batch_rules.specs.Verdicts.{waits}
use Rattle.batch_rules.specs.Batches.{waiting}
use Rattle.proc_lang.specs.Catalogs.{Plan}
use Rattle.proc_lang.specs.declared.ends.End.{End}
use Rattle.node_rules.specs.Messages.{Message}
use Rattle.node_rules.specs.Nets.{Net}
use Rattle.node_rules.specs.Worlds.{Node}
use Rattle.node_rules.specs.Truths.{Between, on, judged_list, next, after, Holds}
use Rattle.node_rules.proofs.Counting.{range_count}
use Rattle.node_rules.proofs.Places.{tids-judged}
use Rattle.node_seats.specs.Nodes.{total, net, world_of, AreKept}
use Rattle.node_seats.specs.declared.seats.Seat.{Seat}
use Rattle.node_seats.proofs.Keeping.{node_here}

fewer : {X : Type 0} (p : X → Bool) (xs : List X) → length (filter p xs) ≤ length xs
fewer p [] = omega arith
fewer p (x ∷ xs) = let rest = fewer p xs in elim (p x) as (λ b. length (cond b (x ∷ filter p xs) (filter p xs)) ≤ length (x ∷ xs)) [
  | true ↦ omega arith
  | false ↦ omega arith
]

pub total_front : {X : Type 0} (d : ℕ) (news : List (List X)) → total (take d news) + length (slice_index_or news d []) ≤ total news
total_front zero [] = omega arith
total_front zero (new ∷ news) = omega arith
total_front (suc d) [] = omega arith
total_front (suc d) (new ∷ news) = let rest = total_front d news in omega arith

module _ (N : Net key_cmp Cells Request End) where
  wait_one : (b : Between key_cmp Cells Request) (new : List Request) → length (next N b new).waiting ≤ length b.waiting + length new
  wait_one b new =
      let ds = judged_list N b.rows (b.waiting ++ new) in
      let some = fewer (λ d. waits d.verdict) ds in
      let all = sym (length-map ds (λ d. d.tid)) ∙ ap length (tids-judged (on N b.rows) N.rule [] (b.waiting ++ new))
      ∙ range_count 1 (length (b.waiting ++ new)) ∙ length-append b.waiting new in
      let mapped = length-map (waiting ds) (λ d. d.request) in
      omega arith

  pub wait_few : (b : Between key_cmp Cells Request) (news : List (List Request)) → length (after N b news).waiting ≤ length b.waiting + total news
  wait_few b [] = omega arith
  wait_few b (new ∷ news) =
      let one = wait_one b new in
      let rest = wait_few (next N b new) news in
      omega arith

module _ (plan : Plan) (rule : Rule) (nodes : ℕ) (start : Database) (started : List (List Request)) (requests : ℕ) (ms : List (Message Key Cells))
    (flags : List Bool) (seats : List Seat) (h : AreKept plan rule nodes start started requests ms flags seats)
    (holds : Holds (net plan rule nodes start) start (world_of plan rule nodes start started ms seats)) where
  pub few_listed : (n : ℕ) (s : Seat) → n < nodes → slice_get seats n ≡ Some s → length s.bench.list.items ≤ requests
  few_listed n s lt e =
      let N = net plan rule nodes start in
      let done = length s.entries.items in
      let here = node_here plan rule nodes start ms seats n s e in
      let one = holds.nodes n lt in
      let shown = (h.each n s e).shows in
      let waits_are : take s.carried s.bench.list.items ≡ (after N (record { rows = start; waiting = [] }) (take done started)).waiting
      = sym (ap (λ (x : Node key_cmp Cells Request End). x.carried) here) ∙ one.carried
      ∙ (λ i. (after N (record { rows = start; waiting = [] }) (take ((here i).done) started)).waiting) in
      let few = wait_few N (record { rows = start; waiting = [] }) (take done started) in
      let front = total_front done started in
      let long = ap length (sym shown.list_is) ∙ length-append (take s.carried s.bench.list.items) (slice_index_or started done []) in
      let same = ap length waits_are in
      let all = h.counted in
      omega arith
