-- A pass leaves less to do.
use Rattle.std.proofs.Common.{ℕ, ◌-◌, ◌<◌, ◌≤◌, ⊎_elim, List, [], ◌∷◌, length, sym, ap, ◌∙◌, subst, Ordering, arith, Contains}
use Rattle.std.specs.List.{range_with_len}
use Rattle.std.specs.FinMap.{FinMap}
use Rattle.std.proofs.lemmas.List.{length-append}
use Rattle.node_rules.specs.Nets.{Net, IsNet, all_nodes}
use Rattle.node_rules.specs.Worlds.{World, pass}
use Rattle.node_rules.specs.Truths.{AllRest}
use Rattle.node_rules.specs.Counts.{NoneTwice, sum_over, all_messages, left}
use Rattle.node_rules.proofs.Picks.{has_cases, has_number}
use Rattle.node_rules.proofs.Leads.{each_leads}
use Rattle.node_rules.proofs.Fated.{Both}
use Rattle.node_rules.proofs.Passing.{each_both, pass_moves}
use Rattle.node_rules.proofs.Counting.{each_once, bounded}

sum_under : (f g : ℕ → ℕ) (ns : List ℕ) → ((n : ℕ) → f n ≤ g n) → sum_over f ns ≤ sum_over g ns
sum_under f g [] h = omega arith
sum_under f g (n ∷ ns) h = let a = h n in let b = sum_under f g ns h in omega arith

sum_less : (f g : ℕ → ℕ) (ns : List ℕ) (i : ℕ) → ((n : ℕ) → f n ≤ g n) → Contains ns i → f i < g i → sum_over f ns < sum_over g ns
sum_less f g [] i h c lt = absurd (let low = c.1 in omega arith)
sum_less f g (n ∷ ns) i h c lt = ⊎_elim
    (λ same. let here : f n < g n = subst (λ n. f n < g n) (sym same) lt in let b = sum_under f g ns h in omega arith)
    (λ rest. let a = h n in let b = sum_less f g ns i h rest lt in omega arith)
    (has_cases n ns i c)

module _ {K V Q A : Type 0} {R : K → K → Ordering} (net : Net R V Q A) (is : IsNet net) (begun : FinMap R V) where
  pub pass_less : (w : World R V Q A) → Both net is begun w → AllRest net w → NoneTwice w.sent → (n : ℕ) → n < net.nodes
      → (w.node n).done < length w.started
      → left net begun (pass net w) < left net begun w
  pass_less w h rest once n nlt behind =
      let ks = range_with_len 0 (length w.sent) in
      let v = pass net w in
      let l = each_leads net ks w in
      let both = each_both net is begun ks w h in
      let once_more = each_once net is ks w once in
      let started = ap length l.started in
      let room = ap (λ s. length (all_messages net begun s)) l.started in
      let most = bounded net is begun v both.0 once_more in
      let long = ap length l.sent.1 ∙ length-append w.sent l.sent.0 in
      let each : (i : ℕ) → length v.started - (v.node i).done ≤ length w.started - (w.node i).done = λ i. let up = l.done i in omega arith in
      ⊎_elim
      (λ more. let sum = sum_under (λ i. length v.started - (v.node i).done) (λ i. length w.started - (w.node i).done) (all_nodes net) each in omega arith)
      (λ one.
      let moved = one.2 in
      let within = (both.0.nodes one.0 one.1).done in
      let sum = sum_less (λ i. length v.started - (v.node i).done) (λ i. length w.started - (w.node i).done) (all_nodes net) one.0 each
      (has_number 0 net.nodes one.0 (omega arith) (let lt = one.1 in omega arith)) (omega arith) in
      omega arith)
      (pass_moves net is begun w h rest n nlt behind)
