-- A pass in code: message after message, and what it leaves.
use Rattle.std.proofs.Common.{◌≡◌, ℕ, zero, suc, ◌+◌, ◌<◌, List, [], ◌∷◌, ◌++◌, length, true, refl, sym, ap, ◌∙◌, subst, arith, ⊎_elim}
use Rattle.std.specs.Prelude.{nat_lt}
use Rattle.std.specs.List.{list_any, range_with_len, All}
use Rattle.std.proofs.lemmas.Bool.{or_cases, ltb-true}
use Rattle.std.proofs.lemmas.List.Elements.{All-contains}
use Rattle.aria_base.specs.Orders.{key_cmp, Cells, Database}
use Rattle.aria_base.specs.declared.calls.Request.{Request}
use Rattle.proc_lang.specs.declared.ends.End.{End}
use Rattle.node_rules.specs.Nets.{Net, IsNet, all_nodes}
use Rattle.node_rules.specs.Worlds.{World, Deliver, step, deliver_each, pass, is_behind}
use Rattle.node_rules.specs.Counts.{left}
use Rattle.node_rules.specs.Laws.{IsReached, Behind, settled}
use Rattle.node_rules.proofs.Picks.{in_range}
use Rattle.node_batch.proofs.Pushed.{range_more}
use Rattle.node_rules.proofs.Reached.{step_reached, pass_moves}
use Rattle.part_nodes.specs.Settling.{OnWay, InPass}

abbrev pub N : Type 0
N = Net key_cmp Cells Request End

abbrev pub W : Type 0
W = World key_cmp Cells Request End

pub each_push : (net : N) (w : W) (ks : List ℕ) (k : ℕ) → deliver_each net w (ks ++ k ∷ []) ≡ step net (deliver_each net w ks) (Deliver k)
each_push net w [] k = refl
each_push net w (x ∷ xs) k = each_push net (step net w (Deliver x)) xs k

settled_more : (net : N) (start : Database) (p : ℕ) (w : W) → settled net start (suc p) w ≡ pass net (settled net start p w)
settled_more net start zero w = refl
settled_more net start (suc p) w = settled_more net start p (pass net w)

each_reached : (net : N) (is : IsNet net) (start : Database) (ks : List ℕ) (w : W) → IsReached net start w → IsReached net start (deliver_each net w ks)
each_reached net is start [] w r = r
each_reached net is start (k ∷ ks) w r = each_reached net is start ks (step net w (Deliver k)) (step_reached net is start w (Deliver k) r)

-- a node is behind, by its number
some_behind : (net : N) (start : Database) (w : W) → is_behind net w ≡ true → Behind net start w
some_behind net start w e = from (all_nodes net) (λ k d lt. let r = in_range 0 net.nodes k d lt in let high = r.1 in omega arith) e
  where
    from : (ns : List ℕ) → All (λ n. n < net.nodes) ns → list_any (λ n. nat_lt (w.node n).done (length w.started)) ns ≡ true → Behind net start w
    from [] a e = cc
    from (n ∷ ns) a e = ⊎_elim
        (λ here. (n, All-contains (λ n. n < net.nodes) (n ∷ ns) n a (zero, omega arith, refl), ltb-true (w.node n).done (length w.started) here))
        (λ rest. from ns (λ k d lt. a (suc k) d (omega arith)) rest)
        (or_cases _ _ e)

module _ (net : N) (start : Database) (w : W) (net1 : N) (start1 : Database) (now : W) where
  pub pass_more : (k : ℕ) → InPass net start w net1 start1 now k → (net2 : N) (start2 : Database) (next : W)
      → (net2 ≡ net1) × (start2 ≡ start1) × (next ≡ step net1 now (Deliver k))
      → InPass net start w net2 start2 next (k + 1)
  pass_more k p net2 start2 next e =
      let add : suc k ≡ k + 1 = omega arith in
      record {
        same_net = e.0 ∙ p.same_net;
        same_start = e.1 ∙ p.same_start;
        is = e.2 ∙ (λ i. step (p.same_net i) (p.is i) (Deliver k)) ∙ sym (each_push net w (range_with_len 0 k) k)
            ∙ ap (deliver_each net w) (let zero_k : k ≡ 0 + k = omega arith in ap (λ x. range_with_len 0 k ++ x ∷ []) zero_k ∙ sym (range_more 0 k)
            ∙ ap (range_with_len 0) add);
      }

  pub pass_done : (k : ℕ) → InPass net start w net1 start1 now k → k ≡ length w.sent → now ≡ pass net w
  pass_done k p e = p.is ∙ ap (λ n. deliver_each net w (range_with_len 0 n)) e

  pub on_way : (net0 : N) (start0 : Database) (before : W) → IsNet net → OnWay net0 start0 before net start w → net1 ≡ net → start1 ≡ start → now ≡ pass net w
      → OnWay net0 start0 before net1 start1 now
  on_way net0 start0 before is o en es e = record {
    same_net = en ∙ o.same_net;
    same_start = es ∙ o.same_start;
    passes = suc o.passes;
    is = e ∙ (λ i. pass (o.same_net i) (o.is i)) ∙ sym (settled_more net0 start0 o.passes before);
    reached = subst (IsReached net0 start0) (sym e) (subst (λ (p : N × Database). IsReached p.0 p.1 (pass net w)) (λ i. (o.same_net i, o.same_start i))
        (each_reached net is start (range_with_len 0 (length w.sent)) w
        (subst (λ (p : N × Database). IsReached p.0 p.1 w) (λ i. (sym o.same_net i, sym o.same_start i)) o.reached)));
  }

  pub less_left : IsNet net → IsReached net start w → is_behind net w ≡ true → net1 ≡ net → start1 ≡ start → now ≡ pass net w
      → left net1 start1 now < left net start w
  less_left is r b en es e = subst (λ n. n < left net start w) (λ i. left (sym en i) (sym es i) (sym e i))
      (pass_moves net is start w r (some_behind net start w b))
