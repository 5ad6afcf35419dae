-- A pass that begins with a node behind sends a new message or completes a batch.
use Rattle.std.proofs.Common.{◌≡◌, ℕ, zero, suc, ◌+◌, ◌-◌, ◌<◌, ◌⊎◌, inl, inr, ⊎_elim, List, [], ◌∷◌, ◌++◌, length, true, Some, sym, ap, ◌∙◌, subst}
use Rattle.std.proofs.Common.{Ordering, arith, Contains}
use Rattle.std.specs.Prelude.{slice_get, nat_lt, if◌then◌else◌}
use Rattle.std.specs.List.{range_with_len}
use Rattle.std.specs.FinMap.{FinMap}
use Rattle.std.proofs.lemmas.Bool.{cases_lt, and_from, eq-eqb, lt-ltb, ltb-true, ltb-false}
use Rattle.std.proofs.lemmas.List.{length-append, append-nil, nil_from_length}
use Rattle.node_rules.specs.Messages.{Message}
use Rattle.node_rules.specs.Nets.{Net, IsNet}
use Rattle.node_rules.specs.Worlds.{Node, World, Deliver, with_node, is_current, given_also, keep, deliver, step, deliver_each, pass}
use Rattle.node_rules.specs.Truths.{AllRest}
use Rattle.node_rules.proofs.Picks.{has_cases, has_number}
use Rattle.node_rules.proofs.News.{has_one}
use Rattle.node_rules.proofs.Growing.{with_here}
use Rattle.node_rules.proofs.Leads.{turns_leads, deliver_leads, each_leads}
use Rattle.node_rules.proofs.Resting.{step_rests}
use Rattle.node_rules.proofs.Fated.{Both, step_both}
use Rattle.node_rules.proofs.Holding.{to_below}
use Rattle.node_rules.proofs.Progress.{none_or_one, none_behind}

pub has_get : {X : Type 0} (xs : List X) (x : X) → Contains xs x → (k : ℕ) × (k < length xs) × (slice_get xs k ≡ Some x)
has_get [] x c = absurd (let lt = c.1 in omega arith)
has_get (y ∷ ys) x (zero, lt, e) = (zero, omega arith, ap Some e)
has_get (y ∷ ys) x (suc k, lt, e) = let rest = has_get ys x (k, omega arith, e) in let low = rest.1 in (suc rest.0, omega arith, rest.2)

get_left : {X : Type 0} (xs ys : List X) (k : ℕ) (x : X) → slice_get xs k ≡ Some x → slice_get (xs ++ ys) k ≡ Some x
get_left [] ys k x e = cc
get_left (z ∷ zs) ys zero x e = e
get_left (z ∷ zs) ys (suc k) x e = get_left zs ys k x e

module _ {K V Q A : Type 0} {R : K → K → Ordering} (net : Net R V Q A) (is : IsNet net) where
  -- what is delivered to a node that stays at its batch is given to it
  delivered : (w : World R V Q A) (m : Message K V) → m.batch ≡ (w.node m.addressee).done + 1 → (w.node m.addressee).done < length w.started
      → ((deliver net w (Some m)).node m.addressee).done ≡ (w.node m.addressee).done → Contains ((deliver net w (Some m)).node m.addressee).given m
  delivered w m batch behind same =
      let to = m.addressee in
      let current : is_current net w m ≡ true = and_from _ _ (eq-eqb _ _ batch) (lt-ltb _ _ behind) in
      let here : (keep net w m).node to ≡ given_also net (w.node to) m
      = ap (λ b. (if b then with_node w.node to (given_also net (w.node to) m) else w.node) to) current
      ∙ with_here net w.started w.node to (given_also net (w.node to) m) in
      (turns_leads net (length w.started - ((keep net w m).node to).done) (keep net w m) to).given to (same
      ∙ sym (ap (λ (x : Node R V Q A). x.done) here)) m
      (subst (λ (x : Node R V Q A). Contains x.given m) (sym here) (has_one net is (w.node to).given m))

  given_each : (ks : List ℕ) (w : World R V Q A) (k : ℕ) (m : Message K V) → Contains ks k → slice_get w.sent k ≡ Some m
      → m.batch ≡ (w.node m.addressee).done + 1 → (w.node m.addressee).done < length w.started
      → ((deliver_each net w ks).node m.addressee).done ≡ (w.node m.addressee).done → Contains ((deliver_each net w ks).node m.addressee).given m
  given_each [] w k m c e batch behind same = absurd (let lt = c.1 in omega arith)
  given_each (k0 ∷ ks) w k m c e batch behind same =
      let w1 = step net w (Deliver k0) in
      let first = deliver_leads net w (slice_get w.sent k0) in
      let rest = each_leads net ks w1 in
      let a = first.done m.addressee in
      let b = rest.done m.addressee in
      let stays : (w1.node m.addressee).done ≡ (w.node m.addressee).done = omega arith in
      ⊎_elim
      (λ now.
      let at : slice_get w.sent k0 ≡ Some m = ap (slice_get w.sent) now ∙ e in
      rest.given m.addressee (same ∙ sym stays) m
      (subst (λ r. Contains ((deliver net w r).node m.addressee).given m) (sym at)
      (delivered w m batch behind (subst (λ r. ((deliver net w r).node m.addressee).done ≡ (w.node m.addressee).done) at stays))))
      (λ later. given_each ks w1 k m later
      (subst (λ s. slice_get s k ≡ Some m) (sym first.sent.1) (get_left w.sent first.sent.0 k m e))
      (batch ∙ ap (λ d. d + 1) (sym stays))
      (let long = ap length first.started in omega arith)
      (same ∙ sym stays))
      (has_cases k0 ks k c)

  pub each_rests : (ks : List ℕ) (w : World R V Q A) → AllRest net w → AllRest net (deliver_each net w ks)
  each_rests [] w r = r
  each_rests (k ∷ ks) w r = each_rests ks (step net w (Deliver k)) (step_rests net is w (Deliver k) r)

  module _ (begun : FinMap R V) where
    pub each_both : (ks : List ℕ) (w : World R V Q A) → Both net is begun w → Both net is begun (deliver_each net w ks)
    each_both [] w h = h
    each_both (k ∷ ks) w h = each_both ks (step net w (Deliver k)) (step_both net is begun w (Deliver k) h)

    pub pass_moves : (w : World R V Q A) → Both net is begun w → AllRest net w → (n : ℕ) → n < net.nodes → (w.node n).done < length w.started
        → (length w.sent < length (pass net w).sent) ⊎ ((i : ℕ) × (i < net.nodes) × ((w.node i).done < ((pass net w).node i).done))
    pass_moves w h rest n nlt behind =
        let ks = range_with_len 0 (length w.sent) in
        let v = pass net w in
        let l = each_leads net ks w in
        let both = each_both ks w h in
        ⊎_elim
        (λ none. ⊎_elim
        (λ more. inl more)
        (λ same.
        let long = ap length l.sent.1 ∙ length-append w.sent l.sent.0 in
        let nothing : l.sent.0 ≡ [] = nil_from_length l.sent.0 (omega arith) in
        let all : v.sent ≡ w.sent = l.sent.1 ∙ ap (λ more. w.sent ++ more) nothing ∙ append-nil w.sent in
        let stays : (i : ℕ) → i < net.nodes → (v.node i).done ≡ (w.node i).done = λ i ilt. let up = l.done i in let down =
        ltb-false (w.node i).done (v.node i).done (none i ilt) in omega arith in
        absurd (none_behind net is begun v both.0 both.1 (each_rests ks w rest)
        (λ m among batch late.
        let c = has_get w.sent m (subst (λ s. Contains s m) all among) in
        let low = c.1 in
        let started = ap length l.started in
        let alt = to_below net is begun w m h.0 (subst (λ s. Contains s m) all among) in
        let stay = stays m.addressee alt in
        given_each ks w c.0 m (has_number 0 (length w.sent) c.0 (omega arith) (omega arith)) c.2 (batch ∙ ap (λ d. d + 1) stay) (omega arith) stay)
        n nlt (let stay = stays n nlt in let started = ap length l.started in omega arith)))
        (cases_lt (length w.sent) (length v.sent)))
        (λ one. inr (one.0, one.1, ltb-true (w.node one.0).done (v.node one.0).done one.2))
        (none_or_one (λ i. nat_lt (w.node i).done (v.node i).done) net.nodes)
