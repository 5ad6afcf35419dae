-- A world that another one leads to: nothing that was sent is lost, and what was given to a node stays while its batch is the same.
use Rattle.std.proofs.Common.{◌≡◌, ℕ, zero, suc, ◌≤◌, ⊎_elim, List, [], ◌∷◌, ◌++◌, true, false, Some, None, Option, refl, sym, ap, ◌∙◌, subst, Ordering}
use Rattle.std.proofs.Common.{arith, Contains}
use Rattle.std.specs.Prelude.{slice_get, if◌then◌else◌}
use Rattle.std.proofs.lemmas.Bool.{cases_eq}
use Rattle.std.proofs.lemmas.List.{append_assoc, append-nil}
use Rattle.std.proofs.lemmas.List.Elements.{Contains-append_left}
use Rattle.node_rules.specs.Messages.{Message}
use Rattle.node_rules.specs.Nets.{Net}
use Rattle.node_rules.specs.Dues.{due, is_over}
use Rattle.node_rules.specs.Worlds.{Node, World, Deliver, with_node, is_in, with_new, with_all_new, desk_of, send, completed, complete, turns, is_current}
use Rattle.node_rules.specs.Worlds.{given_also, keep, deliver, step, deliver_each}
use Rattle.node_rules.proofs.News.{old_one}
use Rattle.node_rules.proofs.Growing.{with_here, with_else}

module _ {K V Q A : Type 0} {R : K → K → Ordering} (net : Net R V Q A) where
  pub record Leads (w next : World R V Q A) : Type 0 where
    pub started : next.started ≡ w.started
    pub sent : (more : List (Message K V)) × (next.sent ≡ w.sent ++ more)
    pub done : (i : ℕ) → (w.node i).done ≤ (next.node i).done
    pub given : (i : ℕ) → (next.node i).done ≡ (w.node i).done → (m : Message K V) → Contains (w.node i).given m → Contains (next.node i).given m

  pub leads_itself : (w : World R V Q A) → Leads w w
  leads_itself w = record { started = refl; sent = ([], sym (append-nil w.sent)); done = λ i. omega arith; given = λ i same m c. c }

  pub leads_on : (u v w : World R V Q A) → Leads u v → Leads v w → Leads u w
  leads_on u v w f g = record {
    started = g.started ∙ f.started;
    sent = (f.sent.0 ++ g.sent.0, g.sent.1 ∙ ap (λ l. l ++ g.sent.0) f.sent.1 ∙ append_assoc u.sent f.sent.0 g.sent.0);
    done = λ i. let a = f.done i in let b = g.done i in omega arith;
    given = λ i same m c. let a = f.done i in let b = g.done i in g.given i (omega arith) m (f.given i (omega arith) m c);
  }

  pub leads_sent : (u v : World R V Q A) → Leads u v → (m : Message K V) → Contains u.sent m → Contains v.sent m
  leads_sent u v l m c = subst (λ s. Contains s m) (sym l.sent.1) (Contains-append_left u.sent l.sent.0 m c)

  added_one : (ms : List (Message K V)) (m : Message K V) → (more : List (Message K V)) × (with_new net ms m ≡ ms ++ more)
  added_one ms m = elim (is_in net ms m) as (λ b. (more : List (Message K V)) × ((if b then ms else ms ++ m ∷ []) ≡ ms ++ more)) [
    | true ↦
        ([], sym (append-nil ms))
    | false ↦ (m ∷ [], refl)
  ]

  added_all : (ms ns : List (Message K V)) → (more : List (Message K V)) × (with_all_new net ms ns ≡ ms ++ more)
  added_all ms [] = ([], sym (append-nil ms))
  added_all ms (n ∷ ns) =
      let one = added_one ms n in
      let rest = added_all (with_new net ms n) ns in
      (one.0 ++ rest.0, rest.1 ∙ ap (λ l. l ++ rest.0) one.1 ∙ append_assoc ms one.0 rest.0)

  send_leads : (w : World R V Q A) (n : ℕ) → Leads w (send net w n)
  send_leads w n = record { started = refl; sent = added_all w.sent (due net (desk_of net w n)); done = λ i. omega arith; given = λ i same m c. c }

  -- one node changed
  changed_leads : (w : World R V Q A) (n : ℕ) (x : Node R V Q A) → (w.node n).done ≤ x.done
      → (x.done ≡ (w.node n).done → (m : Message K V) → Contains (w.node n).given m → Contains x.given m)
      → Leads w (record { started = w.started; sent = w.sent; node = with_node w.node n x })
  changed_leads w n x up same_given = record {
    started = refl;
    sent = ([], sym (append-nil w.sent));
    done = λ i. ⊎_elim
        (λ same. subst (λ i. (w.node i).done ≤ (with_node w.node n x i).done) (sym same)
        (subst (λ (y : Node R V Q A). (w.node n).done ≤ y.done) (sym (with_here net w.started w.node n x)) up))
        (λ off. subst (λ (y : Node R V Q A). (w.node i).done ≤ y.done) (sym (with_else net w.started w.node n x i off)) (omega arith))
        (cases_eq i n);
    given = λ i. ⊎_elim
        (λ same. subst (λ i. (with_node w.node n x i).done ≡ (w.node i).done → (m : Message K V) → Contains (w.node i).given m
        → Contains (with_node w.node n x i).given m) (sym same)
        (subst (λ (y : Node R V Q A). y.done ≡ (w.node n).done → (m : Message K V) → Contains (w.node n).given m → Contains y.given m)
        (sym (with_here net w.started w.node n x)) same_given))
        (λ off. subst (λ (y : Node R V Q A). y.done ≡ (w.node i).done → (m : Message K V) → Contains (w.node i).given m → Contains y.given m)
        (sym (with_else net w.started w.node n x i off)) (λ same m c. c))
        (cases_eq i n);
  }

  complete_leads : (w : World R V Q A) (n : ℕ) → Leads w (complete net w n)
  complete_leads w n = changed_leads w n (completed net w n) (omega arith) (λ same. absurd (omega arith))

  pub turns_leads : (most : ℕ) (w : World R V Q A) (n : ℕ) → Leads w (turns net most w n)
  turns_leads zero w n = leads_itself w
  turns_leads (suc most) w n = elim (is_over net (desk_of net w n)) as
      (λ b. Leads w (if b then turns net most (complete net (send net w n) n) n else send net w n)) [
        | true ↦ leads_on w (send net w n) _ (send_leads w n)
            (leads_on (send net w n) (complete net (send net w n) n) _ (complete_leads (send net w n) n) (turns_leads most (complete net (send net w n) n) n))
        | false ↦ send_leads w n
      ]

  keep_leads : (w : World R V Q A) (m : Message K V) → Leads w (keep net w m)
  keep_leads w m = elim (is_current net w m) as
      (λ b. Leads w (record {
        started = w.started;
        sent = w.sent;
        node =
            if b then with_node w.node m.addressee (given_also net (w.node m.addressee) m) else w.node;
      })) [
        | true ↦ changed_leads w m.addressee (given_also net (w.node m.addressee) m) (omega arith) (λ same x c. old_one net (w.node m.addressee).given m x c)
        | false ↦ leads_itself w
      ]

  pub deliver_leads : (w : World R V Q A) (r : Option (Message K V)) → Leads w (deliver net w r)
  deliver_leads w None = leads_itself w
  deliver_leads w (Some m) = leads_on w (keep net w m) _ (keep_leads w m) (turns_leads _ (keep net w m) m.addressee)

  pub each_leads : (ks : List ℕ) (w : World R V Q A) → Leads w (deliver_each net w ks)
  each_leads [] w = leads_itself w
  each_leads (k ∷ ks) w = leads_on w _ _ (deliver_leads w (slice_get w.sent k)) (each_leads ks (step net w (Deliver k)))

  -- other nodes are as they were
  pub turns_else : (most : ℕ) (w : World R V Q A) (n i : ℕ) → (i ≡ n → ⊥) → (turns net most w n).node i ≡ w.node i
  turns_else zero w n i off = refl
  turns_else (suc most) w n i off =
      elim (is_over net (desk_of net w n)) as (λ b. (if b then turns net most (complete net (send net w n) n) n else send net w n).node i ≡ w.node i) [
        | true ↦ turns_else most (complete net (send net w n) n) n i off ∙ with_else net w.started w.node n (completed net (send net w n) n) i off
        | false ↦ refl
      ]

  pub keep_else : (w : World R V Q A) (m : Message K V) (i : ℕ) → (i ≡ m.addressee → ⊥) → (keep net w m).node i ≡ w.node i
  keep_else w m i off = elim (is_current net w m) as
      (λ b. (if b then with_node w.node m.addressee (given_also net (w.node m.addressee) m) else w.node) i ≡ w.node i) [
        | true ↦ with_else net w.started w.node m.addressee (given_also net (w.node m.addressee) m) i off
        | false ↦ refl
      ]
