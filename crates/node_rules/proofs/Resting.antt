-- After each event all that is due has been sent, and no node's batch is over.
use Rattle.std.proofs.Common.{◌≡◌, ℕ, zero, suc, ◌-◌, ◌⊎◌, inl, inr, ⊎_elim, List, [], ◌∷◌, length, true, false, Some, None, Option, refl, sym, ap, ◌∙◌}
use Rattle.std.proofs.Common.{subst, Ordering, arith, Contains}
use Rattle.std.specs.Prelude.{slice_get, if◌then◌else◌}
use Rattle.std.specs.FinMap.{FinMap}
use Rattle.std.proofs.lemmas.Bool.{cases_eq}
use Rattle.node_rules.specs.Messages.{Message}
use Rattle.node_rules.specs.Nets.{Net, IsNet, all_nodes}
use Rattle.node_rules.specs.Dues.{due, is_over}
use Rattle.node_rules.specs.Worlds.{Node, World, NetEvent, Start, Deliver, at_first, desk_of, send, completed, complete, turns, turn, turn_all, keep}
use Rattle.node_rules.specs.Worlds.{deliver, step, steps}
use Rattle.node_rules.specs.Truths.{Rests, AllRest}
use Rattle.node_rules.proofs.Picks.{has_cases, has_number}
use Rattle.node_rules.proofs.News.{has_all}
use Rattle.node_rules.proofs.Growing.{with_here}
use Rattle.node_rules.proofs.Leads.{Leads, leads_sent, turns_leads, deliver_leads, turns_else, keep_else}

module _ {K V Q A : Type 0} {R : K → K → Ordering} (net : Net R V Q A) (is : IsNet net) where
  abbrev RestsIn : World R V Q A → ℕ → Type 0
  RestsIn w n = Rests net w.started w.sent n (w.node n)

  pub rests_on : (u v : World R V Q A) (i : ℕ) → Leads net u v → v.node i ≡ u.node i → RestsIn u i → RestsIn v i
  rests_on u v i l same r =
      subst (Rests net v.started v.sent i) (sym same) (subst (λ started. Rests net started v.sent i (u.node i)) (sym l.started) (record {
        sent_all = λ lt k d below. leads_sent net u v l _ (r.sent_all lt k d below);
        not_over = r.not_over;
      }))

  turns_rest : (most : ℕ) (w : World R V Q A) (n : ℕ) → most ≡ length w.started - (w.node n).done → RestsIn (turns net most w n) n
  turns_rest zero w n e = record { sent_all = λ lt. absurd (omega arith); not_over = λ lt. absurd (omega arith) }
  turns_rest (suc most) w n e = elim (is_over net (desk_of net w n)) as (λ b. is_over net (desk_of net w n) ≡ b
      → RestsIn (if b then turns net most (complete net (send net w n) n) n else send net w n) n) [
        | true ↦ λ t. turns_rest most (complete net (send net w n) n) n
            (let up = ap (λ (x : Node R V Q A). x.done) (with_here net w.started w.node n (completed net (send net w n) n)) in omega arith)
        | false ↦ λ t. record { sent_all = λ lt. has_all net is w.sent (due net (desk_of net w n)); not_over = λ lt. t }
      ] refl

  turn_rest : (w : World R V Q A) (n : ℕ) → RestsIn (turn net w n) n
  turn_rest w n = turns_rest (length w.started - (w.node n).done) w n refl

  deliver_rests : (w : World R V Q A) (r : Option (Message K V)) → AllRest net w → AllRest net (deliver net w r)
  deliver_rests w None rest = rest
  deliver_rests w (Some m) rest = λ i lt. ⊎_elim
      (λ same. subst (RestsIn (deliver net w (Some m))) (sym same) (turn_rest (keep net w m) m.addressee))
      (λ off. rests_on w (deliver net w (Some m)) i (deliver_leads net w (Some m)) (turns_else net _ (keep net w m) m.addressee i off
      ∙ keep_else net w m i off) (rest i lt))
      (cases_eq i m.addressee)

  turn_all_rests : (ns : List ℕ) (w : World R V Q A) (i : ℕ) → Contains ns i ⊎ RestsIn w i → RestsIn (turn_all net w ns) i
  turn_all_rests [] w i (inl c) = absurd (let lt = c.1 in omega arith)
  turn_all_rests [] w i (inr r) = r
  turn_all_rests (n ∷ ns) w i c = turn_all_rests ns (turn net w n) i (⊎_elim
      (λ same. inr (subst (RestsIn (turn net w n)) (sym same) (turn_rest w n)))
      (λ off. ⊎_elim
      (λ has. ⊎_elim (λ same. absurd (off (sym same))) (λ behind. inl behind) (has_cases n ns i has))
      (λ r. inr (rests_on w (turn net w n) i (turns_leads net _ w n) (turns_else net _ w n i off) r))
      c)
      (cases_eq i n))

  pub step_rests : (w : World R V Q A) (e : NetEvent Q) → AllRest net w → AllRest net (step net w e)
  step_rests w (Start new) rest = λ i lt. turn_all_rests (all_nodes net) _ i (inl (has_number 0 net.nodes i (omega arith) (omega arith)))
  step_rests w (Deliver k) rest = deliver_rests w (slice_get w.sent k) rest

  pub steps_rest : (es : List (NetEvent Q)) (w : World R V Q A) → AllRest net w → AllRest net (steps net w es)
  steps_rest [] w rest = rest
  steps_rest (e ∷ es) w rest = steps_rest es (step net w e) (step_rests w e rest)

  pub first_rests : (begun : FinMap R V) → AllRest net (at_first net begun)
  first_rests begun n lt = record { sent_all = λ lt. absurd (omega arith); not_over = λ lt. absurd (omega arith) }
