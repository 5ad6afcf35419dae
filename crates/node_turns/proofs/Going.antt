-- A node's turn, batch after batch: from a world in which the node has sent what is due to the world in which it rests.
use Rattle.std.proofs.Common.{◌≡◌, ℕ, zero, suc, ◌+◌, ◌-◌, ◌<◌, [], ◌∷◌, ◌++◌, length, true, false, Some, refl, sym, ap, ◌∙◌, subst, Ordering, arith}
use Rattle.std.proofs.Common.{Contains}
use Rattle.std.specs.Prelude.{if◌then◌else◌, nat_lt, ◌==◌}
use Rattle.std.specs.FinMap.{FinMap}
use Rattle.std.proofs.lemmas.Bool.{and_parts, ltb-true}
use Rattle.node_rules.specs.Messages.{Message}
use Rattle.node_rules.specs.Nets.{Net, IsNet}
use Rattle.node_rules.specs.Dues.{due, is_over}
use Rattle.node_rules.specs.Worlds.{Node, World, with_node, is_in, with_all_new, desk_for, desk_of, send, completed, complete, turns, turn}
use Rattle.node_rules.specs.Worlds.{is_current, given_also, keep, deliver}
use Rattle.node_rules.specs.Truths.{Holds}
use Rattle.node_rules.specs.Newses.{desk_with, news, first_news}
use Rattle.node_rules.specs.Laws.{IsReached, Begins}
use Rattle.node_turns.specs.Goings.{IsGoing}
use Rattle.node_rules.proofs.News.{has_all}
use Rattle.node_rules.proofs.Adding.{add_old}
use Rattle.node_rules.proofs.Growing.{with_here}
use Rattle.node_rules.proofs.Holding.{send_keeps, complete_keeps, keep_keeps, to_below}
use Rattle.node_rules.proofs.Events.{sends_news, first_are, complete_begins}

module _ {K V Q A : Type 0} {R : K → K → Ordering} (net : Net R V Q A) (is : IsNet net) (start : FinMap R V) where
  abbrev behind : World R V Q A → ℕ → Type 0
  behind w n = (w.node n).done < length w.started

  abbrev left : World R V Q A → ℕ → ℕ
  left w n = length w.started - (w.node n).done

  abbrev over : World R V Q A → ℕ → Type 0
  over w n = is_over net (desk_of net w n) ≡ true

  -- what is due at the node was sent
  abbrev SentAll : World R V Q A → ℕ → Type 0
  SentAll w n = with_all_new net w.sent (due net (desk_of net w n)) ≡ w.sent

  turns_behind : (w : World R V Q A) (n : ℕ) → behind w n
      → turns net (left w n) w n ≡ (if is_over net (desk_of net w n) then turns net (length w.started - ((w.node n).done + 1))
      (complete net (send net w n) n) n else send net w n)
  turns_behind w n lt =
      let e : left w n ≡ suc (length w.started - ((w.node n).done + 1)) = omega arith in
      ap (λ most. turns net most w n) e

  sent_again : (w : World R V Q A) (n : ℕ) → SentAll (send net w n) n
  sent_again w n = add_old net is (send net w n).sent (due net (desk_of net w n)) (has_all net is w.sent (due net (desk_of net w n)))

  same_send : (w : World R V Q A) (n : ℕ) → SentAll w n → send net w n ≡ w
  same_send w n e = λ i. record { started = w.started; sent = e i; node = w.node }

  -- sending first changes nothing
  turn_sent : (w : World R V Q A) (n : ℕ) → behind w n → turns net (left w n) w n ≡ turns net (left w n) (send net w n) n
  turn_sent w n lt =
      let same = same_send (send net w n) n (sent_again w n) in
      turns_behind w n lt
      ∙ (λ i. if is_over net (desk_of net w n) then turns net (length w.started - ((w.node n).done + 1)) (complete net (sym same i) n) n else sym same i)
      ∙ sym (turns_behind (send net w n) n lt)

  -- where it is not behind, or its batch is not over, it is there
  pub gone : (end w : World R V Q A) (n : ℕ) → IsGoing net start end w n → (behind w n → is_over net (desk_of net w n) ≡ false) → end ≡ w
  gone end w n g rests = g.to ∙ at_end (left w n) refl
    where
      at_end : (most : ℕ) → left w n ≡ most → turns net most w n ≡ w
      at_end zero e = refl
      at_end (suc most) e =
          let lt : behind w n = omega arith in
          ap (λ b. if b then turns net most (complete net (send net w n) n) n else send net w n) (rests lt) ∙ same_send w n (g.sent lt)

  -- it sends what is due
  sent_going : (end w : World R V Q A) (n : ℕ) → n < net.nodes → Holds net start w → behind w n → end ≡ turns net (left w n) w n
      → IsGoing net start end (send net w n) n
  sent_going end w n below h lt to = record {
    below = below;
    holds = send_keeps net is start w n below lt h;
    sent = λ _. sent_again w n;
    to = to ∙ turn_sent w n lt;
  }

  -- ---- a message that is given for the first time

  module _ (w : World R V Q A) (reached : IsReached net start w) (m : Message K V) (sent : Contains w.sent m)
      (current : is_current net w m ≡ true) (new : is_in net (w.node m.addressee).given m ≡ false) where
    abbrev to : ℕ
    to = m.addressee

    abbrev kept : Node R V Q A
    kept = record {
      rows = (w.node to).rows;
      carried = (w.node to).carried;
      done = (w.node to).done;
      entries = (w.node to).entries;
      given = (w.node to).given ++ m ∷ [];
    }

    abbrev v0 : World R V Q A
    v0 = record { started = w.started; sent = w.sent; node = with_node w.node to kept }

    keep_is : keep net w m ≡ v0
    keep_is =
        let also : given_also net (w.node to) m ≡ kept
        = λ i. record {
          rows = (w.node to).rows;
          carried = (w.node to).carried;
          done = (w.node to).done;
          entries = (w.node to).entries;
          given = if new i then (w.node to).given else (w.node to).given ++ m ∷ [];
        } in
        (λ i. record { started = w.started; sent = w.sent; node = if current i then with_node w.node to (given_also net (w.node to) m) else w.node })
        ∙ (λ i. record { started = w.started; sent = w.sent; node = with_node w.node to (also i) })

    here : v0.node to ≡ kept
    here = with_here net w.started w.node to kept

    desk_is : desk_of net v0 to ≡ desk_with net (desk_of net w to) m
    desk_is = λ i. desk_for net w.started to (here i)

    lt : behind v0 to
    lt =
        let parts = and_parts (m.batch == (w.node to).done + 1) (nat_lt (w.node to).done (length w.started)) current in
        subst (λ d. d < length w.started) (sym (ap (λ (x : Node R V Q A). x.done) here)) (ltb-true (w.node to).done (length w.started) parts.1)

    pub given_first : IsGoing net start (deliver net w (Some m))
        (record { started = w.started; sent = w.sent ++ news net (desk_of net w to) m; node = with_node w.node to kept }) to
    given_first =
        let holds = subst (Holds net start) keep_is (keep_keeps net is start w m reached.holds sent) in
        let go = sent_going (deliver net w (Some m)) v0 to (to_below net is start w m reached.holds sent) holds lt (ap (λ v. turn net v to) keep_is) in
        let out : send net v0 to ≡ record { started = w.started; sent = w.sent ++ news net (desk_of net w to) m; node = with_node w.node to kept }
        = λ i. record {
          started = w.started;
          sent = (ap (λ d. with_all_new net w.sent (due net d)) desk_is ∙ sends_news net is start w reached m sent current new) i;
          node = with_node w.node to kept;
        } in
        subst (λ v. IsGoing net start (deliver net w (Some m)) v to) out go

  -- ---- a batch that begins

  pub begun_first : (w : World R V Q A) (n : ℕ) → n < net.nodes → Holds net start w → behind w n → Begins net start w n → (end : World R V Q A)
      → end ≡ turns net (left w n) w n → IsGoing net start end
      (record { started = w.started; sent = w.sent ++ first_news net (desk_of net w n); node = w.node }) n
  begun_first w n below h lt b end to = subst (λ v. IsGoing net start end v n)
      (λ i. record { started = w.started; sent = first_are net is start w n b i; node = w.node })
      (sent_going end w n below h lt to)

  -- ---- a batch that is over

  module _ (end w : World R V Q A) (n : ℕ) (g : IsGoing net start end w n) (lt : behind w n) (is_done : over w n) where
    abbrev next : World R V Q A
    next = complete net w n

    up : (next.node n).done ≡ (w.node n).done + 1
    up = ap (λ (x : Node R V Q A). x.done) (with_here net w.started w.node n (completed net w n))

    next_holds : Holds net start next
    next_holds = complete_keeps net is start w n g.below lt g.holds is_done

    next_to : end ≡ turns net (left next n) next n
    next_to =
        let less : length w.started - ((w.node n).done + 1) ≡ left next n = ap (λ d. length w.started - d) (sym up) in
        g.to ∙ turns_behind w n lt
        ∙ ap (λ b. if b then turns net (length w.started - ((w.node n).done + 1)) (complete net (send net w n) n) n else send net w n) is_done
        ∙ (λ i. turns net (less i) (complete net (same_send w n (g.sent lt) i) n) n)

    pub last_done : ((w.node n).done + 1 < length w.started → ⊥) → IsGoing net start end next n
    last_done none = record { below = g.below; holds = next_holds; sent = λ more. absurd (none (subst (λ d. d < length w.started) up more)); to = next_to }

    pub next_begun : (w.node n).done + 1 < length w.started
        → IsGoing net start end (record { started = w.started; sent = w.sent ++ first_news net (desk_of net next n); node = next.node }) n
    next_begun more = begun_first next n g.below next_holds (subst (λ d. d < length w.started) (sym up) more)
        (complete_begins net is start w n g.holds) end next_to
