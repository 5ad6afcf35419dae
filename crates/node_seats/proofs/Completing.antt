-- A batch that a node completes, in code, and the next one, which begins.
use Rattle.std.proofs.Common.{◌≡◌, ℕ, zero, suc, ◌+◌, ◌<◌, ◌≤◌, ⊎_elim, List, [], ◌∷◌, ◌++◌, map, length, Bool, true, false, Some, refl}
use Rattle.std.proofs.Common.{sym, ap, ◌∙◌, subst, arith}
use Rattle.std.specs.Prelude.{slice_get, slice_index_or, slice_set, filter_map, replicate, eqb, take}
use Rattle.std.specs.List.{All, list_any}
use Rattle.std.proofs.lemmas.Bool.{cases_eq, cases_lt, ne_eqb, false≢true}
use Rattle.std.proofs.lemmas.Option.{same_Some}
use Rattle.std.proofs.lemmas.List.{length-append, length-replicate, length_push, length-map, get_or_append_left, get_or-append_right, append-nil}
use Rattle.std.proofs.lemmas.List.Folds.{list_any_none}
use Rattle.std.proofs.lemmas.List.Elements.{All-nil}
use Rattle.aria_base.specs.Orders.{key_cmp, Cells, Database}
use Rattle.aria_base.specs.declared.calls.Request.{Request}
use Rattle.aria_base.specs.declared.keys.Key.{Key}
use Rattle.batch_rules.specs.declared.verdicts.Rule.{Rule}
use Rattle.proc_lang.specs.Catalogs.{Plan}
use Rattle.proc_lang.specs.declared.ends.End.{End}
use Rattle.node_rules.specs.Messages.{Message}
use Rattle.node_rules.specs.Nets.{Net, IsNet}
use Rattle.node_rules.specs.Dues.{Desk, is_over}
use Rattle.node_rules.specs.Worlds.{Node, with_node, desk_for, desk_of, completed, complete, waiting_left}
use Rattle.node_rules.specs.Worlds.{World as Definition}
use Rattle.node_rules.specs.Newses.{first_news}
use Rattle.node_turns.specs.Goings.{IsGoing}
use Rattle.node_turns.proofs.Going.{last_done, next_begun}
use Rattle.node_batch.specs.NodeBatches.{IsBare}
use Rattle.node_seats.specs.Nodes.{given_of, settled_of, node_of, net, world_of, IsSeat, IsFlagged, AreKept}
use Rattle.node_seats.specs.Seats.{IsCompleted}
use Rattle.node_batch.specs.Entries.{entry_of}
use Rattle.node_batch.specs.declared.mails.Site.{Site}
use Rattle.node_seats.specs.declared.seats.Seat.{Seat}
use Rattle.node_seats.proofs.Keeping.{get_set_same, get_set_else, get_left, node_here, seat_changed, nodes_on, seat_on, changed}

take_front : {X : Type 0} (xs ys : List X) → take (length xs) (xs ++ ys) ≡ xs
take_front [] ys = refl
take_front (x ∷ xs) ys = ap (λ l. x ∷ l) (take_front xs ys)

none_there : (n i : ℕ) → slice_index_or (replicate n false) i false ≡ false
none_there zero i = refl
none_there (suc n) zero = refl
none_there (suc n) (suc i) = none_there n i

settled_long : (s : Seat) → length (settled_of s) ≡ length s.entries.items
settled_long s = length-map s.entries.items (λ batch. map entry_of batch.items)

module _ (plan : Plan) (rule : Rule) (nodes : ℕ) (start : Database) (started : List (List Request)) (requests : ℕ) where
  abbrev N : Net key_cmp Cells Request End
  N = net plan rule nodes start

  -- more messages, which were given to nobody
  pub more_sent : (ms more : List (Message Key Cells)) (flags : List Bool) (seats : List Seat)
      → AreKept plan rule nodes start started requests ms flags seats
      → AreKept plan rule nodes start started requests (ms ++ more) (flags ++ replicate (length more) false) seats
  more_sent ms more flags seats h = record {
    some_node = h.some_node;
    few_nodes = h.few_nodes;
    many_seats = h.many_seats;
    each = λ n s e. seat_on plan rule nodes start started ms more n s (h.each n s e);
    many_flags = length-append flags (replicate (length more) false) ∙ (λ i. h.many_flags i + length-replicate (length more) false i)
        ∙ sym (length-append ms more);
    flagged = λ j x s a b. ⊎_elim
        (λ lt.
        let many = h.many_flags in
        subst (IsFlagged plan rule nodes start j x s) (sym (get_or_append_left flags (replicate (length more) false) false j (omega arith)))
        (h.flagged j x s (sym (get_left ms more j lt) ∙ a) b))
        (λ le.
        let many = h.many_flags in
        let off : slice_index_or (flags ++ replicate (length more) false) j false ≡ false
        = get_or-append_right flags (replicate (length more) false) (length flags) j false refl (omega arith) ∙ none_there (length more) _ in
        record {
          past = λ e. absurd (false≢true (sym off ∙ e));
          now = λ e. off ∙ sym (list_any_none (eqb j) (given_of s)
              (λ i d lt. let low = (h.each x.addressee s b).numbers i d lt in ne_eqb j (slice_index_or (given_of s) i d) (λ same. absurd (omega arith))));
        })
        (cases_lt j (length ms));
    numbered = h.numbered;
    counted = h.counted;
    few = h.few;
  }

  -- ---- a batch that a node completes

  module _ (ms : List (Message Key Cells)) (flags : List Bool) (seats : List Seat) (h : AreKept plan rule nodes start started requests ms flags seats)
      (n : ℕ) (s0 : Seat) (seat : slice_get seats n ≡ Some s0) (s1 : Seat)
      (c : IsCompleted N (desk_for N started n (node_of ms s0)) (slice_index_or started (length s0.entries.items + 1) []) s0 s1) where
    abbrev u : Definition key_cmp Cells Request End
    u = world_of plan rule nodes start started ms seats

    here : u.node n ≡ node_of ms s0
    here = node_here plan rule nodes start ms seats n s0 seat

    abbrev desk : Desk key_cmp Cells Request
    desk = desk_for N started n (node_of ms s0)

    many : length s1.entries.items ≡ length s0.entries.items + 1
    many = sym (settled_long s1) ∙ ap length c.entries ∙ length_push (settled_of s0) _ ∙ ap (λ k. k + 1) (settled_long s0)

    abbrev completed_by : Node key_cmp Cells Request End → Node key_cmp Cells Request End
    completed_by x = completed N (record { started = started; sent = ms; node = λ _. x }) n

    -- it is the definition's node
    node_is : node_of ms s1 ≡ completed N u n
    node_is = (λ i. record {
      rows = c.rows i;
      carried = (ap (λ k. take k s1.bench.list.items) c.carried ∙ ap (take (length (waiting_left N desk))) c.list ∙ take_front (waiting_left N desk) _) i;
      done = many i;
      entries = c.entries i;
      given = ap (filter_map (slice_get ms)) c.given i;
    })
        ∙ (λ i. completed_by (sym here i))

    is_bare : IsBare (desk_for N started n (node_of ms s1)) s1.bench.site s1.bench.rows s1.bench.list.items
    is_bare =
        let shown = (h.each n s0 seat).shows in
        record {
          node_is = shown.node_is ∙ ap (λ (s : Site). s.node) (sym c.site);
          batch_is = ap (λ k. k + 1) many ∙ ap (λ k. k + 1) shown.batch_is ∙ ap (λ (s : Site). s.batch) (sym c.site);
          rows_are = refl;
          list_is = (λ i. (ap (λ k. take k s1.bench.list.items) c.carried ∙ ap (take (length (waiting_left N desk))) c.list
              ∙ take_front (waiting_left N desk) _) i
              ++ slice_index_or started (many i) []) ∙ sym c.list;
          given_is = ap (filter_map (slice_get ms)) c.given;
        }

    is_seat : IsSeat plan rule nodes start started ms n s1
    is_seat = record {
      shows = c.shows plan rule (desk_for N started n (node_of ms s1)) is_bare;
      site = ap (λ (s : Site). s.nodes) c.site ∙ (h.each n s0 seat).site;
      within =
          let count = c.carried in
          let long = ap length c.list in
          let both = length-append (waiting_left N desk) (slice_index_or started (length s0.entries.items + 1) []) in
          omega arith;
      numbers = subst (All (λ k. k < length ms)) (sym c.given) (All-nil _);
    }

    flagged : (j : ℕ) (x : Message Key Cells) (s : Seat) → slice_get ms j ≡ Some x → slice_get (slice_set seats n s1) x.addressee ≡ Some s
        → IsFlagged plan rule nodes start j x s (slice_index_or flags j false)
    flagged j x s a b = ⊎_elim mine theirs (cases_eq x.addressee n)
      where
        theirs : (x.addressee ≡ n → ⊥) → IsFlagged plan rule nodes start j x s (slice_index_or flags j false)
        theirs off = h.flagged j x s a (sym (get_set_else seats n s1 x.addressee off) ∙ b)

        mine : x.addressee ≡ n → IsFlagged plan rule nodes start j x s (slice_index_or flags j false)
        mine same =
            let f = h.flagged j x s0 a (ap (slice_get seats) same ∙ seat) in
            let s_is : s1 ≡ s = same_Some s1 s (sym (get_set_same seats n s1 s0 seat) ∙ ap (slice_get (slice_set seats n s1)) (sym same) ∙ b) in
            let up = many in
            subst (λ s. IsFlagged plan rule nodes start j x s (slice_index_or flags j false)) s_is (record {
              past = λ e. let le = f.past e in omega arith;
              now = λ e. off_flag (slice_index_or flags j false) (λ t. let le = f.past t in absurd (omega arith)) ∙ sym (ap (list_any (eqb j)) c.given);
            })
          where
            off_flag : (b : Bool) → (b ≡ true → ⊥) → b ≡ false
            off_flag true off = absurd (off refl)
            off_flag false off = refl

    nil : ms ++ [] ≡ ms
    nil = append-nil ms

    pub completed_kept : AreKept plan rule nodes start started requests ms flags (slice_set seats n s1)
    completed_kept = record {
      some_node = h.some_node;
      few_nodes = h.few_nodes;
      many_seats = all.many_seats;
      each = λ i s e. subst (λ ms. IsSeat plan rule nodes start started ms i s) nil (all.each i s e);
      many_flags = h.many_flags;
      flagged = flagged;
      numbered = h.numbered;
      counted = h.counted;
      few = h.few;
    }
      where
        all : AreKept plan rule nodes start started requests (ms ++ []) flags (slice_set seats n s1)
        all = changed plan rule nodes start started requests ms [] flags seats h n s0 s1 seat
            (subst (λ ms. IsSeat plan rule nodes start started ms n s1) (sym nil) is_seat) flags (h.many_flags ∙ ap length (sym nil))
            (λ j x s a b. flagged j x s (ap (λ l. slice_get l j) (sym nil) ∙ a) b)

    world_is : complete N u n ≡ world_of plan rule nodes start started ms (slice_set seats n s1)
    world_is = (λ i. record { started = started; sent = ms; node = with_node u.node n (sym node_is i) })
        ∙ (λ i. record { started = started; sent = ms; node = sym (seat_changed plan rule nodes start ms seats n s0 s1 seat) i })

    module _ (is : IsNet N) (end : Definition key_cmp Cells Request End) (g : IsGoing N start end u n)
        (lt : length s0.entries.items < length started) (over : is_over N desk ≡ true) where
      done_is : (u.node n).done ≡ length s0.entries.items
      done_is = ap (λ (x : Node key_cmp Cells Request End). x.done) here

      behind : (u.node n).done < length started
      behind = let same = done_is in omega arith

      over_is : is_over N (desk_of N u n) ≡ true
      over_is = (λ i. is_over N (desk_for N started n (here i))) ∙ over

      pub last_going : length started ≤ length s0.entries.items + 1 → IsGoing N start end (world_of plan rule nodes start started ms (slice_set seats n s1)) n
      last_going le =
          let same = done_is in
          subst (λ v. IsGoing N start end v n) world_is (last_done N is start end u n g behind over_is (λ more. absurd (omega arith)))

      pub next_going : length s0.entries.items + 1 < length started → (more : List (Message Key Cells))
          → more ≡ first_news N (desk_for N started n (node_of ms s1))
          → IsGoing N start end (world_of plan rule nodes start started (ms ++ more) (slice_set seats n s1)) n
      next_going up more mails =
          let same = done_is in
          let k = completed_kept in
          let v = world_of plan rule nodes start started ms (slice_set seats n s1) in
          let at = node_here plan rule nodes start ms (slice_set seats n s1) n s1 (get_set_same seats n s1 s0 seat) in
          let out : more ≡ first_news N (desk_of N v n) = mails ∙ (λ i. first_news N (desk_for N started n (sym at i))) in
          let stays = nodes_on plan rule nodes start ms more (slice_set seats n s1) (λ j s e. (k.each j s e).numbers) in
          subst (λ v. IsGoing N start end v n)
          ((λ i. record { started = started; sent = ms ++ first_news N (desk_of N (world_is i) n); node = (world_is i).node })
          ∙ (λ i. record { started = started; sent = ms ++ sym out i; node = sym stays i }))
          (next_begun N is start end u n g behind over_is (omega arith))
