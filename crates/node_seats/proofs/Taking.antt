-- A message that is given for the first time, in code.
use Rattle.std.proofs.Common.{◌≡◌, ℕ, zero, suc, ◌+◌, ◌<◌, ◌≤◌, ⊎_elim, List, [], ◌∷◌, ◌++◌, length, Bool, true, false, Some, None, Option, refl}
use Rattle.std.proofs.Common.{sym, ap, ◌∙◌, subst, arith, Contains}
use Rattle.std.specs.Prelude.{slice_get, slice_index_or, slice_set, filter_map, replicate, eqb, nat_lt, take, ◌||◌, ◌&&◌}
use Rattle.std.specs.List.{All, list_any, cons_option}
use Rattle.std.proofs.lemmas.Bool.{cases_eq, cases_lt, eq-eqb, ne_eqb, lt-ltb, true≢false, false≢true}
use Rattle.std.proofs.lemmas.Option.{same_Some}
use Rattle.std.proofs.lemmas.List.{length-set, length-append, length-replicate, get_or-set_same, get_or-set_other, get_or_append_left, get_or-append_right}
use Rattle.std.proofs.lemmas.List.Folds.{list_any-append, list_any_none}
use Rattle.std.proofs.lemmas.List.Elements.{All-contains, All-push, filter_map-append}
use Rattle.aria_base.specs.Orders.{key_cmp, Cells, Database}
use Rattle.aria_base.specs.declared.calls.Request.{Request}
use Rattle.aria_base.specs.declared.keys.Key.{Key}
use Rattle.batch_rules.specs.declared.verdicts.Rule.{Rule}
use Rattle.proc_lang.specs.Catalogs.{Plan}
use Rattle.proc_lang.specs.declared.ends.End.{End}
use Rattle.node_rules.specs.Messages.{Message}
use Rattle.node_rules.specs.Nets.{Net, IsNet}
use Rattle.node_rules.specs.Dues.{Desk}
use Rattle.node_rules.specs.Worlds.{Node, with_node, is_in, desk_for, desk_of, is_current, deliver}
use Rattle.node_rules.specs.Worlds.{World as Definition}
use Rattle.node_rules.specs.Newses.{desk_with, news}
use Rattle.node_rules.specs.Truths.{IsSent}
use Rattle.node_rules.specs.Counts.{NoneTwice}
use Rattle.node_rules.specs.Laws.{IsReached, IsFirst}
use Rattle.node_turns.specs.Goings.{IsGoing}
use Rattle.node_rules.proofs.Holding.{get_has}
use Rattle.node_rules.proofs.News.{is_in-has}
use Rattle.node_rules.proofs.Picks.{has_cases, has_behind, has_head, get_below}
use Rattle.node_rules.proofs.Counting.{has-is_in}
use Rattle.node_rules.proofs.Fresh.{mapped_from}
use Rattle.node_rules.proofs.Events.{is_first, dropped, given_again}
use Rattle.node_turns.proofs.Going.{given_first}
use Rattle.node_batch.specs.NodeBatches.{Shows, IsFresh}
use Rattle.node_batch.specs.Sames.{same_message}
use Rattle.node_batch.proofs.Sames.{is_net}
use Rattle.node_seats.specs.Nodes.{given_of, settled_of, node_of, net, nodes_of, world_of, IsSeat, IsFlagged, AreKept}
use Rattle.node_batch.specs.declared.mails.Site.{Site}
use Rattle.node_seats.specs.declared.seats.Seat.{Seat}
use Rattle.node_seats.proofs.Keeping.{get_set_same, get_set_else, get_left, mapped_left, node_here, seat_changed, nodes_on, changed}

-- ---- numbers that stand in a list

-- no message stands at two places
one_place : {X : Type 0} (xs : List X) → NoneTwice xs → (i j : ℕ) (x : X) → slice_get xs i ≡ Some x → slice_get xs j ≡ Some x → i ≡ j
one_place [] once i j x a b = cc
one_place (y ∷ ys) once zero zero x a b = refl
one_place (y ∷ ys) once zero (suc j) x a b =
    let same : y ≡ x = same_Some y x a in
    absurd (once.0 (subst (Contains ys) (sym same) (get_has ys j x b)))
one_place (y ∷ ys) once (suc i) zero x a b =
    let same : y ≡ x = same_Some y x b in
    absurd (once.0 (subst (Contains ys) (sym same) (get_has ys i x a)))
one_place (y ∷ ys) once (suc i) (suc j) x a b = ap suc (one_place ys once.1 i j x a b)

-- a number that is in the list
any_number : (ks : List ℕ) (k : ℕ) → Contains ks k → list_any (eqb k) ks ≡ true
any_number [] k c = absurd (let lt = c.1 in omega arith)
any_number (x ∷ xs) k c = ⊎_elim
    (λ same. ap (λ b. b || list_any (eqb k) xs) (eq-eqb k x (sym same)))
    (λ rest. or_right (eqb k x) _ (any_number xs k rest))
    (has_cases x xs k c)
  where
    or_right : (a b : Bool) → b ≡ true → (a || b) ≡ true
    or_right true b e = refl
    or_right false b e = e

or_none : (b : Bool) → (b || false) ≡ b
or_none true = refl
or_none false = refl

module _ (plan : Plan) (rule : Rule) (nodes : ℕ) (start : Database) (started : List (List Request)) (requests : ℕ) (ms : List (Message Key Cells))
    (flags : List Bool) (seats : List Seat) (h : AreKept plan rule nodes start started requests ms flags seats)
    (reached : IsReached (net plan rule nodes start) start (world_of plan rule nodes start started ms seats)) where
  abbrev N : Net key_cmp Cells Request End
  N = net plan rule nodes start

  abbrev u : Definition key_cmp Cells Request End
  u = world_of plan rule nodes start started ms seats

  is : IsNet N
  is = is_net plan rule nodes h.some_node

  module _ (k : ℕ) (m : Message Key Cells) (at : slice_get ms k ≡ Some m) (s0 : Seat) (seat : slice_get seats m.addressee ≡ Some s0) where
    abbrev to : ℕ
    to = m.addressee

    sent : Contains ms m
    sent = get_has ms k m at

    here : u.node to ≡ node_of ms s0
    here = node_here plan rule nodes start ms seats to s0 seat

    done_is : (u.node to).done ≡ length s0.entries.items
    done_is = ap (λ (x : Node key_cmp Cells Request End). x.done) here

    shown : Shows plan rule same_message (desk_for N started to (node_of ms s0)) s0.bench
    shown = (h.each to s0 seat).shows

    is_sent : IsSent N start started u.node m
    is_sent = All-contains (IsSent N start started u.node) ms m reached.holds.sent sent

    -- the number of the batch tells whether it is the node's
    pub other_batch : (m.batch ≡ s0.bench.site.batch → ⊥) → deliver N u (Some m) ≡ u
    other_batch off = dropped N is start u reached m sent
        (ap (λ b. b && nat_lt (u.node to).done (length started))
        (ne_eqb m.batch ((u.node to).done + 1) (λ e. off (e ∙ ap (λ d. d + 1) done_is ∙ shown.batch_is))))

    module _ (batch : m.batch ≡ s0.bench.site.batch) where
      batch_is : m.batch ≡ length s0.entries.items + 1
      batch_is = batch ∙ sym shown.batch_is

      current : is_current N u m ≡ true
      current =
          let high = is_sent.high in
          let same = done_is in
          let at_batch = batch_is in
          (λ i. eq-eqb m.batch ((u.node to).done + 1) (batch_is ∙ ap (λ d. d + 1) (sym done_is)) i
          && lt-ltb (u.node to).done (length started) (omega arith) i)

      flag_is : slice_index_or flags k false ≡ list_any (eqb k) (given_of s0)
      flag_is = (h.flagged k m s0 at seat).now batch_is

      -- one that was given before
      pub given_before : slice_index_or flags k false ≡ true → deliver N u (Some m) ≡ u
      given_before e = given_again N is start u reached m sent current
          (ap (λ (x : Node key_cmp Cells Request End). is_in N x.given m) here
          ∙ has-is_in N is (node_of ms s0).given m (kept_numbers (given_of s0) (sym flag_is ∙ e)))
        where
          kept_numbers : (ks : List ℕ) → list_any (eqb k) ks ≡ true → Contains (filter_map (slice_get ms) ks) m
          kept_numbers [] e = cc
          kept_numbers (x ∷ xs) e = ⊎_elim
              (λ same. subst (λ r. Contains (cons_option r (filter_map (slice_get ms) xs)) m) (sym (ap (slice_get ms) (sym same) ∙ at))
              (has_head m (filter_map (slice_get ms) xs)))
              (λ off. behind (slice_get ms x) (kept_numbers xs (sym (ap (λ b. b || list_any (eqb k) xs) (ne_eqb k x off)) ∙ e)))
              (cases_eq k x)
            where
              behind : (r : Option (Message Key Cells)) → Contains (filter_map (slice_get ms) xs) m → Contains (cons_option r (filter_map (slice_get ms) xs)) m
              behind None c = c
              behind (Some y) c = has_behind y (filter_map (slice_get ms) xs) m c

      -- ---- a new one

      module _ (none : slice_index_or flags k false ≡ false) where
        not_in : is_in N (u.node to).given m ≡ false
        not_in = elim (is_in N (u.node to).given m) as (λ b. is_in N (u.node to).given m ≡ b → b ≡ false) [
          | true ↦ λ t.
              let c = is_in-has N is (node_of ms s0).given m (sym (ap (λ (x : Node key_cmp Cells Request End). is_in N x.given m) here) ∙ t) in
              let j = mapped_from (slice_get ms) (given_of s0) m c in
              let same = one_place ms reached.once k j.0 m at j.2 in
              absurd (true≢false (sym (any_number (given_of s0) k (subst (Contains (given_of s0)) (sym same) j.1)) ∙ sym flag_is ∙ none))
          | false ↦ λ t. refl
        ] refl

        abbrev desk : Desk key_cmp Cells Request
        desk = desk_for N started to (node_of ms s0)

        desk_is : desk_of N u to ≡ desk
        desk_is = λ i. desk_for N started to (here i)

        first : IsFirst N start u m
        first = is_first N is start u reached m sent current not_in

        -- nothing that it tells was told before
        pub fresh : IsFresh N desk m
        fresh = subst (λ d. IsFresh N d m) desk_is (record {
          sender = first.sender;
          low = first.low;
          high = first.high;
          marks = first.marks;
          holders = first.holders;
          fate = first.fate;
        })

        pub to_below : to < nodes
        to_below = first.addressee

        module _ (s1 : Seat) (more : List (Message Key Cells)) (site : s1.bench.site ≡ s0.bench.site) (carried : s1.carried ≡ s0.carried)
            (entries : settled_of s1 ≡ settled_of s0) (many : length s1.entries.items ≡ length s0.entries.items)
            (given : given_of s1 ≡ given_of s0 ++ k ∷ [])
            (shows : Shows plan rule same_message (desk_with N desk m) s1.bench) (mails : more ≡ news N desk m) where
          abbrev kept : Node key_cmp Cells Request End
          kept = record {
            rows = (u.node to).rows;
            carried = (u.node to).carried;
            done = (u.node to).done;
            entries = (u.node to).entries;
            given = (u.node to).given ++ m ∷ [];
          }

          below_k : k < length ms
          below_k = get_below ms k m at

          rows_same : s1.bench.rows ≡ s0.bench.rows
          rows_same = sym shows.rows_are ∙ shown.rows_are

          list_same : s1.bench.list.items ≡ s0.bench.list.items
          list_same = sym shows.list_is ∙ shown.list_is

          given_more : filter_map (slice_get (ms ++ more)) (given_of s1) ≡ filter_map (slice_get ms) (given_of s0) ++ m ∷ []
          given_more = ap (filter_map (slice_get (ms ++ more))) given ∙ filter_map-append (slice_get (ms ++ more)) (given_of s0) (k ∷ [])
              ∙ (λ i. mapped_left ms more (given_of s0) (h.each to s0 seat).numbers i ++ cons_option ((get_left ms more k below_k ∙ at) i) [])

          node_is : node_of (ms ++ more) s1 ≡ kept
          node_is = (λ i. record {
            rows = rows_same i;
            carried = take (carried i) (list_same i);
            done = many i;
            entries = entries i;
            given = given_more i;
          })
              ∙ (λ i. record {
                rows = (sym here i).rows;
                carried = (sym here i).carried;
                done = (sym here i).done;
                entries = (sym here i).entries;
                given = (sym here i).given ++ m ∷ [];
              })

          abbrev next : List Bool
          next = slice_set flags k true ++ replicate (length more) false

          long : length next ≡ length (ms ++ more)
          long = length-append (slice_set flags k true) (replicate (length more) false)
              ∙ (λ i. (length-set flags k true ∙ h.many_flags) i + length-replicate (length more) false i) ∙ sym (length-append ms more)

          numbers : All (λ k. k < length ms) (given_of s1)
          numbers = subst (All (λ k. k < length ms)) (sym given) (All-push (λ k. k < length ms) (given_of s0) k (h.each to s0 seat).numbers below_k)

          flagged : (j : ℕ) (x : Message Key Cells) (s : Seat) → slice_get (ms ++ more) j ≡ Some x → slice_get (slice_set seats to s1) x.addressee ≡ Some s
              → IsFlagged plan rule nodes start j x s (slice_index_or next j false)
          flagged j x s a b = ⊎_elim old late (cases_lt j (length ms))
            where
              flags_long : length (slice_set flags k true) ≡ length ms
              flags_long = length-set flags k true ∙ h.many_flags

              seat_numbers : All (λ k. k < length ms) (given_of s)
              seat_numbers = ⊎_elim
                  (λ same. subst (λ (s : Seat). All (λ k. k < length ms) (given_of s))
                  (same_Some s1 s (sym (get_set_same seats to s1 s0 seat) ∙ ap (slice_get (slice_set seats to s1)) (sym same) ∙ b)) numbers)
                  (λ off. (h.each x.addressee s (sym (get_set_else seats to s1 x.addressee off) ∙ b)).numbers)
                  (cases_eq x.addressee to)

              late : length ms ≤ j → IsFlagged plan rule nodes start j x s (slice_index_or next j false)
              late le =
                  let off : slice_index_or next j false ≡ false =
                  get_or-append_right (slice_set flags k true) (replicate (length more) false) (length ms) j false flags_long le
                  ∙ none_there (length more) _ in
                  record {
                    past = λ e. absurd (false≢true (sym off ∙ e));
                    now = λ e. off ∙ sym (list_any_none (eqb j) (given_of s)
                        (λ i d lt. let low = seat_numbers i d lt in ne_eqb j (slice_index_or (given_of s) i d) (λ same. absurd (omega arith))));
                  }
                where
                  none_there : (n i : ℕ) → slice_index_or (replicate n false) i false ≡ false
                  none_there zero i = refl
                  none_there (suc n) zero = refl
                  none_there (suc n) (suc i) = none_there n i

              old : j < length ms → IsFlagged plan rule nodes start j x s (slice_index_or next j false)
              old lt = subst (IsFlagged plan rule nodes start j x s)
                  (sym (get_or_append_left (slice_set flags k true) (replicate (length more) false) false j (omega (arith, flags_long))))
                  (⊎_elim same_k other_k (cases_eq j k))
                where
                  x_at : slice_get ms j ≡ Some x
                  x_at = sym (get_left ms more j lt) ∙ a

                  same_k : j ≡ k → IsFlagged plan rule nodes start j x s (slice_index_or (slice_set flags k true) j false)
                  same_k e =
                      let m_is : m ≡ x = same_Some m x (sym at ∙ ap (slice_get ms) (sym e) ∙ x_at) in
                      let s_is : s1 ≡ s = same_Some s1 s (sym (get_set_same seats to s1 s0 seat) ∙ (λ i. slice_get (slice_set seats to s1) (m_is i).addressee)
                      ∙ b) in
                      let all_flags = h.many_flags in
                      let flag : slice_index_or (slice_set flags k true) j false ≡ true = ap (λ j. slice_index_or (slice_set flags k true) j false) e
                      ∙ get_or-set_same flags k true false (omega (arith, below_k)) in
                      subst (λ (p : Message Key Cells × Seat). IsFlagged plan rule nodes start j p.0 p.1 (slice_index_or (slice_set flags k true) j false))
                      (λ i. (m_is i, s_is i)) (record {
                        past = λ _. let same = batch_is in let count = many in omega arith;
                        now = λ _. flag ∙ sym (ap (list_any (eqb j)) given ∙ any_number (given_of s0 ++ k ∷ []) j (at_end (given_of s0)));
                      })
                    where
                      at_end : (ks : List ℕ) → Contains (ks ++ k ∷ []) j
                      at_end [] = subst (Contains (k ∷ [])) (sym e) (has_head k [])
                      at_end (y ∷ ys) = has_behind y (ys ++ k ∷ []) j (at_end ys)

                  other_k : (j ≡ k → ⊥) → IsFlagged plan rule nodes start j x s (slice_index_or (slice_set flags k true) j false)
                  other_k off = subst (IsFlagged plan rule nodes start j x s) (sym (get_or-set_other flags k j true false off))
                      (⊎_elim mine theirs (cases_eq x.addressee to))
                    where
                      theirs : (x.addressee ≡ to → ⊥) → IsFlagged plan rule nodes start j x s (slice_index_or flags j false)
                      theirs away = h.flagged j x s x_at (sym (get_set_else seats to s1 x.addressee away) ∙ b)

                      mine : x.addressee ≡ to → IsFlagged plan rule nodes start j x s (slice_index_or flags j false)
                      mine same =
                          let f = h.flagged j x s0 x_at (ap (slice_get seats) same ∙ seat) in
                          let s_is : s1 ≡ s = same_Some s1 s (sym (get_set_same seats to s1 s0 seat) ∙ ap (slice_get (slice_set seats to s1)) (sym same) ∙ b) in
                          let count = many in
                          subst (λ s. IsFlagged plan rule nodes start j x s (slice_index_or flags j false)) s_is (record {
                            past = λ e. let le = f.past e in omega arith;
                            now = λ e. f.now (e ∙ ap (λ n. n + 1) count)
                                ∙ sym (ap (list_any (eqb j)) given ∙ list_any-append (eqb j) (given_of s0) (k ∷ [])
                                ∙ ap (λ b. list_any (eqb j) (given_of s0) || (b || false)) (ne_eqb j k off) ∙ or_none (list_any (eqb j) (given_of s0)));
                          })

          is_seat : IsSeat plan rule nodes start started (ms ++ more) to s1
          is_seat = record {
            shows = subst (λ d. Shows plan rule same_message d s1.bench)
                ((λ i. desk_with N (sym desk_is i) m) ∙ (λ i. desk_for N started to (sym node_is i))) shows;
            site = ap (λ (s : Site). s.nodes) site ∙ (h.each to s0 seat).site;
            within = let old = (h.each to s0 seat).within in let long = ap length list_same in omega arith;
            numbers = λ i d lt. let low = numbers i d lt in let all = length-append ms more in omega arith;
          }

          -- the world is kept, and the node goes on
          pub all_kept : AreKept plan rule nodes start started requests (ms ++ more) next (slice_set seats to s1)
          all_kept = changed plan rule nodes start started requests ms more flags seats h to s0 s1 seat is_seat next long flagged

          pub is_going : IsGoing N start (deliver N u (Some m)) (world_of plan rule nodes start started (ms ++ more) (slice_set seats to s1)) to
          is_going =
              let out : more ≡ news N (desk_of N u to) m = mails ∙ (λ i. news N (sym desk_is i) m) in
              let same : nodes_of plan rule nodes start ms seats ≡ nodes_of plan rule nodes start (ms ++ more) seats
              = sym (nodes_on plan rule nodes start ms more seats (λ n s e. (h.each n s e).numbers)) in
              let world : record { started = started; sent = ms ++ news N (desk_of N u to) m; node = with_node u.node to kept }
              ≡ world_of plan rule nodes start started (ms ++ more) (slice_set seats to s1)
              = (λ i. record { started = started; sent = ms ++ sym out i; node = with_node (same i) to (sym node_is i) })
              ∙ (λ i. record { started = started; sent = ms ++ more; node = sym (seat_changed plan rule nodes start (ms ++ more) seats to s0 s1 seat) i }) in
              subst (λ v. IsGoing N start (deliver N u (Some m)) v to) world (given_first N is start u reached m sent current not_in)
