-- Nodes before the first event.
use Rattle.std.proofs.Common.{◌≡◌, ℕ, zero, suc, ◌+◌, ◌<◌, ◌≤◌, List, [], ◌∷◌, ◌++◌, map, length, Some, None, refl, sym, ap, ◌∙◌, subst, arith}
use Rattle.std.specs.Prelude.{slice_get, filter_map, take}
use Rattle.std.specs.List.{All}
use Rattle.std.proofs.lemmas.List.Elements.{All-nil}
use Rattle.aria_base.specs.Orders.{Database}
use Rattle.batch_rules.specs.declared.verdicts.Rule.{Rule}
use Rattle.proc_lang.specs.Catalogs.{Plan}
use Rattle.node_rules.specs.Worlds.{node_at_first, at_first, desk_for}
use Rattle.node_batch.specs.Entries.{entry_of}
use Rattle.node_batch.specs.declared.mails.Site.{Site}
use Rattle.node_seats.specs.Nodes.{node_of, net, nodes_of, world_of, AreKept}
use Rattle.node_seats.specs.Seats.{IsFirstSeat, AreFirst}
use Rattle.node_seats.specs.declared.seats.Seat.{Seat}

pub first_none : (nodes : ℕ) (db : Database) (seats : List Seat) → seats ≡ [] → AreFirst nodes db 0 seats
first_none nodes db seats e = subst (AreFirst nodes db 0) (sym e) (record { many = refl; each = λ n s at. cc })

-- one seat more
pub first_more : (nodes : ℕ) (db : Database) (n : ℕ) (seats next : List Seat) (s : Seat) → AreFirst nodes db n seats → next ≡ seats ++ s ∷ []
    → IsFirstSeat nodes db n s → AreFirst nodes db (n + 1) next
first_more nodes db n seats next s h e one = subst (AreFirst nodes db (n + 1)) (sym e)
    (record { many = count seats ∙ ap (λ k. k + 1) h.many; each = λ i t at. each i t at })
  where
    count : (xs : List Seat) → length (xs ++ s ∷ []) ≡ length xs + 1
    count [] = refl
    count (x ∷ xs) = let rest = count xs in omega arith

    placed : (xs : List Seat) (base i : ℕ) (t : Seat) → slice_get (xs ++ s ∷ []) i ≡ Some t
        → ((j : ℕ) (u : Seat) → slice_get xs j ≡ Some u → IsFirstSeat nodes db (base + j) u) → IsFirstSeat nodes db (base + length xs) s
        → IsFirstSeat nodes db (base + i) t
    placed [] base zero t at all last = subst (IsFirstSeat nodes db (base + zero)) (let same : s ≡ t = cc in same) last
    placed [] base (suc i) t at all last = cc
    placed (x ∷ xs) base zero t at all last = subst (IsFirstSeat nodes db (base + zero)) (let same : x ≡ t = cc in same) (all zero x refl)
    placed (x ∷ xs) base (suc i) t at all last =
        let here : base + 1 + i ≡ base + suc i = omega arith in
        let end : base + suc (length xs) ≡ base + 1 + length xs = omega arith in
        subst (λ k. IsFirstSeat nodes db k t) here (placed xs (base + 1) i t at
        (λ j u e. let there : base + suc j ≡ base + 1 + j = omega arith in subst (λ k. IsFirstSeat nodes db k u) there (all (suc j) u e))
        (subst (λ k. IsFirstSeat nodes db k s) end last))

    each : (i : ℕ) (t : Seat) → slice_get (seats ++ s ∷ []) i ≡ Some t → IsFirstSeat nodes db i t
    each i t at =
        let zero_i : 0 + i ≡ i = omega arith in
        let many = h.many in
        let last : n ≡ 0 + length seats = omega arith in
        subst (λ k. IsFirstSeat nodes db k t) zero_i (placed seats 0 i t at
        (λ j u e. let zero_j : j ≡ 0 + j = omega arith in subst (λ k. IsFirstSeat nodes db k u) zero_j (h.each j u e))
        (subst (λ k. IsFirstSeat nodes db k s) last one))

module _ (plan : Plan) (rule : Rule) (nodes : ℕ) (db : Database) (seats : List Seat) (h : AreFirst nodes db nodes seats) where
  node_first : (n : ℕ) (s : Seat) → IsFirstSeat nodes db n s → node_of [] s ≡ node_at_first (net plan rule nodes db) db n
  node_first n s b = λ i. record {
    rows = b.rows i;
    carried = take (b.carried i) s.bench.list.items;
    done = length (b.entries i);
    entries = map (λ batch. map entry_of batch.items) (b.entries i);
    given = filter_map (slice_get []) (b.given i);
  }

  pub world_first : world_of plan rule nodes db [] [] seats ≡ at_first (net plan rule nodes db) db
  world_first = λ i. record { started = []; sent = []; node = λ n. one n i }
    where
      one : (n : ℕ) → nodes_of plan rule nodes db [] seats n ≡ node_at_first (net plan rule nodes db) db n
      one n = elim (slice_get seats n) as
          (λ r. slice_get seats n ≡ r → elim r [ None ↦ node_at_first (net plan rule nodes db) db n | Some s ↦ node_of [] s ] ≡ node_at_first
          (net plan rule nodes db) db n) [
            | None ↦ λ e. refl
            | Some s ↦ λ e. node_first n s (h.each n s e)
          ] refl

  pub kept_first : 0 < nodes → nodes ≤ 8 → AreKept plan rule nodes db [] 0 [] [] seats
  kept_first some few = record {
    some_node = some;
    few_nodes = few;
    many_seats = h.many;
    each = λ n s e.
        let b = h.each n s e in
        record {
          shows = b.shows plan rule (desk_for (net plan rule nodes db) [] n (node_of [] s)) (record {
            node_is = refl;
            batch_is = ap (λ es. length es + 1) b.entries;
            rows_are = b.rows;
            list_is = ap (λ k. take k s.bench.list.items ++ []) b.carried;
            given_is = ap (filter_map (slice_get [])) b.given;
          });
          site = ap (λ (x : Site). x.nodes) b.site;
          within = let none = b.carried in omega arith;
          numbers = subst (All (λ k. k < 0)) (sym b.given) (All-nil (λ k. k < 0));
        };
    many_flags = refl;
    flagged = λ k m s at. cc;
    numbered = refl;
    counted = refl;
    few = omega arith;
  }
