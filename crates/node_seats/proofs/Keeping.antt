-- One node changed, and messages sent: what that means for the world.
use Rattle.std.proofs.Common.{◌≡◌, ℕ, zero, suc, ◌+◌, ◌<◌, ⊎_elim, List, [], ◌∷◌, ◌++◌, length, false, Some, None, Option, refl}
use Rattle.std.proofs.Common.{sym, ap, ◌∙◌, subst, arith}
use Rattle.std.specs.Prelude.{slice_get, slice_index_or, slice_set, filter_map, Bool}
use Rattle.std.specs.List.{All, cons_option}
use Rattle.std.proofs.lemmas.Bool.{cases_eq}
use Rattle.std.proofs.lemmas.Option.{same_Some, slice_get-get_or}
use Rattle.std.proofs.lemmas.List.{length-set}
use Rattle.std.proofs.lemmas.List.Elements.{All-head, All-tail}
use Rattle.aria_base.specs.Orders.{key_cmp, Cells, Database}
use Rattle.aria_base.specs.declared.calls.Request.{Request}
use Rattle.aria_base.specs.declared.keys.Key.{Key}
use Rattle.batch_rules.specs.declared.verdicts.Rule.{Rule}
use Rattle.proc_lang.specs.Catalogs.{Plan}
use Rattle.proc_lang.specs.declared.ends.End.{End}
use Rattle.node_rules.specs.Messages.{Message}
use Rattle.node_rules.specs.Worlds.{Node, node_at_first, with_node, desk_for}
use Rattle.node_rules.proofs.Growing.{with_here, with_else}
use Rattle.node_batch.specs.NodeBatches.{Shows}
use Rattle.node_batch.specs.Sames.{same_message}
use Rattle.node_seats.specs.Nodes.{given_of, node_of, net, nodes_of, IsSeat, IsFlagged, AreKept}
use Rattle.node_seats.specs.declared.seats.Seat.{Seat}

-- ---- places of lists

-- what was read at a place stands there
pub stands : {X : Type 0} (xs : List X) (i : ℕ) (x : X) → i < length xs → x ≡ slice_index_or xs i x → slice_get xs i ≡ Some x
stands xs i x lt e = slice_get-get_or xs i x lt ∙ ap Some (sym e)

module _ {X : Type 0} where
  pub get_set_same : (xs : List X) (n : ℕ) (x y : X) → slice_get xs n ≡ Some y → slice_get (slice_set xs n x) n ≡ Some x
  get_set_same [] n x y e = cc
  get_set_same (z ∷ zs) zero x y e = refl
  get_set_same (z ∷ zs) (suc n) x y e = get_set_same zs n x y e

  pub get_set_else : (xs : List X) (n : ℕ) (x : X) (j : ℕ) → (j ≡ n → ⊥) → slice_get (slice_set xs n x) j ≡ slice_get xs j
  get_set_else [] n x j off = refl
  get_set_else (z ∷ zs) zero x zero off = absurd (off refl)
  get_set_else (z ∷ zs) zero x (suc j) off = refl
  get_set_else (z ∷ zs) (suc n) x zero off = refl
  get_set_else (z ∷ zs) (suc n) x (suc j) off = get_set_else zs n x j (λ e. off (ap suc e))

  pub get_left : (xs ys : List X) (k : ℕ) → k < length xs → slice_get (xs ++ ys) k ≡ slice_get xs k
  get_left [] ys k lt = absurd (omega arith)
  get_left (x ∷ xs) ys zero lt = refl
  get_left (x ∷ xs) ys (suc k) lt = get_left xs ys k (omega arith)

  pub mapped_left : (xs ys : List X) (ks : List ℕ) → All (λ k. k < length xs) ks → filter_map (slice_get (xs ++ ys)) ks ≡ filter_map (slice_get xs) ks
  mapped_left xs ys [] all = refl
  mapped_left xs ys (k ∷ ks) all = λ i. cons_option (get_left xs ys k (All-head (λ k. k < length xs) k ks all) i)
      (mapped_left xs ys ks (All-tail (λ k. k < length xs) k ks all) i)

module _ (plan : Plan) (rule : Rule) (nodes : ℕ) (start : Database) where
  -- what a node keeps stays where more is sent
  pub node_on : (sent more : List (Message Key Cells)) (s : Seat) → All (λ k. k < length sent) (given_of s) → node_of (sent ++ more) s ≡ node_of sent s
  node_on sent more s all = λ i. record {
    rows = (node_of sent s).rows;
    carried = (node_of sent s).carried;
    done = (node_of sent s).done;
    entries = (node_of sent s).entries;
    given = mapped_left sent more (given_of s) all i;
  }

  abbrev at : List (Message Key Cells) → List Seat → ℕ → Node key_cmp Cells Request End
  at sent seats n = nodes_of plan rule nodes start sent seats n

  abbrev pick_node : List (Message Key Cells) → ℕ → Option Seat → Node key_cmp Cells Request End
  pick_node sent n r = elim r [ None ↦ node_at_first (net plan rule nodes start) start n | Some s ↦ node_of sent s ]

  pub node_here : (sent : List (Message Key Cells)) (seats : List Seat) (n : ℕ) (s : Seat) → slice_get seats n ≡ Some s → at sent seats n ≡ node_of sent s
  node_here sent seats n s e = ap (pick_node sent n) e

  -- one seat changed is one node changed
  pub seat_changed : (sent : List (Message Key Cells)) (seats : List Seat) (n : ℕ) (old new : Seat) → slice_get seats n ≡ Some old
      → nodes_of plan rule nodes start sent (slice_set seats n new) ≡ with_node (nodes_of plan rule nodes start sent seats) n (node_of sent new)
  seat_changed sent seats n old new e = λ i j. one j i
    where
      one : (j : ℕ) → at sent (slice_set seats n new) j ≡ with_node (nodes_of plan rule nodes start sent seats) n (node_of sent new) j
      one j = ⊎_elim
          (λ same. subst (λ j. at sent (slice_set seats n new) j ≡ with_node (nodes_of plan rule nodes start sent seats) n (node_of sent new) j) (sym same)
          (ap (pick_node sent n) (get_set_same seats n new old e)
          ∙ sym (with_here (net plan rule nodes start) [] (nodes_of plan rule nodes start sent seats) n (node_of sent new))))
          (λ off. ap (pick_node sent j) (get_set_else seats n new j off)
          ∙ sym (with_else (net plan rule nodes start) [] (nodes_of plan rule nodes start sent seats) n (node_of sent new) j off))
          (cases_eq j n)

  -- more messages change no node
  pub nodes_on : (sent more : List (Message Key Cells)) (seats : List Seat)
      → ((n : ℕ) (s : Seat) → slice_get seats n ≡ Some s → All (λ k. k < length sent) (given_of s))
      → nodes_of plan rule nodes start (sent ++ more) seats ≡ nodes_of plan rule nodes start sent seats
  nodes_on sent more seats all = λ i j. one j i
    where
      one : (j : ℕ) → at (sent ++ more) seats j ≡ at sent seats j
      one j = elim (slice_get seats j) as (λ r. slice_get seats j ≡ r → pick_node (sent ++ more) j r ≡ pick_node sent j r) [
        | None ↦ λ e. refl
        | Some s ↦ λ e. node_on sent more s (all j s e)
      ] refl

  -- a seat stays one where more is sent
  pub seat_on : (started : List (List Request)) (sent more : List (Message Key Cells)) (n : ℕ) (s : Seat) → IsSeat plan rule nodes start started sent n s
      → IsSeat plan rule nodes start started (sent ++ more) n s
  seat_on started sent more n s h = record {
    shows = subst (λ x. Shows plan rule same_message (desk_for (net plan rule nodes start) started n x) s.bench) (sym (node_on sent more s h.numbers)) h.shows;
    site = h.site;
    within = h.within;
    numbers = λ k d lt. let low = h.numbers k d lt in let long = length_both sent more in omega arith;
  }
    where
      length_both : (xs ys : List (Message Key Cells)) → length (xs ++ ys) ≡ length xs + length ys
      length_both [] ys = omega arith
      length_both (x ∷ xs) ys = let rest = length_both xs ys in omega arith

  -- one node changed, where messages were sent
  pub changed : (started : List (List Request)) (requests : ℕ) (sent more : List (Message Key Cells)) (flags : List Bool) (seats : List Seat)
      → AreKept plan rule nodes start started requests sent flags seats → (n : ℕ) (old new : Seat) → slice_get seats n ≡ Some old
      → IsSeat plan rule nodes start started (sent ++ more) n new → (next : List Bool) → length next ≡ length (sent ++ more)
      → ((k : ℕ) (m : Message Key Cells) (s : Seat) → slice_get (sent ++ more) k ≡ Some m → slice_get (slice_set seats n new) m.addressee ≡ Some s
      → IsFlagged plan rule nodes start k m s (slice_index_or next k false))
      → AreKept plan rule nodes start started requests (sent ++ more) next (slice_set seats n new)
  changed started requests sent more flags seats h n old new e is next long flagged = record {
    some_node = h.some_node;
    few_nodes = h.few_nodes;
    many_seats = length-set seats n new ∙ h.many_seats;
    each = λ i s at. ⊎_elim
        (λ same.
        let here : new ≡ s = same_Some new s (sym (get_set_same seats n new old e) ∙ ap (slice_get (slice_set seats n new)) (sym same) ∙ at) in
        subst (λ (p : ℕ × Seat). IsSeat plan rule nodes start started (sent ++ more) p.0 p.1) (λ j. (sym same j, here j)) is)
        (λ off. seat_on started sent more i s (h.each i s (sym (get_set_else seats n new i off) ∙ at)))
        (cases_eq i n);
    many_flags = long;
    flagged = flagged;
    numbered = h.numbered;
    counted = h.counted;
    few = h.few;
  }
