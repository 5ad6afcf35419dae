-- What code asks of all nodes, as the definitions say it.
use Rattle.std.proofs.Common.{◌≡◌, ℕ, ◌+◌, ◌<◌, List, [], ◌∷◌, length, Bool, Some, None, refl, sym, ap, ◌∙◌, arith, suc}
use Rattle.std.specs.Prelude.{slice_get, nat_lt, nat_le, ◌||◌, ◌&&◌}
use Rattle.std.specs.List.{list_any, list_all, range_with_len}
use Rattle.std.proofs.lemmas.List.{length-map}
use Rattle.aria_base.specs.Orders.{key_cmp, Cells, Database}
use Rattle.aria_base.specs.declared.calls.Request.{Request}
use Rattle.proc_lang.specs.declared.ends.End.{End}
use Rattle.node_rules.specs.Nets.{Net}
use Rattle.node_rules.specs.Worlds.{Node, is_behind}
use Rattle.node_rules.specs.Worlds.{World as Definition}
use Rattle.node_rules.proofs.Picks.{get_above}
use Rattle.node_seats.specs.Nodes.{node_of}
use Rattle.node_seats.specs.declared.seats.Seat.{Seat}
use Rattle.node_seats.proofs.Keeping.{node_here}
use Rattle.node_world.specs.Worlds.{net_in, sent_in, started_in, world_in, done_in, all_past, Keeps}
use Rattle.node_world.specs.declared.worlds.World.{World}

module _ (f : ℕ → ℕ) (p : ℕ → Bool) where
  any_seat : (base : ℕ) (seats : List Seat) → ((i : ℕ) (s : Seat) → slice_get seats i ≡ Some s → f (base + i) ≡ length s.entries.items)
      → list_any (λ s. p (length s.entries.items)) seats ≡ list_any (λ n. p (f n)) (range_with_len base (length seats))
  any_seat base [] h = refl
  any_seat base (s ∷ ss) h =
      let here : base ≡ base + 0 = omega arith in
      let first = ap f here ∙ h 0 s refl in
      let rest = any_seat (base + 1) ss (λ i t e. let at : base + 1 + i ≡ base + suc i = omega arith in ap f at ∙ h (suc i) t e) in
      λ i. p (sym first i) || rest i

  all_seat : (base : ℕ) (seats : List Seat) → ((i : ℕ) (s : Seat) → slice_get seats i ≡ Some s → f (base + i) ≡ length s.entries.items)
      → list_all (λ s. p (length s.entries.items)) seats ≡ list_all (λ n. p (f n)) (range_with_len base (length seats))
  all_seat base [] h = refl
  all_seat base (s ∷ ss) h =
      let here : base ≡ base + 0 = omega arith in
      let first = ap f here ∙ h 0 s refl in
      let rest = all_seat (base + 1) ss (λ i t e. let at : base + 1 + i ≡ base + suc i = omega arith in ap f at ∙ h (suc i) t e) in
      λ i. p (sym first i) && rest i

module _ (start : Database) (w : World) (keeps : Keeps start w) where
  abbrev N : Net key_cmp Cells Request End
  N = net_in w

  abbrev u : Definition key_cmp Cells Request End
  u = world_in start w

  pub here : (n : ℕ) (s : Seat) → slice_get w.seats.items n ≡ Some s → u.node n ≡ node_of (sent_in w) s
  here n s e = node_here w.catalog w.rule w.nodes start (sent_in w) w.seats.items n s e

  pub done_here : (n : ℕ) (s : Seat) → slice_get w.seats.items n ≡ Some s → (u.node n).done ≡ length s.entries.items
  done_here n s e = ap (λ (x : Node key_cmp Cells Request End). x.done) (here n s e)

  pub done_at : (n : ℕ) (s : Seat) → slice_get w.seats.items n ≡ Some s → done_in w n ≡ length s.entries.items
  done_at n s e = ap (λ r. elim r [ None ↦ 0 | Some s ↦ length s.entries.items ]) e

  pub same_done : (n : ℕ) → n < w.nodes → (u.node n).done ≡ done_in w n
  same_done n lt =
      let many = keeps.many_seats in
      let s = get_above w.seats.items n (omega arith) in
      done_here n s.0 s.1 ∙ sym (done_at n s.0 s.1)

  long_started : length (started_in w) ≡ length w.started.items
  long_started = length-map w.started.items (λ new. new.items)

  pub behind_is : list_any (λ s. nat_lt (length s.entries.items) (length w.started.items)) w.seats.items ≡ is_behind N u
  behind_is = any_seat (λ n. (u.node n).done) (λ d. nat_lt d (length w.started.items)) 0 w.seats.items
      (λ i s e. let at : 0 + i ≡ i = omega arith in ap (λ n. (u.node n).done) at ∙ done_here i s e)
      ∙ (λ i. list_any (λ n. nat_lt (u.node n).done (sym long_started i)) (range_with_len 0 (keeps.many_seats i)))

  pub past_is : (batches : ℕ) → list_all (λ s. nat_le batches (length s.entries.items)) w.seats.items ≡ all_past w batches
  past_is batches = all_seat (done_in w) (nat_le batches) 0 w.seats.items
      (λ i s e. let at : 0 + i ≡ i = omega arith in ap (done_in w) at ∙ done_at i s e)
      ∙ ap (λ n. list_all (λ n. nat_le batches (done_in w n)) (range_with_len 0 n)) keeps.many_seats
