-- One entry more of a batch, from its own node.
use Rattle.std.proofs.Common.{◌≡◌, ℕ, ◌+◌, ◌/◌, ◌%◌, ◌<◌, ◌≤◌, zero, suc, List, [], ◌∷◌, ◌++◌, map, length, take, Some, None, sym, ap, ◌∙◌, arith}
use Rattle.std.specs.Prelude.{slice_get, slice_index_or}
use Rattle.std.specs.Borrow.{Bor}
use Rattle.std.specs.Option.{option_map}
use Rattle.std.proofs.lemmas.List.{map-append, take_more, take_all}
use Rattle.std.proofs.lemmas.Option.{slice_get-map, get_or_from_slice_get}
use Rattle.aria_base.specs.declared.calls.Request.{Request}
use Rattle.aria_base.specs.declared.keys.Key.{Key}
use Rattle.batch_rules.specs.Batches.{Entry as Settled}
use Rattle.proc_lang.specs.declared.ends.End.{End}
use Rattle.node_rules.proofs.Picks.{get_below}
use Rattle.node_batch.specs.Entries.{entry_of}
use Rattle.node_batch.specs.declared.entries.Entry.{Entry as Own}
use Rattle.node_answers.specs.Merges.{settled_in, AreShares}
use Rattle.node_seats.specs.Nodes.{settled_of}
use Rattle.node_seats.specs.declared.seats.Seat.{Seat}
use Rattle.node_answers.proofs.Merging.{own_place}

abbrev pub E : Type 0
E = Settled Key Request End

module _ (seats : List Seat) (batch : ℕ) (es : List E) (sh : AreShares seats batch es) (some : 0 < length seats) (place : ℕ) (s : Seat)
    (at : slice_get seats (place % length seats) ≡ Some s) (own : List Own) (is : slice_index_or (settled_of s) batch [] ≡ map entry_of own) where
  abbrev j : ℕ
  j = place / length seats

  stands_here : slice_get es place ≡ option_map entry_of (slice_get own j)
  stands_here = sym (own_place (λ (e : E). e.judged.tid) (length seats) es place sh.tids some)
      ∙ ap (λ l. slice_get l j) (sym (sh.own (place % length seats) s at) ∙ is) ∙ slice_get-map entry_of own j

  pub one_more : (all next : List (Bor Own)) (e : Bor Own) → settled_in all ≡ take place es → Some e.now ≡ slice_get own j → next ≡ all ++ e ∷ []
      → settled_in next ≡ take (place + 1) es
  one_more all next e so found push =
      let here : slice_get es place ≡ Some (entry_of e.now) = stands_here ∙ ap (option_map entry_of) (sym found) in
      let lt = get_below es place (entry_of e.now) here in
      let get = get_or_from_slice_get es place (entry_of e.now) (entry_of e.now) here in
      ap settled_in push ∙ map-append (λ (e : Bor Own). entry_of e.now) all (e ∷ []) ∙ (λ i. so i ++ sym get i ∷ [])
      ∙ sym (take_more es place (entry_of e.now) lt)

  pub no_more : (all : List (Bor Own)) → settled_in all ≡ take place es → None ≡ slice_get own j → settled_in all ≡ es
  no_more all so none =
      let here : slice_get es place ≡ None = stands_here ∙ ap (option_map entry_of) (sym none) in
      so ∙ take_all place es (past es place here)
    where
      past : (es : List E) (n : ℕ) → slice_get es n ≡ None → length es ≤ n
      past [] n e = omega arith
      past (x ∷ xs) n e = elim n as (λ n. slice_get (x ∷ xs) n ≡ None → suc (length xs) ≤ n) [
        | zero ↦ λ e. cc
        | suc n ↦ λ e. let le = past xs n e in omega arith
      ] e
