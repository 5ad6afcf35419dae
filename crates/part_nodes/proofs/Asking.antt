-- The answer of a batch that all nodes have completed.
use Rattle.std.proofs.Common.{◌≡◌, ℕ, ◌+◌, ◌-◌, ◌<◌, ◌≤◌, List, length, true, false, Some, None, Option, refl, sym, ap, ◌∙◌, subst, arith}
use Rattle.std.specs.Prelude.{Bool, slice_get, nat_le, not, ◌||◌, ◌==◌, if◌then◌else◌}
use Rattle.std.specs.List.{list_all}
use Rattle.std.specs.Borrow.{Bor}
use Rattle.std.proofs.lemmas.Bool.{ne_eqb}
use Rattle.std.proofs.lemmas.Option.{same_Some}
use Rattle.std.proofs.lemmas.List.{length-map}
use Rattle.aria_base.specs.Orders.{Database}
use Rattle.aria_base.specs.declared.calls.Request.{Request}
use Rattle.aria_base.specs.declared.keys.Key.{Key}
use Rattle.aria_base.specs.declared.limits.TheConstants.{MOST_REQUESTS}
use Rattle.batch_rules.specs.Batches.{Entry as Settled}
use Rattle.batch_core.specs.Steps.{answer, list_of}
use Rattle.batch_core.specs.Serial.{IsSerialAnswer}
use Rattle.batch_core.specs.declared.answers.Answer.{Answer}
use Rattle.proc_lang.specs.Catalogs.{run_of}
use Rattle.proc_lang.specs.declared.ends.End.{End}
use Rattle.node_rules.specs.Truths.{course, entries_on}
use Rattle.node_batch.specs.Entries.{entry_of}
use Rattle.node_batch.specs.declared.entries.Entry.{Entry as Own}
use Rattle.node_world.specs.Worlds.{all_past}
use Rattle.part_nodes.specs.Asked.{state_in, handed_in}
use Rattle.node_answers.specs.Merges.{settled_in, answer_in, AreShares}
use Rattle.node_world.specs.Worlds.{net_in, started_in}
use Rattle.node_world.specs.Steps.{IsReady}
use Rattle.node_seats.specs.declared.seats.Seat.{Seat}
use Rattle.node_world.specs.declared.worlds.World.{World}
use Rattle.node_world.proofs.Behind.{past_is}
use Rattle.part_nodes.proofs.Wholes.{past_seat, shares, answered, is_serial}

module _ (start : Database) (w : World) where
  -- the answer of one database
  abbrev pub whole_answer : ℕ → Answer
  whole_answer batch = answer (run_of w.catalog) (state_in start w (batch - 1)) (handed_in start w (batch - 1))

  -- what is asked for
  abbrev pub wanted : ℕ → Option Answer
  wanted batch = if (batch == 0) || not (all_past w batch) then None else Some (whole_answer batch)

  pub none_at_zero : (batch : ℕ) → batch ≡ 0 → None ≡ wanted batch
  none_at_zero batch e = sym (ap wanted e)

  pub none_yet : IsReady start w → (batch : ℕ) → list_all (λ s. nat_le batch (length s.entries.items)) w.seats.items ≡ false → None ≡ wanted batch
  none_yet r batch off =
      let past = sym (past_is start w r.keeps batch) ∙ off in
      sym ((λ i. if (batch == 0) || not (past i) then None else Some (whole_answer batch)) ∙ always (batch == 0))
    where
      always : (b : Bool) → (if b || true then None else Some (whole_answer batch)) ≡ None
      always true = refl
      always false = refl

  module _ (r : IsReady start w) (batch : ℕ) (off : batch ≡ 0 → ⊥)
      (past : list_all (λ s. nat_le batch (length s.entries.items)) w.seats.items ≡ true) where
    up : batch - 1 + 1 ≡ batch
    up = let low : 0 < batch = omega arith in omega arith

    past_up : list_all (λ s. nat_le (batch - 1 + 1) (length s.entries.items)) w.seats.items ≡ true
    past_up = ap (λ b. list_all (λ (s : Seat). nat_le b (length s.entries.items)) w.seats.items) up ∙ past

    pub seat_past : (n : ℕ) (s : Seat) → slice_get w.seats.items n ≡ Some s → batch - 1 < length s.entries.items
    seat_past = past_seat start w r (batch - 1) past_up

    abbrev pub whole_entries : List (Settled Key Request End)
    whole_entries = entries_on (net_in w) (course (net_in w) start (started_in w) (batch - 1))

    pub are_shares : AreShares w.seats.items (batch - 1) whole_entries
    are_shares = shares start w r (batch - 1) past_up

    pub few_entries : (es : List (Bor Own)) → settled_in es ≡ whole_entries → length es ≤ MOST_REQUESTS
    few_entries es same =
        let few = are_shares.few in
        let long = sym (length-map es (λ e. entry_of e.now)) ∙ ap length same in
        omega arith

    pub some_answer : (es : List (Bor Own)) → settled_in es ≡ whole_entries → (a : Answer) → a ≡ answer_in batch es → Some a ≡ wanted batch
    some_answer es same a e =
        let is : a ≡ whole_answer batch = e ∙ ap (λ b. answer_in b es) (sym up) ∙ answered start w r (batch - 1) past_up es same in
        let all = sym (past_is start w r.keeps batch) ∙ past in
        ap Some is ∙ sym (λ i. if ne_eqb batch 0 off i || not (all i) then None else Some (whole_answer batch))

    pub serial_answer : (es : List (Bor Own)) → settled_in es ≡ whole_entries → (a : Answer) → a ≡ answer_in batch es
        → (x : Answer) → Some a ≡ Some x
        → IsSerialAnswer (run_of w.catalog) (state_in start w (batch - 1)).rows (list_of (state_in start w (batch - 1)) (handed_in start w (batch - 1))) x
        (state_in start w batch)
    serial_answer es same a e x at =
        let is : x ≡ whole_answer batch = sym (same_Some a x at) ∙ e ∙ ap (λ b. answer_in b es) (sym up) ∙ answered start w r (batch - 1) past_up es same in
        subst (λ b. IsSerialAnswer (run_of w.catalog) (state_in start w (batch - 1)).rows
        (list_of (state_in start w (batch - 1)) (handed_in start w (batch - 1))) x (state_in start w b)) up
        (is_serial start w r (batch - 1) past_up x is)
