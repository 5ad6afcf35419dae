-- The slots of keys, and those of each request, are a layout.
use Rattle.std.proofs.Common.{◌≡◌, ℕ, zero, suc, ◌+◌, ◌-◌, ◌<◌, ◌≤◌, Bool, true, false, Option, Some, None, List, [], ◌∷◌, map, length, get_or, refl, sym, ap, subst, ◌∙◌, arith, All}
use Rattle.std.specs.Prelude.{◌||◌, unwrap_or, replicate}
use Rattle.std.proofs.lemmas.List.{get_or-map, length-map}
use mathlib.Core.Option.{some}
use lib.ListN.{get_elem?}
use Rattle.aria_base.proofs.Orders.{key_cmp_total, key_cmp-IsAntisymmetric}
use Rattle.aria_base.specs.Orders.{key_cmp}
use Rattle.aria_base.specs.declared.keys.Key.{Key}
use Rattle.batch_rules.specs.Touches.{is_among}
use Rattle.proc_exec.specs.Limits.{touchable}
use Rattle.proc_exec.specs.declared.outcomes.Waiting.{Waiting}
use Rattle.work_claim.specs.Rule.{times}
use Rattle.row_batons.specs.Fallbacks.{IsLaidOut, touches_in}
use Rattle.row_batons.specs.Layouts.{Slotted, slot_in, all_with_slots, AreAsMany, AllTouched, IsTouch, AreTouches, AreSlotsOf}
use Rattle.row_batons.specs.Numbers.{AreNumbersOf}
use Rattle.row_batons.proofs.Folds.{among_at, stands}
use Rattle.row_batons.proofs.Handed.{get_or_there, length_there}
use Rattle.row_batons.proofs.Slotting.{HasSlot, Known, same_of, Tells, AreSteps, all_steps, none_tells, all_at, every_same_length}

some_same : (m n : ℕ) → Some m ≡ Some n → m ≡ n
some_same m n e = ap (λ o. unwrap_or o 0) e

replicate-length : {A : Type 0} (n : ℕ) (a : A) → length (replicate n a) ≡ n
replicate-length zero a = refl
replicate-length (suc n) a = ap suc (replicate-length n a)

some_at : (xs : List Waiting) (i : ℕ) → i < length xs → (w : Waiting) × (get_elem? xs i ≡ some w)
some_at [] i lt = absurd (omega arith)
some_at (x ∷ xs) zero lt = (x, refl)
some_at (x ∷ xs) (suc i) lt = some_at xs i (omega arith)

either_or : {P : Type 0} (a b : Bool) → (a || b) ≡ true → (a ≡ true → P) → (b ≡ true → P) → P
either_or true b e left right = left refl
either_or false b e left right = right e

-- what holds of all keys of a list holds of each
all_keys : (keys ks : List Key) → All (λ k. is_among key_cmp keys k ≡ true) ks → (q : Key) → is_among key_cmp ks q ≡ true → is_among key_cmp keys q ≡ true
all_keys keys ks all q among = let k = stands key_cmp-IsAntisymmetric ks q among in
    ap (is_among key_cmp keys) (sym (get_or_there ks k.0 q q k.1)) ∙ all k.0 q (length_there ks k.0 q k.1)

abbrev pub no_slots : ℕ → Slotted
no_slots count = record { table = replicate count None; keys = [] }

module _ (ws : List Waiting) (reads writes : List (List ℕ)) (count : ℕ) (are : AreNumbersOf reads writes count ws) where
  abbrev all : Slotted
  all = all_with_slots (no_slots count) ws writes

  abbrev written : Waiting → List ℕ
  written w = map are.number w.declared.writes

  abbrev read : Waiting → List ℕ
  read w = map are.number w.declared.reads

  pub same_count : length reads ≡ length writes
  same_count = ap length are.reads_are ∙ length-map ws read ∙ sym (length-map ws written) ∙ sym (ap length are.writes_are)

  pub count_is : length reads ≡ length ws
  count_is = ap length are.reads_are ∙ length-map ws read

  -- each list has a number for each key
  pub as_many : AreAsMany writes ws
  as_many = record {
    each = ap length are.writes_are ∙ length-map ws written;
    many = λ x d lt.
        ap (λ l. length (get_or l x [])) are.writes_are
        ∙ ap length (get_or-map written ws x d [] lt)
        ∙ length-map (get_or ws x d).declared.writes are.number;
  }

  steps : AreSteps are.keys are.number are.one_to_one (no_slots count) all ws
  steps = subst (λ l. AreSteps are.keys are.number are.one_to_one (no_slots count) (all_with_slots (no_slots count) ws l) ws) (sym are.writes_are)
      (all_steps are.keys are.number are.one_to_one ws (no_slots count) (none_tells are.keys are.number are.one_to_one count) are.writes_among
      (subst (λ (m : ℕ). Rattle.dep_rules.specs.Sheets.AllBelow m (map written ws)) (sym (replicate-length count None))
      (subst (Rattle.dep_rules.specs.Sheets.AllBelow count) are.writes_are are.writes_below)))

  module _ (s : Slotted) (is : s ≡ all) where
    tells : Tells are.keys are.number are.one_to_one s
    tells = subst (Tells are.keys are.number are.one_to_one) (sym is) steps.tells

    -- the table has a place for each number
    pub table_length : length s.table ≡ count
    table_length = ap (λ z. length z.table) is ∙ every_same_length (no_slots count) ws writes ∙ replicate-length count None

    -- each slot in the table is that of a key
    pub are_slots : AreSlotsOf (length s.keys) s.table
    are_slots n k at = let there = tells.there n k at in length_there s.keys k there.0 there.1

    written_slot : (x : ℕ) (w : Waiting) (q : Key) → get_elem? ws x ≡ some w → is_among key_cmp w.declared.writes q ≡ true → HasSlot s (are.number q)
    written_slot x w q at among = subst (λ z. HasSlot z (are.number q)) (sym is)
        (all_at (HasSlot all) are.number w.declared.writes (subst (λ (v : Waiting). All (HasSlot all) (written v)) (get_or_there ws x w w at)
        (steps.have x w (length_there ws x w at))) q among)

    module _ (touches : List (List ℕ)) (touch : AreTouches s.table (length s.keys) reads writes touches (length reads)) where
      at_place : (x : ℕ) → x < length ws → IsTouch s.table (length s.keys) (get_or reads x []) (get_or writes x []) (get_or touches x [])
      at_place x lt = touch.touch x (let c = count_is in omega arith)

      of_read : (x : ℕ) (w : Waiting) → get_elem? ws x ≡ some w → AllTouched s.table (read w) (get_or touches x [])
      of_read x w at =
          let lt = length_there ws x w at in
          subst (λ l. AllTouched s.table l (get_or touches x [])) (ap (λ l. get_or l x []) are.reads_are ∙ get_or-map read ws x w [] lt
          ∙ ap read (get_or_there ws x w w at)) (at_place x lt).reads_touched

      of_written : (x : ℕ) (w : Waiting) → get_elem? ws x ≡ some w → AllTouched s.table (written w) (get_or touches x [])
      of_written x w at =
          let lt = length_there ws x w at in
          subst (λ l. AllTouched s.table l (get_or touches x [])) (ap (λ l. get_or l x []) are.writes_are ∙ get_or-map written ws x w [] lt
          ∙ ap written (get_or_there ws x w w at)) (at_place x lt).writes_touched

      pub laid_out : length ws ≤ 10000 → IsLaidOut key_cmp (λ w. touchable w.declared) ws s.keys (touches_in touches)
      laid_out few = record {
        few = omega arith;
        within = λ x k lt there. (at_place x lt).within k there;
        once = λ x k lt. (at_place x lt).once k;
        written = λ x w q at may.
            let slot = written_slot x w q at may in
            let there = tells.there (are.number q) slot.0 slot.1 in
            let known = all_keys are.keys w.declared.writes
            (subst (λ (v : Waiting). All (Known are.keys are.number are.one_to_one) v.declared.writes) (get_or_there ws x w w at)
            (are.writes_among x w (length_there ws x w at))) q may in
            let same : there.0 ≡ q = same_of are.keys are.number are.one_to_one there.0 q (tells.among slot.0 there.0 there.1) known there.2 in
            among_at key_cmp_total s.keys slot.0 q (there.1 ∙ ap some same);
        read = λ x k w q at may key. either_or (is_among key_cmp w.declared.reads q) (is_among key_cmp w.declared.writes q) may
            (λ among. all_at (λ n. (j : ℕ) → slot_in s.table n ≡ Some j → 1 ≤ times j (get_or touches x [])) are.number w.declared.reads
            (of_read x w at) q among k (tells.at k q key))
            (λ among. all_at (λ n. (j : ℕ) → slot_in s.table n ≡ Some j → 1 ≤ times j (get_or touches x [])) are.number w.declared.writes
            (of_written x w at) q among k (tells.at k q key));
        apart = λ j k q at at'. some_same j k (sym (tells.at j q at) ∙ tells.at k q at');
      }
