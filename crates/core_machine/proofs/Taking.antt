-- The machine in code takes an event as the machine of the definition does.
use Rattle.std.proofs.Common.{◌≡◌, ◌≢◌, ℕ, zero, suc, ◌+◌, ◌-◌, ◌^◌, ◌<◌, ◌≤◌, ◌⊎◌, ◌↔◌, inl, inr, ⊎_elim, List, [], ◌∷◌, ◌++◌, length, map, take, Bool, true, false, cond, Some, None, Option, refl, sym, ap, ◌∙◌, subst, arith, Contains}
use Rattle.std.proofs.Math.Path.{fun_ext}
use Rattle.std.specs.Prelude.{slice_get, slice_set, is_some, ◌==◌, ◌&&◌, not, MatchBool}
use Rattle.std.specs.Option.{option_map}
use Rattle.std.specs.Ordering.{is_eq}
use Rattle.std.specs.Cmp.{Equal-is}
use Rattle.std.specs.BTreeMap.{is_at}
use Rattle.std.proofs.lemmas.Bool.{cases_eq, eq-eqb, ne_eqb, eqb-true, false≢true}
use Rattle.std.proofs.lemmas.List.{append_assoc}
use Rattle.aria_base.specs.Orders.{key_cmp, Cells, Database}
use Rattle.aria_base.specs.Reserved.{number_under}
use Rattle.aria_base.specs.declared.keys.Key.{Key}
use Rattle.aria_base.specs.declared.calls.Request.{Request}
use Rattle.aria_base.specs.declared.limits.TheConstants.{MOST_REQUESTS}
use Rattle.aria_base.proofs.Orders.{key_cmp_total, key_cmp-IsAntisymmetric}
use Rattle.proc_lang.specs.Catalogs.{run_of}
use Rattle.proc_lang.specs.Meaning.{is_done}
use Rattle.proc_lang.specs.declared.ends.End.{End}
use Rattle.batch_rules.specs.declared.verdicts.Verdict.{Verdict}
use Rattle.batch_rules.specs.Batches.{Carrier, Judged, judged, touching, written}
use Rattle.batch_rules.proofs.Judges.{length-judged}
use Rattle.proc_exec.specs.declared.outcomes.Outcome.{Outcome}
use Rattle.proc_exec.specs.Outcomes.{outcome_at}
use Rattle.core_machine.specs.declared.events.Event.{Event}
use Rattle.core_machine.specs.declared.events.Event.TheVariants.{Execute, MarkRead, MarkWrite, Decide, Install, Turn}
use Rattle.core_machine.specs.declared.cores.Core.{Core}
use Rattle.core_machine.specs.declared.decisions.TheConstants.{TAG}
use Rattle.core_machine.specs.Events.{SoFar, at_first, phase_of, place_in, turned, along, all_along, IsSettled, Stands, Asked, IsLegal}
use Rattle.core_machine.specs.Machines.{Held, put, and_then, installed, marked, decide, begun, step, steps, AreFirst, IsCommitted}
use Rattle.core_machine.specs.Found.{at_tid, outcome_of, read_at, write_at, finishes_by}
use Rattle.core_machine.specs.Kinds.{is_in}
use Rattle.core_machine.specs.Phases.{ended}
use Rattle.core_machine.specs.Words.{word_in, ran}
use Rattle.core_machine.specs.Cores.{Course, unmarked, carrier, after, IsCourse, IsNext, held, has_come, HasTaken, asks, is_open, AllCame, SomeLeft, Becomes, Performs, executed, told, verdicts_of, database_of}
use Rattle.core_machine.proofs.Listed.{judged_at, judged_has, get_below, Once}
use Rattle.core_machine.proofs.Keeps.{came_cases, came_now, came_before, put_here, put_else, Keeps, known, kept_all_along, at_begin, settled, rows_once}
use Rattle.core_machine.proofs.Courses.{along_append, legal_append}
use Rattle.core_machine.proofs.Came.{event_cmp, exact, itself}

-- ---- lists

module _ {X : Type 0} where
  set_here : (xs : List X) (n : ℕ) (x : X) → n < length xs → slice_get (slice_set xs n x) n ≡ Some x
  set_here [] n x lt = absurd (omega arith)
  set_here (y ∷ ys) zero x lt = refl
  set_here (y ∷ ys) (suc n) x lt = set_here ys n x (omega arith)

  set_else : (xs : List X) (n m : ℕ) (x : X) → m ≢ n → slice_get (slice_set xs n x) m ≡ slice_get xs m
  set_else [] n m x off = refl
  set_else (y ∷ ys) zero zero x off = absurd (off refl)
  set_else (y ∷ ys) zero (suc m) x off = refl
  set_else (y ∷ ys) (suc n) zero x off = refl
  set_else (y ∷ ys) (suc n) (suc m) x off = set_else ys n m x (λ e. off (ap suc e))

  pub at_is : (xs : List X) (i : ℕ) → 1 ≤ i → at_tid xs i ≡ slice_get xs (i - 1)
  at_is xs i low = ap (λ b. cond b None (slice_get xs (i - 1))) (ne_eqb i 0 (λ e. omega arith))

  at_set_here : (xs : List X) (i : ℕ) (x : X) → 1 ≤ i → i ≤ length xs → at_tid (slice_set xs (i - 1) x) i ≡ Some x
  at_set_here xs i x low high = at_is (slice_set xs (i - 1) x) i low ∙ set_here xs (i - 1) x (omega arith)

  at_set_else : (xs : List X) (i j : ℕ) (x : X) → 1 ≤ i → j ≢ i → at_tid (slice_set xs (i - 1) x) j ≡ at_tid xs j
  at_set_else xs i j x low off = ⊎_elim
      (λ none. ap (λ b. cond b None (slice_get (slice_set xs (i - 1) x) (j - 1))) (eq-eqb j 0 none)
      ∙ sym (ap (λ b. cond b None (slice_get xs (j - 1))) (eq-eqb j 0 none)))
      (λ some. at_is (slice_set xs (i - 1) x) j (omega arith) ∙ set_else xs (i - 1) (j - 1) x (λ e. off (omega arith)) ∙ sym (at_is xs j (omega arith)))
      (cases_eq j 0)

  pub get_there : (xs : List X) (n : ℕ) → n < length xs → (x : X) × (slice_get xs n ≡ Some x)
  get_there [] n lt = absurd (omega arith)
  get_there (x ∷ xs) zero lt = (x, refl)
  get_there (x ∷ xs) (suc n) lt = get_there xs n (omega arith)

  pub at_below : (xs : List X) (i : ℕ) (x : X) → at_tid xs i ≡ Some x → (1 ≤ i) × (i ≤ length xs)
  at_below xs i x e = ⊎_elim
      (λ none. let off : None ≡ Some x = sym (ap (λ b. cond b None (slice_get xs (i - 1))) (eq-eqb i 0 none)) ∙ e in cc)
      (λ some. let low : 1 ≤ i = omega arith in let lt = get_below xs (i - 1) x (sym (at_is xs i low) ∙ e) in (low, omega arith))
      (cases_eq i 0)

  same_lists : (xs ys : List X) → length xs ≡ length ys → ((n : ℕ) → n < length ys → slice_get xs n ≡ slice_get ys n) → xs ≡ ys
  same_lists [] [] e each = refl
  same_lists [] (y ∷ ys) e each = absurd (omega (arith, e))
  same_lists (x ∷ xs) [] e each = absurd (omega (arith, e))
  same_lists (x ∷ xs) (y ∷ ys) e each = let first : Some x ≡ Some y = each 0 (omega arith) in let same : x ≡ y = cc in
      λ i. same i ∷ same_lists xs ys (omega (arith, e)) (λ n lt. each (suc n) (omega arith)) i

  pub is_some-is : (r : Option X) → is_some r ≡ true → (x : X) × (r ≡ Some x)
  is_some-is None e = absurd (false≢true e)
  is_some-is (Some x) e = (x, refl)

  pub some-is_some : (r : Option X) (x : X) → r ≡ Some x → is_some r ≡ true
  some-is_some r x e = ap is_some e

map_get : {X Y : Type 0} (f : X → Y) (xs : List X) (n : ℕ) → slice_get (map f xs) n ≡ option_map f (slice_get xs n)
map_get f [] n = refl
map_get f (x ∷ xs) zero = refl
map_get f (x ∷ xs) (suc n) = map_get f xs n

pub both_true : (a b : Bool) → (a && b) ≡ true → (a ≡ true) × (b ≡ true)
both_true true b e = (refl, e)
both_true false b e = absurd (false≢true e)

is_some_key : {X Y : Type 0} (r : Option (X × Y)) (x : X) → option_map (λ w. w.0) r ≡ Some x → is_some r ≡ true
is_some_key None x e = cc
is_some_key (Some w) x e = refl

not_true : (a : Bool) → not a ≡ true → a ≡ false
not_true true e = absurd (false≢true e)
not_true false e = refl

take_next : {X : Type 0} (xs : List X) (n : ℕ) (x : X) → slice_get xs n ≡ Some x → take n xs ++ x ∷ [] ≡ take (n + 1) xs
take_next [] n x e = cc
take_next (y ∷ ys) zero x e = let same : y ≡ x = cc in ap (λ x. x ∷ []) (sym same)
take_next (y ∷ ys) (suc n) x e = let more : suc (n + 1) ≡ suc n + 1 = omega arith in ap (λ rest. y ∷ rest) (take_next ys n x e) ∙ ap (λ m. take m (y ∷ ys)) more

pub take_more : {X : Type 0} (es xs : List X) (n : ℕ) (x : X) → slice_get xs n ≡ Some x → (es ++ take n xs) ++ x ∷ [] ≡ es ++ take (n + 1) xs
take_more es xs n x e = append_assoc es (take n xs) (x ∷ []) ∙ ap (λ rest. es ++ rest) (take_next xs n x e)

pub take_past : {X : Type 0} (xs : List X) (n : ℕ) → length xs ≤ n → take n xs ≡ xs
take_past [] zero le = refl
take_past [] (suc n) le = refl
take_past (x ∷ xs) zero le = absurd (omega arith)
take_past (x ∷ xs) (suc n) le = ap (λ rest. x ∷ rest) (take_past xs n (omega arith))

-- ---- a batch

module _ (b : Course) where
  abbrev by : Carrier Key Cells End Request
  by = carrier b

  abbrev of : Request → Outcome
  of = outcome_at (run_of b.catalog) b.start

  abbrev does : Held key_cmp Cells Request → Event → Held key_cmp Cells Request
  does = step by b.rule TAG b.start b.list unmarked

  abbrev stands : ℕ → Judged Request → Type 0
  stands = Stands key_cmp by b.rule b.list

  abbrev asked : Event → Type 0
  asked = Asked key_cmp by b.rule b.list

  above : AreFirst TAG unmarked
  above writes k = omega arith

  once : (n : ℕ) (q : Request) → slice_get b.list n ≡ Some q → Once key_cmp_total key_cmp-IsAntisymmetric (by.rows q)
  once = rows_once key_cmp_total key_cmp-IsAntisymmetric is_done (run_of b.catalog) b.rule b.start b.list TAG unmarked

  abbrev kept : SoFar → Held key_cmp Cells Request → Type 0
  kept = Keeps key_cmp_total key_cmp-IsAntisymmetric by b.rule TAG b.start b.list unmarked

  keeps : (es : List Event) → length b.list ≤ MOST_REQUESTS → IsCourse b es → kept (after b es) (held b es)
  keeps es few legal = kept_all_along key_cmp_total key_cmp-IsAntisymmetric by b.rule TAG b.start b.list unmarked few above once es at_first _
      (at_begin key_cmp_total key_cmp-IsAntisymmetric by b.rule TAG b.start b.list unmarked few above once) legal

  steps_append : (es : List Event) (e : Event) (h : Held key_cmp Cells Request)
      → steps by b.rule TAG b.start b.list unmarked h (es ++ e ∷ []) ≡ does (steps by b.rule TAG b.start b.list unmarked h es) e
  steps_append [] e h = refl
  steps_append (x ∷ xs) e h = steps_append xs e (does h x)

  -- until rows are installed the database is that of the start
  phases_rise : (es : List Event) (so : SoFar) → so.phase ≤ (all_along so es).phase
  phases_rise [] so = omega arith
  phases_rise (Turn ∷ es) so = let le = phases_rise es (along so Turn) in omega arith
  phases_rise (Execute i ∷ es) so = phases_rise es (along so (Execute i))
  phases_rise (MarkRead i p ∷ es) so = phases_rise es (along so (MarkRead i p))
  phases_rise (MarkWrite i p ∷ es) so = phases_rise es (along so (MarkWrite i p))
  phases_rise (Decide i ∷ es) so = phases_rise es (along so (Decide i))
  phases_rise (Install i p ∷ es) so = phases_rise es (along so (Install i p))

  still : (es : List Event) (so : SoFar) (h : Held key_cmp Cells Request) → h.map ≡ b.start → IsLegal key_cmp by b.rule b.list so es
      → (all_along so es).phase < 3 → (steps by b.rule TAG b.start b.list unmarked h es).map ≡ b.start
  still [] so h is legal early = is
  still (Install i p ∷ es) so h is legal early = let rise = phases_rise es (along so (Install i p)) in let at = legal.0.0 in
      absurd (omega (arith, at, rise, early))
  still (Turn ∷ es) so h is legal early = still es (along so Turn) h is legal.1 early
  still (Execute i ∷ es) so h is legal early = still es (along so (Execute i)) (does h (Execute i)) is legal.1 early
  still (MarkRead i p ∷ es) so h is legal early = still es (along so (MarkRead i p)) (does h (MarkRead i p)) is legal.1 early
  still (MarkWrite i p ∷ es) so h is legal early = still es (along so (MarkWrite i p)) (does h (MarkWrite i p)) is legal.1 early
  still (Decide i ∷ es) so h is legal early = still es (along so (Decide i)) (does h (Decide i)) is legal.1 early

  -- ---- what the machine has in a place

  reads_mapped : (r : Option Request) (p : ℕ) → and_then (option_map of r) (λ o. slice_get o.reads p) ≡ and_then r (λ q. slice_get (by.reads q) p)
  reads_mapped None p = refl
  reads_mapped (Some q) p = refl

  rows_mapped : (r : Option Request) (p : ℕ) → and_then (option_map of r) (λ o. slice_get o.writes p) ≡ and_then r (λ q. slice_get (by.rows q) p)
  rows_mapped None p = refl
  rows_mapped (Some q) p = refl

  keys_mapped : (r : Option Request) (p : ℕ) → option_map (λ w. w.0) (and_then r (λ q. slice_get (by.rows q) p)) ≡ and_then r (λ q. slice_get (written by q) p)
  keys_mapped None p = refl
  keys_mapped (Some q) p = sym (map_get (λ w. w.0) (by.rows q) p)

  module _ (es : List Event) (c : Core) (t : HasTaken b es c) where
    reads_now : (i p : ℕ) → read_at c.outcomes.items i p ≡ and_then ((held b es).outcomes i) (λ q. slice_get (by.reads q) p)
    reads_now i p = ap (λ r. and_then r (λ o. slice_get o.reads p)) (t.outcomes i) ∙ reads_mapped ((held b es).outcomes i) p

    rows_now : (i p : ℕ) → write_at c.outcomes.items i p ≡ and_then ((held b es).outcomes i) (λ q. slice_get (by.rows q) p)
    rows_now i p = ap (λ r. and_then r (λ o. slice_get o.writes p)) (t.outcomes i) ∙ rows_mapped ((held b es).outcomes i) p

    written_now : (i p : ℕ) → option_map (λ w. w.0) (write_at c.outcomes.items i p) ≡ and_then ((held b es).outcomes i) (λ q. slice_get (written by q) p)
    written_now i p = ap (option_map (λ w. w.0)) (rows_now i p) ∙ keys_mapped ((held b es).outcomes i) p

    writers_now : word_in c.writers ≡ (held b es).writers
    writers_now = fun_ext t.writers

    readers_now : word_in c.readers ≡ (held b es).readers
    readers_now = fun_ext t.readers

    -- the request of a TID
    request_at : (i : ℕ) (d : Judged Request) → stands i d → at_tid c.list.items i ≡ Some d.request
    request_at i d s = at_is c.list.items i s.0 ∙ ap (λ list. slice_get list (i - 1)) t.list
        ∙ (judged_at (touching by key_cmp) b.rule [] b.list (i - 1) d s.1).0

    stands_at : (i : ℕ) → (1 ≤ i) → i ≤ length c.list.items → (d : Judged Request) × stands i d
    stands_at i low high =
        let there = get_there c.list.items (i - 1) (omega arith) in
        let has = judged_has (touching by key_cmp) b.rule [] b.list (i - 1) there.0 (ap (λ list. slice_get list (i - 1)) (sym t.list) ∙ there.1) in
        (has.0, (low, has.1))

    tid_there : (i : ℕ) (d : Judged Request) → stands i d → (1 ≤ i) × (i ≤ length c.list.items)
    tid_there i d s = at_below c.list.items i d.request (request_at i d s)

    ran_at : 0 < (after b es).phase → (i : ℕ) (d : Judged Request) → stands i d → (held b es).outcomes i ≡ Some d.request
    ran_at late i d s = known key_cmp_total key_cmp-IsAntisymmetric by b.rule TAG b.start b.list unmarked (after b es) (held b es)
        (keeps es t.few t.legal) late i d s

    -- ---- what is asked for

    outcome_tid : (i : ℕ) (o : Outcome) → outcome_of c.outcomes.items i ≡ Some o → (d : Judged Request) × stands i d
    outcome_tid i o e = found (at_tid c.outcomes.items i) refl e
      where
        found : (r : Option (Option Outcome)) → at_tid c.outcomes.items i ≡ r → and_then r (λ o. o) ≡ Some o → (d : Judged Request) × stands i d
        found None is e = cc
        found (Some one) is e = let below = at_below c.outcomes.items i one is in let same = c.ran in stands_at i below.0 (omega (arith, below.1, same))

    then_some : {Y : Type 0} (r : Option Outcome) (f : Outcome → Option Y) (y : Y) → and_then r f ≡ Some y → (o : Outcome) × (r ≡ Some o)
    then_some None f y e = cc
    then_some (Some o) f y e = (o, refl)

    told_at : 2 < (after b es).phase → (i : ℕ) (d : Judged Request) → stands i d → at_tid c.verdicts.items i ≡ Some d.verdict
    told_at late i d s = t.verdicts i d.verdict ((keeps es t.few t.legal).effects (Decide i) ((keeps es t.few t.legal).past (Decide i) late (d, s)) d s)

    asked_from : (e : Event) → phase_of e ≡ (after b es).phase → asks c e ≡ true → asked e
    asked_from (Execute i) at said = let some = is_some-is (at_tid c.list.items i) said in let below = at_below c.list.items i some.0 some.1 in
        stands_at i below.0 below.1
    asked_from (Decide i) at said = let some = is_some-is (at_tid c.list.items i) said in let below = at_below c.list.items i some.0 some.1 in
        stands_at i below.0 below.1
    asked_from (MarkRead i p) at said =
        let some = is_some-is (read_at c.outcomes.items i p) said in
        let one = then_some (outcome_of c.outcomes.items i) (λ o. slice_get o.reads p) some.0 some.1 in
        let s = outcome_tid i one.0 one.1 in
        (s.0, s.1, (some.0, ap (λ r. and_then r (λ q. slice_get (by.reads q) p)) (sym (ran_at (omega (arith, at)) i s.0 s.1)) ∙ sym (reads_now i p) ∙ some.1))
    asked_from (MarkWrite i p) at said =
        let some = is_some-is (write_at c.outcomes.items i p) said in
        let one = then_some (outcome_of c.outcomes.items i) (λ o. slice_get o.writes p) some.0 some.1 in
        let s = outcome_tid i one.0 one.1 in (
          s.0,
          s.1,
          (
            some.0.0,
            ap (λ r. and_then r (λ q. slice_get (written by q) p)) (sym (ran_at (omega (arith, at)) i s.0 s.1)) ∙ sym (written_now i p)
                ∙ ap (option_map (λ w. w.0)) some.1,
          ),
        )
    asked_from (Install i p) at said =
        let parts = both_true (finishes_by (at_tid c.verdicts.items i)) (is_some (write_at c.outcomes.items i p)) said in
        let some = is_some-is (write_at c.outcomes.items i p) parts.1 in
        let one = then_some (outcome_of c.outcomes.items i) (λ o. slice_get o.writes p) some.0 some.1 in
        let s = outcome_tid i one.0 one.1 in (
          s.0,
          s.1,
          ap finishes_by (sym (told_at (omega (arith, at)) i s.0 s.1))
              ∙ parts.0,
          (some.0, ap (λ r. and_then r (λ q. slice_get (by.rows q) p)) (sym (ran_at (omega (arith, at)) i s.0 s.1)) ∙ sym (rows_now i p) ∙ some.1),
        )
    asked_from Turn at said = absurd (false≢true said)

    asks_from : (e : Event) → phase_of e ≡ (after b es).phase → asked e → asks c e ≡ true
    asks_from (Execute i) at (d, s) = ap is_some (request_at i d s)
    asks_from (Decide i) at (d, s) = ap is_some (request_at i d s)
    asks_from (MarkRead i p) at (d, s, (k, e)) = ap is_some (reads_now i p
        ∙ ap (λ r. and_then r (λ q. slice_get (by.reads q) p)) (ran_at (omega (arith, at)) i d s) ∙ e)
    asks_from (MarkWrite i p) at (d, s, (k, e)) =
        is_some_key (write_at c.outcomes.items i p) k (written_now i p
        ∙ ap (λ r. and_then r (λ q. slice_get (written by q) p)) (ran_at (omega (arith, at)) i d s) ∙ e)
    asks_from (Install i p) at (d, s, f, (w, e)) =
        (λ j. finishes_by (told_at (omega (arith, at)) i d s j) && is_some
        ((rows_now i p ∙ ap (λ r. and_then r (λ q. slice_get (by.rows q) p)) (ran_at (omega (arith, at)) i d s) ∙ e) j)) ∙ ap (λ b. b && true) f
    asks_from Turn at a = absurd a

    -- ---- whether an event is due

    due_from : (e : Event) → phase_of e ≡ (after b es).phase → asked e → ¬ Contains (after b es).came e → IsNext b es e
    due_from (Execute i) at a new = (at, a, new)
    due_from (MarkRead i p) at a new = (at, a, new)
    due_from (MarkWrite i p) at a new = (at, a, new)
    due_from (Decide i) at a new = (at, a, new)
    due_from (Install i p) at a new = (at, a, new)
    due_from Turn at a new = absurd a

    -- other events than turns are due where the phase asks for them and they have not come
    refuted : (e : Event) → ¬ (e ≡ Turn) → ¬ ((phase_of e ≡ (after b es).phase) × (asked e × (¬ Contains (after b es).came e))) → ¬ IsNext b es e
    refuted (Execute i) other never now = never (now.0, (now.1, now.2))
    refuted (MarkRead i p) other never now = never (now.0, (now.1, now.2))
    refuted (MarkWrite i p) other never now = never (now.0, (now.1, now.2))
    refuted (Decide i) other never now = never (now.0, (now.1, now.2))
    refuted (Install i p) other never now = never (now.0, (now.1, now.2))
    refuted Turn other never now = other refl

    pub next_other : (e : Event) → ended c.phase ≡ phase_of e → asks c e ≡ true → has_come c e ≡ false → IsNext b es e
    next_other e at said new = let here : phase_of e ≡ (after b es).phase = sym at
        ∙ t.phase in due_from e here (asked_from e here said) (λ came. false≢true (sym new ∙ (t.came e).1 came))

    pub not_in_phase : (e : Event) → ¬ (e ≡ Turn) → ended c.phase ≢ phase_of e → ¬ IsNext b es e
    not_in_phase e other off = refuted e other (λ now. off (t.phase ∙ sym now.0))

    pub not_asked : (e : Event) → ¬ (e ≡ Turn) → asks c e ≡ false → ¬ IsNext b es e
    not_asked e other never = refuted e other (λ now. false≢true (sym never ∙ asks_from e now.0 now.1.0))

    pub not_new : (e : Event) → ¬ (e ≡ Turn) → has_come c e ≡ true → ¬ IsNext b es e
    not_new e other came = refuted e other (λ now. now.1.1 ((t.came e).0 came))

    pub next_turn : ended c.phase < 4 → AllCame c → IsNext b es Turn
    next_turn early all = let at = t.phase in (omega (arith, at), λ e here a. (t.came e).0 (all e (here ∙ sym t.phase) (asks_from e here a)))

    pub not_turn : (ended c.phase < 4 → SomeLeft c) → ¬ IsNext b es Turn
    not_turn left now =
        let at = t.phase in let early = now.0 in
        let one = left (omega (arith, at, early)) in
        let here : phase_of one.0 ≡ (after b es).phase = one.1 ∙ t.phase in
        let came = now.1 one.0 here (asked_from one.0 here one.2) in
        false≢true (sym (one.3 (t.fits one.0 came)) ∙ (t.came one.0).1 came)

    pub turn_due : (r : Bool) → MatchBool r ((ended c.phase < 4) × AllCame c) (ended c.phase < 4 → SomeLeft c)
        → MatchBool r (IsNext b es Turn) (¬ IsNext b es Turn)
    turn_due true all = next_turn all.0 all.1
    turn_due false left = not_turn left

    pub other_due : (e : Event) → ¬ (e ≡ Turn) → (r : Bool) → r ≡ is_open c e → MatchBool r (IsNext b es e) (¬ IsNext b es e)
    other_due e other true is = let parts = both_true (ended c.phase == phase_of e) (asks c e && not (has_come c e)) (sym is) in let more =
        both_true (asks c e) (not (has_come c e)) parts.1 in
        next_other e (eqb-true (ended c.phase) (phase_of e) parts.0) more.0 (not_true (has_come c e) more.1)
    other_due e other false is = ⊎_elim
        (λ at. elim (asks c e) as (λ a. asks c e ≡ a → ¬ IsNext b es e) [
          | false ↦ λ never. not_asked e other never
          | true ↦ λ said. elim (has_come c e) as (λ h. has_come c e ≡ h → ¬ IsNext b es e) [
            | true ↦ λ came. not_new e other came
            | false ↦ λ new. absurd (false≢true (is ∙ (λ j. eq-eqb (ended c.phase) (phase_of e) at j && (said j && not (new j)))))
          ] refl
        ] refl)
        (λ off. not_in_phase e other off)
        (cases_eq (ended c.phase) (phase_of e))

    -- ---- when it has settled

    committed : IsSettled (after b es) → IsCommitted by b.rule TAG b.start b.list unmarked (held b es)
    committed end = settled key_cmp_total key_cmp-IsAntisymmetric by b.rule TAG b.start b.list unmarked t.few above once (after b es) (held b es)
        (keeps es t.few t.legal) end

    pub tables_settled : IsSettled (after b es) → c.tables ≡ database_of b
    tables_settled end = t.tables ∙ (committed end).map

    pub verdicts_settled : IsSettled (after b es) → c.verdicts.items ≡ verdicts_of b
    verdicts_settled end =
        let ds : List (Judged Request) = judged (touching by key_cmp) b.rule [] b.list in
        let many : length ds ≡ length b.list = length-judged (touching by key_cmp) b.rule [] b.list in
        let told = c.told in let list : length c.list.items ≡ length b.list = ap (λ l. length l) t.list in
        let counted : length (map (λ (d : Judged Request). d.verdict) ds) ≡ length ds = length_map (λ (d : Judged Request). d.verdict) ds in
        same_lists c.verdicts.items (map (λ (d : Judged Request). d.verdict) ds) (omega (arith, told, list, many, counted))
        (λ n lt. let there = get_there ds n (omega (arith, lt, counted)) in
        let one : n ≡ suc n - 1 = omega arith in
        let s : stands (suc n) there.0 = (omega arith, ap (slice_get ds) (sym one) ∙ there.1) in
        ap (slice_get c.verdicts.items) one ∙ sym (at_is c.verdicts.items (suc n) (omega arith))
        ∙ t.verdicts (suc n) there.0.verdict ((committed end).verdicts (suc n) there.0 s)
        ∙ sym (map_get (λ (d : Judged Request). d.verdict) ds n ∙ ap (option_map (λ (d : Judged Request). d.verdict)) there.1))
      where
        length_map : {X Y : Type 0} (f : X → Y) (xs : List X) → length (map f xs) ≡ length xs
        length_map f [] = refl
        length_map f (x ∷ xs) = ap suc (length_map f xs)

  -- ---- an event is taken

  -- the machine d is m with the note that the event has come
  pub record Notes (m d : Core) (e : Event) : Type 0 where
    pub catalog : d.catalog ≡ m.catalog
    pub rule : d.rule ≡ m.rule
    pub list : d.list.items ≡ m.list.items
    pub phase : ended d.phase ≡ ended m.phase
    pub outcomes : d.outcomes.items ≡ m.outcomes.items
    pub writers : (key : Key) → word_in d.writers key ≡ word_in m.writers key
    pub readers : (key : Key) → word_in d.readers key ≡ word_in m.readers key
    pub verdicts : d.verdicts.items ≡ m.verdicts.items
    pub tables : d.tables ≡ m.tables
    pub came : (x : Event) → is_in d.came x ≡ cond (is_at (event_cmp e) x) true (is_in m.came x)

  module _ (es : List Event) (e : Event) (c m d : Core) (t : HasTaken b es c) (now : IsNext b es e) (fits : place_in e < 2 ^ 32) (notes : Notes m d e) where
    held_next : held b (es ++ e ∷ []) ≡ does (held b es) e
    held_next = steps_append es e (begun by b.rule TAG b.start b.list unmarked)

    after_next : after b (es ++ e ∷ []) ≡ along (after b es) e
    after_next = along_append key_cmp by b.rule b.list es (e ∷ []) at_first

    came_next : m.came ≡ c.came → (x : Event) → (has_come d x ≡ true) ↔ Contains (e ∷ (after b es).came) x
    came_next same x =
        let is : is_in d.came x ≡ cond (is_at (event_cmp e) x) true (is_in c.came x) = notes.came x
        ∙ ap (λ s. cond (is_at (event_cmp e) x) true (is_in s x)) same in (
          λ said. elim (is_at (event_cmp e) x) as (λ b'. is_at (event_cmp e) x ≡ b' → cond b' true (is_in c.came x) ≡ true
              → Contains (e ∷ (after b es).came) x) [
                | true ↦ λ tie h. subst (Contains (e ∷ (after b es).came)) (exact e x ((Equal-is (event_cmp e x)).0 tie)) (came_now e (after b es).came)
                | false ↦ λ tie h. came_before e x (after b es).came ((t.came x).0 h)
              ] refl (sym is ∙ said),
          λ has. is ∙ ⊎_elim
              (λ one. ap (λ b'. cond b' true (is_in c.came x)) (ap is_eq (ap (event_cmp e) (sym one) ∙ itself e)))
              (λ older. ap (cond (is_at (event_cmp e) x) true) ((t.came x).1 older)
              ∙ elim (is_at (event_cmp e) x) as (λ b'. cond b' true true ≡ true) [ true ↦ refl | false ↦ refl ])
              (came_cases e x (after b es).came has),
        )

    fits_next : (x : Event) → Contains (e ∷ (after b es).came) x → place_in x < 2 ^ 32
    fits_next x has = ⊎_elim (λ one. subst (λ x. place_in x < 2 ^ 32) one fits) (λ older. t.fits x older) (came_cases e x (after b es).came has)

    next : (n : ℕ) (outcomes : List (Option Outcome)) (ws rs : Key → ℕ) (verdicts : List Verdict) (db : Database) → Becomes c m n outcomes ws rs verdicts db
        → n ≡ turned (after b es).phase e
        → ((i : ℕ) → outcome_of outcomes i ≡ option_map of ((does (held b es) e).outcomes i))
        → ws ≡ (does (held b es) e).writers
        → rs ≡ (does (held b es) e).readers
        → ((i : ℕ) (v : Verdict) → (does (held b es) e).verdicts i ≡ Some v → at_tid verdicts i ≡ Some v)
        → db ≡ (does (held b es) e).map
        → HasTaken b (es ++ e ∷ []) d
    next n outcomes ws rs verdicts db becomes phase outs writers readers vs tables = record {
      catalog = notes.catalog ∙ becomes.catalog ∙ t.catalog;
      rule = notes.rule ∙ becomes.rule ∙ t.rule;
      list = notes.list ∙ becomes.list ∙ t.list;
      few = t.few;
      legal = legal_append key_cmp by b.rule b.list es (e ∷ []) at_first t.legal (now, tt);
      phase = notes.phase ∙ becomes.phase ∙ phase ∙ ap (λ (s : SoFar). s.phase) (sym after_next);
      came = λ x. subst (λ (s : SoFar). (has_come d x ≡ true) ↔ Contains s.came x) (sym after_next) (came_next becomes.came x);
      fits = λ x. subst (λ (s : SoFar). Contains s.came x → place_in x < 2 ^ 32) (sym after_next) (fits_next x);
      outcomes = λ i. ap (λ xs. outcome_of xs i) (notes.outcomes ∙ becomes.outcomes) ∙ outs i
          ∙ ap (λ (h : Held key_cmp Cells Request). option_map of (h.outcomes i)) (sym held_next);
      writers = λ key. notes.writers key ∙ becomes.writers key ∙ ap (λ (f : Key → ℕ). f key) writers
          ∙ ap (λ (h : Held key_cmp Cells Request). h.writers key) (sym held_next);
      readers = λ key. notes.readers key ∙ becomes.readers key ∙ ap (λ (f : Key → ℕ). f key) readers
          ∙ ap (λ (h : Held key_cmp Cells Request). h.readers key) (sym held_next);
      verdicts = λ i v is. ap (λ xs. at_tid xs i) (notes.verdicts ∙ becomes.verdicts)
          ∙ vs i v (ap (λ (h : Held key_cmp Cells Request). h.verdicts i) (sym held_next) ∙ is);
      tables = notes.tables ∙ becomes.tables ∙ tables ∙ ap (λ (h : Held key_cmp Cells Request). h.map) (sym held_next);
    }

  taken_execute : (es : List Event) (i : ℕ) (c m d : Core) → HasTaken b es c → IsNext b es (Execute i) → Notes m d (Execute i) → Performs c (Execute i) m
      → HasTaken b (es ++ Execute i ∷ []) d
  taken_execute es i c m d t now notes becomes =
      let s = now.1.1 in let q : Request = now.1.0.request in let phase = now.0 in
      let asked_one : at_tid c.list.items i ≡ Some q = request_at es c t i now.1.0 s in
      let below = at_below c.list.items i q asked_one in let same = c.ran in
      let there : slice_get b.list (i - 1) ≡ Some q = (judged_at (touching by key_cmp) b.rule [] b.list (i - 1) now.1.0 s.1).0 in
      let rows : c.tables ≡ b.start = t.tables ∙ still es at_first (begun by b.rule TAG b.start b.list unmarked) refl t.legal (omega (arith, phase)) in
      let made : executed c i (at_tid c.list.items i) ≡ slice_set c.outcomes.items (i - 1) (Some (of q))
      = ap (executed c i) asked_one ∙ (λ j. slice_set c.outcomes.items (i - 1) (Some (outcome_at (run_of (t.catalog j)) (rows j) q))) in
      next es (Execute i) c m d t now (omega arith) notes _ _ _ _ _ _ becomes t.phase
      (λ j. ap (λ xs. outcome_of xs j) made ∙ ⊎_elim
      (λ one. subst (λ n. outcome_of (slice_set c.outcomes.items (i - 1) (Some (of q))) n ≡ option_map of
      (put (held b es).outcomes i (slice_get b.list (i - 1)) n)) (sym one)
      (ap (λ r. and_then r (λ o. o)) (at_set_here c.outcomes.items i (Some (of q)) below.0 (omega (arith, below.1, same)))
      ∙ ap (option_map of) (sym (put_here (held b es).outcomes i (slice_get b.list (i - 1)) ∙ there))))
      (λ off. ap (λ r. and_then r (λ o. o)) (at_set_else c.outcomes.items i j (Some (of q)) below.0 off) ∙ t.outcomes j
      ∙ ap (option_map of) (sym (put_else (held b es).outcomes i j (slice_get b.list (i - 1)) off)))
      (cases_eq j i))
      (writers_now es c t) (readers_now es c t) t.verdicts t.tables

  taken_decide : (es : List Event) (i : ℕ) (c m d : Core) → HasTaken b es c → IsNext b es (Decide i) → Notes m d (Decide i) → Performs c (Decide i) m
      → HasTaken b (es ++ Decide i ∷ []) d
  taken_decide es i c m d t now notes becomes =
      let s = now.1.1 in let q : Request = now.1.0.request in let phase = now.0 in
      let below = tid_there es c t i now.1.0 s in let same = c.told in
      let known_one : (held b es).outcomes i ≡ Some q = ran_at es c t (omega (arith, phase)) i now.1.0 s in
      let v : Verdict = decide by b.rule TAG (held b es).writers (held b es).readers i q in
      let made : told c i (outcome_of c.outcomes.items i) ≡ slice_set c.verdicts.items (i - 1) v
      = ap (told c i) (t.outcomes i ∙ ap (option_map of) known_one)
      ∙ (λ j. slice_set c.verdicts.items (i - 1) (decide ran (t.rule j) TAG (writers_now es c t j) (readers_now es c t j) i (of q))) in
      next es (Decide i) c m d t now (omega arith) notes _ _ _ _ _ _ becomes t.phase t.outcomes (writers_now es c t) (readers_now es c t)
      (λ j w is. ap (λ xs. at_tid xs j) made ∙ ⊎_elim
      (λ one. ap (at_tid (slice_set c.verdicts.items (i - 1) v)) one ∙ at_set_here c.verdicts.items i v below.0 (omega (arith, below.1, same))
      ∙ sym (ap (put (held b es).verdicts i (option_map (decide by b.rule TAG (held b es).writers (held b es).readers i) ((held b es).outcomes i))) one
      ∙ put_here (held b es).verdicts i _ ∙ ap (option_map (decide by b.rule TAG (held b es).writers (held b es).readers i)) known_one) ∙ is)
      (λ off. at_set_else c.verdicts.items i j v below.0 off ∙ t.verdicts j w (sym (put_else (held b es).verdicts i j _ off) ∙ is))
      (cases_eq j i))
      t.tables

  pub takes : (es : List Event) (e : Event) (c m d : Core) → HasTaken b es c → IsNext b es e → place_in e < 2 ^ 32 → Notes m d e → Performs c e m
      → HasTaken b (es ++ e ∷ []) d
  takes es (Execute i) c m d t now fits notes becomes = taken_execute es i c m d t now notes becomes
  takes es (Decide i) c m d t now fits notes becomes = taken_decide es i c m d t now notes becomes
  takes es (MarkRead i p) c m d t now fits notes becomes =
      next es (MarkRead i p) c m d t now fits notes _ _ _ _ _ _ becomes t.phase t.outcomes (writers_now es c t)
      (λ j. marked key_cmp (readers_now es c t j) (reads_now es c t i p j) (number_under TAG i)) t.verdicts t.tables
  takes es (MarkWrite i p) c m d t now fits notes becomes =
      next es (MarkWrite i p) c m d t now fits notes _ _ _ _ _ _ becomes t.phase t.outcomes
      (λ j. marked key_cmp (writers_now es c t j) (written_now es c t i p j) (number_under TAG i)) (readers_now es c t) t.verdicts t.tables
  takes es (Install i p) c m d t now fits notes becomes =
      next es (Install i p) c m d t now fits notes _ _ _ _ _ _ becomes t.phase t.outcomes (writers_now es c t) (readers_now es c t) t.verdicts
      (λ j. installed (t.tables j) (rows_now es c t i p j))
  takes es Turn c m d t now fits notes becomes =
      next es Turn c m d t now fits notes _ _ _ _ _ _ becomes (let at = t.phase in let early = now.0 in omega (arith, at, early)) t.outcomes
      (writers_now es c t) (readers_now es c t) t.verdicts t.tables

-- ---- the first machine, and its facts without a batch

none_at : (list : List Request) (i : ℕ) → outcome_of (map (λ q. None) list) i ≡ None
none_at list i = ⊎_elim
    (λ none. ap (λ b. and_then (cond b None (slice_get (map (λ (q : Request). None) list) (i - 1))) (λ (o : Option Outcome). o)) (eq-eqb i 0 none))
    (λ some. ap (λ r. and_then r (λ (o : Option Outcome). o)) (at_is (map (λ (q : Request). None) list) i (omega arith)
    ∙ map_get (λ (q : Request). None) list (i - 1)) ∙ emptied (slice_get list (i - 1)))
    (cases_eq i 0)
  where
    emptied : (r : Option Request) → and_then (option_map (λ q. None) r) (λ (o : Option Outcome). o) ≡ None
    emptied None = refl
    emptied (Some q) = refl

pub begins : (c : Core) → ended c.phase ≡ 0 → ((e : Event) → has_come c e ≡ false) → c.outcomes.items ≡ map (λ q. None) c.list.items
    → ((key : Key) → word_in c.writers key ≡ 2 ^ 64 - 1) → ((key : Key) → word_in c.readers key ≡ 2 ^ 64 - 1)
    → HasTaken (record { catalog = c.catalog; rule = c.rule; start = c.tables; list = c.list.items }) [] c
begins c phase new none writers readers = record {
  catalog = refl;
  rule = refl;
  list = refl;
  few = c.few;
  legal = tt;
  phase = phase;
  came = λ e. (λ said. absurd (false≢true (sym (new e) ∙ said)), λ has. let lt = has.1 in absurd (omega arith));
  fits = λ e has. let lt = has.1 in absurd (omega arith);
  outcomes = λ i. ap (λ xs. outcome_of xs i) none ∙ none_at c.list.items i;
  writers = writers;
  readers = readers;
  verdicts = λ i v e. cc;
  tables = refl;
}
