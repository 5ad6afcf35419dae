-- A batch that was settled is the batch of its definition, and leaves an engine that is ready again.
use Rattle.std.proofs.Common.{◌≡◌, refl, sym, ap, subst, ◌∙◌, ℕ, suc, ◌+◌, ◌<◌, ◌≤◌, List, [], ◌∷◌, ◌++◌, length, map, Bool, true, not, slice_index_or, arith}
use Rattle.std.proofs.Common.{length-append}
use Rattle.std.specs.List.{All}
use Rattle.std.proofs.lemmas.List.Elements.{All-nil, All-cons, All-head, All-tail, All-append, All-filter}
use Rattle.aria_base.specs.Orders.{Cells, Database}
use Rattle.aria_base.specs.declared.calls.Request.{Request}
use Rattle.aria_base.specs.declared.keys.Key.{Key}
use Rattle.std.proofs.lemmas.List.{length-map}
use Rattle.aria_base.specs.Schemas.{IsConsistent}
use Rattle.aria_base.specs.declared.limits.TheConstants.{GREATEST_NUMBER}
use Rattle.batch_core.specs.Serial.{RiseWithin}
use Rattle.batch_core.specs.Steps.{number_in}
use Rattle.batch_core.specs.declared.answers.Answer.{Answer}
use Rattle.batch_core.proofs.Numbers.{rise-above, rise-below, rise-append, rise-filter}
use Rattle.batch_rules.specs.declared.verdicts.Rule.{Rule}
use Rattle.batch_rules.specs.declared.verdicts.Verdict.{Verdict}
use Rattle.batch_rules.specs.Trees.{Tree}
use Rattle.batch_rules.specs.Verdicts.{through}
use Rattle.batch_rules.proofs.Judges.{length-judged}
use Rattle.proc_lang.specs.declared.ends.End.{End}
use Rattle.proc_lang.specs.Catalogs.{IsCatalog, run_of}
use Rattle.reorder.specs.Orders.{placed_tids}
use Rattle.range_rules.specs.declared.routines.Action.{Action}
use Rattle.range_rules.specs.declared.routines.NumberedWork.{NumberedWork}
use Rattle.range_rules.specs.declared.routines.RoutineCall.{RoutineCall}
use Rattle.range_rules.specs.declared.routines.Seen.{Seen}
use Rattle.range_rules.specs.declared.routines.Work.{Work}
use Rattle.range_rules.specs.declared.routines.TheConstants.{MOST_WORKS}
use Rattle.range_rules.specs.Batches.{Outcome, answer_of, depends, numbered}
use Rattle.range_rules.specs.Courses.{ran_on}
use Rattle.range_rules.specs.Serials.{is_named, IsSerialAnswer, IsProgress}
use Rattle.range_rules.proofs.Moving.{few_kept, progress}
use Rattle.range_rules.proofs.Printed.{is_serial, stays_consistent}
use Rattle.range_suits.specs.Laws.{Behaves, IsWell}
use Rattle.range_suits.specs.Suits.{Suits, is_taken}
use Rattle.range_resv.specs.Answers.{lines_in}
use Rattle.range_resv.specs.Commits.{IsCommitted, IsSettled}
use Rattle.range_resv.specs.Engines.{Between, IsReady, list_from, batch_from}
use Rattle.range_resv.specs.Lists.{waiting_among}
use Rattle.range_resv.specs.declared.commits.Committed.{Committed}
use Rattle.range_resv.specs.declared.settlements.Settled.{Settled}
use Rattle.range_resv.proofs.Settling.{settled-is}

-- ---- the list of a batch

length-numbered : (n : ℕ) (works : List Work) → length (numbered n works) ≡ length works
length-numbered n [] = refl
length-numbered n (work ∷ works) = ap suc (length-numbered (n + 1) works)

numbered-rise : (n : ℕ) (works : List Work) → RiseWithin (λ w. w.q) n (numbered n works) (n + length works)
numbered-rise n [] = omega arith
numbered-rise n (work ∷ works) = (
  omega arith,
  subst (λ high. RiseWithin (λ w. w.q) (n + 1) (numbered (n + 1) works) high) (omega arith) (numbered-rise (n + 1) works),
)

taken-numbered : (test : Work → Bool) (n : ℕ) (works : List Work) → All (λ work. test work ≡ true) works
    → All (λ w. test w.work ≡ true) (numbered n works)
taken-numbered test n [] a = All-nil (λ w. test w.work ≡ true)
taken-numbered test n (work ∷ works) a = All-cons (λ w. test w.work ≡ true) (record { q = n + 1; work = work }) (numbered (n + 1) works)
    (All-head (λ work. test work ≡ true) work works a) (taken-numbered test (n + 1) works (All-tail (λ work. test work ≡ true) work works a))

-- what a batch may ask of the engine, and of its works
pub record May (taken : RoutineCall → Bool) (act : ℕ → RoutineCall → List Seen → Action) (works : List Work) (b : Between) : Type 0 where
  pub suits : Suits b.plan.tables taken act
  pub old : All (λ w. is_taken b.plan taken w.work ≡ true) b.carried
  pub new : All (λ work. is_taken b.plan taken work ≡ true) works
  pub room : length b.carried + length works ≤ MOST_WORKS
  pub batches : b.batches < GREATEST_NUMBER
  pub requests : b.requests + length works ≤ GREATEST_NUMBER

-- what it leaves, and its answer
pub record Done (by : RoutineCall → Bool) (act : ℕ → RoutineCall → List Seen → Action) (rule : Rule) (works : List Work) (b after : Between)
    (told : Answer) : Type 0 where
  pub plan : after.plan ≡ b.plan
  pub counts : (after.batches ≡ b.batches + 1) × (after.requests ≡ b.requests + length works)
  pub answer : told ≡ answer_of (b.batches + 1) (batch_from act rule b works)
  pub rows : after.rows ≡ (batch_from act rule b works).rows
  pub waiting : after.carried ≡ (batch_from act rule b works).carried
  pub taken : All (λ w. is_taken b.plan by w.work ≡ true) after.carried
  pub serial : IsSerialAnswer (run_of b.plan) act b.rows (list_from b works) told after.rows after.carried
  pub progress : 0 < length (list_from b works) → IsProgress (run_of b.plan) act b.rows (list_from b works) told after.carried

-- as many are decided as there are works
pub many-verdicts : (tree : Request → Tree Key Cells End) (act : ℕ → RoutineCall → List Seen → Action) (rule : Rule) (start : Database)
    (list : List NumberedWork) (c : Committed) → IsCommitted tree act rule start list c → length c.verdicts.items ≡ length list
many-verdicts tree act rule start list c h =
    ap length h.verdicts ∙ length-map _ (λ d. d.verdict) ∙ length-judged (through (ran_on tree act start) depends) rule _ list

module _ (taken : RoutineCall → Bool) (act : ℕ → RoutineCall → List Seen → Action) (rule : Rule) (works : List Work) (b : Between)
    (behave : (w : NumberedWork) (db : Database) → Behaves b.plan taken act w db) (whole : IsCatalog b.plan)
    (ready : IsReady b.plan b.rows b.carried b.batches b.requests) (may : May taken act works b) where
  abbrev list : List NumberedWork
  list = list_from b works

  abbrev Taken : NumberedWork → Type 0
  Taken w = is_taken b.plan taken w.work ≡ true

  rises : RiseWithin (λ w. w.q) 0 list (b.requests + length works)
  rises = rise-append (λ w. w.q) 0 b.carried b.requests (numbered b.requests works) (b.requests + length works) ready.numbered
      (numbered-rise b.requests works)

  taken-list : All Taken list
  taken-list = All-append Taken b.carried (numbered b.requests works) may.old (taken-numbered (is_taken b.plan taken) b.requests works may.new)

  pub few-list : length list ≤ MOST_WORKS
  few-list = omega (arith, may.room, length-append b.carried (numbered b.requests works), length-numbered b.requests works)

  -- each work of the list is well on rows that fit
  well-on : (db : Database) → IsConsistent b.plan.tables db → All (λ w. IsWell b.plan taken act w db) list
  well-on db consistent k d below =
      let w = slice_index_or list k d in
      let above = rise-above (λ w. w.q) 0 list (b.requests + length works) rises k d below in
      let upto = rise-below (λ w. w.q) 0 list (b.requests + length works) rises k d below in
      behave w db whole may.suits (taken-list k d below) (omega (arith, above)) (omega (arith, upto, may.requests)) consistent

  pub well-list : All (λ w. IsWell b.plan taken act w b.rows) list
  well-list = well-on b.rows ready.consistent

  -- ---- what it comes to

  abbrev outcome : Outcome
  outcome = batch_from act rule b works

  serial : IsSerialAnswer (run_of b.plan) act b.rows list (answer_of (b.batches + 1) outcome) outcome.rows outcome.carried
  serial = is_serial (run_of b.plan) act rule b.rows list (b.batches + 1) (b.requests + length works) rises

  abbrev left : NumberedWork → Bool
  left w = not (is_named outcome.order w)

  few-carried : length outcome.carried ≤ MOST_WORKS
  few-carried =
      let few = few_kept left list in
      omega (arith, few-list, few, ap length serial.rest)

  pub ready-after : IsReady b.plan outcome.rows outcome.carried (b.batches + 1) (b.requests + length works)
  ready-after = record {
    consistent = stays_consistent (run_of b.plan) act rule b.rows list b.plan.tables
        (λ k d below db consistent. (well-on db consistent k d below).leaves) ready.consistent;
    numbered = subst (λ l. RiseWithin (λ w. w.q) 0 l (b.requests + length works)) (sym serial.rest)
        (rise-filter (λ w. w.q) left 0 list (b.requests + length works) rises);
    few = few-carried;
    batches_within = omega (arith, may.batches);
    requests_within = may.requests;
  }

  pub all-done : Done taken act rule works b
      (record { plan = b.plan; rows = outcome.rows; carried = outcome.carried; batches = b.batches + 1; requests = b.requests + length works })
      (answer_of (b.batches + 1) outcome)
  all-done = record {
    plan = refl;
    counts = (refl, refl);
    answer = refl;
    rows = refl;
    waiting = refl;
    taken = subst (All Taken) (sym serial.rest) (All-filter left Taken list taken-list);
    serial = serial;
    progress = progress (run_of b.plan) act rule b.rows list (b.batches + 1);
  }

-- ---- the engine by its fields, `e`, and as its callers see it, `self`

module _ {e self : Between} (view : e ≡ self) (taken : RoutineCall → Bool) (act : ℕ → RoutineCall → List Seen → Action) (rule : Rule)
    (works : List Work) (behave : (w : NumberedWork) (db : Database) → Behaves e.plan taken act w db) (whole : IsCatalog e.plan)
    (ready : IsReady e.plan e.rows e.carried e.batches e.requests) (may : May taken act works self) where
  may-e : May taken act works e
  may-e = subst (May taken act works) (sym view) may

  -- what was made of the list is what the definition says
  listed : (asked front : List NumberedWork) → asked ≡ front ++ numbered e.requests works → front ≡ e.carried → asked ≡ list_from e works
  listed asked front a f = a ∙ ap (λ front. front ++ numbered e.requests works) f

  pub few-asked : (asked front slice : List NumberedWork) → asked ≡ front ++ numbered e.requests works → front ≡ e.carried → slice ≡ asked
      → length slice ≤ MOST_WORKS
  few-asked asked front slice a f s = subst (λ (l : List NumberedWork). length l ≤ MOST_WORKS) (sym (s ∙ listed asked front a f))
      (few-list taken act rule works e behave whole ready may-e)

  pub well-asked : (asked front slice : List NumberedWork) → asked ≡ front ++ numbered e.requests works → front ≡ e.carried → slice ≡ asked
      → All (λ w. IsWell e.plan taken act w e.rows) slice
  well-asked asked front slice a f s = subst (All (λ w. IsWell e.plan taken act w e.rows)) (sym (s ∙ listed asked front a f))
      (well-list taken act rule works e behave whole ready may-e)

  module _ (c : Committed) (s : Settled) (asked front slice : List NumberedWork) (verdicts : List Verdict) (a : asked ≡ front ++ numbered e.requests works)
      (f : front ≡ e.carried) (sl : slice ≡ asked) (committed : IsCommitted (run_of e.plan) act rule e.rows slice c) (v : verdicts ≡ c.verdicts.items)
      (lines : s.lines ≡ lines_in (number_in (map (λ w. w.q) asked)) c.ends.items (map (λ w. w.q) asked) verdicts)
      (order : s.order ≡ map (number_in (map (λ w. w.q) asked)) (placed_tids verdicts))
      (waiting : s.carried.items ≡ waiting_among asked verdicts) where
    abbrev all : IsCommitted (run_of e.plan) act rule e.rows (list_from e works) c
    all = subst (λ l. IsCommitted (run_of e.plan) act rule e.rows l c) (sl ∙ listed asked front a f) committed

    abbrev settled : IsSettled (run_of e.plan) act rule e.rows (list_from e works) s
    settled = settled-is (run_of e.plan) act rule e.rows (list_from e works) s asked c.ends.items verdicts (listed asked front a f)
        (v ∙ all.verdicts) all.ends lines order waiting

    module _ (left : List NumberedWork) (count : ℕ) (l : left ≡ s.carried.items) (n : count ≡ length works) where
      pub finished : Done taken act rule works self
          (record { plan = e.plan; rows = c.tables; carried = left; batches = e.batches + 1; requests = e.requests + count })
          (record { number = e.batches + 1; lines = s.lines; order = s.order })
      finished = subst (λ b. Done taken act rule works b
          (record { plan = e.plan; rows = c.tables; carried = left; batches = e.batches + 1; requests = e.requests + count })
          (record { number = e.batches + 1; lines = s.lines; order = s.order })) view
          (subst (λ (p : Between × Answer). Done taken act rule works e p.0 p.1)
          (λ i. (
            record {
              plan = e.plan;
              rows = sym all.rows i;
              carried = sym (l ∙ settled.carried) i;
              batches = e.batches + 1;
              requests = e.requests + sym n
                  i;
            },
            record { number = e.batches + 1; lines = sym settled.lines i; order = sym settled.order i },
          ))
          (all-done taken act rule works e behave whole ready may-e))

      pub ready-again : IsReady e.plan c.tables left (e.batches + 1) (e.requests + count)
      ready-again = subst (λ (p : Database × List NumberedWork × ℕ). IsReady e.plan p.0 p.1 (e.batches + 1) (e.requests + p.2))
          (λ i. (sym all.rows i, sym (l ∙ settled.carried) i, sym n i)) (ready-after taken act rule works e behave whole ready may-e)
