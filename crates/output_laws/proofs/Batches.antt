-- A batch over rows of printed bytes: its answer has no other, and neither has the state that it leaves.
use Rattle.std.proofs.Common.{◌≡◌, ℕ, zero, suc, ◌+◌, ◌*◌, ◌≤◌, Bool, true, false, cond, nat_lt, List, [], ◌∷◌, ◌++◌, length, Option, Some, None, refl, ap, subst, arith}
use Rattle.std.specs.Prelude.{⊤, ◌&&◌, nat_le, IfSome}
use Rattle.std.specs.List.{All, AllByRecursion, filter}
use Rattle.std.proofs.lemmas.Bool.{leb-true, ltb-true}
use Rattle.aria_base.specs.Orders.{Database, key_cmp}
use Rattle.aria_base.proofs.Orders.{key_cmp_total, key_cmp-IsAntisymmetric}
use Rattle.aria_base.specs.declared.calls.Call.{Call}
use Rattle.aria_base.specs.declared.calls.Request.{Request}
use Rattle.aria_base.specs.declared.keys.Key.{Key}
use Rattle.batch_core.specs.Steps.{Handed, State, answer, line_of, list_of, numbered, outcome, reply_by, step}
use Rattle.batch_core.specs.declared.answers.Answer.{Answer}
use Rattle.batch_core.specs.declared.answers.Line.{Line}
use Rattle.batch_core.specs.declared.answers.Reply.{Reply}
use Rattle.batch_core.specs.declared.answers.Reply.TheVariants as reply
use Rattle.batch_core.specs.declared.answers.Wait.{Wait}
use Rattle.batch_core.specs.declared.answers.Wait.TheVariants as wait
use Rattle.batch_rules.proofs.Keeping.{kept_by_batch}
use Rattle.batch_rules.specs.Batches.{Entry, Ended, Fate, Judged, Moved, Waits, after_commit, batch, carried, declared, fate_after, fate_by, has_ended, is_carried, judged, late_fate, late_fates, late_map, late_rest, late_results, late_runs, lates_behind, on_start, settled, touching, waiting}
use Rattle.batch_rules.specs.Touches.{Declared, map_after, outside}
use Rattle.batch_rules.specs.Trees.{end_of, trace_of}
use Rattle.batch_rules.specs.Verdicts.{Dependencies, waits}
use Rattle.batch_rules.specs.declared.verdicts.Cause.{Cause}
use Rattle.batch_rules.specs.declared.verdicts.Cause.TheVariants as cause
use Rattle.batch_rules.specs.declared.verdicts.Rule.{Rule}
use Rattle.batch_rules.specs.declared.verdicts.Verdict.{Verdict}
use Rattle.batch_rules.specs.declared.verdicts.Verdict.TheVariants.{Finish, Wait as WaitFor}
use Rattle.proc_lang.specs.Catalogs.{Plan, run_of}
use Rattle.proc_lang.specs.Meaning.{Run, is_done}
use Rattle.proc_lang.specs.declared.ends.End.{End}
use Rattle.output_laws.proofs.Runs.{PrintedPlan, PrintedRows, PrintedRun, after_printed, end_printed, outside_printed, run_printed}
use Rattle.output_laws.proofs.Texts.{PrintedCall, PrintedEnd, PrintedKey, all_filtered, all_joined, all_mapped}

abbrev pub PrintedFate : Fate Key End → Type 0
PrintedFate (Ended e) = PrintedEnd e
PrintedFate (Waits cause) = ⊤
PrintedFate (Moved k) = PrintedKey k

abbrev pub PrintedRequest : Request → Type 0
PrintedRequest r = PrintedCall r.call

abbrev pub PrintedWait : Wait → Type 0
PrintedWait (wait.Waw n) = ⊤
PrintedWait (wait.Raw n) = ⊤
PrintedWait (wait.Both n m) = ⊤
PrintedWait (wait.Moved key) = PrintedKey key

abbrev pub PrintedReply : Reply → Type 0
PrintedReply (reply.Ended e) = PrintedEnd e
PrintedReply (reply.Waits w) = PrintedWait w

abbrev pub PrintedAnswer : Answer → Type 0
PrintedAnswer a = AllByRecursion (λ (line : Line). PrintedReply line.reply) a.lines

pub record PrintedState (state : State) : Type 0 where
  pub rows : PrintedRows state.rows
  pub waiting : AllByRecursion PrintedRequest state.waiting

-- ---- lists

at_each : {X : Type 0} (P : X → Type 0) (xs : List X) → AllByRecursion P xs → All P xs
at_each P [] a k d below = absurd (omega (arith, below))
at_each P (x ∷ xs) a zero d below = a.0
at_each P (x ∷ xs) a (suc k) d below = at_each P xs a.1 k d (omega (arith, below))

filter_short : {X : Type 0} (test : X → Bool) (xs : List X) → length (filter test xs) ≤ length xs
filter_short test [] = omega arith
filter_short test (x ∷ xs) = by (test x) (filter_short test xs)
  where
    by : (b : Bool) → length (filter test xs) ≤ length xs → length (cond b (x ∷ filter test xs) (filter test xs)) ≤ length (x ∷ xs)
    by true h = omega (arith, h)
    by false h = omega (arith, h)

-- of a hundred requests 101 never wait
never_late : (w n : ℕ) → w ≤ n → (nat_lt 0 w && nat_le (101 * n) (w * 100)) ≡ false
never_late w n h = by (nat_lt 0 w) (nat_le (101 * n) (w * 100)) refl refl
  where
    by : (a b : Bool) → nat_lt 0 w ≡ a → nat_le (101 * n) (w * 100) ≡ b → (a && b) ≡ false
    by true true e f =
        let some = ltb-true 0 w e in
        let most = leb-true (101 * n) (w * 100) f in
        absurd (omega (arith, some, most, h))
    by true false e f = refl
    by false b e f = refl

module _ (tree : Request → Run) (runs : (r : Request) → PrintedRequest r → PrintedRun (tree r)) where
  -- ---- what waits, run again

  fate_printed : (o : Option Key) (e : End) → IfSome o PrintedKey → PrintedEnd e → PrintedFate (fate_by o e)
  fate_printed None e h k = k
  fate_printed (Some key) e h k = h

  abbrev Asks : Judged Request → Type 0
  Asks d = PrintedRequest d.request

  lates_printed : (declared_of : Judged Request → Declared Key) (db : Database) (ds : List (Judged Request)) → AllByRecursion Asks ds → PrintedRows db
      → AllByRecursion PrintedFate (late_fates is_done declared_of (λ d. tree d.request) db ds)
  lates_printed declared_of db [] a h = tt
  lates_printed declared_of db (d ∷ ds) a h =
      let run = tree d.request in
      let is = runs d.request a.0 in (
        fate_printed (outside key_cmp (declared_of d) (trace_of run db)) (end_of run db) (outside_printed (declared_of d) run db is h)
            (end_printed run db is h),
        lates_printed declared_of (late_map is_done (declared_of d) run db) ds a.1 (left (has_ended (late_fate (declared_of d) run db)) run is),
      )
    where
      left : (b : Bool) (run : Run) → PrintedRun run → PrintedRows (cond b (map_after is_done run db) db)
      left true run is = after_printed run db is h
      left false run is = h

  -- ---- the list

  judged_printed : (on : Dependencies Request) (rule : Rule) (earlier list : List Request) → AllByRecursion PrintedRequest list
      → AllByRecursion Asks (judged on rule earlier list)
  judged_printed on rule earlier [] a = tt
  judged_printed on rule earlier (r ∷ rs) a = (a.0, judged_printed on rule (earlier ++ r ∷ []) rs a.1)

  abbrev IsPrinted : Entry Key Request End → Type 0
  IsPrinted e = PrintedFate e.fate × PrintedRequest e.judged.request

  behind_printed : (v : Verdict) (lates : List (Fate Key End)) → AllByRecursion PrintedFate lates → AllByRecursion PrintedFate (lates_behind v lates)
  behind_printed (Finish raw) lates a = a
  behind_printed (WaitFor cause) [] a = tt
  behind_printed (WaitFor cause) (late ∷ lates) a = a.1

  abbrev Keeping : Request → Type 0
  Keeping r = (db : Database) → PrintedRows db → PrintedRows (map_after is_done (tree r) db)

  keeping : (rs : List Request) → AllByRecursion PrintedRequest rs → AllByRecursion Keeping rs
  keeping [] a = tt
  keeping (r ∷ rs) a = ((λ db h. after_printed (tree r) db (runs r a.0) h), keeping rs a.1)

  module _ (rule : Rule) (percent : ℕ) (start : Database) (list : List Request) (asks : AllByRecursion PrintedRequest list) (rows : PrintedRows start) where
    abbrev ds : List (Judged Request)
    ds = judged (touching (on_start is_done tree start) key_cmp) rule [] list

    ds_printed : AllByRecursion Asks ds
    ds_printed = judged_printed (touching (on_start is_done tree start) key_cmp) rule [] list asks

    after_printed_commit : PrintedRows (after_commit (on_start is_done tree start) start ds)
    after_printed_commit =
        let kept = kept_by_batch key_cmp_total key_cmp-IsAntisymmetric is_done tree PrintedRows rule 101 start list
        (at_each Keeping list (keeping list asks)) rows in
        subst PrintedRows (ap (λ b. cond b (late_rest (on_start is_done tree start) is_done tree (after_commit (on_start is_done tree start) start ds) ds)
        (after_commit (on_start is_done tree start) start ds))
        (never_late (length (waiting ds)) (length ds) (filter_short (λ (d : Judged Request). waits d.verdict) ds))) kept

    map_printed : PrintedRows (batch is_done tree rule percent start list).map
    map_printed =
        kept_by_batch key_cmp_total key_cmp-IsAntisymmetric is_done tree PrintedRows rule percent start list (at_each Keeping list (keeping list asks)) rows

    settled_printed : (es : List (Judged Request)) (fates : List (Fate Key End)) → AllByRecursion Asks es → AllByRecursion PrintedFate fates
        → AllByRecursion IsPrinted (settled (on_start is_done tree start) es fates)
    settled_printed [] fates a b = tt
    settled_printed (d ∷ es) fates a b =
        ((by d.verdict fates b, a.0), settled_printed es (lates_behind d.verdict fates) a.1 (behind_printed d.verdict fates b))
      where
        by : (v : Verdict) (fates : List (Fate Key End)) → AllByRecursion PrintedFate fates
            → PrintedFate (fate_after (on_start is_done tree start) d.request v fates)
        by (Finish raw) fates b = end_printed (tree d.request) start (runs d.request a.0) rows
        by (WaitFor cause) [] b = tt
        by (WaitFor cause) (late ∷ more) b = b.0

    entries_printed : AllByRecursion IsPrinted (batch is_done tree rule percent start list).entries
    entries_printed = settled_printed ds _ ds_printed (by (late_runs percent ds))
      where
        by : (b : Bool) → AllByRecursion PrintedFate (cond b
            (late_results (on_start is_done tree start) is_done tree (after_commit (on_start is_done tree start) start ds) ds) [])
        by true = lates_printed (λ d. declared (on_start is_done tree start) d.request) (after_commit (on_start is_done tree start) start ds) (waiting ds)
            (all_filtered Asks (λ d. waits d.verdict) ds ds_printed) after_printed_commit
        by false = tt

  -- ---- states

  numbered_printed : (n : ℕ) (calls : List Call) → AllByRecursion PrintedCall calls → AllByRecursion PrintedRequest (numbered n calls)
  numbered_printed n [] a = tt
  numbered_printed n (call ∷ calls) a = (a.0, numbered_printed (n + 1) calls a.1)

  waits_printed : (number : ℕ → ℕ) (c : Cause) → PrintedReply (reply_by number (Waits c))
  waits_printed number (cause.Waw n) = tt
  waits_printed number (cause.Raw n) = tt
  waits_printed number (cause.Both n m) = tt

  reply_printed : (number : ℕ → ℕ) (f : Fate Key End) → PrintedFate f → PrintedReply (reply_by number f)
  reply_printed number (Ended e) h = h
  reply_printed number (Waits c) h = waits_printed number c
  reply_printed number (Moved key) h = h

  module _ (state : State) (handed : Handed) (is : PrintedState state) (calls : AllByRecursion PrintedCall handed.calls) where
    listed : AllByRecursion PrintedRequest (list_of state handed)
    listed = all_joined PrintedRequest state.waiting (numbered state.requests handed.calls) is.waiting (numbered_printed state.requests handed.calls calls)

    all_entries : AllByRecursion IsPrinted (outcome tree state handed).entries
    all_entries = entries_printed handed.rule handed.percent state.rows (list_of state handed) listed is.rows

    pub answer_printed : PrintedAnswer (answer tree state handed)
    answer_printed =
        all_mapped IsPrinted (λ (line : Line). PrintedReply line.reply) (line_of (λ r. r) (list_of state handed))
        (λ e h. reply_printed _ e.fate h.0) (outcome tree state handed).entries all_entries

    pub step_printed : PrintedState (step tree state handed)
    step_printed = record {
      rows = map_printed handed.rule handed.percent state.rows (list_of state handed) listed is.rows;
      waiting = all_mapped IsPrinted PrintedRequest (λ e. e.judged.request) (λ e h. h.1) (carried (outcome tree state handed).entries)
          (all_filtered IsPrinted is_carried (outcome tree state handed).entries all_entries);
    }

pub plan_answer : (plan : Plan) (state : State) (handed : Handed) → PrintedPlan plan → PrintedState state → AllByRecursion PrintedCall handed.calls
    → PrintedAnswer (answer (run_of plan) state handed)
plan_answer plan state handed p is calls = answer_printed (run_of plan) (λ r c. run_printed plan r p c) state handed is calls

pub plan_step : (plan : Plan) (state : State) (handed : Handed) → PrintedPlan plan → PrintedState state → AllByRecursion PrintedCall handed.calls
    → PrintedState (step (run_of plan) state handed)
plan_step plan state handed p is calls = step_printed (run_of plan) (λ r c. run_printed plan r p c) state handed is calls
