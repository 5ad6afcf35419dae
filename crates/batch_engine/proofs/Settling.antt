-- What is made of a batch's judged list, one list after the other, is what the definition of a batch says.
use Rattle.std.proofs.Common.{◌≡◌, refl, sym, ap, subst, ◌∙◌, ℕ, zero, suc, ◌+◌, ◌-◌, ◌≤◌, List, [], ◌∷◌, ◌++◌, map, length, drop, true, false, if◌then◌else◌, Option, Some, option_map, slice_index_or, arith, append_assoc}
use Rattle.std.specs.List.{All, filter, slice_get}
use Rattle.std.proofs.lemmas.List.{length-map}
use Rattle.std.proofs.lemmas.List.Elements.{All-nil, All-cons}
use Rattle.std.proofs.lemmas.Option.{slice_get-map}
use Rattle.std.proofs.lemmas.Simd.{map-map}
use Rattle.aria_base.specs.Orders.{key_cmp, Cells, Database}
use Rattle.aria_base.specs.declared.calls.Request.{Request}
use Rattle.aria_base.specs.declared.keys.Key.{Key}
use Rattle.batch_core.specs.Steps.{number_in, number_or, number_at, reply_by, reply_of, line_of}
use Rattle.batch_rules.specs.Batches.{Carrier, Judged, Entry, Fate, Ended, Waits, Moved, Batch, judge, judged, decided, waiting, late_runs, has_ended, is_carried, ordered, carried, touching, fate_after, lates_behind, settled, after_commit, late_fates, late_left, late_results, on_start, batch, read_through, judged_through, entry_through}
use Rattle.batch_rules.specs.Trees.{Tree, end_of}
use Rattle.batch_rules.specs.Verdicts.{Dependencies, waits}
use Rattle.batch_rules.specs.declared.verdicts.Rule.{Rule}
use Rattle.batch_rules.specs.declared.verdicts.Verdict.{Verdict}
use Rattle.batch_rules.specs.declared.verdicts.Verdict.TheVariants.{Finish, Wait}
use Rattle.batch_rules.proofs.Carriers.{fates_map, left_map, settled-through}
use Rattle.batch_rules.proofs.Fates.{judged-settled, requests-settled}
use Rattle.batch_rules.proofs.Judges.{decided_each}
use Rattle.batch_rules.proofs.Lists.{All-unmapped, map_same}
use Rattle.proc_exec.specs.Limits.{touchable}
use Rattle.proc_exec.specs.Outcomes.{outcome_at}
use Rattle.proc_exec.specs.declared.outcomes.Waiting.{Waiting}
use Rattle.proc_lang.specs.Meaning.{is_done}
use Rattle.proc_lang.specs.declared.ends.End.{End}
use Rattle.reorder.specs.Orders.{ordered_tids}
use Rattle.reorder.proofs.Places.{ordered_names}
use Rattle.dep_rules.specs.declared.sets.Sets.{Sets}
use Rattle.batch_engine.specs.Answers.{by_end, line_in, lines_in, is_final, still_waiting}
use Rattle.batch_engine.specs.Lates.{is_due, LateRun}
use Rattle.batch_engine.specs.Lists.{sets_in, waiting_with, waiting_among, counting}

-- ---- lists of verdicts

-- not more wait than there are verdicts
pub few_among : (list : List Request) (sets : List Sets) (verdicts : List Verdict) → length (waiting_among list sets verdicts) ≤ length verdicts
few_among (q ∷ qs) (s ∷ ss) (Finish raw ∷ vs) = let rest = few_among qs ss vs in omega (arith, rest)
few_among (q ∷ qs) (s ∷ ss) (Wait cause ∷ vs) = let rest = few_among qs ss vs in omega (arith, rest)
few_among [] sets verdicts = omega arith
few_among (q ∷ qs) [] verdicts = omega arith
few_among (q ∷ qs) (s ∷ ss) [] = omega arith

-- a list without length
pub none_left : {A : Type 0} (list : List A) → length list ≡ 0 → list ≡ []
none_left [] none = refl
none_left (x ∷ xs) none = absurd (omega (arith, none))

-- one more
pub more_among : (q : Request) (s : Sets) (v : Verdict) (list : List Request) (sets : List Sets) (verdicts : List Verdict)
    → waiting_among (q ∷ []) (s ∷ []) (v ∷ []) ++ waiting_among list sets verdicts ≡ waiting_among (q ∷ list) (s ∷ sets) (v ∷ verdicts)
more_among q s (Finish raw) list sets verdicts = refl
more_among q s (Wait cause) list sets verdicts = refl

pub more_counting : (rows : List (Key × Option Cells)) (v : Verdict) (list : List (List (Key × Option Cells))) (verdicts : List Verdict)
    → counting (rows ∷ []) (v ∷ []) ++ counting list verdicts ≡ counting (rows ∷ list) (v ∷ verdicts)
more_counting rows (Finish raw) list verdicts = refl
more_counting rows (Wait cause) list verdicts = refl

-- as many are decided as there are verdicts, and as many settled
length-decided : {O : Type 0} (tid : ℕ) (list : List O) (verdicts : List Verdict) → length verdicts ≡ length list
    → length (decided tid list verdicts) ≡ length verdicts
length-decided tid [] [] e = refl
length-decided tid [] (v ∷ vs) e = absurd (omega (arith, e))
length-decided tid (o ∷ os) [] e = refl
length-decided tid (o ∷ os) (v ∷ vs) e = ap suc (length-decided (tid + 1) os vs (omega (arith, e)))

pub decided-map : {O P : Type 0} (of : O → P) (tid : ℕ) (list : List O) (verdicts : List Verdict)
    → decided tid (map of list) verdicts ≡ map (judged_through of) (decided tid list verdicts)
decided-map of tid [] verdicts = refl
decided-map of tid (o ∷ os) [] = refl
decided-map of tid (o ∷ os) (v ∷ vs) = ap (λ rest. judged_through of (record { tid = tid; request = o; verdict = v }) ∷ rest) (decided-map of (tid + 1) os vs)

module _ {K V A O : Type 0} (by : Carrier K V A O) where
  length-settled : (ds : List (Judged O)) (lates : List (Fate K A)) → length (settled by ds lates) ≡ length ds
  length-settled ds lates = sym (length-map (settled by ds lates) (λ e. e.judged)) ∙ ap length (judged-settled by ds lates)

  -- of what carries the requests their ends alone count
  settled_by_ends : (also : Carrier K V A O) → ((o : O) → also.end o ≡ by.end o) → (ds : List (Judged O)) (lates : List (Fate K A))
      → settled also ds lates ≡ settled by ds lates
  settled_by_ends also same [] lates = refl
  settled_by_ends also same (d ∷ ds) lates =
      let rest = settled_by_ends also same ds (lates_behind d.verdict lates) in
      let fate = fate_same d.request d.verdict lates in
      λ i. record { judged = d; fate = fate i } ∷ rest i
    where
      fate_same : (o : O) (v : Verdict) (lates : List (Fate K A)) → fate_after also o v lates ≡ fate_after by o v lates
      fate_same o (Finish raw) lates = ap Ended (same o)
      fate_same o (Wait cause) [] = refl
      fate_same o (Wait cause) (late ∷ lates) = refl

pub length-lines : (numbers : List ℕ) (ends : List End) (verdicts : List Verdict) (lates : List (Fate Key End)) → length verdicts ≡ length ends
    → length (lines_in numbers ends verdicts lates) ≡ length verdicts
length-lines numbers ends verdicts lates e = length-map (settled by_end (decided 1 ends verdicts) lates) (line_in numbers)
    ∙ length-settled by_end (decided 1 ends verdicts) lates ∙ length-decided 1 ends verdicts e

-- ---- numbers of a list

numbers-read : (list : List Request) (tid : ℕ) → number_in (map (λ q. q.q) list) tid ≡ number_at list tid
numbers-read list tid = at list (tid - 1)
  where
    at : (list : List Request) (i : ℕ) → slice_index_or (map (λ q. q.q) list) i 0 ≡ number_or (slice_get list i)
    at [] i = refl
    at (q ∷ qs) zero = refl
    at (q ∷ qs) (suc i) = at qs i

pub numbers-are : (list : List Request) → number_in (map (λ q. q.q) list) ≡ number_at list
numbers-are list = λ i tid. numbers-read list tid i

at_seam : (before : List Request) (q : Request) (rest : List Request) → number_at (before ++ q ∷ rest) (length before + 1) ≡ q.q
at_seam before q rest = ap (λ i. number_or (slice_get (before ++ q ∷ rest) i)) same ∙ ap number_or (here before)
  where
    same : length before + 1 - 1 ≡ length before
    same = omega arith

    here : (before : List Request) → slice_get (before ++ q ∷ rest) (length before) ≡ Some q
    here [] = refl
    here (b ∷ bs) = here bs

-- the number at its place is the request's own
numbers-judged : (on : Dependencies Request) (rule : Rule) (earlier list : List Request)
    → All (λ d. number_at (earlier ++ list) d.tid ≡ d.request.q) (judged on rule earlier list)
numbers-judged on rule earlier [] = All-nil (λ d. number_at (earlier ++ []) d.tid ≡ d.request.q)
numbers-judged on rule earlier (q ∷ qs) = All-cons (λ d. number_at (earlier ++ q ∷ qs) d.tid ≡ d.request.q) (judge on rule earlier q)
    (judged on rule (earlier ++ q ∷ []) qs)
    (at_seam earlier q qs)
    (rw (← append_assoc earlier (q ∷ []) qs) (numbers-judged on rule (earlier ++ q ∷ []) qs))

-- ---- the batch

module _ (tree : Request → Tree Key Cells End) (rule : Rule) (start : Database) where
  abbrev by : Carrier Key Cells End Request
  by = on_start is_done tree start

  abbrev on : Dependencies Request
  on = touching by key_cmp

  abbrev sets_at : Request → Sets
  sets_at q = sets_in (outcome_at tree start q)

  abbrev end_at : Request → End
  end_at q = end_of (tree q) start

  abbrev waiting_at : Judged Request → Waiting
  waiting_at d = waiting_with d.request (sets_at d.request)

  abbrev verdicts_of : List (Judged Request) → List Verdict
  verdicts_of ds = map (λ d. d.verdict) ds

  -- who waits
  waiting-behind : (earlier list : List Request) → waiting_among list (map sets_at list) (verdicts_of (judged on rule earlier list)) ≡ map waiting_at
      (waiting (judged on rule earlier list))
  waiting-behind earlier [] = refl
  waiting-behind earlier (q ∷ qs) =
      let rest = judged on rule (earlier ++ q ∷ []) qs in
      elim (judge on rule earlier q).verdict as (λ v. waiting_among (q ∷ qs) (sets_at q ∷ map sets_at qs) (v ∷ verdicts_of rest) ≡ map waiting_at
      (filter (λ d. waits d.verdict) (record { tid = length earlier + 1; request = q; verdict = v } ∷ rest))) [
        | Finish raw ↦ waiting-behind (earlier ++ q ∷ []) qs
        | Wait cause ↦ ap (λ l. waiting_with q (sets_at q) ∷ l) (waiting-behind (earlier ++ q ∷ []) qs)
      ]

  -- and of them, who still does
  still-carried : (ds : List (Judged Request)) (lates : List (Fate Key End))
      → still_waiting (map waiting_at (waiting ds)) lates ≡ map (λ e. e.judged.request) (carried (settled by ds lates))
  still-carried [] lates = refl
  still-carried (d ∷ ds) lates =
      elim d.verdict as (λ v. still_waiting (map waiting_at (filter (λ d. waits d.verdict) (record { tid = d.tid; request = d.request; verdict = v } ∷ ds)))
      lates ≡ map (λ e. e.judged.request) (filter is_carried
      (record { judged = record { tid = d.tid; request = d.request; verdict = v }; fate = fate_after by d.request v lates } ∷ settled by ds
      (lates_behind v lates)))) [
        | Finish raw ↦ still-carried ds lates
        | Wait cause ↦ waited lates (still-carried ds (drop 1 lates)) cause
      ]
    where
      waited : (lates : List (Fate Key End)) → still_waiting (map waiting_at (waiting ds)) (drop 1 lates) ≡ map (λ e. e.judged.request)
          (carried (settled by ds (drop 1 lates)))
          → (cause : _) → still_waiting (waiting_at d ∷ map waiting_at (waiting ds)) lates ≡ map (λ e. e.judged.request)
          (filter is_carried (record {
            judged = record { tid = d.tid; request = d.request; verdict = Wait cause };
            fate =
                fate_after by d.request (Wait cause) lates;
          } ∷ settled by ds (drop 1 lates)))
      waited [] rest cause = ap (λ l. d.request ∷ l) rest
      waited (late ∷ lates) rest cause =
          let left = still_waiting (map waiting_at (waiting ds)) lates in
          let held = filter is_carried (settled by ds lates) in
          let here : Entry Key Request End = record { judged = record { tid = d.tid; request = d.request; verdict = Wait cause }; fate = late } in
          elim (has_ended late) as (λ b. (if b then left else d.request ∷ left) ≡ map (λ e. e.judged.request)
          (if (if b then false else true) then here ∷ held else held)) [
            | true ↦ rest
            | false ↦ ap (λ l. d.request ∷ l) rest
          ]

  module _ (percent : ℕ) (list : List Request) where
    abbrev pub ds : List (Judged Request)
    ds = judged on rule [] list

    abbrev pub after : Database
    after = after_commit by start ds

    abbrev pub whole : Batch key_cmp Cells Request End
    whole = batch is_done tree rule percent start list

    abbrev pub numbers : List ℕ
    numbers = map (λ q. q.q) list

    abbrev fates_given : List (Fate Key End)
    fates_given = if late_runs percent ds then late_results by is_done tree after ds else []

    pub waiting-is : (sets : List Sets) (verdicts : List Verdict) → sets ≡ map sets_at list → verdicts ≡ verdicts_of ds
        → waiting_among list sets verdicts ≡ map waiting_at (waiting ds)
    waiting-is sets verdicts s v = (λ i. waiting_among list (s i) (v i)) ∙ waiting-behind [] list

    due-is : is_due percent (length (map waiting_at (waiting ds))) (length ds) ≡ late_runs percent ds
    due-is = ap (λ few. is_due percent few (length ds)) (length-map (waiting ds) waiting_at)

    pub late-is : (rows left : Database) (ws : List Waiting) (size : ℕ) (fates : List (Fate Key End)) → rows ≡ after → ws ≡ map waiting_at (waiting ds)
        → size ≡ length ds
        → LateRun tree (is_due percent (length ws) size) rows ws left fates → (left ≡ whole.map) × (fates ≡ fates_given)
    late-is rows left ws size fates r w n run =
        let due = (λ i. is_due percent (length (w i)) (n i)) ∙ due-is in
        let lefts = (λ i. late_left is_done (λ w. touchable w.declared) (λ w. tree w.request) (r i) (w i))
        ∙ sym (left_map is_done (λ w. touchable w.declared) (λ w. tree w.request) waiting_at after (waiting ds)) in
        let lates = (λ i. late_fates is_done (λ w. touchable w.declared) (λ w. tree w.request) (r i) (w i))
        ∙ sym (fates_map is_done (λ w. touchable w.declared) (λ w. tree w.request) waiting_at after (waiting ds)) in (
          run.rows ∙ (λ i. if due i then lefts i else r i),
          run.fates ∙ (λ i. if due i then lates i else []),
        )

    pub carried-is : (fates : List (Fate Key End)) (ws : List Waiting) → ws ≡ map waiting_at (waiting ds) → fates ≡ fates_given
        → still_waiting ws fates ≡ map (λ e. e.judged.request) (carried whole.entries)
    carried-is fates ws w f = (λ i. still_waiting (w i) (f i)) ∙ still-carried ds fates_given

    entry-line : (e : Entry Key Request End) → number_at list e.judged.tid ≡ e.judged.request.q
        → line_in numbers (entry_through end_at e) ≡ line_of (λ q. q) list e
    entry-line e here = (λ i. record { q = numbers-are list i e.judged.tid; reply = reply_by (numbers-are list i) e.fate })
        ∙ ap (λ q. record { q = q; reply = reply_of list e.fate }) here

    lines-by : (fates : List (Fate Key End)) → lines_in numbers (map end_at list) (verdicts_of ds) fates ≡ map (line_of (λ q. q) list) (settled by ds fates)
    lines-by fates =
        let es = settled by ds fates in
        let P : Judged Request → Type 0 = λ d. number_at list d.tid ≡ d.request.q in
        let at = All-unmapped P (λ e. e.judged) es (subst (All P) (sym (judged-settled by ds fates)) (numbers-judged on rule [] list)) in
        ap (λ l. map (line_in numbers) (settled by_end l fates)) (decided-map end_at 1 list (verdicts_of ds)
        ∙ ap (map (judged_through end_at)) (decided_each on rule list))
        ∙ ap (map (line_in numbers)) (settled-through end_at by_end ds fates
        ∙ ap (map (entry_through end_at)) (settled_by_ends by (read_through end_at by_end) (λ o. refl) ds fates))
        ∙ map-map (line_in numbers) (entry_through end_at) es
        ∙ map_same (λ e. line_in numbers (entry_through end_at e)) (line_of (λ q. q) list) es (λ k d below. entry-line (slice_index_or es k d) (at k d below))

    pub lines-are : (ends : List End) (verdicts : List Verdict) (fates : List (Fate Key End)) → ends ≡ map end_at list → verdicts ≡ verdicts_of ds
        → fates ≡ fates_given
        → lines_in numbers ends verdicts fates ≡ map (line_of (λ q. q) list) whole.entries
    lines-are ends verdicts fates e v f = (λ i. lines_in numbers (e i) (v i) (f i)) ∙ lines-by fates_given

    final-is : (fate : Fate Key End) → is_final (reply_of list fate) ≡ has_ended fate
    final-is (Ended end) = refl
    final-is (Waits cause) = refl
    final-is (Moved key) = refl

    pub order-is : map (number_in numbers) (ordered_tids (verdicts_of ds)
        (map (λ line. is_final line.reply) (map (line_of (λ q. q) list) whole.entries))) ≡ map (λ e. e.judged.request.q) (ordered whole.entries)
    order-is =
        let es = whole.entries in
        let finals = map-map (λ line. is_final line.reply) (line_of (λ q. q) list) es ∙ (λ i. map (λ e. final-is e.fate i) es) in
        let verdicts = ap (map (λ d. d.verdict)) (sym (judged-settled by ds fates_given)) ∙ map-map (λ d. d.verdict) (λ e. e.judged) es in
        let request : Entry Key Request End → Request = λ e. e.judged.request in
        let tids = ordered_tids (map (λ e. e.judged.verdict) es) (map (λ e. has_ended e.fate) es) in
        let requests : list ≡ map request es = sym (requests-settled by on rule list fates_given) in
        (λ i. map (numbers-are list i) (ordered_tids (verdicts i) (finals i)))
        ∙ (λ i. map (λ tid. number_or (slice_get (requests i) (tid - 1))) tids)
        ∙ (λ i. map (λ tid. number_or (slice_get-map request es (tid - 1) i)) tids)
        ∙ sym (map-map (λ o. number_or (option_map request o)) (λ tid. slice_get es (tid - 1)) tids)
        ∙ ap (map (λ o. number_or (option_map request o))) (ordered_names es).each
        ∙ map-map (λ o. number_or (option_map request o)) Some (ordered es)
