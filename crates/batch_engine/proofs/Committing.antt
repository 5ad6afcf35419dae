-- What the phases of a commit hand on is what the definition of a batch says of its list.
use Rattle.std.proofs.Common.{◌≡◌, refl, sym, ap, ◌∙◌, ℕ, ◌+◌, ◌≤◌, List, [], ◌∷◌, map, length, Option, true, arith}
use Rattle.std.specs.List.{All}
use Rattle.std.proofs.lemmas.List.{length-map}
use Rattle.std.proofs.lemmas.List.Elements.{All-nil, All-cons}
use Rattle.std.proofs.lemmas.Simd.{map-map}
use Rattle.aria_base.specs.Orders.{key_cmp, Cells, Database}
use Rattle.aria_base.specs.declared.calls.Request.{Request}
use Rattle.aria_base.specs.declared.keys.Key.{Key}
use Rattle.batch_rules.specs.Batches.{Judged, decided, finishing, judged_through, touching, on_start, rows_at, after_commit}
use Rattle.batch_rules.specs.Touches.{is_among, keys_of, installed}
use Rattle.batch_rules.specs.Trees.{Tree}
use Rattle.batch_rules.specs.Verdicts.{finishes}
use Rattle.batch_rules.specs.declared.verdicts.Rule.{Rule}
use Rattle.batch_rules.specs.declared.verdicts.Verdict.{Verdict}
use Rattle.batch_rules.specs.declared.verdicts.Verdict.TheVariants.{Finish, Wait}
use Rattle.batch_rules.proofs.Installs.{installed-map}
use Rattle.batch_rules.proofs.Judges.{decided_each}
use Rattle.batch_rules.proofs.Lists.{All-unmapped, filter-map}
use Rattle.dep_rules.specs.Sheets.{Sheet}
use Rattle.install_phase.specs.Installs.{after_changes}
use Rattle.key_numbering.specs.Numbers.{touch_count}
use Rattle.proc_exec.specs.Outcomes.{outcome_at}
use Rattle.proc_lang.specs.Catalogs.{Plan, run_of}
use Rattle.proc_lang.specs.Meaning.{is_done}
use Rattle.proc_lang.specs.declared.ends.End.{End}
use Rattle.proc_lang.specs.declared.limits.TheConstants.{MOST_ACCESSES}
use Rattle.proc_sound.specs.Laws.{TouchesFew}
use Rattle.batch_engine.specs.Judgements.{judged_from}
use Rattle.batch_engine.specs.Lists.{sets_in, counting}
use Rattle.batch_engine.specs.Marks.{Marks, NumbersKeys, MarksSets}
use Rattle.batch_engine.proofs.Settling.{decided-map}

-- each request touches few keys
pub touched-few : (plan : Plan) (start : Database) (list : List Request) → ((request : Request) → TouchesFew (run_of plan request) start)
    → All (λ s. touch_count s ≤ MOST_ACCESSES) (map (λ q. sets_in (outcome_at (run_of plan) start q)) list)
touched-few plan start [] few = All-nil (λ s. touch_count s ≤ MOST_ACCESSES)
touched-few plan start (q ∷ qs) few =
    let outcome = outcome_at (run_of plan) start q in
    let keys : length (keys_of outcome.writes) ≡ length outcome.writes = length-map outcome.writes (λ row. row.0) in
    let one : touch_count (sets_in outcome) ≤ MOST_ACCESSES = omega (arith, few q, keys) in
    All-cons (λ s. touch_count s ≤ MOST_ACCESSES) (sets_in outcome) (map (λ q. sets_in (outcome_at (run_of plan) start q)) qs) one
    (touched-few plan start qs few)

-- what is marked of images is marked of what they are images of
module _ {S Z : Type 0} (reads writes : S → List Key) (of : Z → S) (list : List Z) where
  numbers-through : (sheet : Sheet) → NumbersKeys reads writes (map of list) sheet → NumbersKeys (λ z. reads (of z)) (λ z. writes (of z)) list sheet
  numbers-through sheet h = record {
    keys = h.keys;
    number = h.number;
    one_to_one = h.one_to_one;
    lists = record {
      reads_among = All-unmapped (λ s. All (λ k. is_among key_cmp h.keys k ≡ true) (reads s)) of list h.lists.reads_among;
      writes_among = All-unmapped (λ s. All (λ k. is_among key_cmp h.keys k ≡ true) (writes s)) of list h.lists.writes_among;
      reads_are = h.lists.reads_are ∙ map-map (λ s. map h.number (reads s)) of list;
      writes_are = h.lists.writes_are ∙ map-map (λ s. map h.number (writes s)) of list;
    };
  }

  pub marks-through : (marks : Marks) → MarksSets reads writes (map of list) marks → MarksSets (λ z. reads (of z)) (λ z. writes (of z)) list marks
  marks-through marks h = record { numbered = numbers-through marks.numbered h.numbered; marked = h.marked; words = h.words }

-- rows of those that wait are not installed
finishing-counting : (tid : ℕ) (list : List (List (Key × Option Cells))) (verdicts : List Verdict)
    → finishing (decided tid (counting list verdicts) verdicts) ≡ finishing (decided tid list verdicts)
finishing-counting tid [] verdicts = refl
finishing-counting tid (rows ∷ list) [] = refl
finishing-counting tid (rows ∷ list) (Finish raw ∷ verdicts) = ap (λ ds. record { tid = tid; request = rows; verdict = Finish raw } ∷ ds)
    (finishing-counting (tid + 1) list verdicts)
finishing-counting tid (rows ∷ list) (Wait cause ∷ verdicts) = finishing-counting (tid + 1) list verdicts

-- the rows with the writes of all that finish
module _ (tree : Request → Tree Key Cells End) (rule : Rule) (start : Database) (list : List Request) where
  abbrev rows_of : Request → List (Key × Option Cells)
  rows_of q = rows_at is_done tree start q

  abbrev ds : List (Judged Request)
  ds = judged_from tree rule start list

  pub rows-are : (changes : List (List (Key × Option Cells))) (verdicts : List Verdict) → changes ≡ map rows_of list → verdicts ≡ map (λ d. d.verdict) ds
      → after_changes 1 start (counting changes verdicts) verdicts ≡ after_commit (on_start is_done tree start) start ds
  rows-are changes verdicts c v =
      let on = touching (on_start is_done tree start) key_cmp in
      let all = (λ i. decided 1 (c i) (v i)) ∙ decided-map rows_of 1 list (map (λ d. d.verdict) ds)
      ∙ ap (map (judged_through rows_of)) (decided_each on rule list) in
      let kept = sym (filter-map (judged_through rows_of) (λ d. finishes d.verdict) (λ d. finishes d.verdict) ds (λ k d below. refl)) in
      ap (installed (λ one. one.request) start) (finishing-counting 1 changes verdicts)
      ∙ ap (λ l. installed (λ one. one.request) start (finishing l)) all
      ∙ ap (installed (λ one. one.request) start) kept
      ∙ installed-map (λ one. one.request) (judged_through rows_of) start (finishing ds)
