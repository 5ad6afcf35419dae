-- The fates of a batch's requests, and the serial run over the printed order.
use Rattle.std.proofs.Common.{◌≡◌, ℕ, List, [], ◌∷◌, ◌++◌, map, Bool, true, false, cond, Some, None, refl, sym, ap, ◌∙◌, subst, Ordering}
use Rattle.std.specs.Prelude.{if◌then◌else◌, ◌&&◌}
use Rattle.std.specs.Cmp.{IsTotalOrder}
use Rattle.std.specs.List.{All, filter}
use Rattle.std.specs.FinMap.{FinMap, IsAntisymmetric}
use Rattle.std.proofs.lemmas.List.{map-append}
use Rattle.std.proofs.lemmas.Simd.{map-map}
use Rattle.std.proofs.lemmas.List.Elements.{All-nil, All-cons, All-head, All-tail, All-append}
use Rattle.batch_rules.specs.declared.verdicts.Rule.{Rule}
use Rattle.batch_rules.specs.declared.verdicts.Verdict.{Verdict}
use Rattle.batch_rules.specs.declared.verdicts.Verdict.TheVariants.{Finish, Wait}
use Rattle.batch_rules.specs.Trees.{Tree, trace_of, end_of}
use Rattle.batch_rules.specs.Touches.{Declared, is_among, outside, reads_of, writes_of, map_after}
use Rattle.batch_rules.specs.Verdicts.{Dependencies, finishes, waits}
use Rattle.batch_rules.specs.Batches.{Carrier, Judged, Entry, Fate, Ended, has_ended, placed, judged, waiting, late_runs, is_late, fate_by, late_fates, late_left, declared, touching, written, fate_after, lates_behind, settled, after_commit, late_results, late_rest, on_start, batch}
use Rattle.batch_rules.specs.Runs.{Runs, IsFramed, ends_in_turn, map_in_turn}
use Rattle.batch_rules.specs.Serials.{serial_ends, serial_map}
use Rattle.batch_rules.specs.Laws.{Serialises, SerialLaw}
use Rattle.batch_rules.proofs.Agree.{agreement}
use Rattle.batch_rules.proofs.Carriers.{placed-map}
use Rattle.batch_rules.proofs.Commits.{by_keys_tell, All-ahead, All-in_turn, ahead_finishes, turn_finishes}
use Rattle.batch_rules.proofs.Judges.{requests-judged}
use Rattle.batch_rules.proofs.Maps.{map_after-is}
use Rattle.batch_rules.proofs.Serials.{runs_in_turn}

-- where each fate is the end by f, so are all
fates_are : {K Q A : Type 0} (f : Entry K Q A → A) (es : List (Entry K Q A)) → All (λ e. e.fate ≡ Ended (f e)) es → map Ended (map f es) ≡ map (λ e. e.fate) es
fates_are f [] a = refl
fates_are f (e ∷ es) a = λ i. sym (All-head (λ e. e.fate ≡ Ended (f e)) e es a) i ∷ fates_are f es (All-tail (λ e. e.fate ≡ Ended (f e)) e es a) i

module _ {K V Q A : Type 0} {R : K → K → Ordering} (is_done : A → Bool) (tree : Q → Tree K V A) where
  serial_ends-append : (db : FinMap R V) (us vs : List Q) → serial_ends is_done tree db (us ++ vs) ≡ serial_ends is_done tree db us ++ serial_ends is_done tree
      (serial_map is_done tree db us) vs
  serial_ends-append db [] vs = refl
  serial_ends-append db (u ∷ us) vs = ap (λ es. end_of (tree u) db ∷ es) (serial_ends-append (map_after is_done (tree u) db) us vs)

  serial_map-append : (db : FinMap R V) (us vs : List Q) → serial_map is_done tree db (us ++ vs) ≡ serial_map is_done tree (serial_map is_done tree db us) vs
  serial_map-append db [] vs = refl
  serial_map-append db (u ∷ us) vs = serial_map-append (map_after is_done (tree u) db) us vs

  Serialises-append : (db m n : FinMap R V) (us vs : List (Entry K Q A)) → Serialises is_done tree db us m → Serialises is_done tree m vs n
      → Serialises is_done tree db (us ++ vs) n
  Serialises-append db m n us vs s t = record {
    ends = ap (λ qs. map Ended (serial_ends is_done tree db qs)) (map-append (λ e. e.judged.request) us vs)
        ∙ ap (map Ended) (serial_ends-append db (map (λ e. e.judged.request) us) (map (λ e. e.judged.request) vs))
        ∙ ap (λ x. map Ended (serial_ends is_done tree db (map (λ e. e.judged.request) us) ++ serial_ends is_done tree x (map (λ e. e.judged.request) vs)))
        s.map
        ∙ map-append Ended (serial_ends is_done tree db (map (λ e. e.judged.request) us)) (serial_ends is_done tree m (map (λ e. e.judged.request) vs))
        ∙ (λ i. s.ends i ++ t.ends i) ∙ sym (map-append (λ e. e.fate) us vs);
    map = ap (serial_map is_done tree db) (map-append (λ e. e.judged.request) us vs)
        ∙ serial_map-append db (map (λ e. e.judged.request) us) (map (λ e. e.judged.request) vs)
        ∙ ap (λ x. serial_map is_done tree x (map (λ e. e.judged.request) vs)) s.map ∙ t.map;
  }

module _ {K V A O : Type 0} (by : Carrier K V A O) where
  pub judged-settled : (ds : List (Judged O)) (lates : List (Fate K A)) → map (λ e. e.judged) (settled by ds lates) ≡ ds
  judged-settled [] lates = refl
  judged-settled (d ∷ ds) lates = ap (λ rest. d ∷ rest) (judged-settled ds (lates_behind d.verdict lates))

  pub requests-settled : (on : Dependencies O) (rule : Rule) (list : List O) (lates : List (Fate K A))
      → map (λ e. e.judged.request) (settled by (judged on rule [] list) lates) ≡ list
  requests-settled on rule list lates = sym (map-map (λ d. d.request) (λ e. e.judged) (settled by (judged on rule [] list) lates))
      ∙ ap (map (λ d. d.request)) (judged-settled (judged on rule [] list) lates) ∙ requests-judged on rule [] list

  -- what finishes in the commit phase has the end of its run on the start
  pub commit_fates : (ds : List (Judged O)) (lates : List (Fate K A))
      → All (λ e. finishes e.judged.verdict ≡ true → e.fate ≡ Ended (by.end e.judged.request)) (settled by ds lates)
  commit_fates [] lates = All-nil (λ e. finishes e.judged.verdict ≡ true → e.fate ≡ Ended (by.end e.judged.request))
  commit_fates (d ∷ ds) lates = All-cons (λ e. finishes e.judged.verdict ≡ true → e.fate ≡ Ended (by.end e.judged.request)) _ _
      (elim d.verdict as (λ v. finishes v ≡ true → fate_after by d.request v lates ≡ Ended (by.end d.request)) [
        | Finish raw ↦ λ e. refl
        | Wait cause ↦
            λ e. cc
      ])
      (commit_fates ds (lates_behind d.verdict lates))

  -- where the late fold does not run, each entry follows from its judged request alone
  abbrev pub alone : Judged O → Entry K O A
  alone d = record { judged = d; fate = fate_after by d.request d.verdict [] }

  pub settled-alone : (ds : List (Judged O)) → settled by ds [] ≡ map alone ds
  settled-alone [] = refl
  settled-alone (d ∷ ds) = elim d.verdict as (λ v. alone d ∷ settled by ds (lates_behind v []) ≡ alone d ∷ map alone ds) [
    | Finish raw ↦ ap (λ rest. alone d ∷ rest) (settled-alone ds)
    | Wait cause ↦ ap (λ rest. alone d ∷ rest) (settled-alone ds)
  ]

  -- and nothing ends late
  pub none_late : (ds : List (Judged O)) → filter is_late (settled by ds []) ≡ []
  none_late [] = refl
  none_late (d ∷ ds) = elim d.verdict as (λ v. let rest = filter is_late (settled by ds (lates_behind v [])) in
      cond (waits v && has_ended (fate_after by d.request v [])) (record { judged = d; fate = fate_after by d.request v [] } ∷ rest) rest ≡ []) [
        | Finish raw ↦ none_late ds
        | Wait cause ↦ none_late ds
      ]

module _ {K V A O : Type 0} {R : K → K → Ordering} (by : Carrier K V A O) (is_done : A → Bool) (tree : O → Tree K V A) where
  -- the late fold is a serial run of what it finishes
  late_run : (db : FinMap R V) (ds : List (Judged O)) → Serialises is_done tree db (filter is_late (settled by ds (late_results by is_done tree db ds)))
      (late_rest by is_done tree db ds)
  late_run db [] = record { ends = refl; map = refl }
  late_run db (d ∷ ds) =
      let declared_of : Judged O → Declared K = λ d. declared by d.request in
      let tree_of : Judged O → Tree K V A = λ d. tree d.request in
      let Goal = λ (v : Verdict) (ws : List (Judged O)) (lates : List (Fate K A)).
      let rest = filter is_late (settled by ds (lates_behind v lates)) in
      Serialises is_done tree db (cond (waits v && has_ended (fate_after by d.request v lates))
      (record { judged = d; fate = fate_after by d.request v lates } ∷ rest) rest) (late_left is_done declared_of tree_of db ws) in
      elim d.verdict as (λ v. let ws = cond (waits v) (d ∷ waiting ds) (waiting ds) in Goal v ws (late_fates is_done declared_of tree_of db ws)) [
        | Finish raw ↦ late_run db ds
        | Wait cause ↦ elim (outside R (declared_of d) (trace_of (tree_of d) db)) as (λ s.
            let fate = fate_by s (end_of (tree_of d) db) in
            let next = if has_ended {K = K} fate then map_after is_done (tree_of d) db else db in
            let rest = filter is_late (settled by ds (late_results by is_done tree next ds)) in
            Serialises is_done tree db (cond (has_ended fate) (record { judged = d; fate = fate } ∷ rest) rest) (late_rest by is_done tree next ds)) [
              | None ↦ let rest = late_run (map_after is_done (tree_of d) db) ds in
                  record { ends = ap (λ fates. Ended (end_of (tree_of d) db) ∷ fates) rest.ends; map = rest.map }
              | Some k ↦ late_run db ds
            ]
      ]

-- the runs of trees
module _ {K V Q A : Type 0} {R : K → K → Ordering} (is_done : A → Bool) (tree : Q → Tree K V A) where
  abbrev tree_runs : Runs R V A Q
  tree_runs = record {
    end = λ q db. end_of (tree q) db;
    rows = λ q db. writes_of is_done (tree q) db;
    after = λ q db. map_after is_done (tree q) db;
    sees = λ q db. is_among R (reads_of (tree q) db);
  }

module _ {K V Q A : Type 0} {R : K → K → Ordering} (o : IsTotalOrder R) (anti : IsAntisymmetric R) (is_done : A → Bool) (tree : Q → Tree K V A) where
  trees_framed : (q : Q) → IsFramed (tree_runs {R = R} is_done tree) q
  trees_framed q = record {
    frame = λ db. map_after-is o anti is_done (tree q) db;
    same = λ m n h. let run = agreement o anti is_done (tree q) m n h in (run.end, run.writes);
  }

  commit_run : (rule : Rule) (start : FinMap R V) (list : List Q) (lates : List (Fate K A))
      → let by = on_start is_done tree start in let ds = judged (touching by R) rule [] list in
      Serialises is_done tree start (placed (λ e. e.judged.verdict) (settled by ds lates)) (after_commit by start ds)
  commit_run rule start list lates =
      let by : Carrier K V A Q = on_start is_done tree start in
      let ds = judged (touching by R) rule [] list in
      let es = settled by ds lates in
      let v = λ (e : Entry K Q A). e.judged.verdict in
      let law = runs_in_turn o anti (tree_runs is_done tree) (touching by R) rule start list (trees_framed) (by_keys_tell o anti by.reads (written by)) in
      let fates : All (λ e. finishes e.judged.verdict ≡ true → e.fate ≡ Ended (by.end e.judged.request)) es = commit_fates by ds lates in
      let order : map (λ e. e.judged) (placed v es) ≡ placed (λ d. d.verdict) ds = sym (placed-map (λ e. e.judged) (λ d. d.verdict) es)
      ∙ ap (placed (λ d. d.verdict)) (judged-settled by ds lates) in
      let requests : map (λ e. e.judged.request) (placed v es) ≡ map (λ d. d.request) (placed (λ d. d.verdict) ds) =
      sym (map-map (λ d. d.request) (λ e. e.judged) (placed v es)) ∙ ap (map (λ d. d.request)) order in record {
        ends = ap (map Ended) (ap (ends_in_turn (tree_runs is_done tree) start) requests ∙ law.ends
            ∙ ap (map (λ d. by.end d.request)) (sym order) ∙ map-map (λ d. by.end d.request) (λ e. e.judged) (placed v es))
            ∙ fates_are (λ e. by.end e.judged.request) (placed v es) (All-append (λ e. e.fate ≡ Ended (by.end e.judged.request)) _ _
            (All-ahead v (λ e. e.fate ≡ Ended (by.end e.judged.request)) es (λ k d below e. fates k d below (ahead_finishes _ e)))
            (All-in_turn v (λ e. e.fate ≡ Ended (by.end e.judged.request)) es (λ k d below e. fates k d below (turn_finishes _ e))));
        map = ap (map_in_turn (tree_runs is_done tree) start) requests ∙ law.map;
      }

  pub serial_law : (rule : Rule) (percent : ℕ) (start : FinMap R V) (list : List Q) → SerialLaw is_done tree start (batch is_done tree rule percent start list)
  serial_law rule percent start list =
      let by : Carrier K V A Q = on_start is_done tree start in
      let ds = judged (touching by R) rule [] list in
      let after = after_commit by start ds in
      elim (late_runs percent ds) as (λ again. let es = settled by ds (if again then late_results by is_done tree after ds else []) in
      Serialises is_done tree start (placed (λ e. e.judged.verdict) es ++ filter is_late es) (if again then late_rest by is_done tree after ds else after)) [
        | true ↦ Serialises-append is_done tree start _ _ _ _ (commit_run rule start list _) (late_run by is_done tree after ds)
        | false ↦ Serialises-append is_done tree start _ _ _ _ (commit_run rule start list [])
            (subst (λ late. Serialises is_done tree after late after) (sym (none_late by ds)) (record { ends = refl; map = refl }))
      ]
