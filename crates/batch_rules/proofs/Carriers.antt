-- The same requests, carried in another way, have the same batch.
use Rattle.std.proofs.Common.{◌≡◌, ℕ, ◌+◌, ◌*◌, List, [], ◌∷◌, ◌++◌, map, reverse, length, Bool, refl, sym, ap, ◌∙◌, Ordering}
use Rattle.std.specs.Prelude.{if◌then◌else◌, ◌&&◌, nat_lt, nat_le}
use Rattle.std.specs.FinMap.{FinMap}
use Rattle.std.specs.List.{filter}
use Rattle.std.proofs.lemmas.List.{map-append, length-map}
use Rattle.std.proofs.lemmas.Simd.{map-map}
use Rattle.batch_rules.specs.declared.verdicts.Rule.{Rule}
use Rattle.batch_rules.specs.declared.verdicts.Verdict.{Verdict}
use Rattle.batch_rules.specs.declared.verdicts.Verdict.TheVariants.{Finish, Wait}
use Rattle.batch_rules.specs.Trees.{Tree}
use Rattle.batch_rules.specs.Touches.{Declared, installed}
use Rattle.batch_rules.specs.Verdicts.{Dependencies, through, finishes, waits, goes_ahead, keeps_turn, verdict_on}
use Rattle.batch_rules.specs.Batches.{Carrier, Judged, Fate, Entry, placed, ordered, carried, is_late, is_carried, judged, finishing, waiting, late_runs, late_fate, late_map, late_fates, late_left, declared, touching, fate_after, lates_behind, settled, after_commit, late_results, late_rest, answered, read_through, judged_through, entry_through}
use Rattle.batch_rules.specs.Laws.{SameBatch}
use Rattle.batch_rules.proofs.Installs.{installed-map}
use Rattle.batch_rules.proofs.Lists.{filter-map, map-reverse}
use Rattle.batch_rules.proofs.Numberings.{same_verdict}

-- the late fold over images
module _ {K V W X A : Type 0} {R : K → K → Ordering} (is_done : A → Bool) (declared_of : W → Declared K) (tree : W → Tree K V A) (f : X → W) where
  pub fates_map : (db : FinMap R V) (xs : List X) → late_fates is_done (λ x. declared_of (f x)) (λ x. tree (f x)) db xs ≡ late_fates is_done declared_of tree
      db (map f xs)
  fates_map db [] = refl
  fates_map db (x ∷ xs) = ap (λ fates. late_fate (declared_of (f x)) (tree (f x)) db ∷ fates)
      (fates_map (late_map is_done (declared_of (f x)) (tree (f x)) db) xs)

  pub left_map : (db : FinMap R V) (xs : List X) → late_left is_done (λ x. declared_of (f x)) (λ x. tree (f x)) db xs ≡ late_left is_done declared_of tree db
      (map f xs)
  left_map db [] = refl
  left_map db (x ∷ xs) = left_map (late_map is_done (declared_of (f x)) (tree (f x)) db) xs

-- the judged list
module _ {O P : Type 0} (of : O → P) (on : Dependencies P) (rule : Rule) where
  verdict-through : (earlier : List O) (me : O) → verdict_on on rule (map of earlier) (of me) ≡ verdict_on (through of on) rule earlier me
  verdict-through earlier me = same_verdict on (map of earlier) (of me) (through of on) earlier me rule (record {
    waw = map-map (on.waw (of me)) of earlier;
    raw = map-map (on.raw (of me)) of earlier;
    war = map-map (on.war (of me)) of earlier;
  })

  pub judged-through : (earlier list : List O) → judged on rule (map of earlier) (map of list) ≡ map (judged_through of)
      (judged (through of on) rule earlier list)
  judged-through earlier [] = refl
  judged-through earlier (o ∷ os) =
      let tid = length-map earlier of in
      let verdict = verdict-through earlier o in
      let rest = ap (λ l. judged on rule l (map of os)) (sym (map-append of earlier (o ∷ []))) ∙ judged-through (earlier ++ o ∷ []) os in
      λ i. record { tid = tid i + 1; request = of o; verdict = verdict i } ∷ rest i

module _ {O P : Type 0} (of : O → P) (ds : List (Judged O)) where
  finishing-through : finishing (map (judged_through of) ds) ≡ map (judged_through of) (finishing ds)
  finishing-through = sym (filter-map (judged_through of) (λ d. finishes d.verdict) (λ d. finishes d.verdict) ds (λ k d below. refl))

  waiting-through : waiting (map (judged_through of) ds) ≡ map (judged_through of) (waiting ds)
  waiting-through = sym (filter-map (judged_through of) (λ d. waits d.verdict) (λ d. waits d.verdict) ds (λ k d below. refl))

  late_runs-through : (percent : ℕ) → late_runs percent (map (judged_through of) ds) ≡ late_runs percent ds
  late_runs-through percent =
      let few = ap length waiting-through ∙ length-map (waiting ds) (judged_through of) in
      let all = length-map ds (judged_through of) in
      λ i. nat_lt 0 (few i) && nat_le (percent * all i) (few i * 100)

-- what becomes of each
module _ {K V A O P : Type 0} (of : O → P) (by : Carrier K V A P) where
  fate-through : (o : O) (v : Verdict) (lates : List (Fate K A)) → fate_after by (of o) v lates ≡ fate_after (read_through of by) o v lates
  fate-through o (Finish raw) lates = refl
  fate-through o (Wait cause) [] = refl
  fate-through o (Wait cause) (late ∷ lates) = refl

  pub settled-through : (ds : List (Judged O)) (lates : List (Fate K A))
      → settled by (map (judged_through of) ds) lates ≡ map (entry_through of) (settled (read_through of by) ds lates)
  settled-through [] lates = refl
  settled-through (d ∷ ds) lates =
      let fate = fate-through d.request d.verdict lates in
      let rest = settled-through ds (lates_behind d.verdict lates) in
      λ i. record { judged = judged_through of d; fate = fate i } ∷ rest i

-- what is read off the entries
pub placed-map : {X Y : Type 0} (f : X → Y) (verdict_of : Y → Verdict) (xs : List X) → placed verdict_of (map f xs) ≡ map f (placed (λ x. verdict_of (f x)) xs)
placed-map f verdict_of xs =
    let ahead = filter-map f (λ x. goes_ahead (verdict_of (f x))) (λ y. goes_ahead (verdict_of y)) xs (λ k d below. refl) in
    let turn = filter-map f (λ x. keeps_turn (verdict_of (f x))) (λ y. keeps_turn (verdict_of y)) xs (λ k d below. refl) in
    let firsts = filter (λ x. goes_ahead (verdict_of (f x))) xs in
    sym (map-append f (reverse firsts) (filter (λ x. keeps_turn (verdict_of (f x))) xs) ∙ (λ i. (map-reverse f firsts ∙ ap reverse ahead) i ++ turn i))

module _ {K A O P : Type 0} (of : O → P) (es : List (Entry K O A)) where
  pub ordered-through : ordered (map (entry_through of) es) ≡ map (entry_through of) (ordered es)
  ordered-through =
      let late = filter-map (entry_through of) is_late is_late es (λ k d below. refl) in
      (λ i. placed-map (entry_through of) (λ e. e.judged.verdict) es i ++ sym late i)
      ∙ sym (map-append (entry_through of) (placed (λ e. e.judged.verdict) es) (filter is_late es))

  pub carried-through : carried (map (entry_through of) es) ≡ map (entry_through of) (carried es)
  carried-through = sym (filter-map (entry_through of) is_carried is_carried es (λ k d below. refl))

-- the databases
module _ {K V A O P : Type 0} {R : K → K → Ordering} (of : O → P) (by : Carrier K V A P) (is_done : A → Bool) (tree : P → Tree K V A) where
  pub after_commit-through : (start : FinMap R V) (ds : List (Judged O))
      → after_commit by start (map (judged_through of) ds) ≡ after_commit (read_through of by) start ds
  after_commit-through start ds = ap (installed (λ d. by.rows d.request) start) (finishing-through of ds)
      ∙ installed-map (λ d. by.rows d.request) (judged_through of) start (finishing ds)

  late_results-through : (db : FinMap R V) (ds : List (Judged O))
      → late_results by is_done tree db (map (judged_through of) ds) ≡ late_results (read_through of by) is_done (λ o. tree (of o)) db ds
  late_results-through db ds = ap (late_fates is_done (λ d. declared by d.request) (λ d. tree d.request) db) (waiting-through of ds)
      ∙ sym (fates_map is_done (λ d. declared by d.request) (λ d. tree d.request) (judged_through of) db (waiting ds))

  late_rest-through : (db : FinMap R V) (ds : List (Judged O))
      → late_rest by is_done tree db (map (judged_through of) ds) ≡ late_rest (read_through of by) is_done (λ o. tree (of o)) db ds
  late_rest-through db ds = ap (late_left is_done (λ d. declared by d.request) (λ d. tree d.request) db) (waiting-through of ds)
      ∙ sym (left_map is_done (λ d. declared by d.request) (λ d. tree d.request) (judged_through of) db (waiting ds))

  entries-through : (percent : ℕ) (start : FinMap R V) (ds : List (Judged O))
      → (answered by is_done tree percent start (map (judged_through of) ds)).entries ≡ map (entry_through of)
      (answered (read_through of by) is_done (λ o. tree (of o)) percent start ds).entries
  entries-through percent start ds =
      let after = after_commit-through start ds in
      let again = late_runs-through of ds percent in
      let lates = ap (λ db. late_results by is_done tree db (map (judged_through of) ds)) after
      ∙ late_results-through (after_commit (read_through of by) start ds) ds in
      (λ i. settled by (map (judged_through of) ds) (if again i then lates i else [])) ∙ settled-through of by ds _

  left-through : (percent : ℕ) (start : FinMap R V) (ds : List (Judged O))
      → (answered by is_done tree percent start (map (judged_through of) ds)).map ≡ (answered (read_through of by) is_done
      (λ o. tree (of o)) percent start ds).map
  left-through percent start ds =
      let after = after_commit-through start ds in
      let again = late_runs-through of ds percent in
      let left = ap (λ db. late_rest by is_done tree db (map (judged_through of) ds)) after
      ∙ late_rest-through (after_commit (read_through of by) start ds) ds in
      λ i. if again i then left i else after i

  pub same_batch : (rule : Rule) (percent : ℕ) (start : FinMap R V) (list : List O) → SameBatch of by is_done tree rule percent start list
  same_batch rule percent start list =
      let same = judged-through of (touching by R) rule [] list in
      let ds = judged (touching (read_through of by) R) rule [] list in record {
        entries = ap (λ ds. (answered by is_done tree percent start ds).entries) same ∙ entries-through percent start ds;
        left = ap (λ ds. (answered by is_done tree percent start ds).map) same ∙ left-through percent start ds;
      }
