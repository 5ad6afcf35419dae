-- At most one request that finishes in the commit phase writes a key.
use Rattle.std.proofs.Common.{◌≡◌, ℕ, zero, suc, ◌<◌, List, [], ◌∷◌, length, true, false, cond, Some, Option, ap, ◌∙◌, Ordering, arith}
use Rattle.std.specs.Prelude.{slice_index_or}
use Rattle.std.specs.Cmp.{IsTotalOrder}
use Rattle.std.specs.List.{All}
use Rattle.std.specs.Option.{unwrap_or}
use Rattle.std.specs.FinMap as fin
use Rattle.std.specs.FinMap.{FinMap, IsAntisymmetric, find}
use Rattle.batch_rules.specs.declared.verdicts.Rule.{Rule}
use Rattle.batch_rules.specs.Touches.{is_among, overwritten, installed}
use Rattle.batch_rules.specs.Verdicts.{finishes, meets}
use Rattle.batch_rules.specs.Batches.{Carrier, Judged, judged, finishing, written, touching, after_commit}
use Rattle.batch_rules.specs.Laws.{OneWriter, AfterCommit}
use Rattle.batch_rules.proofs.Installs.{found_among, installed_apart}
use Rattle.batch_rules.proofs.Judges.{Clean, all_clean}
use Rattle.batch_rules.proofs.Lists.{All-filtered}
use Rattle.batch_rules.proofs.Maps.{get-overwritten}
use Rattle.batch_rules.proofs.Meets.{apart_at, meets_turned}
use Rattle.batch_rules.proofs.Pairs.{Pairs, AllPairs-from_pairs, Pairs-weaker}

module _ {K V A O : Type 0} {R : K → K → Ordering} (o : IsTotalOrder R) (anti : IsAntisymmetric R) (by : Carrier K V A O) (rule : Rule) where
  abbrev clean : Judged O → Judged O → Type 0
  clean = Clean (touching by R) rule

  abbrev apart : Judged O → Judged O → Type 0
  apart d e = finishes d.verdict ≡ true → finishes e.verdict ≡ true → meets R (written by d.request) (written by e.request) ≡ false

  abbrev untouched : K → Judged O → Type 0
  untouched k d = finishes d.verdict ≡ true → is_among R (written by d.request) k ≡ false

  abbrev rows : Judged O → List (K × Option V)
  rows d = by.rows d.request

  clean_apart : (d e : Judged O) → clean d e → apart d e
  clean_apart d e c _ f = meets_turned o anti (written by e.request) (written by d.request) (c.waw f)

  pub one_writer : (list : List O) → OneWriter R by (judged (touching by R) rule [] list)
  one_writer list = AllPairs-from_pairs apart _ (Pairs-weaker clean apart clean_apart _ (all_clean (touching by R) rule [] list))

  kept_at : (k : K) (db : FinMap R V) (ds : List (Judged O)) → All (untouched k) ds → fin.get (after_commit by db ds) k ≡ fin.get db k
  kept_at k db ds a = installed_apart o anti rows db k (finishing ds)
      (All-filtered (λ d. finishes d.verdict) (λ d. is_among R (written by d.request) k ≡ false) ds a)

  written_at : (k : K) (db : FinMap R V) (ds : List (Judged O)) → Pairs clean ds → (d : Judged O) (row : Option V) (i : ℕ) → i < length ds
      → slice_index_or ds i d ≡ d → finishes d.verdict ≡ true → find R k (by.rows d.request) ≡ Some row
      → fin.get (after_commit by db ds) k ≡ row
  written_at k db [] p d row i below same f e = absurd (omega arith)
  written_at k db (x ∷ xs) p d row zero below same f e =
      let done : finishes x.verdict ≡ true = ap (λ (x : Judged O). finishes x.verdict) same ∙ f in
      let found : find R k (rows x) ≡ Some row = ap (λ (x : Judged O). find R k (rows x)) same ∙ e in
      ap (λ b. fin.get (installed rows db (cond b (x ∷ finishing xs) (finishing xs))) k) done
      ∙ kept_at k (overwritten db (rows x)) xs (λ j e below f. apart_at o anti (written by x.request) (written by (slice_index_or xs j e).request) k
      (clean_apart x (slice_index_or xs j e) (p.0 j e below) done f) (found_among R (rows x) k row found))
      ∙ get-overwritten o db (rows x) k ∙ ap (λ f. unwrap_or f (fin.get db k)) found
  written_at k db (x ∷ xs) p d row (suc i) below same f e =
      elim (finishes x.verdict) as (λ b. fin.get (installed rows db (cond b (x ∷ finishing xs) (finishing xs))) k ≡ row) [
        | true ↦ written_at k (overwritten db (rows x)) xs p.1 d row i (omega arith) same f e
        | false ↦ written_at k db xs p.1 d row i (omega arith) same f e
      ]

  pub after_commit_at : (start : FinMap R V) (list : List O) (k : K) → AfterCommit by start (judged (touching by R) rule [] list) k
  after_commit_at start list k = record {
    by_writer = λ d row within f e. written_at k start (judged (touching by R) rule [] list) (all_clean (touching by R) rule [] list) d row within.0 within.1
        within.2 f e;
    kept = λ a. kept_at k start (judged (touching by R) rule [] list) a;
  }
