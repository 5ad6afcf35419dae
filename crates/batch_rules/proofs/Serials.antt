-- Requests in an order in which none looked at what one before it writes, by their runs on the start: serially they run as on the start.
use Rattle.std.proofs.Common.{◌≡◌, List, [], ◌∷◌, map, Option, Bool, true, false, refl, sym, ap, ◌∙◌, Ordering}
use Rattle.std.specs.Prelude.{slice_index_or}
use Rattle.std.specs.Cmp.{IsTotalOrder}
use Rattle.std.specs.List.{All}
use Rattle.std.specs.FinMap as fin
use Rattle.std.specs.FinMap.{FinMap, IsAntisymmetric}
use Rattle.std.proofs.lemmas.List.Elements.{All-head, All-tail}
use Rattle.batch_rules.specs.declared.verdicts.Rule.{Rule}
use Rattle.batch_rules.specs.Touches.{is_among, keys_of, overwritten, installed}
use Rattle.batch_rules.specs.Verdicts.{Dependencies, through}
use Rattle.batch_rules.specs.Batches.{Judged, judged, placed}
use Rattle.batch_rules.specs.Runs.{Runs, IsFramed, TellsApart, RunsInTurn, ends_in_turn, map_in_turn}
use Rattle.batch_rules.proofs.Commits.{IsApart, placed_apart}
use Rattle.batch_rules.proofs.Installs.{get-apart, installed-placed}
use Rattle.batch_rules.proofs.Judges.{all_clean}
use Rattle.batch_rules.proofs.Pairs.{Pairs}

-- what is not so where the other is so, is not so where the other is
turned : (a b : Bool) → (a ≡ true → b ≡ false) → b ≡ true → a ≡ false
turned true b h e = sym e ∙ h refl
turned false b h e = refl

module _ {K V Q A X : Type 0} {R : K → K → Ordering} (o : IsTotalOrder R) (anti : IsAntisymmetric R) (runs : Runs R V A Q) (framed : (q : Q) → IsFramed runs q)
    (start : FinMap R V) (request_of : X → Q) where
  abbrev rows : X → List (K × Option V)
  rows x = runs.rows (request_of x) start

  abbrev sees : X → K → Bool
  sees x = runs.sees (request_of x) start

  pub record Agrees (db : FinMap R V) (x : X) : Type 0 where
    pub same : (k : K) → sees x k ≡ true → fin.get start k ≡ fin.get db k

  pub serial_apart : (db : FinMap R V) (xs : List X) → All (Agrees db) xs → Pairs (IsApart R sees (λ x. keys_of (rows x))) xs
      → (ends_in_turn runs db (map request_of xs) ≡ map (λ x. runs.end (request_of x) start) xs)
      × (map_in_turn runs db (map request_of xs) ≡ installed rows db xs)
  serial_apart db [] a p = (refl, refl)
  serial_apart db (x ∷ xs) a p =
      let run = (framed (request_of x)).same start db (All-head (Agrees db) x xs a).same in
      let next : runs.after (request_of x) db ≡ overwritten db (rows x) = (framed (request_of x)).frame db ∙ ap (overwritten db) (sym run.1) in
      let tail = All-tail (Agrees db) x xs a in
      let rest = serial_apart (overwritten db (rows x)) xs (λ k d below. record {
        same = λ q e. (tail k d below).same q e
            ∙ sym (get-apart o anti db (rows x) q (turned (is_among R (keys_of (rows x)) q) (sees (slice_index_or xs k d) q) ((p.0 k d below).sees_none q) e));
      }) p.1 in (
        (λ i. sym run.0 i ∷ (ap (λ db. ends_in_turn runs db (map request_of xs)) next ∙ rest.0) i),
        ap (λ db. map_in_turn runs db (map request_of xs)) next ∙ rest.1,
      )

module _ {K V Q A : Type 0} {R : K → K → Ordering} (o : IsTotalOrder R) (anti : IsAntisymmetric R) where
  pub runs_in_turn : (runs : Runs R V A Q) (on : Dependencies Q) (rule : Rule) (start : FinMap R V) (list : List Q) → RunsInTurn runs on rule start list
  runs_in_turn runs on rule start list framed tell =
      let ds = judged on rule [] list in
      let sees : Judged Q → K → Bool = λ d. runs.sees d.request start in
      let rows : Judged Q → List (K × Option V) = λ d. runs.rows d.request start in
      let on_judged : Dependencies (Judged Q) = through (λ d. d.request) on in
      let told : TellsApart R on_judged sees (λ d. keys_of (rows d)) = record {
        waw = λ d x. tell.waw d.request x.request;
        raw = λ d x. tell.raw d.request x.request;
        war = λ d x. tell.war d.request x.request;
      } in
      let clean = all_clean on rule [] list in
      let run = serial_apart o anti runs framed start (λ d. d.request) start (placed (λ d. d.verdict) ds) (λ k d below. record { same = λ q e. refl })
      (placed_apart o anti (λ d. d.verdict) on_judged sees (λ d. keys_of (rows d)) told ds clean) in record {
        ends = run.0;
        map = run.1 ∙ installed-placed o anti (λ d. d.verdict) on_judged sees rows told start ds clean;
      }
