-- What every run keeps, a batch keeps.
use Rattle.std.proofs.Common.{ℕ, List, [], ◌∷◌, ◌++◌, map, Bool, subst, sym, Ordering}
use Rattle.std.specs.Cmp.{IsTotalOrder}
use Rattle.std.specs.List.{All}
use Rattle.std.specs.FinMap.{FinMap, IsAntisymmetric}
use Rattle.std.proofs.lemmas.List.Elements.{All-head, All-tail, All-map}
use Rattle.std.proofs.lemmas.List.Sorted.{IsPermutation-sym, All-permutation}
use Rattle.batch_rules.specs.declared.verdicts.Rule.{Rule}
use Rattle.batch_rules.specs.Trees.{Tree}
use Rattle.batch_rules.specs.Touches.{map_after}
use Rattle.batch_rules.specs.Batches.{Entry, ordered, carried, on_start, touching, batch}
use Rattle.batch_rules.specs.Serials.{serial_map}
use Rattle.batch_rules.proofs.Fates.{serial_law, requests-settled}
use Rattle.batch_rules.proofs.Lists.{All-left, All-unmapped}
use Rattle.batch_rules.proofs.Places.{each_once}

module _ {K V Q A : Type 0} {R : K → K → Ordering} (is_done : A → Bool) (tree : Q → Tree K V A) (P : FinMap R V → Type 0) where
  -- the request's run keeps it, on whatever database
  abbrev pub Keeps : Q → Type 0
  Keeps q = (db : FinMap R V) → P db → P (map_after is_done (tree q) db)

  serially : (db : FinMap R V) (qs : List Q) → All Keeps qs → P db → P (serial_map is_done tree db qs)
  serially db [] a p = p
  serially db (q ∷ qs) a p = serially (map_after is_done (tree q) db) qs (All-tail Keeps q qs a) (All-head Keeps q qs a db p)

module _ {K V Q A : Type 0} {R : K → K → Ordering} (o : IsTotalOrder R) (anti : IsAntisymmetric R) (is_done : A → Bool) (tree : Q → Tree K V A) (P : FinMap R V
    → Type 0) where
  pub kept_by_batch : (rule : Rule) (percent : ℕ) (start : FinMap R V) (list : List Q) → All (Keeps is_done tree P) list → P start
      → P (batch is_done tree rule percent start list).map
  kept_by_batch rule percent start list a p =
      let by = on_start is_done tree start in
      let es = (batch is_done tree rule percent start list).entries in
      let keeps : Entry K Q A → Type 0 = λ e. Keeps is_done tree P e.judged.request in
      let all : All keeps es = All-unmapped (Keeps is_done tree P) (λ e. e.judged.request) es
      (subst (All (Keeps is_done tree P)) (sym (requests-settled by (touching by R) rule list _)) a) in
      let order : All keeps (ordered es) = All-left keeps (ordered es) (carried es)
      (All-permutation keeps es (ordered es ++ carried es) (IsPermutation-sym _ _ (each_once by (touching by R) rule list _).parted) all) in
      subst P (serial_law o anti is_done tree rule percent start list).map
      (serially is_done tree P start (map (λ e. e.judged.request) (ordered es)) (All-map (Keeps is_done tree P) (λ e. e.judged.request) (ordered es) order) p)
