-- The batches of one database, one after the other.
use Rattle.std.proofs.Common.{◌≡◌, ℕ, ◌+◌, ◌<◌, ◌≤◌, List, [], ◌∷◌, ◌++◌, length, take, refl, ap, ◌∙◌, Ordering, arith}
use Rattle.std.specs.Prelude.{slice_index_or}
use Rattle.std.specs.FinMap.{FinMap}
use Rattle.std.proofs.lemmas.List.{take_more, take-append-le, get_or_append_left}
use Rattle.node_rules.specs.Nets.{Net}
use Rattle.node_rules.specs.Truths.{Between, next, after, between, course}

module _ {K V Q A : Type 0} {R : K → K → Ordering} (net : Net R V Q A) where
  after-push : (b : Between R V Q) (news : List (List Q)) (new : List Q) → after net b (news ++ new ∷ []) ≡ next net (after net b news) new
  after-push b [] new = refl
  after-push b (x ∷ xs) new = after-push (next net b x) xs new

  module _ (start : FinMap R V) (started : List (List Q)) where
    pub between-more : (done : ℕ) → done < length started
        → between net start started (done + 1) ≡ next net (between net start started done) (slice_index_or started done [])
    between-more done lt = ap (after net _) (take_more started done [] lt) ∙ after-push _ (take done started) (slice_index_or started done [])

    -- what was started later does not matter
    pub between-push : (new : List Q) (done : ℕ) → done ≤ length started → between net start (started ++ new ∷ []) done ≡ between net start started done
    between-push new done le = ap (after net _) (take-append-le done started (new ∷ []) le)

    pub course-push : (new : List Q) (done : ℕ) → done < length started → course net start (started ++ new ∷ []) done ≡ course net start started done
    course-push new done lt =
        let b = between-push new done (omega arith) in
        let l = get_or_append_left started (new ∷ []) [] done lt in
        λ i. record { rows = (b i).rows; list = (b i).waiting ++ l i }
