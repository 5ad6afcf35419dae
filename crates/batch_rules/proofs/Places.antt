-- Where each request of a list stands in the order, and among the carried ones.
use Rattle.std.proofs.Common.{◌≡◌, ℕ, zero, suc, ◌+◌, ◌<◌, ◌≤◌, List, [], ◌∷◌, ◌++◌, map, reverse, length, Bool, true, false, not, cond, Some, None, refl, sym, ap, ◌∙◌, subst, arith}
use Rattle.std.specs.Prelude.{⊤, if◌then◌else◌, ◌&&◌, slice_index_or}
use Rattle.std.specs.List.{All, filter, enumerate_from}
use Rattle.std.specs.List.Sorted.{IsPermutation}
use Rattle.std.proofs.lemmas.Bool.{false≢true}
use Rattle.std.proofs.lemmas.List.{append_assoc, length-append}
use Rattle.std.proofs.lemmas.List.Elements.{All-head, All-tail}
use Rattle.std.proofs.lemmas.List.Sorted.{IsPermutation-refl, IsPermutation-trans, IsPermutation-cons, IsPermutation-middle}
use Rattle.batch_rules.specs.declared.verdicts.Rule.{Rule}
use Rattle.batch_rules.specs.declared.verdicts.Rule.TheVariants.{Plain, Reorder}
use Rattle.batch_rules.specs.declared.verdicts.Verdict.{Verdict}
use Rattle.batch_rules.specs.declared.verdicts.Verdict.TheVariants.{Finish}
use Rattle.batch_rules.specs.Verdicts.{Dependencies, finishes, goes_ahead, keeps_turn, verdict_by}
use Rattle.batch_rules.specs.Batches.{Carrier, Entry, Fate, has_ended, is_late, is_carried, ordered, carried, judge, judged, fate_after, lates_behind, settled}
use Rattle.batch_rules.specs.Laws.{EachOnce, Progress}
use Rattle.batch_rules.proofs.Commits.{placed-cons}
use Rattle.batch_rules.proofs.Fates.{commit_fates}

-- an item more, in the middle of a list, or in the middle of a part
module _ {X : Type 0} (x : X) (xs : List X) where
  put : (us vs : List X) → IsPermutation (us ++ vs) xs → IsPermutation (us ++ x ∷ vs) (x ∷ xs)
  put us vs p = IsPermutation-trans _ _ _ (IsPermutation-middle us x vs) (IsPermutation-cons x (us ++ vs) xs p)

  put_within : (us vs ws : List X) → IsPermutation ((us ++ vs) ++ ws) xs → IsPermutation ((us ++ x ∷ vs) ++ ws) (x ∷ xs)
  put_within us vs ws p = subst (λ l. IsPermutation l (x ∷ xs)) (sym (append_assoc us (x ∷ vs) ws))
      (put us (vs ++ ws) (subst (λ l. IsPermutation l xs) (append_assoc us vs ws) p))

  put_somewhere : (F S L C : List X) (b h : Bool) → (b ≡ true → h ≡ true) → IsPermutation (((F ++ S) ++ L) ++ C) xs
      → IsPermutation (((if b then F ++ x ∷ S else F ++ S) ++ cond (not b && h) (x ∷ L) L) ++ cond (if h then false else true) (x ∷ C) C) (x ∷ xs)
  put_somewhere F S L C true true i p = subst (λ l. IsPermutation l (x ∷ xs)) (sym (append_assoc (F ++ x ∷ S) L C))
      (put_within F S (L ++ C) (subst (λ l. IsPermutation l xs) (append_assoc (F ++ S) L C) p))
  put_somewhere F S L C true false i p = absurd (false≢true (i refl))
  put_somewhere F S L C false true i p = put_within (F ++ S) L C p
  put_somewhere F S L C false false i p = put ((F ++ S) ++ L) C p

-- in entries of which those that finish in the commit phase have ended
module _ {K O A : Type 0} where
  abbrev ends_if_finishes : Entry K O A → Type 0
  ends_if_finishes e = finishes e.judged.verdict ≡ true → has_ended e.fate ≡ true

  parted : (es : List (Entry K O A)) → All ends_if_finishes es → IsPermutation (ordered es ++ carried es) es
  parted [] a = IsPermutation-refl []
  parted (e ∷ es) a = subst (λ l. IsPermutation ((l ++ filter is_late (e ∷ es)) ++ carried (e ∷ es)) (e ∷ es)) (sym (placed-cons (λ e. e.judged.verdict) e es))
      (put_somewhere e es (reverse (filter (λ e. goes_ahead e.judged.verdict) es)) (filter (λ e. keeps_turn e.judged.verdict) es) (filter is_late es)
      (carried es) (finishes e.judged.verdict) (has_ended e.fate) (All-head ends_if_finishes e es a) (parted es (All-tail ends_if_finishes e es a)))

first_verdict : (rule : Rule) → verdict_by rule None None None ≡ Finish false
first_verdict Plain = refl
first_verdict Reorder = refl

-- a filter may keep one item more, in front
module _ {X : Type 0} where
  one_more : (b : Bool) (x : X) (xs : List X) (n : ℕ) → length xs ≤ n → length (cond b (x ∷ xs) xs) ≤ suc n
  one_more true x xs n h = omega arith
  one_more false x xs n h = omega arith

-- the numbers of entries rise, from above n on
record AreAbove {K O A : Type 0} (n : ℕ) (es : List (Entry K O A)) : Type 0 where
  at : (i : ℕ) (d : Entry K O A) → i < length es → n + i < (slice_index_or es i d).judged.tid

module _ {K O A : Type 0} where
  above_push : (n : ℕ) (e : Entry K O A) (es : List (Entry K O A)) → n < e.judged.tid → AreAbove (n + 1) es → (i : ℕ) (d : Entry K O A) → i < length (e ∷ es)
      → n + i < (slice_index_or (e ∷ es) i d).judged.tid
  above_push n e es own rest zero d below = omega arith
  above_push n e es own rest (suc i) d below = let h = rest.at i d (omega arith) in omega arith

  above_more : (n : ℕ) (b : Bool) (e : Entry K O A) (es : List (Entry K O A)) → n < e.judged.tid → AreAbove (n + 1) es → AreAbove n (cond b (e ∷ es) es)
  above_more n true e es own rest = record { at = above_push n e es own rest }
  above_more n false e es own rest = record { at = λ i d below. let h = rest.at i d below in omega arith }

  -- the numbers follow one another from n + 1 on
  NumberedAfter : ℕ → List (Entry K O A) → Type 0
  NumberedAfter n [] = ⊤
  NumberedAfter n (e ∷ es) = (e.judged.tid ≡ n + 1) × NumberedAfter (n + 1) es

  above : (n : ℕ) (es : List (Entry K O A)) → NumberedAfter n es → AreAbove n (carried es)
  unfolding NumberedAfter
  above n [] p = record { at = λ i d below. absurd (omega arith) }
  above n (e ∷ es) p = above_more n (is_carried e) e (carried es) (let own = p.0 in omega arith) (above (n + 1) es p.1)

module _ {K V A O : Type 0} (by : Carrier K V A O) (on : Dependencies O) (rule : Rule) where
  numbered : (earlier list : List O) (lates : List (Fate K A))
      → map (λ e. (e.judged.tid, e.judged.request)) (settled by (judged on rule earlier list) lates) ≡ enumerate_from (length earlier + 1) list
  numbered earlier [] lates = refl
  numbered earlier (o ∷ os) lates = ap (λ l. (length earlier + 1, o) ∷ l) (numbered (earlier ++ o ∷ []) os _
      ∙ ap (λ n. enumerate_from (n + 1) os) (length-append earlier (o ∷ [])))

  few : (earlier list : List O) (lates : List (Fate K A)) → length (carried (settled by (judged on rule earlier list) lates)) ≤ length list
  few earlier [] lates = omega arith
  few earlier (o ∷ os) lates = one_more _ _ _ (length os) (few (earlier ++ o ∷ []) os _)

  numbered_after : (earlier list : List O) (lates : List (Fate K A)) → NumberedAfter (length earlier) (settled by (judged on rule earlier list) lates)
  unfolding NumberedAfter
  numbered_after earlier [] lates = tt
  numbered_after earlier (o ∷ os) lates =
      let next = lates_behind (judge on rule earlier o).verdict lates in (
        refl,
        subst (λ n. NumberedAfter n (settled by (judged on rule (earlier ++ o ∷ []) os) next)) (length-append earlier (o ∷ []))
            (numbered_after (earlier ++ o ∷ []) os next),
      )

  pub each_once : (list : List O) (lates : List (Fate K A)) → EachOnce list (settled by (judged on rule [] list) lates)
  each_once list lates = record {
    numbered = numbered [] list lates;
    parted = parted _ (λ k d below e. ap has_ended (commit_fates by (judged on rule [] list) lates k d below e));
  }

  pub progress : (first : O) (rest : List O) (lates : List (Fate K A))
      → Progress (first ∷ rest) (by.end first) (settled by (judged on rule [] (first ∷ rest)) lates)
  progress first rest lates =
      let v = verdict_by rule None None None in
      let is : v ≡ Finish false = first_verdict rule in
      let behind = λ (v : Verdict). settled by (judged on rule (first ∷ []) rest) (lates_behind v lates) in
      let fate = λ (v : Verdict). fate_after by first v lates in
      let same : carried (settled by (judged on rule [] (first ∷ rest)) lates) ≡ carried (behind (Finish false)) =
      λ i. cond (if has_ended (fate (is i)) then false else true) (record { judged = judge on rule [] first; fate = fate (is i) } ∷ carried (behind (is i)))
      (carried (behind (is i))) in record {
        ends = ap (λ v. Some (fate v)) is;
        fewer = subst (λ l. length l < length (first ∷ rest)) (sym same) (let h = few (first ∷ []) rest lates in omega arith);
        sooner = subst (λ l. (i : ℕ) (d : Entry K O A) → i < length l → i + 1 < (slice_index_or l i d).judged.tid) (sym same)
            (λ i d below. let h = (above 1 _ (numbered_after (first ∷ []) rest lates)).at i d below in omega arith);
      }
