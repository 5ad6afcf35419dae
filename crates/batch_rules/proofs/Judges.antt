-- What a verdict says of each earlier request.
use Rattle.std.proofs.Common.{◌≡◌, ℕ, zero, suc, ◌+◌, ◌<◌, List, [], ◌∷◌, ◌++◌, map, length, take, Bool, true, false, cond, Some, None, Option, refl, sym, ap, ◌∙◌, subst, arith}
use Rattle.std.specs.Prelude.{◌||◌, is_some, slice_index_or}
use Rattle.std.specs.List.{All, list_any, position_from}
use Rattle.std.proofs.lemmas.Bool.{or_parts}
use Rattle.std.proofs.lemmas.List.{append_assoc, append-nil, length-append}
use Rattle.std.proofs.lemmas.List.Elements.{All-nil, All-cons}
use Rattle.std.proofs.lemmas.List.Folds.{list_any-append}
use Rattle.batch_rules.specs.declared.verdicts.Rule.{Rule}
use Rattle.batch_rules.specs.declared.verdicts.Rule.TheVariants.{Plain, Reorder}
use Rattle.batch_rules.specs.Verdicts.{Dependencies, through, finishes, goes_ahead, keeps_turn, verdict_by, least}
use Rattle.batch_rules.specs.Batches.{Judged, judge, judged, decided}
use Rattle.batch_rules.specs.Laws.{DecidedEach}
use Rattle.batch_rules.proofs.Commits.{IsClean}
use Rattle.batch_rules.proofs.Pairs.{Pairs}

finish_waw : (rule : Rule) (waw raw war : Option ℕ) → finishes (verdict_by rule waw raw war) ≡ true → is_some waw ≡ false
finish_waw rule (Some j) raw war e = sym e
finish_waw rule None raw war e = refl

ahead_war : (rule : Rule) (waw raw war : Option ℕ) → goes_ahead (verdict_by rule waw raw war) ≡ true → is_some war ≡ false
ahead_war rule (Some i) raw war e = cc
ahead_war Plain None (Some j) war e = cc
ahead_war Plain None None war e = cc
ahead_war Reorder None None war e = cc
ahead_war Reorder None (Some j) (Some k) e = cc
ahead_war Reorder None (Some j) None e = refl

turn_raw : (rule : Rule) (waw raw war : Option ℕ) → keeps_turn (verdict_by rule waw raw war) ≡ true → is_some raw ≡ false
turn_raw rule (Some i) raw war e = cc
turn_raw rule None None war e = refl
turn_raw Plain None (Some j) war e = sym e
turn_raw Reorder None (Some j) (Some k) e = sym e
turn_raw Reorder None (Some j) None e = sym e

module _ {S : Type 0} (holds : S → Bool) where
  pub is_some-position_from : (i : ℕ) (xs : List S) → is_some (position_from holds i xs) ≡ list_any holds xs
  is_some-position_from i [] = refl
  is_some-position_from i (x ∷ xs) = elim (holds x) as (λ b. is_some (cond b (Some i) (position_from holds (i + 1) xs)) ≡ (b || list_any holds xs)) [
    | true ↦
        refl
    | false ↦ is_some-position_from (i + 1) xs
  ]

  none_holds : (us : List S) (x : S) (vs : List S) → is_some (least holds (us ++ x ∷ vs)) ≡ false → holds x ≡ false
  none_holds us x vs e = (or_parts _ _ (or_parts _ _ (sym (list_any-append holds us (x ∷ vs)) ∙ sym (is_some-position_from 1 (us ++ x ∷ vs)) ∙ e)).1).0

module _ {O : Type 0} (on : Dependencies O) (rule : Rule) where
  abbrev pub Clean : Judged O → Judged O → Type 0
  Clean = IsClean (through (λ d. d.request) on) (λ d. d.verdict)

  clean : (us : List O) (x : Judged O) (vs : List O) (o : O) → Clean x (judge on rule (us ++ x.request ∷ vs) o)
  clean us x vs o = record {
    waw = λ e. none_holds (on.waw o) us x.request vs (finish_waw rule _ _ _ e);
    war = λ e. none_holds (on.war o) us x.request vs (ahead_war rule _ _ _ e);
    raw = λ e. none_holds (on.raw o) us x.request vs (turn_raw rule _ _ _ e);
  }

  clean_of : (us : List O) (x : Judged O) (vs list : List O) → All (Clean x) (judged on rule (us ++ x.request ∷ vs) list)
  clean_of us x vs [] = All-nil (Clean x)
  clean_of us x vs (o ∷ os) = All-cons (Clean x) _ _ (clean us x vs o)
      (subst (λ earlier. All (Clean x) (judged on rule earlier os)) (sym (append_assoc us (x.request ∷ vs) (o ∷ []))) (clean_of us x (vs ++ o ∷ []) os))

  pub all_clean : (earlier list : List O) → Pairs Clean (judged on rule earlier list)
  all_clean earlier [] = tt
  all_clean earlier (o ∷ os) = (clean_of earlier (judge on rule earlier o) [] os, all_clean (earlier ++ o ∷ []) os)

  -- one request more, the request at a place, and how many there are
  pub judged-push : (earlier list : List O) (o : O) → judged on rule earlier (list ++ o ∷ []) ≡ judged on rule earlier list ++ judge on rule
      (earlier ++ list) o ∷ []
  judged-push earlier [] o = ap (λ l. judge on rule l o ∷ []) (sym (append-nil earlier))
  judged-push earlier (x ∷ xs) o = ap (λ l. judge on rule earlier x ∷ l) (judged-push (earlier ++ x ∷ []) xs o
      ∙ ap (λ l. judged on rule (earlier ++ x ∷ []) xs ++ judge on rule l o ∷ []) (append_assoc earlier (x ∷ []) xs))

  pub length-judged : (earlier list : List O) → length (judged on rule earlier list) ≡ length list
  length-judged earlier [] = refl
  length-judged earlier (x ∷ xs) = ap suc (length-judged (earlier ++ x ∷ []) xs)

  pub requests-judged : (earlier list : List O) → map (λ d. d.request) (judged on rule earlier list) ≡ list
  requests-judged earlier [] = refl
  requests-judged earlier (x ∷ xs) = ap (λ rest. x ∷ rest) (requests-judged (earlier ++ x ∷ []) xs)

  pub judged-at : (earlier list : List O) (i : ℕ) (d : Judged O) → i < length list
      → slice_index_or (judged on rule earlier list) i d ≡ judge on rule (earlier ++ take i list) (slice_index_or list i d.request)
  judged-at earlier [] i d below = absurd (omega arith)
  judged-at earlier (x ∷ xs) zero d below = ap (λ l. judge on rule l x) (sym (append-nil earlier))
  judged-at earlier (x ∷ xs) (suc i) d below = judged-at (earlier ++ x ∷ []) xs i d (omega arith)
      ∙ ap (λ l. judge on rule l (slice_index_or xs i d.request)) (append_assoc earlier (x ∷ []) (take i xs))

  decided_behind : (earlier list : List O) → decided (length earlier + 1) list (map (λ d. d.verdict) (judged on rule earlier list)) ≡ judged on rule earlier
      list
  decided_behind earlier [] = refl
  decided_behind earlier (x ∷ xs) = ap (λ rest. judge on rule earlier x ∷ rest)
      (ap (λ n. decided (n + 1) xs (map (λ d. d.verdict) (judged on rule (earlier ++ x ∷ []) xs))) (sym (length-append earlier (x ∷ [])))
      ∙ decided_behind (earlier ++ x ∷ []) xs)

  pub decided_each : (list : List O) → DecidedEach on rule list
  decided_each list = decided_behind [] list
