-- Each kind of step keeps the rule, and closing gives the words of all marks.
use Rattle.std.proofs.Common.{◌≡◌, ◌≢◌, ℕ, ◌/◌, ◌%◌, ◌<◌, ◌≤◌, ◌⊎◌, inl, inr, ⊎_elim, min, Bool, List, [], ◌∷◌, ◌++◌, length, get_or, set, subst, sym, refl, ap, ◌∙◌, arith, length-set, get_or-set_same, get_or-set_other, mod-eq_of_lt, All, true, false}
use Rattle.std.proofs.lemmas.Bool.{cases_eq}
use Rattle.std.proofs.Math.Nat.{mul-add-mod_self_right}
use mathlib.Core.Option.{some, none}
use lib.ListN.{get_elem?}
use Rattle.atomic_table.specs.Table.{Me, step, Allows, Splits, Joins, Final, Seen, keeps}
use Rattle.atomic_table.proofs.Lists.{set_else}
use Rattle.aria_base.proofs.Reserved.{unmarked, word_of-least}
use Rattle.aria_base.proofs.Shares.{each-set, each-push, sum_by-set, sum_by-set_two, sum_by-set_push}
use Rattle.aria_base.specs.declared.marks.Mark.{Mark}
use Rattle.aria_base.specs.declared.limits.TheConstants.{MOST_REQUESTS, TAG_SPAN, TAGS}
use Rattle.aria_base.specs.Reserved.{number_under, place_of, word_of, AreAbove, HasTid, IsMarked}
use Rattle.resv_words.specs.declared.rules.View.{View}
use Rattle.aria_base.specs.Shares.{all_shares}
use Rattle.resv_words.specs.Rule.{mark, view, IsPut, IsLeastPut, Idle, Kept, marked, one_less, one, sum_of, spent_view}
use Rattle.resv_words.proofs.Puts.{set_there, marked_left, marked_right, marked_either, marked_last, marked_last_cases, put_kept, put_back, put_longer, put_longer_back, put_alone, least_kept, least_more}

abbrev share_of : View → ℕ
share_of v = v.share

-- a mark, at the word of its place, with the number of its TID
module _ (old : List ℕ) (tag : ℕ) (views : List View) (id : ℕ) (v : View) (m : Mark) (at : get_elem? views id ≡ some v) where
  abbrev with_mark : View
  with_mark = view v.share (v.marks ++ m ∷ [])

  abbrev after : List View
  after = set views id with_mark

  mark_there : (place n : ℕ) → IsPut tag place views n → IsPut tag place after n
  mark_there place = put_kept tag place views id v with_mark at (λ t marked.
      (id, with_mark, t, set_there views id with_mark v at, marked_left place v.marks (m ∷ []) t marked, refl))

  last_put : (place n : ℕ) → (t : ℕ) × IsMarked place with_mark.marks t × (n ≡ number_under tag t)
      → IsPut tag place views n ⊎ ((place_of m ≡ place) × (n ≡ number_under tag m.tid))
  last_put place n (t, marked, is) =
      ⊎_elim
      (λ before. inl (id, v, t, at, before, is))
      (λ last. inr (last.0, is ∙ ap (number_under tag) (sym last.1)))
      (marked_last_cases place v.marks m t marked)

  mark_back : (place n : ℕ) → IsPut tag place after n → IsPut tag place views n ⊎ ((place_of m ≡ place) × (n ≡ number_under tag m.tid))
  mark_back place n put = ⊎_elim (λ before. inl before) (last_put place n) (put_back tag place views id with_mark n put)

  mark_here : (word : ℕ) → IsLeastPut old tag (place_of m) views word → IsLeastPut old tag (place_of m) after (min word (number_under tag m.tid))
  mark_here word is =
      least_more tag (place_of m) old views after word (number_under tag m.tid) (mark_there (place_of m))
      (λ n put. ⊎_elim (λ before. inl before) (λ last. inr last.1) (mark_back (place_of m) n put))
      (id, with_mark, m.tid, set_there views id with_mark v at, marked_last (place_of m) v.marks m refl, refl)
      is

  mark_else : (place word : ℕ) → place_of m ≢ place → IsLeastPut old tag place views word → IsLeastPut old tag place after word
  mark_else place word else is = least_kept tag place old views after word (mark_there place)
      (λ n put. ⊎_elim (λ before. before) (λ here. absurd (else here.0)) (mark_back place n put)) is

  -- all words after the step, which lowers the one at the mark's place
  mark_words : (words : List ℕ) → ((place : ℕ) → place < length words → IsLeastPut old tag place views (get_or words place 0))
      → (place : ℕ) → place < length (set words (place_of m) (min (get_or words (place_of m) 0) (number_under tag m.tid)))
      → IsLeastPut old tag place after (get_or (set words (place_of m) (min (get_or words (place_of m) 0) (number_under tag m.tid))) place 0)
  mark_words words are place lt =
      let next : ℕ = min (get_or words (place_of m) 0) (number_under tag m.tid) in
      let within : place < length words = omega (arith, length-set words (place_of m) next) in
      ⊎_elim
      (λ here.
      let within' : place_of m < length words = omega arith in
      subst (λ (p : ℕ). IsLeastPut old tag p after (get_or (set words (place_of m) next) p 0)) here
      (subst (IsLeastPut old tag (place_of m) after) (sym (get_or-set_same words (place_of m) next 0 within')) (mark_here _ (are (place_of m) within'))))
      (λ else.
      subst (IsLeastPut old tag place after) (sym (get_or-set_other words (place_of m) place next 0 (λ e. else (omega arith))))
      (mark_else place _ else (are place within)))
      (cases_eq (place_of m) place)

-- A mark keeps the rule
pub marks : (old : List ℕ) (tag slots id : ℕ) (me : Me (Unit {0}) View) (m : Mark) → 0 < me.0.share
    → Allows (Kept old tag) slots id me (place_of m) (λ n. min n (number_under tag m.tid)) (λ _ me'. me' ≡ (view me.0.share (me.0.marks ++ m ∷ []), me.1))
marks old tag slots id me m has_share s kept homes at small = (
  view me.0.share (me.0.marks ++ m ∷ []),
  keeps,
  tt,
  record {
    shares = let sum = sum_by-set share_of s.views id me.0 (view me.0.share (me.0.marks ++ m ∷ [])) at in let all = kept.shares in omega arith;
    words = mark_words old tag s.views id me.0 m at s.words kept.words;
    idle = each-set Idle s.views id (view me.0.share (me.0.marks ++ m ∷ [])) (λ none. absurd (omega arith)) kept.idle;
  },
  refl,
)

key_again : (key : ℕ) (writes : Bool) (tid : ℕ) → key ≡ (place_of (mark tid key writes)) / 2
key_again key true tid = omega arith
key_again key false tid = omega arith

-- from the word and the number of the step both the key and the TID are told
pub marks_key : (old : List ℕ) (tag slots id : ℕ) (me : Me (Unit {0}) View) (tid key : ℕ) (writes : Bool) (word number : ℕ) → 0 < me.0.share
    → tid ≤ MOST_REQUESTS
    → word ≡ place_of (mark tid key writes) → number ≡ number_under tag tid
    → Allows (Kept old tag) slots id me word (λ n. min n number) (marked writes (step slots word number 0 none) me)
marks_key old tag slots id me tid key writes word number has_share within word_is number_is =
    subst (λ (w : ℕ). Allows (Kept old tag) slots id me w (λ n. min n number) (marked writes (step slots w number 0 none) me)) (sym word_is)
    (subst (λ (k : ℕ). Allows (Kept old tag) slots id me (place_of m) (λ n. min n k) (marked writes (step slots (place_of m) k 0 none) me)) (sym number_is)
    (λ s kept homes at small.
    let allowed = marks old tag slots id me m has_share s kept homes at small in (
      allowed.0,
      allowed.1,
      allowed.2,
      allowed.3,
      allowed.4
          ∙ (λ i. (view me.0.share (me.0.marks ++ mark (tid_again i) (key_again key writes tid i) writes ∷ []), me.1)),
    )))
  where
    m : Mark
    m = mark tid key writes

    tid_again : tid ≡ number_under tag tid % TAG_SPAN
    tid_again = sym (mul-add-mod_self_right tag TAG_SPAN tid ∙ mod-eq_of_lt (omega arith))

-- what is put, where a new seat has the marks of another
module _ (tag : ℕ) (views : List View) (id : ℕ) (v : View) (at : get_elem? views id ≡ some v) where
  abbrev halved : List View
  halved = set views id (one_less v)

  split_there : (place n : ℕ) → IsPut tag place views n → IsPut tag place (halved ++ one v ∷ []) n
  split_there place n put = put_longer tag place halved (one v) n
      (put_kept tag place views id v (one_less v) at (λ t marked. (id, one_less v, t, set_there views id (one_less v) v at, marked, refl)) n put)

  own_put : (place n : ℕ) → (t : ℕ) × IsMarked place v.marks t × (n ≡ number_under tag t) → IsPut tag place views n
  own_put place n (t, marked, is) = (id, v, t, at, marked, is)

  split_back : (place n : ℕ) → IsPut tag place (halved ++ one v ∷ []) n → IsPut tag place views n
  split_back place n put = ⊎_elim (λ before. ⊎_elim (λ first. first) (own_put place n) (put_back tag place views id (one_less v) n before)) (own_put place n)
      (put_longer_back tag place halved (one v) n put)

pub splits : (old : List ℕ) (tag id : ℕ) (v : View) → 2 ≤ v.share → Splits (Kept old tag) id v (one_less v) (one v)
splits old tag id v shares s kept at = record {
  shares = let sum = sum_by-set_push share_of s.views id v (one_less v) (one v) at in let all = kept.shares in omega arith;
  words = λ place lt. least_kept tag place old s.views _ _ (split_there tag s.views id v at place) (split_back tag s.views id v at place) (kept.words place lt);
  idle = each-push Idle (set s.views id (one_less v)) (one v) (λ none. absurd (omega arith))
      (each-set Idle s.views id (one_less v) (λ none. absurd (omega arith)) kept.idle);
}

-- what is put, where a seat takes the marks of another
module _ (tag : ℕ) (views : List View) (id : ℕ) (v : View) (other : ℕ) (w : View) (at : get_elem? views id ≡ some v) (apart : other ≢ id)
    (at' : get_elem? (set views id (sum_of v w)) other ≡ some w) where
  abbrev both : List View
  both = set views id (sum_of v w)

  abbrev joined : List View
  joined = set both other spent_view

  join_there : (place n : ℕ) → IsPut tag place views n → IsPut tag place joined n
  join_there place n put =
      let at_both : get_elem? joined id ≡ some (sum_of v w) = set_else both other id spent_view (λ e. apart (sym e)) ∙ set_there views id (sum_of v w) v at in
      put_kept tag place both other w spent_view at' (λ t marked. (id, sum_of v w, t, at_both, marked_right place v.marks w.marks t marked, refl)) n
      (put_kept tag place views id v (sum_of v w) at (λ t marked.
      (id, sum_of v w, t, set_there views id (sum_of v w) v at, marked_left place v.marks w.marks t marked, refl)) n put)

  either_put : (place n : ℕ) → (t : ℕ) × IsMarked place (v.marks ++ w.marks) t × (n ≡ number_under tag t) → IsPut tag place views n
  either_put place n (t, marked, is) =
      let at_other : get_elem? views other ≡ some w = sym (set_else views id other (sum_of v w) apart) ∙ at' in
      ⊎_elim (λ left. (id, v, t, at, left, is)) (λ right. (other, w, t, at_other, right, is)) (marked_either place v.marks w.marks t marked)

  spent_put : (place n : ℕ) → (t : ℕ) × IsMarked place [] t × (n ≡ number_under tag t) → IsPut tag place views n
  spent_put place n (t, marked, is) = absurd (unmarked place t marked)

  join_back : (place n : ℕ) → IsPut tag place joined n → IsPut tag place views n
  join_back place n put = ⊎_elim (λ first. ⊎_elim (λ before. before) (either_put place n) (put_back tag place views id (sum_of v w) n first))
      (spent_put place n) (put_back tag place both other spent_view n put)

-- a seat takes the marks and the shares of another, which has none afterwards
pub joins : (old : List ℕ) (tag id : ℕ) (v : View) (other : ℕ) (w : View) → 0 < v.share → Joins (Kept old tag) id v other w (sum_of v w) spent_view
joins old tag id v other w has_share s kept at apart at' = record {
  shares = let sum = sum_by-set_two share_of s.views id other v (sum_of v w) w spent_view at at' in let all = kept.shares in omega arith;
  words = λ place lt. least_kept tag place old s.views _ _ (join_there tag s.views id v other w at apart at' place)
      (join_back tag s.views id v other w at apart at' place) (kept.words place lt);
  idle = each-set Idle (set s.views id (sum_of v w)) other spent_view (λ _. refl)
      (each-set Idle s.views id (sum_of v w) (λ none. absurd (omega arith)) kept.idle);
}

-- where one seat has all shares, each word is that of its marks
pub closes : (old : List ℕ) (tag id : ℕ) (v : View) (words : List ℕ) (xs : List (Unit {0})) → v.share ≡ all_shares → tag < TAGS → AreAbove tag old
    → All HasTid v.marks
    → Final (Seen (Kept old tag) id v) words xs → (place : ℕ) → place < length words → get_or words place 0 ≡ word_of old tag v.marks place
closes old tag id v words xs whole small above tids (s, (kept, at), words_are, count, values) place lt =
    let lt' : place < length s.words = omega (arith, ap length words_are) in
    let is : IsLeastPut old tag place s.views (get_or words place 0) =
    subst (λ ws. IsLeastPut old tag place s.views (get_or ws place 0)) words_are (kept.words place lt') in
    word_of-least old tag place v.marks (get_or words place 0) small above tids
    (λ t marked. is.least (number_under tag t) (id, v, t, at, marked, refl))
    (⊎_elim (λ start. inl start) (λ put. inr (put_alone tag place s.views id v at (kept.shares ∙ sym whole) kept.idle _ put)) is.made)
