-- The least TID at a place is what its name says, and so depends on the set of the marks alone. Under its tag a word stands for it.
use Rattle.std.proofs.Common.{Bool, true, false, ◌-◌, ◌%◌, ◌^◌, mod-eq_of_lt, ext_get_or, ◌≡◌, ◌≢◌, ℕ, zero, suc, ◌+◌, ◌*◌, ◌/◌, ◌<◌, ◌≤◌, ◌⊎◌, inl, inr, ⊎_elim, List, [], ◌∷◌, length, get_or, cond, min, subst, sym, refl, ap, ◌∙◌, arith}
use Rattle.std.proofs.lemmas.Bool.{cases_eq, cases_lt, eq-eqb, ne_eqb}
use Rattle.std.proofs.lemmas.Nat.{div-mul-add, le-div}
use Rattle.std.proofs.Math.Nat.{mul-add-mod_self_right}
use Rattle.std.proofs.lemmas.List.{get_or_past}
use Rattle.std.proofs.lemmas.Grind.{get_or_default_zero}
use Rattle.std.proofs.lemmas.List.Elements.{All-contains}
use Rattle.std.specs.Option.{option_map_or}
use Rattle.std.specs.Prelude.{Option, None, Some, All}
use Rattle.aria_base.specs.declared.limits.TheConstants.{TAG_SPAN, TAGS}
use Rattle.aria_base.specs.declared.marks.Mark.{Mark}
use Rattle.aria_base.specs.Reserved.{number_under, tid_under, place_of, least_with, least_tid, start_of, word_of, AreWords, StandFor, AreAbove, HasTid, SameMarks, IsMarked, IsLeast}

-- a mark of a longer list is its first one or one of the others
marked_cases : (place : ℕ) (m : Mark) (ms : List Mark) (t : ℕ) → IsMarked place (m ∷ ms) t → ((place_of m ≡ place) × (m.tid ≡ t)) ⊎ IsMarked place ms t
marked_cases place m ms t (n, (zero, h, e), at, is) = inl (ap place_of e ∙ at, ap (λ (x : Mark). x.tid) e ∙ is)
marked_cases place m ms t (n, (suc k, h, e), at, is) = inr (n, (k, omega arith, e), at, is)

pub unmarked : (place t : ℕ) → ¬ IsMarked place [] t
unmarked place t (n, (k, h, e), at, is) = omega arith

marked_here : (place : ℕ) (m : Mark) (ms : List Mark) → place_of m ≡ place → IsMarked place (m ∷ ms) m.tid
marked_here place m ms at = (m, (zero, omega arith, refl), at, refl)

marked_there : (place : ℕ) (m : Mark) (ms : List Mark) (t : ℕ) → IsMarked place ms t → IsMarked place (m ∷ ms) t
marked_there place m ms t (n, (k, h, e), at, is) = (n, (suc k, omega arith, e), at, is)

least_here : (place : ℕ) (m : Mark) (ms : List Mark) (r : Option ℕ) → place_of m ≡ place → IsLeast place ms r → IsLeast place (m ∷ ms) (least_with m.tid r)
least_here place m ms None at none =
    (marked_here place m ms at, λ u marked. ⊎_elim (λ here. omega arith) (λ there. absurd (none u there)) (marked_cases place m ms u marked))
least_here place m ms (Some t) at least = (
  ⊎_elim
      (λ lt. let e : min m.tid t ≡ m.tid = omega arith in subst (IsMarked place (m ∷ ms)) (sym e) (marked_here place m ms at))
      (λ ge. let e : min m.tid t ≡ t = omega arith in subst (IsMarked place (m ∷ ms)) (sym e) (marked_there place m ms t least.0))
      (cases_lt m.tid t),
  λ u marked. ⊎_elim (λ here. omega arith) (λ there. let le = least.1 u there in omega arith) (marked_cases place m ms u marked),
)

least_else : (place : ℕ) (m : Mark) (ms : List Mark) (r : Option ℕ) → place_of m ≢ place → IsLeast place ms r → IsLeast place (m ∷ ms) r
least_else place m ms None off none = λ t marked. ⊎_elim (λ here. off here.0) (none t) (marked_cases place m ms t marked)
least_else place m ms (Some t) off least =
    (marked_there place m ms t least.0, λ u marked. ⊎_elim (λ here. absurd (off here.0)) (least.1 u) (marked_cases place m ms u marked))

pub IsLeast-least_tid : (place : ℕ) (marks : List Mark) → IsLeast place marks (least_tid place marks)
IsLeast-least_tid place [] = λ t marked. unmarked place t marked
IsLeast-least_tid place (m ∷ ms) =
    let r : Option ℕ = least_tid place ms in
    let before : IsLeast place ms r = IsLeast-least_tid place ms in
    ⊎_elim
    (λ at. subst (λ b. IsLeast place (m ∷ ms) (cond b (least_with m.tid r) r)) (sym (eq-eqb (place_of m) place at)) (least_here place m ms r at before))
    (λ off. subst (λ b. IsLeast place (m ∷ ms) (cond b (least_with m.tid r) r)) (sym (ne_eqb (place_of m) place off)) (least_else place m ms r off before))
    (cases_eq (place_of m) place)

same_marked : (place : ℕ) (ms ns : List Mark) (t : ℕ) → SameMarks ms ns → IsMarked place ms t → IsMarked place ns t
same_marked place ms ns t same (m, stands, at, is) = (m, (same m).0 stands, at, is)

flipped : (ms ns : List Mark) → SameMarks ms ns → SameMarks ns ms
flipped ms ns same m = ((same m).1, (same m).0)

-- only one TID is the least, and marks that are one set have one least TID
pub IsLeast-one : (place : ℕ) (ms ns : List Mark) (a b : Option ℕ) → SameMarks ms ns → IsLeast place ms a → IsLeast place ns b → a ≡ b
IsLeast-one place ms ns None None same none none' = refl
IsLeast-one place ms ns None (Some u) same none least = absurd (none u (same_marked place ns ms u (flipped ms ns same) least.0))
IsLeast-one place ms ns (Some t) None same least none = absurd (none t (same_marked place ms ns t same least.0))
IsLeast-one place ms ns (Some t) (Some u) same least least' =
    let le = least.1 u (same_marked place ns ms u (flipped ms ns same) least'.0) in
    let ge = least'.1 t (same_marked place ms ns t same least.0) in
    let e : t ≡ u = omega arith in ap (λ (n : ℕ). Some n) e

-- where each start value is above the tag, a word stands under the tag for the least TID at its place
pub start_above : (old : List ℕ) (tag place : ℕ) → tag < TAGS → AreAbove tag old → (tag + 1) * TAG_SPAN ≤ start_of old place
start_above old tag place small above =
    ⊎_elim
    (λ lt. above place (2 ^ 64 - 1) lt)
    (λ ge. rw (get_or_past old place (2 ^ 64 - 1) ge) (omega arith))
    (cases_lt place (length old))

stands : (tag start place : ℕ) (marks : List Mark) (r : Option ℕ) → (tag + 1) * TAG_SPAN ≤ start → All HasTid marks → IsLeast place marks r
    → tid_under tag (option_map_or (number_under tag) r start) ≡ r
stands tag start place marks None above tids least =
    let more : tag + 1 ≤ start / TAG_SPAN = le-div (tag + 1) start TAG_SPAN (omega arith) above in
    ap (λ b. cond b (Some (start % TAG_SPAN)) None) (ne_eqb (start / TAG_SPAN) tag (λ e. omega arith))
stands tag start place marks (Some t) above tids ((m, stands_there, at, is), least) =
    let bound : HasTid m = All-contains HasTid marks m tids stands_there in
    let within : t < TAG_SPAN = omega arith in
    ap (λ b. cond b (Some (number_under tag t % TAG_SPAN)) None) (eq-eqb (number_under tag t / TAG_SPAN) tag (div-mul-add tag TAG_SPAN t within))
    ∙ ap (λ (n : ℕ). Some n) (mul-add-mod_self_right tag TAG_SPAN t ∙ mod-eq_of_lt within)

pub StandFor-AreWords : (old : List ℕ) (tag keys : ℕ) (marks : List Mark) (words : List ℕ) → tag < TAGS → AreAbove tag old → All HasTid marks
    → AreWords old tag keys marks words → StandFor tag keys marks words
StandFor-AreWords old tag keys marks words small above tids are = record {
  two_a_key = are.two_a_key;
  each = λ place lt. ap (tid_under tag) (are.each place lt)
      ∙ stands tag (start_of old place) place marks _ (start_above old tag place small above) tids (IsLeast-least_tid place marks);
}

-- The least of the start value and of the numbers of all marks at a place is the word there
least_word : (tag start word place : ℕ) (marks : List Mark) (r : Option ℕ) → (tag + 1) * TAG_SPAN ≤ start → All HasTid marks → IsLeast place marks r
    → ((t : ℕ) → IsMarked place marks t → word ≤ number_under tag t) → (word ≡ start) ⊎ ((t : ℕ) × IsMarked place marks t × (word ≡ number_under tag t))
    → word ≡ option_map_or (number_under tag) r start
least_word tag start word place marks None above tids none lower (inl is) = is
least_word tag start word place marks None above tids none lower (inr (t, marked, is)) = absurd (none t marked)
least_word tag start word place marks (Some t) above tids ((m, stands_there, at, same), least) lower (inl is) =
    let bound : HasTid m = All-contains HasTid marks m tids stands_there in
    let le = lower t (m, stands_there, at, same) in
    absurd (omega arith)
least_word tag start word place marks (Some t) above tids least lower (inr (u, marked, is)) =
    let le = least.1 u marked in let ge = lower t least.0 in omega arith

pub word_of-least : (old : List ℕ) (tag place : ℕ) (marks : List Mark) (word : ℕ) → tag < TAGS → AreAbove tag old → All HasTid marks
    → ((t : ℕ) → IsMarked place marks t → word ≤ number_under tag t)
    → (word ≡ start_of old place) ⊎ ((t : ℕ) × IsMarked place marks t × (word ≡ number_under tag t)) → word ≡ word_of old tag marks place
word_of-least old tag place marks word small above tids = least_word tag (start_of old place) word place marks (least_tid place marks)
    (start_above old tag place small above) tids (IsLeast-least_tid place marks)

-- a word is at least the first number of its tag, so words can be the old numbers under any lesser tag
least_at_least : (tag start : ℕ) (r : Option ℕ) → (tag + 1) * TAG_SPAN ≤ start → tag * TAG_SPAN ≤ option_map_or (number_under tag) r start
least_at_least tag start None above = omega arith
least_at_least tag start (Some t) above = omega arith

pub AreAbove-words : (old : List ℕ) (tag keys : ℕ) (marks : List Mark) (words : List ℕ) → tag < TAGS → AreAbove tag old → AreWords old tag keys marks words
    → (lesser : ℕ) → lesser < tag → AreAbove lesser words
AreAbove-words old tag keys marks words small above are lesser lt place d within =
    let in_words : place < 2 * keys = omega (arith, are.two_a_key) in
    let is : get_or words place d ≡ word_of old tag marks place = get_or_default_zero words place d within ∙ are.each place in_words in
    let le : tag * TAG_SPAN ≤ word_of old tag marks place =
    least_at_least tag (start_of old place) (least_tid place marks) (start_above old tag place small above) in
    omega arith

pub least_tid-same : (place : ℕ) (ms ns : List Mark) → SameMarks ms ns → least_tid place ms ≡ least_tid place ns
least_tid-same place ms ns same = IsLeast-one place ms ns _ _ same (IsLeast-least_tid place ms) (IsLeast-least_tid place ns)

pub AreWords-same : (old : List ℕ) (tag keys : ℕ) (ms ns : List Mark) (words : List ℕ) → SameMarks ms ns → AreWords old tag keys ms words
    → AreWords old tag keys ns words
AreWords-same old tag keys ms ns words same are = record {
  two_a_key = are.two_a_key;
  each = λ place lt. are.each place lt ∙ ap (λ r. option_map_or (number_under tag) r (start_of old place)) (least_tid-same place ms ns same);
}

pub StandFor-same : (tag keys : ℕ) (ms ns : List Mark) (words : List ℕ) → SameMarks ms ns → StandFor tag keys ms words → StandFor tag keys ns words
StandFor-same tag keys ms ns words same stand = record { two_a_key = stand.two_a_key; each = λ place lt. stand.each place lt ∙ least_tid-same place ms ns same }

-- lists of words of one set of marks are equal
pub AreWords-one : (old : List ℕ) (tag keys : ℕ) (marks : List Mark) (xs ys : List ℕ) → AreWords old tag keys marks xs → AreWords old tag keys marks ys
    → xs ≡ ys
AreWords-one old tag keys marks xs ys are are' = ext_get_or 0 xs ys (are.two_a_key ∙ sym are'.two_a_key)
    (λ place lt. let in_words : place < 2 * keys = omega (arith, are.two_a_key) in are.each place in_words ∙ sym (are'.each place in_words))

-- ---- whose mark a place is for

place_key : (key k : ℕ) (writes : Bool) → 2 * k + cond writes 0 1 ≡ 2 * key → (k ≡ key) × (writes ≡ true)
place_key key k true e = (omega arith, refl)
place_key key k false e = absurd (omega arith)

place_key-read : (key k : ℕ) (writes : Bool) → 2 * k + cond writes 0 1 ≡ 2 * key + 1 → (k ≡ key) × (writes ≡ false)
place_key-read key k true e = absurd (omega arith)
place_key-read key k false e = (omega arith, refl)

pub place_of-write : (m : Mark) (key : ℕ) → place_of m ≡ 2 * key → (m.key ≡ key) × (m.writes ≡ true)
place_of-write m key = place_key key m.key m.writes

pub place_of-read : (m : Mark) (key : ℕ) → place_of m ≡ 2 * key + 1 → (m.key ≡ key) × (m.writes ≡ false)
place_of-read m key = place_key-read key m.key m.writes
