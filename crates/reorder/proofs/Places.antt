-- The TIDs of an order, and the items that they name.
use Rattle.std.proofs.Common.{◌≡◌, refl, sym, ap, ◌∙◌, ℕ, ◌+◌, ◌-◌, List, [], ◌∷◌, ◌++◌, map, reverse, length, Bool, true, false, cond, ◌&&◌, Option, Some, arith, append_assoc, length-append}
use Rattle.std.specs.List.{filter, slice_get, enumerate_from}
use Rattle.std.proofs.lemmas.List.{map-append}
use Rattle.std.proofs.lemmas.Simd.{map-map}
use Rattle.batch_rules.specs.declared.verdicts.Verdict.{Verdict}
use Rattle.batch_rules.specs.Verdicts.{goes_ahead, keeps_turn, waits}
use Rattle.batch_rules.specs.Batches.{Entry, has_ended, is_late, placed, ordered}
use Rattle.batch_rules.proofs.Lists.{map-reverse}
use Rattle.reorder.specs.Orders.{bare, bare_from, placed_tids, ordered_tids}
use Rattle.reorder.specs.Laws.{PlacedNames, OrderedNames}

-- what is read off the placed items, in the two parts of their order
pub map-placed : {X C : Type 0} (f : X → C) (verdict_of : X → Verdict) (xs : List X)
    → map f (placed verdict_of xs) ≡ reverse (map f (filter (λ x. goes_ahead (verdict_of x)) xs)) ++ map f (filter (λ x. keeps_turn (verdict_of x)) xs)
map-placed f verdict_of xs =
    let firsts = filter (λ x. goes_ahead (verdict_of x)) xs in
    let seconds = filter (λ x. keeps_turn (verdict_of x)) xs in
    map-append f (reverse firsts) seconds ∙ ap (λ l. l ++ map f seconds) (map-reverse f firsts)

-- what a filter keeps of two lists that it treats alike
kept : {A B C : Type 0} (f : A → C) (g : B → C) (b : Bool) (x : A) (y : B) (xs : List A) (ys : List B) → f x ≡ g y → map f xs ≡ map g ys
    → map f (cond b (x ∷ xs) xs) ≡ map g (cond b (y ∷ ys) ys)
kept f g true x y xs ys head tail = λ i. head i ∷ tail i
kept f g false x y xs ys head tail = tail

at_seam : {X : Type 0} (before : List X) (x : X) (xs : List X) → slice_get (before ++ x ∷ xs) (length before) ≡ Some x
at_seam [] x xs = refl
at_seam (b ∷ before) x xs = at_seam before x xs

-- the items of a list, each made into something with its number, from n on
made_from : {X Y : Type 0} → (ℕ → X → Y) → ℕ → List X → List Y
made_from make n [] = []
made_from make n (x ∷ xs) = make n x ∷ made_from make (n + 1) xs

module _ {X Y : Type 0} (make : ℕ → X → Y) (number : Y → ℕ) (shows : Y → Bool) (holds : X → Bool)
    (numbers : (n : ℕ) (x : X) → number (make n x) ≡ n) (same : (n : ℕ) (x : X) → shows (make n x) ≡ holds x) where
  -- the numbers of what the test picks name the items of which it holds
  picked : (all before xs : List X) → all ≡ before ++ xs
      → map (λ y. slice_get all (number y - 1)) (filter shows (made_from make (length before + 1) xs)) ≡ map Some (filter holds xs)
  unfolding made_from
  picked all before [] e = refl
  picked all before (x ∷ xs) e =
      let at : ℕ → Option X = λ n. slice_get all (n - 1) in
      let place : number (make (length before + 1) x) - 1 ≡ length before = omega (arith, numbers (length before + 1) x) in
      let here : at (number (make (length before + 1) x)) ≡ Some x = rw (place, e) (at_seam before x xs) in
      let tail : map (λ y. at (number y)) (filter shows (made_from make (length before + 1 + 1) xs)) ≡ map Some (filter holds xs) =
      rw (sym (length-append before (x ∷ []))) (picked all (before ++ x ∷ []) xs (e ∙ sym (append_assoc before (x ∷ []) xs))) in
      rw (same (length before + 1) x) (kept (λ y. at (number y)) Some (holds x) (make (length before + 1) x) x _ _ here tail)

-- the pairs of a list of verdicts that are read off items
enumerate_from-map : {X : Type 0} (verdict_of : X → Verdict) (n : ℕ) (xs : List X)
    → enumerate_from n (map verdict_of xs) ≡ made_from (λ n x. (n, verdict_of x)) n xs
unfolding made_from
enumerate_from-map verdict_of n [] = refl
enumerate_from-map verdict_of n (x ∷ xs) = ap (λ l. (n, verdict_of x) ∷ l) (enumerate_from-map verdict_of (n + 1) xs)

pub placed_names : {X : Type 0} (verdict_of : X → Verdict) (list : List X) → PlacedNames verdict_of list
placed_names {X} verdict_of list =
    let at : ℕ → Option X = λ tid. slice_get list (tid - 1) in
    let pairs = enumerate_from 1 (map verdict_of list) in
    let part : (p : Verdict → Bool) → map (λ q. at q.0) (filter (λ q. p q.1) pairs) ≡ map Some (filter (λ x. p (verdict_of x)) list) =
    λ p. rw (enumerate_from-map verdict_of 1 list)
    (picked (λ n x. (n, verdict_of x)) (λ q. q.0) (λ q. p q.1) (λ x. p (verdict_of x)) (λ n x. refl) (λ n x. refl) list [] list refl) in
    record {
      each = map-map at (λ q. q.0) (placed (λ q. q.1) pairs) ∙ map-placed (λ q. at q.0) (λ q. q.1) pairs
          ∙ (λ i. reverse (part goes_ahead i) ++ part keeps_turn i) ∙ sym (map-placed Some verdict_of list);
    }

-- ---- with those that ended late

bare_from-map : {X : Type 0} (verdict_of : X → Verdict) (ended_of : X → Bool) (n : ℕ) (xs : List X)
    → bare_from n (map verdict_of xs) (map ended_of xs) ≡ made_from (λ n x. bare n (verdict_of x) (ended_of x)) n xs
unfolding made_from
bare_from-map verdict_of ended_of n [] = refl
bare_from-map verdict_of ended_of n (x ∷ xs) = ap (λ l. bare n (verdict_of x) (ended_of x) ∷ l) (bare_from-map verdict_of ended_of (n + 1) xs)

is_late-bare : {K Q A : Type 0} (n : ℕ) (e : Entry K Q A) (ended : Bool) → has_ended e.fate ≡ ended → is_late (bare n e.judged.verdict ended) ≡ is_late e
is_late-bare n e true same = ap (λ b. waits e.judged.verdict && b) (sym same)
is_late-bare n e false same = ap (λ b. waits e.judged.verdict && b) (sym same)

pub ordered_names : {K Q A : Type 0} (entries : List (Entry K Q A)) → OrderedNames entries
ordered_names {K} {Q} {A} entries =
    let at : ℕ → Option (Entry K Q A) = λ tid. slice_get entries (tid - 1) in
    let verdict_of : Entry K Q A → Verdict = λ e. e.judged.verdict in
    let ended_of : Entry K Q A → Bool = λ e. has_ended e.fate in
    let bares = bare_from 1 (map verdict_of entries) (map ended_of entries) in
    let part : (p : Verdict → Bool) → map (λ e. at e.judged.tid) (filter (λ e. p e.judged.verdict) bares) ≡ map Some
    (filter (λ e. p e.judged.verdict) entries) =
    λ p. rw (bare_from-map verdict_of ended_of 1 entries)
    (picked (λ n e. bare n (verdict_of e) (ended_of e)) (λ e. e.judged.tid) (λ e. p e.judged.verdict) (λ e. p e.judged.verdict) (λ n e. refl)
    (λ n e. refl) entries [] entries refl) in
    let late : map (λ e. at e.judged.tid) (filter is_late bares) ≡ map Some (filter is_late entries) =
    rw (bare_from-map verdict_of ended_of 1 entries)
    (picked (λ n e. bare n (verdict_of e) (ended_of e)) (λ e. e.judged.tid) is_late is_late (λ n e. refl)
    (λ n e. is_late-bare n e (ended_of e) refl) entries [] entries refl) in
    record {
      each = map-map at (λ e. e.judged.tid) (ordered bares) ∙ map-append (λ e. at e.judged.tid) (placed (λ e. e.judged.verdict) bares) (filter is_late bares)
          ∙ (λ i. (map-placed (λ e. at e.judged.tid) (λ e. e.judged.verdict) bares ∙ (λ j. reverse (part goes_ahead j) ++ part keeps_turn j)
          ∙ sym (map-placed Some verdict_of entries)) i ++ late i)
          ∙ sym (map-append Some (placed verdict_of entries) (filter is_late entries));
    }

-- ---- the order as it is made: the placed ones, and then the late ones

same_picks : (p : Verdict → Bool) (n : ℕ) (verdicts : List Verdict) (ended : List Bool) → length ended ≡ length verdicts
    → map (λ e. e.judged.tid) (filter (λ e. p e.judged.verdict) (bare_from n verdicts ended)) ≡ map (λ q. q.0) (filter (λ q. p q.1) (enumerate_from n verdicts))
same_picks p n [] ended e = refl
same_picks p n (verdict ∷ verdicts) [] e = cc
same_picks p n (verdict ∷ verdicts) (end ∷ ended) e =
    kept (λ e. e.judged.tid) (λ q. q.0) (p verdict) (bare n verdict end) (n, verdict) _ _ refl (same_picks p (n + 1) verdicts ended (omega (arith, e)))

pub ordered_tids-made : (verdicts : List Verdict) (ended : List Bool) → length ended ≡ length verdicts
    → ordered_tids verdicts ended ≡ placed_tids verdicts ++ map (λ e. e.judged.tid) (filter is_late (bare_from 1 verdicts ended))
ordered_tids-made verdicts ended e =
    let bares = bare_from 1 verdicts ended in
    let number = map-placed (λ e. e.judged.tid) (λ e. e.judged.verdict) bares in
    let same : map (λ e. e.judged.tid) (placed (λ e. e.judged.verdict) bares) ≡ placed_tids verdicts =
    number ∙ (λ i. reverse (same_picks goes_ahead 1 verdicts ended e i) ++ same_picks keeps_turn 1 verdicts ended e i)
    ∙ sym (map-placed (λ q. q.0) (λ q. q.1) (enumerate_from 1 verdicts)) in
    map-append (λ e. e.judged.tid) (placed (λ e. e.judged.verdict) bares) (filter is_late bares)
    ∙ ap (λ l. l ++ map (λ e. e.judged.tid) (filter is_late bares)) same
