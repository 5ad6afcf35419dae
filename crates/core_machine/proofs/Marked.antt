-- The words of any legal list of mark events are those of the batch's marks.
use Rattle.std.proofs.Common.{◌≡◌, ℕ, zero, suc, ◌+◌, ◌-◌, ◌*◌, ◌<◌, ◌≤◌, ◌⊎◌, ⊎_elim, inl, inr, List, [], ◌∷◌, length, map, Bool, true, false, cond, Some, None, Option, refl, sym, ap, ◌∙◌, subst, Ordering, arith, Contains}
use Rattle.std.specs.Prelude.{slice_get, slice_index, slice_index_or, All}
use Rattle.std.specs.Ordering.{nat_cmp}
use Rattle.std.specs.Cmp.{IsTotalOrder, tied_itself}
use Rattle.std.specs.FinMap.{FinMap, IsAntisymmetric}
use Rattle.std.specs.Ordering.{is_eq}
use Rattle.std.proofs.lemmas.Cmp.{nat_cmp_total}
use Rattle.std.proofs.lemmas.List.Elements.{All-contains}
use Rattle.std.proofs.lemmas.Option.{get_or_from_slice_get}
use Rattle.aria_base.specs.Reserved.{start_of, AreAbove, AreWords, HasTid, IsMarked, place_of}
use Rattle.aria_base.specs.declared.limits.TheConstants.{MOST_REQUESTS, TAGS}
use Rattle.aria_base.specs.declared.marks.Mark.{Mark}
use Rattle.aria_base.proofs.Reserved.{word_of-least, start_above, place_of-write, place_of-read}
use Rattle.batch_rules.specs.declared.verdicts.Rule.{Rule}
use Rattle.batch_rules.specs.Numberings.{IsOneToOneOn}
use Rattle.batch_rules.specs.Touches.{is_among}
use Rattle.batch_rules.specs.Trees.{Tree}
use Rattle.batch_rules.specs.Batches.{Carrier, Judged, judged, touching, written, on_start}
use Rattle.batch_rules.proofs.Maps.{same_key}
use Rattle.dep_rules.specs.Numberings.{IsNumbered}
use Rattle.dep_rules.specs.Sheets.{Sheet, IsSheet, AreMarksOf, reads_at, writes_at}
use Rattle.core_machine.specs.declared.events.Event.{Event}
use Rattle.core_machine.specs.Events.{SoFar, at_first, all_along, IsLegal}
use Rattle.core_machine.specs.Machines.{Held, begun, steps, AreFirst}
use Rattle.core_machine.specs.Marks.{place, IsTouched, AreHeld, MarksTell}
use Rattle.core_machine.proofs.Listed.{judged_at, judged_has, get_below, at_among, Once}
use Rattle.core_machine.proofs.Keeps.{Touches, Keeps, all_marked, kept_all_along, at_begin, rows_once}
use Rattle.core_machine.proofs.Taking.{get_there}

from_map : {K : Type 0} (f : K → ℕ) (ks : List K) (n : ℕ) → Contains (map f ks) n → (p : ℕ) × (k : K) × (slice_get ks p ≡ Some k) × (f k ≡ n)
from_map f [] n (i, lt, e) = absurd (omega arith)
from_map f (k ∷ ks) n (zero, lt, e) = (0, k, refl, e)
from_map f (k ∷ ks) n (suc i, lt, e) = let rest = from_map f ks n (i, omega arith, e) in (suc rest.0, rest.1, rest.2, rest.3)

to_map : {K Y : Type 0} (f : K → Y) (ks : List K) (p : ℕ) (k : K) → slice_get ks p ≡ Some k → Contains (map f ks) (f k)
to_map f [] p k e = cc
to_map f (x ∷ xs) zero k e = let same : x ≡ k = cc in (0, omega arith, ap f same)
to_map f (x ∷ xs) (suc p) k e = let rest = to_map f xs p k e in let lt = rest.1 in (suc rest.0, omega arith, rest.2)

index_map : {X : Type 0} (g : X → List ℕ) (xs : List X) (n : ℕ) (x : X) → slice_get xs n ≡ Some x → slice_index_or (map g xs) n [] ≡ g x
index_map g [] n x e = cc
index_map g (y ∷ ys) zero x e = let same : y ≡ x = cc in ap g same
index_map g (y ∷ ys) (suc n) x e = index_map g ys n x e

length_map : {X Y : Type 0} (f : X → Y) (xs : List X) → length (map f xs) ≡ length xs
length_map f [] = refl
length_map f (x ∷ xs) = ap suc (length_map f xs)

mark_at : (w : Bool) (m : Mark) (key : ℕ) → place_of m ≡ place w key → (m.key ≡ key) × (m.writes ≡ w)
mark_at true m key e = place_of-write m key e
mark_at false m key e = place_of-read m key e

place_is : (w : Bool) (tid key : ℕ) → place_of (record { tid = tid; key = key; writes = w }) ≡ place w key
place_is true tid key = omega arith
place_is false tid key = refl

place_below : (w : Bool) (key keys : ℕ) → key < keys → place w key < 2 * keys
place_below true key keys lt = omega arith
place_below false key keys lt = omega arith

abbrev sheet_side : Bool → Sheet → ℕ → List ℕ
sheet_side true sheet tid = writes_at sheet tid
sheet_side false sheet tid = reads_at sheet tid

side_of_mark : (w b : Bool) (sheet : Sheet) (tid : ℕ) → b ≡ w → cond b (writes_at sheet tid) (reads_at sheet tid) ≡ sheet_side w sheet tid
side_of_mark true b sheet tid e = ap (λ b. cond b (writes_at sheet tid) (reads_at sheet tid)) e
side_of_mark false b sheet tid e = ap (λ b. cond b (writes_at sheet tid) (reads_at sheet tid)) e

module _ {K V Q A : Type 0} {R : K → K → Ordering} (o : IsTotalOrder R) (anti : IsAntisymmetric R) (is_done : A → Bool) (tree : Q → Tree K V A) (rule : Rule)
    (start : FinMap R V) (list : List Q)
    (number : K → ℕ) (keys : List K) (sheet : Sheet) (old : List ℕ) (tag : ℕ) (marks : List Mark) (words : List ℕ) where
  abbrev by : Carrier K V A Q
  by = on_start is_done tree start

  abbrev first : Bool → K → ℕ
  first writes k = start_of old (place writes (number k))

  abbrev sides : Bool → Q → List K
  sides true q = written by q
  sides false q = by.reads q

  abbrev touches : Bool → K → ℕ → Type 0
  touches = Touches o anti by rule tag start list first

  module _ (few : length list ≤ MOST_REQUESTS) (small : tag < TAGS) (above_old : AreAbove tag old) (is : IsSheet sheet) (one : IsOneToOneOn R keys number)
      (numbered : IsNumbered R by.reads (written by) keys number list sheet) (are : AreMarksOf sheet marks)
      (are_words : AreWords old tag sheet.keys marks words) where
    above : AreFirst tag first
    above writes k = start_above old tag (place writes (number k)) small above_old

    once : (n : ℕ) (q : Q) → slice_get list n ≡ Some q → Once o anti (by.rows q)
    once = rows_once o anti is_done tree rule start list tag first

    as_many : length sheet.reads ≡ length list
    as_many = ap (λ xs. length xs) numbered.reads_are ∙ length_map (λ q. map number (by.reads q)) list

    side_numbered : (w : Bool) (t : ℕ) (q : Q) → slice_get list (t - 1) ≡ Some q → sheet_side w sheet t ≡ map number (sides w q)
    side_numbered true t q e = ap (λ xs. slice_index_or xs (t - 1) []) numbered.writes_are ∙ index_map (λ q. map number (written by q)) list (t - 1) q e
    side_numbered false t q e = ap (λ xs. slice_index_or xs (t - 1) []) numbered.reads_are ∙ index_map (λ q. map number (by.reads q)) list (t - 1) q e

    -- a key of a request is among the keys
    of_request : (n : ℕ) (q : Q) → slice_get list n ≡ Some q → Contains list q
    of_request n q e = (n, get_below list n q e, get_or_from_slice_get list n q q e)

    key_among : (w : Bool) (n p : ℕ) (q : Q) (k : K) → slice_get list n ≡ Some q → slice_get (sides w q) p ≡ Some k → is_among R keys k ≡ true
    key_among true n p q k e f = All-contains (λ k. is_among R keys k ≡ true) (sides true q) k
        (All-contains (λ q. All (λ k. is_among R keys k ≡ true) (written by q)) list q numbered.writes_among (of_request n q e))
        (p, get_below (sides true q) p k f, get_or_from_slice_get (sides true q) p k k f)
    key_among false n p q k e f = All-contains (λ k. is_among R keys k ≡ true) (sides false q) k
        (All-contains (λ q. All (λ k. is_among R keys k ≡ true) (by.reads q)) list q numbered.reads_among (of_request n q e))
        (p, get_below (sides false q) p k f, get_or_from_slice_get (sides false q) p k k f)

    -- one number, one key
    one_key : (x y : K) → is_among R keys x ≡ true → is_among R keys y ≡ true → number x ≡ number y → x ≡ y
    one_key x y p q e = same_key anti x y (sym (one x y p q) ∙ ap is_eq (ap (nat_cmp (number x)) (sym e) ∙ tied_itself nat_cmp_total (number x)))

    -- a mark at the key's place is that of a request that touches it
    to_touch : (w : Bool) (k : K) → is_among R keys k ≡ true → (t : ℕ) → IsMarked (place w (number k)) marks t → touches w k t
    to_touch w k among t (m, has, at, same) =
        let parts = mark_at w m (number k) at in
        let asked = (are m).0 has in
        let low : 1 ≤ m.tid = asked.0.0 in let high : m.tid ≤ length sheet.reads = asked.0.1 in let many = as_many in
        let there = get_there list (t - 1) (omega (arith, low, high, many, same)) in
        let q : Q = there.0 in
        let here : Contains (map number (sides w q)) (number k) =
        subst (λ xs. Contains xs (number k)) (side_of_mark w m.writes sheet t parts.1 ∙ side_numbered w t q there.1)
        (subst (λ n. Contains (cond m.writes (writes_at sheet t) (reads_at sheet t)) n) parts.0
        (subst (λ t. Contains (cond m.writes (writes_at sheet t) (reads_at sheet t)) m.key) same asked.1)) in
        let found = from_map number (sides w q) (number k) here in
        let equal : found.1 ≡ k = one_key found.1 k (key_among w (t - 1) found.0 q found.1 there.1 found.2) among found.3 in
        let has_judged = judged_has (touching by R) rule [] list (t - 1) q there.1 in
        touch w k t q has_judged.0 (omega (arith, low, same)) has_judged.1 has_judged.2 found.0 (found.2 ∙ ap (λ (k : K). Some k) equal)
      where
        touch : (w : Bool) (k : K) (t : ℕ) (q : Q) (d : Judged Q) → 1 ≤ t → slice_get (judged (touching by R) rule [] list) (t - 1) ≡ Some d → d.request ≡ q
            → (p : ℕ) → slice_get (sides w q) p ≡ Some k → touches w k t
        touch true k t q d low e same p f = (d, (low, e), (p, ap (λ q. slice_get (written by q) p) same ∙ f))
        touch false k t q d low e same p f = (d, (low, e), (p, ap (λ q. slice_get (by.reads q) p) same ∙ f))

    marked : (w : Bool) (k : K) (t : ℕ) (d : Judged Q) (p : ℕ) → 1 ≤ t → slice_get list (t - 1) ≡ Some d.request → slice_get (sides w d.request) p ≡ Some k
        → IsMarked (place w (number k)) marks t
    marked w k t d p low e f =
        let m : Mark = record { tid = t; key = number k; writes = w } in
        let below = get_below list (t - 1) d.request e in let many = as_many in
        let stands : Contains (sheet_side w sheet t) (number k) =
        subst (λ xs. Contains xs (number k)) (sym (side_numbered w t d.request e)) (to_map number (sides w d.request) p k f) in (
          m,
          (are m).1 ((low, omega (arith, below, many)), subst (λ xs. Contains xs (number k)) (sym (side_of_mark w w sheet t refl)) stands),
          place_is w t (number k),
          refl,
        )

    from_touch : (w : Bool) (k : K) (t : ℕ) → touches w k t → IsMarked (place w (number k)) marks t
    from_touch true k t (d, s, (p, e)) = marked true k t d p s.0 (judged_at (touching by R) rule [] list (t - 1) d s.1).0 e
    from_touch false k t (d, s, (p, e)) = marked false k t d p s.0 (judged_at (touching by R) rule [] list (t - 1) d s.1).0 e

    tids : All HasTid marks
    tids = All-from_contains marks (λ m has. let asked = (are m).0 has in let low = asked.0.0 in let high = asked.0.1 in let many = as_many in
        (low, omega (arith, high, many, few)))
      where
        All-from_contains : (ms : List Mark) → ((m : Mark) → Contains ms m → HasTid m) → All HasTid ms
        All-from_contains ms each n d below = each (slice_index_or ms n d) (n, below, again ms n d (slice_index_or ms n d) below)
          where
            again : (ms : List Mark) (n : ℕ) (d e : Mark) → n < length ms → slice_index_or ms n e ≡ slice_index_or ms n d
            again [] n d e lt = absurd (omega arith)
            again (m ∷ ms) zero d e lt = refl
            again (m ∷ ms) (suc n) d e lt = again ms n d e (omega arith)

    -- the keys of a request have numbers of the sheet
    read_below : (n p : ℕ) (q : Q) (k : K) → slice_get list n ≡ Some q → slice_get (by.reads q) p ≡ Some k → number k < sheet.keys
    read_below n p q k e f = All-contains (λ k. k < sheet.keys) (map number (by.reads q)) (number k)
        (All-contains (λ xs. All (λ k. k < sheet.keys) xs) sheet.reads (map number (by.reads q)) is.reads_below
        (subst (λ xs. Contains xs (map number (by.reads q))) (sym numbered.reads_are) (to_map (λ q. map number (by.reads q)) list n q e)))
        (to_map number (by.reads q) p k f)

    written_below : (n p : ℕ) (q : Q) (k : K) → slice_get list n ≡ Some q → slice_get (written by q) p ≡ Some k → number k < sheet.keys
    written_below n p q k e f = All-contains (λ k. k < sheet.keys) (map number (written by q)) (number k)
        (All-contains (λ xs. All (λ k. k < sheet.keys) xs) sheet.writes (map number (written by q)) is.writes_below
        (subst (λ xs. Contains xs (map number (written by q))) (sym numbered.writes_are) (to_map (λ q. map number (written by q)) list n q e)))
        (to_map number (written by q) p k f)

    touched : (k : K) → IsTouched R by list k → (is_among R keys k ≡ true) × (number k < sheet.keys)
    touched k (n, q, e, has) = ⊎_elim
        (λ read. let at = at_among o anti (by.reads q) k read in (key_among false n at.0 q k e at.1, read_below n at.0 q k e at.1))
        (λ wrote. let at = at_among o anti (written by q) k wrote in (key_among true n at.0 q k e at.1, written_below n at.0 q k e at.1))
        has

    abbrev word_on : Bool → Held R V Q → K → ℕ
    word_on true h = h.writers
    word_on false h = h.readers

    word_is : (so : SoFar) (h : Held R V Q) → Keeps o anti by rule tag start list first so h → 1 < so.phase → (w : Bool) (k : K) → IsTouched R by list k
        → word_on w h k ≡ slice_index words (place w (number k))
    word_is so h keeps late true k t = let known = touched k t in
        word_of-least old tag (place true (number k)) marks (h.writers k) small above_old tids
        (λ i m. all_marked o anti by rule tag start list first so h keeps late true k i (to_touch true k known.0 i m))
        (⊎_elim (λ e. inl e) (λ by_one. inr (by_one.0, from_touch true k by_one.0 by_one.1, by_one.2)) (keeps.words true k))
        ∙ sym (are_words.each (place true (number k)) (place_below true (number k) sheet.keys known.1))
    word_is so h keeps late false k t = let known = touched k t in
        word_of-least old tag (place false (number k)) marks (h.readers k) small above_old tids
        (λ i m. all_marked o anti by rule tag start list first so h keeps late false k i (to_touch false k known.0 i m))
        (⊎_elim (λ e. inl e) (λ by_one. inr (by_one.0, from_touch false k by_one.0 by_one.1, by_one.2)) (keeps.words false k))
        ∙ sym (are_words.each (place false (number k)) (place_below false (number k) sheet.keys known.1))

    held_words : (es : List Event) → IsLegal R by rule list at_first es → 1 < (all_along at_first es).phase
        → AreHeld R by list number words (steps by rule tag start list first (begun by rule tag start list first) es)
    held_words es legal late =
        let keeps = kept_all_along o anti by rule tag start list first few above once es at_first _
        (at_begin o anti by rule tag start list first few above once) legal in
        record { writers = word_is _ _ keeps late true; readers = word_is _ _ keeps late false }

  pub marks_law : (es : List Event) → MarksTell is_done tree rule start list number keys sheet old tag marks words es
  marks_law es few small above_old is one numbered are are_words legal late = held_words few small above_old is one numbered are are_words es legal late
