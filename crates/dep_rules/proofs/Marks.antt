-- Words that stand for the least TIDs of a batch's marks tell the least requests that have each key.
use Rattle.std.proofs.Common.{◌≡◌, refl, ap, sym, subst, ◌∙◌, ℕ, ◌+◌, ◌*◌, ◌-◌, ◌<◌, ◌≤◌, inl, inr, Bool, true, false, cond, List, [], Option, Some, None, Contains, length, arith}
use Rattle.std.specs.Prelude.{IsSomeAnd, slice_get, slice_index_or}
use Rattle.std.specs.Ordering.{nat_cmp}
use Rattle.std.specs.FinMap.{nat_cmp-IsAntisymmetric}
use Rattle.std.proofs.lemmas.Bool.{cases_lt}
use Rattle.std.proofs.lemmas.Cmp.{nat_cmp_total, eq_by_cmp_equiv}
use Rattle.std.proofs.lemmas.Map.Views.{Contains-from_any, list_any-from_Contains}
use Rattle.std.proofs.lemmas.Option.{slice_get-get_or}
use Rattle.aria_base.specs.declared.marks.Mark.{Mark}
use Rattle.aria_base.specs.Reserved.{StandFor, least_tid, place_of, IsMarked, IsLeast}
use Rattle.aria_base.proofs.Reserved.{IsLeast-least_tid, place_of-write, place_of-read}
use Rattle.batch_rules.specs.Laws.{IsLeast as IsLeastOf}
use Rattle.batch_rules.specs.Touches.{is_among}
use Rattle.batch_rules.specs.Verdicts.{least}
use Rattle.batch_rules.proofs.Causes.{least-is}
use Rattle.batch_rules.proofs.Maps.{same_key}
use Rattle.dep_rules.specs.Sheets.{Sheet, IsSheet, IsTid, AreMarksOf, reads_at, writes_at}
use Rattle.dep_rules.specs.Words.{Tell, place_on}
use Rattle.dep_rules.specs.declared.decisions.Side.{Side}
use Rattle.dep_rules.specs.declared.decisions.Side.TheVariants as side

abbrev lists_on : Side → Sheet → List (List ℕ)
lists_on side.Reads sheet = sheet.reads
lists_on side.Writes sheet = sheet.writes

abbrev writes_on : Side → Bool
writes_on side.Reads = false
writes_on side.Writes = true

mark_on : (s : Side) (m : Mark) (key : ℕ) → place_of m ≡ place_on s key → (m.key ≡ key) × (m.writes ≡ writes_on s)
mark_on side.Reads m key = place_of-read m key
mark_on side.Writes m key = place_of-write m key

place_is : (s : Side) (tid key : ℕ) → place_of (record { tid = tid; key = key; writes = writes_on s }) ≡ place_on s key
place_is side.Reads tid key = refl
place_is side.Writes tid key = omega arith

side_is : (s : Side) (sheet : Sheet) (tid : ℕ) → cond (writes_on s) (writes_at sheet tid) (reads_at sheet tid) ≡ slice_index_or (lists_on s sheet) (tid - 1) []
side_is side.Reads sheet tid = refl
side_is side.Writes sheet tid = refl

as_many : (s : Side) (sheet : Sheet) → IsSheet sheet → length (lists_on s sheet) ≡ length sheet.reads
as_many side.Reads sheet is = refl
as_many side.Writes sheet is = sym is.same

module _ (sheet : Sheet) (is : IsSheet sheet) (marks : List Mark) (are : AreMarksOf sheet marks) (s : Side) (key : ℕ) where
  abbrev Has : ℕ → Type 0
  Has t = IsSomeAnd (slice_get (lists_on s sheet) (t - 1)) (λ list. is_among nat_cmp list key ≡ true)

  -- the requests that have the key are those with a mark on its place
  is_marked : (t : ℕ) → 1 ≤ t → t < length (lists_on s sheet) + 1 → Has t → IsMarked (place_on s key) marks t
  is_marked t first last has =
      let many = as_many s sheet is in
      let there = slice_get-get_or (lists_on s sheet) (t - 1) [] (omega (arith, last, first)) in
      let among = Contains-from_any (same_key nat_cmp-IsAntisymmetric) key _ (subst (λ o. IsSomeAnd o (λ list. is_among nat_cmp list key ≡ true)) there has) in (
        record { tid = t; key = key; writes = writes_on s },
        (are _).1 ((first, omega (arith, many, last)), subst (λ l. Contains l key) (sym (side_is s sheet t)) among),
        place_is s t key,
        refl,
      )

  marked_is : (t : ℕ) → IsMarked (place_on s key) marks t → (1 ≤ t) × (t < length (lists_on s sheet) + 1) × Has t
  marked_is t (m, stands, at, tid) =
      let many = as_many s sheet is in
      let on = mark_on s m key at in
      let of = (are m).0 stands in
      let is_tid : IsTid sheet t = subst (IsTid sheet) tid of.0 in
      let first = is_tid.0 in
      let last = is_tid.1 in
      let within : t - 1 < length (lists_on s sheet) = omega (arith, many, first, last) in
      let among : Contains (slice_index_or (lists_on s sheet) (t - 1) []) key =
      subst (λ t. Contains (slice_index_or (lists_on s sheet) (t - 1) []) key) tid (subst (Contains (slice_index_or (lists_on s sheet) (m.tid - 1) [])) on.0
      (subst (λ l. Contains l m.key) (ap (λ b. cond b (writes_at sheet m.tid) (reads_at sheet m.tid)) on.1 ∙ side_is s sheet m.tid) of.1)) in (
        first,
        omega (arith, within),
        subst (λ o. IsSomeAnd o (λ list. is_among nat_cmp list key ≡ true))
            (sym (slice_get-get_or (lists_on s sheet) (t - 1) [] within)) (list_any-from_Contains (eq_by_cmp_equiv nat_cmp_total) key _ among),
      )

  one : (r q : Option ℕ) → IsLeast (place_on s key) marks r → IsLeastOf (λ list. is_among nat_cmp list key) (lists_on s sheet) q → r ≡ q
  one None None m h = refl
  one None (Some j) m h = absurd (m j (is_marked j h.0.low h.0.high h.1))
  one (Some t) None m h = let has = marked_is t m.0 in absurd (h t has.0 has.1 has.2)
  one (Some t) (Some j) m h =
      let has = marked_is t m.0 in
      let low : t ≤ j = m.1 j (is_marked j h.0.low h.0.high h.1) in
      let high : j ≤ t = elim (cases_lt t j) as (λ _. j ≤ t) [ inl less ↦ absurd (h.0.before t has.0 less has.2) | inr ge ↦ ge ] in
      let e : t ≡ j = omega arith in ap Some e

  pub least_marked : least_tid (place_on s key) marks ≡ least (λ list. is_among nat_cmp list key) (lists_on s sheet)
  least_marked = one _ _ (IsLeast-least_tid (place_on s key) marks) (least-is (λ list. is_among nat_cmp list key) (lists_on s sheet))

pub marks_tell : (sheet : Sheet) (tag : ℕ) (words : List ℕ) (marks : List Mark) → IsSheet sheet → AreMarksOf sheet marks → StandFor tag sheet.keys marks words
    → Tell sheet tag words
marks_tell sheet tag words marks is are stand = record {
  two_a_key = stand.two_a_key;
  writers = λ key below. stand.each (2 * key) (omega (arith, below)) ∙ least_marked sheet is marks are side.Writes key;
  readers = λ key below. stand.each (2 * key + 1) (omega (arith, below)) ∙ least_marked sheet is marks are side.Reads key;
}
