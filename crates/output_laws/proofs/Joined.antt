-- The lines of a text with more behind it, and a course as a fold over them.
use Rattle.std.proofs.Common.{◌≡◌, ◌⊎◌, inl, inr, ◌∙◌, sym, ap, refl, ℕ, suc, ◌<◌, Bool, true, false, cond, not, ◌==◌, List, [], ◌∷◌, ◌++◌, length, map, Option, Some, None, arith, append_assoc, append-nil}
use Rattle.std.specs.Prelude.{codes, option_to_list}
use Rattle.std.specs.List.{slice_split, onto_first}
use Rattle.std.proofs.lemmas.Bool.{eqb-true, ne_eqb}
use Rattle.std.proofs.lemmas.List.{map-append}
use Rattle.std.proofs.lemmas.List.Splits.{length-slice_split}
use Rattle.script_course.specs.Courses.{Course, Goes, Stops, told_whole, with_fault, with_last, with_line, with_lines}
use Rattle.script_text.proofs.Scans.{whole}
use Rattle.script_text.specs.Laws.{filled, lines_of}
use Rattle.script_text.specs.Lines.{Feed, blank, last_line, scan, unreturned}
use Rattle.script_text.specs.declared.refusals.Refusal.{Refusal}
use Rattle.output_laws.specs.Outputs.{ended, ends_open}

-- ---- lines

abbrev parts_of : List ℕ → List (List ℕ)
parts_of text = slice_split (λ b. b == 10) text

some_parts : (text : List ℕ) → 0 < length (parts_of text)
some_parts text = omega (arith, length-slice_split (λ b. b == 10) text)

onto_more : (b : Bool) (x : ℕ) (parts more : List (List ℕ)) → 0 < length parts
    → cond b ([] ∷ (parts ++ more)) (onto_first x (parts ++ more)) ≡ cond b ([] ∷ parts) (onto_first x parts) ++ more
onto_more true x parts more some = refl
onto_more false x [] more some = absurd (omega (arith, some))
onto_more false x (p ∷ parts) more some = refl

split_more : (xs ys : List ℕ) → parts_of (xs ++ 10 ∷ ys) ≡ parts_of xs ++ parts_of ys
split_more [] ys = refl
split_more (x ∷ xs) ys =
    ap (λ (l : List (List ℕ)). cond (x == 10) ([] ∷ l) (onto_first x l)) (split_more xs ys)
    ∙ onto_more (x == 10) x (parts_of xs) (parts_of ys) (some_parts xs)

filled_more : (parts more : List (List ℕ)) → 0 < length more → filled (parts ++ more) ≡ parts ++ filled more
filled_more [] more some = refl
filled_more (p ∷ []) [] some = absurd (omega (arith, some))
filled_more (p ∷ []) (m ∷ more) some = refl
filled_more (p ∷ q ∷ parts) more some = ap (λ (l : List (List ℕ)). p ∷ l) (filled_more (q ∷ parts) more some)

-- what stands before a line feed, and what stands behind it
lines_more : (front rest : List ℕ) → lines_of (front ++ 10 ∷ rest) ≡ map unreturned (parts_of front) ++ lines_of rest
lines_more front rest =
    ap (λ (l : List (List ℕ)). map unreturned (filled l)) (split_more front rest)
    ∙ ap (map unreturned) (filled_more (parts_of front) (parts_of rest) (some_parts rest))
    ∙ map-append unreturned (parts_of front) (filled (parts_of rest))

-- a line that no line feed ends is one
filled_onto : (b : Bool) (x : ℕ) (parts : List (List ℕ)) → 0 < length parts → filled parts ≡ parts
    → filled (cond b ([] ∷ parts) (onto_first x parts)) ≡ cond b ([] ∷ parts) (onto_first x parts)
filled_onto b x [] some e = absurd (omega (arith, some))
filled_onto true x (p ∷ parts) some e = ap (λ (l : List (List ℕ)). [] ∷ l) e
filled_onto false x (p ∷ []) some e = ap (λ (b : Bool). cond b [] ((x ∷ p) ∷ [])) (ne_eqb (suc (length p)) 0 (omega arith))
filled_onto false x (p ∷ q ∷ parts) some e =
    let rest : filled (q ∷ parts) ≡ q ∷ parts = cc in
    ap (λ (l : List (List ℕ)). (x ∷ p) ∷ l) rest

one_filled : (b : Bool) (x : ℕ) → not b ≡ true → filled (cond b ([] ∷ [] ∷ []) ((x ∷ []) ∷ [])) ≡ cond b ([] ∷ [] ∷ []) ((x ∷ []) ∷ [])
one_filled true x h = cc
one_filled false x h = refl

open_filled : (text : List ℕ) → ends_open text ≡ true → filled (parts_of text) ≡ parts_of text
open_filled [] h = cc
open_filled (b ∷ []) h = one_filled (b == 10) b h
open_filled (b ∷ c ∷ bs) h = filled_onto (b == 10) b (parts_of (c ∷ bs)) (some_parts (c ∷ bs)) (open_filled (c ∷ bs) h)

-- and where none is open, a line feed stands last
shut_by : (text : List ℕ) → ends_open text ≡ false → (text ≡ []) ⊎ ((front : List ℕ) × (text ≡ front ++ 10 ∷ []))
shut_by [] h = inl refl
shut_by (b ∷ []) h = inr ([], by (b == 10) refl h)
  where
    by : (t : Bool) → (b == 10) ≡ t → not t ≡ false → b ∷ [] ≡ 10 ∷ []
    by true e k = ap (λ (x : ℕ). x ∷ []) (eqb-true b 10 e)
    by false e k = cc
shut_by (b ∷ c ∷ bs) h = more (shut_by (c ∷ bs) h)
  where
    more : (c ∷ bs ≡ []) ⊎ ((front : List ℕ) × (c ∷ bs ≡ front ++ 10 ∷ [])) → (b ∷ c ∷ bs ≡ []) ⊎ ((front : List ℕ) × (b ∷ c ∷ bs ≡ front ++ 10 ∷ []))
    more (inl e) = cc
    more (inr e) = inr (b ∷ e.0, ap (λ (l : List ℕ). b ∷ l) e.1)

shut_lines : (front rest : List ℕ) → lines_of ((front ++ 10 ∷ []) ++ rest) ≡ lines_of (front ++ 10 ∷ []) ++ lines_of rest
shut_lines front rest =
    ap lines_of (append_assoc front (10 ∷ []) rest)
    ∙ lines_more front rest
    ∙ ap (λ (l : List (List ℕ)). l ++ lines_of rest) (sym (lines_more front [] ∙ append-nil (map unreturned (parts_of front))))

-- the lines of a text stand before those of what follows on it
pub ended_lines : (text rest : List ℕ) → lines_of (ended text ++ rest) ≡ lines_of text ++ lines_of rest
ended_lines text rest = by (ends_open text) refl
  where
    by : (b : Bool) → ends_open text ≡ b → lines_of (cond b (text ++ codes "\n") text ++ rest) ≡ lines_of text ++ lines_of rest
    by true e =
        ap lines_of (append_assoc text (10 ∷ []) rest)
        ∙ lines_more text rest
        ∙ ap (λ (l : List (List ℕ)). map unreturned l ++ lines_of rest) (sym (open_filled text e))
    by false e = shut (shut_by text e)
      where
        shut : (text ≡ []) ⊎ ((front : List ℕ) × (text ≡ front ++ 10 ∷ [])) → lines_of (text ++ rest) ≡ lines_of text ++ lines_of rest
        shut (inl none) = ap (λ (t : List ℕ). lines_of (t ++ rest)) none ∙ ap (λ (t : List ℕ). lines_of t ++ lines_of rest) (sym none)
        shut (inr last) =
            ap (λ (t : List ℕ). lines_of (t ++ rest)) last.1 ∙ shut_lines last.0 rest ∙ ap (λ (t : List ℕ). lines_of t ++ lines_of rest) (sym last.1)

-- a line of its own stands before those of what follows on it
pub line_first : (line rest : List ℕ) → parts_of line ≡ line ∷ [] → unreturned line ≡ line → lines_of (line ++ 10 ∷ rest) ≡ line ∷ lines_of rest
line_first line rest one same =
    lines_more line rest ∙ ap (λ (l : List (List ℕ)). map unreturned l ++ lines_of rest) one ∙ ap (λ (l : List ℕ). l ∷ lines_of rest) same

-- ---- courses

module _ {R : Type 0} (on_line : R → List ℕ → Course R) where
  pub lines_append : (c : Course R) (xs ys : List (List ℕ)) → with_lines on_line c (xs ++ ys) ≡ with_lines on_line (with_lines on_line c xs) ys
  lines_append c [] ys = refl
  lines_append c (x ∷ xs) ys = lines_append (with_line on_line c x) xs ys

  no_fault : (c : Course R) → with_fault c None ≡ c
  no_fault (Goes bytes r) = refl
  no_fault (Stops bytes) = refl

  last_more : (c : Course R) (o : Option (List ℕ)) → with_last on_line c o ≡ with_lines on_line c (option_to_list o)
  last_more c None = refl
  last_more c (Some line) = refl

  -- where no byte is past a bound
  pub whole_lines : (limit longest : ℕ) (r : R) (text : List ℕ) → (scan (blank limit longest) text).fault ≡ None
      → told_whole on_line (blank limit longest) r text ≡ with_lines on_line (Goes [] r) (lines_of text)
  whole_lines limit longest r text none =
      let s = scan (blank limit longest) text in
      let done : Course R = with_lines on_line (Goes [] r) s.lines in
      ap (λ (f : Option Refusal). with_last on_line (with_fault done f) (last_line s.feed)) none
      ∙ ap (λ (c : Course R). with_last on_line c (last_line s.feed)) (no_fault done)
      ∙ last_more done (last_line s.feed)
      ∙ sym (lines_append (Goes [] r) s.lines (option_to_list (last_line s.feed)))
      ∙ ap (with_lines on_line (Goes [] r)) (whole limit longest text none)

  last_stops : (bytes : List ℕ) (o : Option (List ℕ)) → with_last on_line (Stops bytes) o ≡ Stops bytes
  last_stops bytes None = refl
  last_stops bytes (Some line) = refl

  -- where a course goes on to the end of a text, no byte is past a bound
  pub goes_within : (feed : Feed) (r last : R) (text bytes : List ℕ) → told_whole on_line feed r text ≡ Goes bytes last → (scan feed text).fault ≡ None
  goes_within feed r last text bytes e =
      let s = scan feed text in
      by (with_lines on_line (Goes [] r) s.lines) s.fault e
    where
      by : (c : Course R) (f : Option Refusal) → with_last on_line (with_fault c f) (last_line (scan feed text).feed) ≡ Goes bytes last → f ≡ None
      by c None k = refl
      by (Goes more q) (Some refusal) k = let clash : Stops _ ≡ Goes bytes last = sym (last_stops _ (last_line (scan feed text).feed)) ∙ k in cc
      by (Stops more) (Some refusal) k = let clash : Stops more ≡ Goes bytes last = sym (last_stops more (last_line (scan feed text).feed)) ∙ k in cc
