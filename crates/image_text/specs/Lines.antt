-- A text of whole lines: what it is, and how it is taken line by line.
use Rattle.std.specs.Prelude.{◌≡◌, ℕ, ◌==◌, Bool, true, false, if◌then◌else◌, List, [], ◌∷◌, ◌++◌, length, flat_map, Option, Some}
use Rattle.std.specs.Prelude.{None, option_and_then}

-- each line with its line feed (10)
abbrev pub lines_text : List (List ℕ) → List ℕ
lines_text lines = flat_map (λ line. line ++ 10 ∷ []) lines

-- the lines of these items
abbrev pub written : {X : Type 0} → (X → List ℕ) → List X → List ℕ
written write xs = flat_map (λ x. write x ++ 10 ∷ []) xs

-- What is known behind a text whose lines are taken one by one, where these bytes of a line are begun. A text that does not end with a
-- line feed is none, and so is one with a line that cannot be taken.
abbrev pub taken_from : {S : Type 0} → (S → List ℕ → Option S) → List ℕ → S → List ℕ → Option S
taken_from take begun s [] = if length begun == 0 then Some s else None
taken_from take begun s (b ∷ bs) =
    if b == 10 then option_and_then (λ t. taken_from take [] t bs) (take s begun)
    else taken_from take (begun ++ b ∷ []) s bs

abbrev pub lines_taken : {S : Type 0} → (S → List ℕ → Option S) → S → List ℕ → Option S
lines_taken take s bytes = taken_from take [] s bytes

-- ---- an automaton over the items that lines stand for

module _ {X S : Type 0} (read : List ℕ → Option X) (push : S → X → Option S) where
  abbrev pub taking : S → List ℕ → Option S
  taking s line = option_and_then (push s) (read line)

  -- where items lead
  abbrev pub pushes : S → List X → Option S
  pushes s [] = Some s
  pushes s (x ∷ xs) = option_and_then (λ t. pushes t xs) (push s x)
