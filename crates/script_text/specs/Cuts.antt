-- How bytes are cut at a byte, and a line into its tokens.
use Rattle.std.specs.Prelude.{◌≡◌, ℕ, ◌<◌, Bool, true, false, not, ◌&&◌, ◌==◌, if◌then◌else◌, List, [], ◌∷◌, ◌++◌, length, Option}
use Rattle.std.specs.Prelude.{Some, None}
use Rattle.std.specs.List.{list_all, slice_split}

-- ---- at a byte

abbrev pub Lacks : ℕ → List ℕ → Type 0
Lacks c bytes = list_all (λ b. not (b == c)) bytes ≡ true

-- what stands before the first byte of this kind, and behind it
abbrev pub IsCutAt : ℕ → List ℕ → Option (List ℕ × List ℕ) → Type 0
IsCutAt c bytes None = Lacks c bytes
IsCutAt c bytes (Some cut) = Lacks c cut.0 × (bytes ≡ cut.0 ++ c ∷ cut.1) × (length cut.1 < length bytes)

-- which says how the bytes split at all of this kind
abbrev pub IsSplitAt : ℕ → List ℕ → Option (List ℕ × List ℕ) → Type 0
IsSplitAt c bytes None = slice_split (λ b. b == c) bytes ≡ bytes ∷ []
IsSplitAt c bytes (Some cut) = slice_split (λ b. b == c) bytes ≡ cut.0 ∷ slice_split (λ b. b == c) cut.1

-- ---- at spaces: the quotes (34) of a text hide the spaces (32) within it

-- spaces that meet have no token between them
abbrev pub with_token : List ℕ → List (List ℕ) → List (List ℕ)
with_token [] more = more
with_token (b ∷ bs) more = (b ∷ bs) ∷ more

-- the tokens of a line from here on, where the one that is begun has these bytes
abbrev pub tokens_from : List ℕ → Bool → List ℕ → List (List ℕ)
tokens_from begun quoted [] = with_token begun []
tokens_from begun quoted (b ∷ bs) =
    if b == 32 && not quoted then with_token begun (tokens_from [] false bs)
    else tokens_from (begun ++ b ∷ []) (if b == 34 then not quoted else quoted) bs

abbrev pub tokens : List ℕ → List (List ℕ)
tokens line = tokens_from [] false line

-- a line's first token, and what stands behind it
abbrev pub IsFirst : List ℕ → Option (List ℕ × List ℕ) → Type 0
IsFirst line None = tokens line ≡ []
IsFirst line (Some cut) = (tokens line ≡ cut.0 ∷ tokens cut.1) × (length cut.1 < length line)
