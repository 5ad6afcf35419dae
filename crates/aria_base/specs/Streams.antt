-- What a source and a sink do, where they tell their bytes.
use Rattle.std.specs.Prelude.{◌≡◌, ℕ, ◌≤◌, List, length, take, Option, Result, MatchResult}
use Rattle.std.specs.Io.KnownBytes.{Keeps, Appends, Consumes, IsAtEnd}

-- a call that gives the first n bytes of the buffer, none only at the end of the input; or that gives none
abbrev pub Takes : {E : Type 0} → Option (List ℕ) → Option (List ℕ) → Result ℕ E → List ℕ → Type 0
Takes old new result buffer = MatchResult result
    (λ n. (n ≤ length buffer) × Consumes old new (take n buffer) × (n ≡ 0 → IsAtEnd new))
    (λ _. Keeps old new)

-- known bytes grow by a prefix of these
abbrev pub AppendsFront : Option (List ℕ) → Option (List ℕ) → List ℕ → Type 0
AppendsFront old new bytes = (n : ℕ) × Appends old new (take n bytes)

-- a call that appends all the bytes, or a prefix of them
abbrev pub Gives : {E : Type 0} {T : Type 0} → Option (List ℕ) → Option (List ℕ) → Result T E → List ℕ → Type 0
Gives old new result bytes = MatchResult result (λ _. Appends old new bytes) (λ _. AppendsFront old new bytes)
