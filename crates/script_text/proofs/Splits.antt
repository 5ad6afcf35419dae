-- How bytes split at one that is their first of its kind.
use Rattle.std.proofs.Common.{◌≡◌, ℕ, ◌+◌, ◌<◌, ◌≤◌, length, arith, List, [], ◌∷◌, ◌++◌, take, drop, get_or, false, not, ap, ◌∙◌, refl}
use Rattle.std.specs.Prelude.{All, ◌==◌}
use Rattle.std.specs.List.{slice_split}
use Rattle.std.proofs.lemmas.Bool.{not-true, eq-eqb}
use Rattle.std.proofs.lemmas.List.Splits.{slice_split_none, slice_split_at}
use Rattle.std.proofs.lemmas.Grind.{common_steps}
use Rattle.std.proofs.lemmas.List.Sums.{AllPass-from_list_all}
use Rattle.script_text.specs.Cuts.{Lacks}
use Rattle.script_text.proofs.Places.{cut_at}

pub lacks_all : (c : ℕ) (t : List ℕ) → Lacks c t → All (λ b. (b == c) ≡ false) t
lacks_all c t h = λ i b below. not-true (get_or t i b == c) (AllPass-from_list_all (λ b. not (b == c)) t h i b below)

pub split_at : (c : ℕ) (bytes front behind : List ℕ) → Lacks c front → bytes ≡ front ++ c ∷ behind
    → slice_split (λ b. b == c) bytes ≡ front ∷ slice_split (λ b. b == c) behind
split_at c bytes front behind lacks e = ap (slice_split (λ b. b == c)) e
    ∙ slice_split_at (λ b. b == c) front c behind (lacks_all c front lacks) (eq-eqb c c refl)

pub splits_there : (c : ℕ) (bytes : List ℕ) (at : ℕ) → at < length bytes → get_or bytes at 0 ≡ c → Lacks c (take at bytes)
    → slice_split (λ b. b == c) bytes ≡ take at bytes ∷ slice_split (λ b. b == c) (drop (at + 1) bytes)
splits_there c bytes at below here lacks = split_at c bytes (take at bytes) (drop (at + 1) bytes) lacks (cut_at bytes at c below here)

pub splits_nowhere : (c : ℕ) (bytes : List ℕ) (n : ℕ) → Lacks c (take n bytes) → length bytes ≤ n → slice_split (λ b. b == c) bytes ≡ bytes ∷ []
splits_nowhere c bytes n lacks whole =
    let t : take n bytes ≡ bytes = grind (arith, common_steps, whole) in
    slice_split_none (λ b. b == c) bytes (lacks_all c bytes (rw t at lacks))
