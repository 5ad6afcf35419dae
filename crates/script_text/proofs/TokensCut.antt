-- A line's first token ends at the first space outside of quotes.
use Rattle.std.proofs.Common.{◌≡◌, ℕ, ◌+◌, ◌<◌, ◌≤◌, List, [], ◌∷◌, length, take, drop, get_or, Bool, true, false, cond, not, refl, ap, sym, ◌∙◌, arith, add-one}
use Rattle.std.specs.Prelude.{◌&&◌, ◌==◌, Some}
use Rattle.std.proofs.Math.Seq.{drop-cons}
use Rattle.std.proofs.lemmas.List.{take_more}
use Rattle.std.proofs.lemmas.Bool.{and_parts}
use Rattle.std.proofs.lemmas.Grind.{common_steps}
use Rattle.script_text.specs.Cuts.{tokens, tokens_from, with_token, IsFirst}

here : (line : List ℕ) (at : ℕ) → at < length line → drop at line ≡ get_or line at 0 ∷ drop (at + 1) line
here line at below = rw add-one (drop-cons line at 0 below)

pub space_skipped : (line : List ℕ) (at : ℕ) → at < length line → get_or line at 0 ≡ 32 → tokens (drop (at + 1) line) ≡ tokens (drop at line)
space_skipped line at below space = sym (ap tokens (here line at below ∙ ap (λ (b : ℕ). b ∷ drop (at + 1) line) space))

pub goes_on : (line : List ℕ) (at : ℕ) (quoted : Bool) → at < length line → (get_or line at 0 == 32 && not quoted) ≡ false
    → tokens_from (take (at + 1) line) (cond (get_or line at 0 == 34) (not quoted) quoted) (drop (at + 1) line) ≡ tokens_from (take at line) quoted
    (drop at line)
goes_on line at quoted below h =
    let d = here line at below in
    let t = take_more line at 0 below in
    rw (t, d) (sym (rw h))

pub stops : (line : List ℕ) (at : ℕ) (quoted : Bool) → at < length line → (get_or line at 0 == 32 && not quoted) ≡ true
    → tokens_from (take at line) quoted (drop at line) ≡ with_token (take at line) (tokens (drop at line))
stops line at quoted below h =
    let d = here line at below in
    let space : (get_or line at 0 == 32) ≡ true = (and_parts (get_or line at 0 == 32) (not quoted) h).0 in
    rw (d, h, space) refl

pub ends : (line : List ℕ) (quoted : Bool) (n : ℕ) → length line ≤ n → tokens_from (take n line) quoted (drop n line) ≡ with_token line []
ends line quoted n whole =
    let t : take n line ≡ line = grind (arith, common_steps, whole) in
    let d : drop n line ≡ [] = grind (arith, common_steps, whole) in
    rw (t, d) refl

some_token : (t : List ℕ) (more : List (List ℕ)) → 0 < length t → with_token t more ≡ t ∷ more
some_token [] more some = absurd (omega arith)
some_token (b ∷ t) more some = refl

pub first : (line rest token behind : List ℕ) → tokens rest ≡ tokens line → length rest ≤ length line → tokens rest ≡ with_token token (tokens behind)
    → length token + length behind ≡ length rest → 0 < length token → IsFirst line (Some (token, behind))
first line rest token behind same within cut whole some = (sym same ∙ cut ∙ some_token token (tokens behind) some, omega arith)
