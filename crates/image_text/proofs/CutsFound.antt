-- What stands before the first byte of a kind, and behind it.
use Rattle.std.proofs.Common.{◌≡◌, ℕ, List, [], ◌∷◌, ◌++◌, Option, Some, None, Bool, true, false, cond, refl, ap, sym, ◌∙◌}
use Rattle.std.specs.Prelude.{◌==◌, not}
use Rattle.std.specs.List.{list_all}
use Rattle.std.proofs.lemmas.Bool.{and_parts, eq-eqb}
use Rattle.std.proofs.lemmas.List.{append_assoc, append-nil}
use Rattle.script_text.specs.Cuts.{Lacks, IsCutAt}
use Rattle.image_text.specs.Helds.{cut_after, cut}
use Rattle.image_text.proofs.LinesTaken.{is_false}

other : (front : List ℕ) (c b : ℕ) (bs : List ℕ) → not (b == c) ≡ true → cut_after front c (b ∷ bs) ≡ cut_after (front ++ b ∷ []) c bs
other front c b bs h = let e = is_false (b == c) h in rw e refl

lacking : (front : List ℕ) (c : ℕ) (bytes : List ℕ) → Lacks c bytes → cut_after front c bytes ≡ None
lacking front c [] h = refl
lacking front c (b ∷ bs) h =
    let parts = and_parts (not (b == c)) (list_all (λ d. not (d == c)) bs) h in
    other front c b bs parts.0 ∙ lacking (front ++ b ∷ []) c bs parts.1

at_place : (front : List ℕ) (c : ℕ) (line rest : List ℕ) → Lacks c line → cut_after front c (line ++ c ∷ rest) ≡ Some (front ++ line, rest)
at_place front c [] rest h = let e = eq-eqb c c refl in rw e (ap (λ (l : List ℕ). Some (l, rest)) (sym (append-nil front)))
at_place front c (b ∷ line) rest h =
    let parts = and_parts (not (b == c)) (list_all (λ d. not (d == c)) line) h in
    other front c b (line ++ c ∷ rest) parts.0 ∙ at_place (front ++ b ∷ []) c line rest parts.1
    ∙ ap (λ (l : List ℕ). Some (l, rest)) (append_assoc front (b ∷ []) line)

pub cut_again : (c : ℕ) (line rest : List ℕ) → Lacks c line → cut c (line ++ c ∷ rest) ≡ Some (line, rest)
cut_again c line rest h = at_place [] c line rest h

pub cut_found : (c : ℕ) (bytes : List ℕ) (found : Option (List ℕ × List ℕ)) → IsCutAt c bytes found → found ≡ cut c bytes
cut_found c bytes None h = sym (lacking [] c bytes h)
cut_found c bytes (Some parts) h = sym (ap (cut c) h.1 ∙ at_place [] c parts.0 parts.1 h.0)
