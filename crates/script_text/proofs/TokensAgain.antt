-- Tokens with one space between them are the tokens of their line.
use Rattle.std.proofs.Common.{◌≡◌, ℕ, ◌<◌, List, [], ◌∷◌, ◌++◌, length, Bool, true, false, refl, ap, sym, ◌∙◌, arith}
use Rattle.std.specs.Prelude.{All, not, ◌&&◌, ◌==◌, nat_le}
use Rattle.std.specs.List.{list_all}
use Rattle.std.proofs.lemmas.Bool.{and_parts}
use Rattle.std.proofs.lemmas.List.{append_assoc, append-nil}
use Rattle.std.proofs.lemmas.List.Elements.{All-head, All-tail}
use Rattle.std.proofs.lemmas.Grind.{common_steps}
use Rattle.aria_base.specs.Texts.{may_hold}
use Rattle.script_text.specs.Cuts.{with_token, tokens_from, tokens}
use Rattle.script_text.specs.Forms.{is_printed}
use Rattle.script_text.specs.Tokens.{quoted, spaced}
use Rattle.script_text.proofs.Places.{all_weaker, all_joined}

-- what is read whole as one token, whatever follows
pub record IsToken (t : List ℕ) : Type 0 where
  pub some : 0 < length t
  pub whole : (rest : List ℕ) → tokens_from [] false (t ++ rest) ≡ tokens_from t false rest
  pub printed : is_printed t ≡ true

-- a byte that stands in tokens outside of texts
abbrev pub is_plain : ℕ → Bool
is_plain b = nat_le 33 b && nat_le b 126 && not (b == 34)

plain_whole : (begun t rest : List ℕ) → list_all is_plain t ≡ true → tokens_from begun false (t ++ rest) ≡ tokens_from (begun ++ t) false rest
plain_whole begun [] rest h = ap (λ f. tokens_from f false rest) (sym (append-nil begun))
plain_whole begun (b ∷ t) rest h =
    let parts = and_parts (is_plain b) (list_all is_plain t) h in
    let first = parts.0 in
    let e : tokens_from begun false (b ∷ t ++ rest) ≡ tokens_from (begun ++ b ∷ []) false (t ++ rest) = grind (arith, common_steps, first) in
    e ∙ plain_whole (begun ++ b ∷ []) t rest parts.1 ∙ ap (λ f. tokens_from f false rest) (append_assoc begun (b ∷ []) t)

pub plain_token : (t : List ℕ) → 0 < length t → list_all is_plain t ≡ true → IsToken t
plain_token t some h = record {
  some = some;
  whole = λ rest. plain_whole [] t rest h;
  printed =
      all_weaker is_plain (λ b. nat_le 32 b && nat_le b 126) (λ b k. grind (arith, common_steps, k)) t h;
}

text_whole : (begun t rest : List ℕ) → list_all may_hold t ≡ true → tokens_from begun true (t ++ rest) ≡ tokens_from (begun ++ t) true rest
text_whole begun [] rest h = ap (λ f. tokens_from f true rest) (sym (append-nil begun))
text_whole begun (b ∷ t) rest h =
    let parts = and_parts (may_hold b) (list_all may_hold t) h in
    let first = parts.0 in
    let e : tokens_from begun true (b ∷ t ++ rest) ≡ tokens_from (begun ++ b ∷ []) true (t ++ rest) = grind (arith, common_steps, first) in
    e ∙ text_whole (begun ++ b ∷ []) t rest parts.1 ∙ ap (λ f. tokens_from f true rest) (append_assoc begun (b ∷ []) t)

pub text_token : (t : List ℕ) → list_all may_hold t ≡ true → IsToken (quoted t)
text_token t h = record {
  some = omega arith;
  whole = λ rest. ap (λ (bs : List ℕ). tokens_from (34 ∷ []) true bs) (append_assoc t (34 ∷ []) rest) ∙ text_whole (34 ∷ []) t (34 ∷ rest) h;
  printed = all_joined (λ b. nat_le 32 b && nat_le b 126) t (34 ∷ [])
      (all_weaker may_hold (λ b. nat_le 32 b && nat_le b 126) (λ b k. grind (arith, common_steps, k)) t h) refl;
}

-- ---- lists

ended : (t : List ℕ) (more : List (List ℕ)) → 0 < length t → with_token t more ≡ t ∷ more
ended [] more some = absurd (omega arith)
ended (b ∷ t) more some = refl

pub tokens_again : (t : List ℕ) (ts : List (List ℕ)) → IsToken t → All IsToken ts → tokens (t ++ spaced (λ u. u) ts) ≡ t ∷ ts
tokens_again t [] h all = h.whole [] ∙ ended t [] h.some
tokens_again t (u ∷ ts) h all =
    h.whole (32 ∷ u ++ spaced (λ v. v) ts)
    ∙ ended t (tokens (u ++ spaced (λ v. v) ts)) h.some
    ∙ ap (λ (more : List (List ℕ)). t ∷ more) (tokens_again u ts (All-head IsToken u ts all) (All-tail IsToken u ts all))

pub printed_again : (ts : List (List ℕ)) → All IsToken ts → is_printed (spaced (λ u. u) ts) ≡ true
printed_again [] all = refl
printed_again (t ∷ ts) all = all_joined (λ b. nat_le 32 b && nat_le b 126) t (spaced (λ u. u) ts) (All-head IsToken t ts all).printed
    (printed_again ts (All-tail IsToken t ts all))
