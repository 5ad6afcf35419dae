-- What is drawn takes words and gives none back: the generator stands where it stood, or further on.
use Rattle.std.proofs.Common.{◌≡◌, refl, ap, ◌∙◌, ℕ, zero, suc, ◌+◌, arith}
use Rattle.rand_pcg.specs.Lcg.{Lcg}
use Rattle.aria_base.specs.Draws.{past_word}
use Rattle.load_gen.specs.declared.settings.Ycsb.{Ycsb}
use Rattle.load_gen.specs.Ycsb.{access, request}
use Rattle.load_gen.specs.Draws.{Drawn, random, times, words_past, IsPast}

words_past-more : (m n : ℕ) (g : Lcg) → words_past n (words_past m g) ≡ words_past (m + n) g
words_past-more zero n g = let e : n ≡ 0 + n = omega arith in ap (λ k. words_past k g) e
words_past-more (suc m) n g = let e : suc (m + n) ≡ suc m + n = omega arith in words_past-more m n (past_word g) ∙ ap (λ k. words_past k g) e

pub past-refl : (g : Lcg) → IsPast g g
past-refl g = (0, refl)

pub past-trans : (a b c : Lcg) → IsPast a b → IsPast b c → IsPast a c
past-trans a b c (m, p) (n, q) = (m + n, q ∙ ap (words_past n) p ∙ words_past-more m n a)

-- whatever the generator, drawing this leaves it further on
abbrev pub Advances : {A : Type 0} → Drawn A → Type 0
Advances d = (g : Lcg) → IsPast g (d g).1

pub advances-random : (low high : ℕ) → Advances (random low high)
advances-random low high g = (1, refl)

pub advances-times : {A : Type 0} (n : ℕ) (d : Drawn A) → Advances d → Advances (times n d)
unfolding times
advances-times zero d a g = past-refl g
advances-times (suc n) d a g = past-trans g (times n d g).1 _ (advances-times n d a g) (a (times n d g).1)

pub advances-access : (s : Ycsb) → Advances (access s)
advances-access s g = (3, refl)

pub advances-request : (s : Ycsb) → Advances (request s)
advances-request s g = past-trans g (past_word g) _ (1, refl) (advances-times s.ops (access s) (advances-access s) (past_word g))
