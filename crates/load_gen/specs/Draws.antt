-- What is drawn from the words of a generator: the drawn thing, and the generator as it stands past the words that it took.
use Rattle.std.specs.Prelude.{◌≡◌, ℕ, zero, suc, ◌+◌, ◌-◌, ◌%◌, Bool, nat_lt, List, [], ◌∷◌, ◌++◌}
use Rattle.rand_pcg.specs.Lcg.{Lcg}
use Rattle.aria_base.specs.Draws.{next_word, past_word}

abbrev pub Drawn : Type 0 → Type 0
Drawn A = Lcg → A × Lcg

-- nothing is drawn for it
abbrev pub known : {A : Type 0} → A → Drawn A
known x g = (x, g)

-- the one thing is drawn, and then the other with it in hand
infixl 10 ◌>>=◌
abbrev pub ◌>>=◌ : {A B : Type 0} → Drawn A → (A → Drawn B) → Drawn B
(d >>= go) g = go (d g).0 (d g).1

-- a number from low to high, by one word
abbrev pub random : ℕ → ℕ → Drawn ℕ
random low high g = (low + next_word g % (high - low + 1), past_word g)

-- whether it comes, if it comes so many times of a hundred
abbrev pub percent : ℕ → Drawn Bool
percent share = do
  n ← random 0 99
  known (nat_lt n share)

-- so many things, one behind the other
unfoldable pub times : {A : Type 0} → ℕ → Drawn A → Drawn (List A)
times zero d = known []
times (suc n) d = do
  earlier ← times n d
  last ← d
  known (earlier ++ last ∷ [])

-- the generator so many words further
abbrev pub words_past : ℕ → Lcg → Lcg
words_past zero g = g
words_past (suc n) g = words_past n (past_word g)

-- it stands where it stood, or some words further
abbrev pub IsPast : Lcg → Lcg → Type 0
IsPast old new = (n : ℕ) × (new ≡ words_past n old)
