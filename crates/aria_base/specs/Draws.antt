-- The words that workloads are drawn from: those of PCG32 (XSH RR 64/32), which steps a congruential generator of 64 bits and puts out
-- 32 bits of each state. A number and a stream choose one endless list of words.
use Rattle.std.specs.Prelude.{◌≡◌, ℕ, ◌+◌}
use Rattle.rand_pcg.specs.Lcg.{Lcg, next, advance, started, increment_of}
use Rattle.rand_pcg.specs.Pcg.{multiplier_64, output_xsh_rr}

-- the generator before the word at a place of the list, from 0: so many steps past its start
abbrev pub standing : ℕ → ℕ → ℕ → Lcg
standing number stream place = advance 64 multiplier_64 place (started 64 multiplier_64 number (increment_of 64 stream))

-- the word that comes next
abbrev pub next_word : Lcg → ℕ
next_word g = output_xsh_rr g.state

-- past that word
abbrev pub past_word : Lcg → Lcg
past_word g = next 64 multiplier_64 g

-- the word at a place of the list
abbrev pub word_at : ℕ → ℕ → ℕ → ℕ
word_at number stream place = next_word (standing number stream place)

-- where the next word was the one at a place, it is this word, and the next one is that at the place behind it
abbrev pub TakesWord : Lcg → ℕ → Lcg → Type 0
TakesWord old word new = (number stream place : ℕ) → old ≡ standing number stream place
    → (word ≡ word_at number stream place) × (new ≡ standing number stream (place + 1))
