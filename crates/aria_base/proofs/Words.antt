-- A step from the generator before one word of a list leads to the next word.
use Rattle.std.proofs.Common.{◌≡◌, ℕ, zero, suc, ◌+◌, refl, sym, ap, ◌∙◌}
use Rattle.rand_pcg.specs.Lcg.{next_state, state_after, started, increment_of}
use Rattle.rand_pcg.specs.Pcg.{multiplier_64}
use Rattle.rand_pcg.proofs.LcgLemmas.{advance_zero, advance_more}
use Rattle.aria_base.specs.Draws.{standing, past_word}

-- a step after n steps is a step before them
step_after : (w m increment n state : ℕ) → next_state w m increment (state_after w m increment n state) ≡ state_after w m increment n
    (next_state w m increment state)
unfolding state_after
step_after w m increment zero state = refl
step_after w m increment (suc n) state = step_after w m increment n (next_state w m increment state)

pub standing_first : (number stream : ℕ) → started 64 multiplier_64 number (increment_of 64 stream) ≡ standing number stream 0
standing_first number stream = sym (advance_zero 64 multiplier_64 (started 64 multiplier_64 number (increment_of 64 stream)))

pub past_standing : (number stream place : ℕ) → past_word (standing number stream place) ≡ standing number stream (place + 1)
past_standing number stream place =
    let start = started 64 multiplier_64 number (increment_of 64 stream) in
    ap (λ state. record start { state = state }) (step_after 64 multiplier_64 start.increment place start.state) ∙ advance_more 64 multiplier_64 place start
