-- What is laid behind a gate is what the opened slot shows.
use Rattle.std.specs.Prelude.{◌≡◌, ℕ, ◌^◌, ◌<◌, List, length, take}
use Rattle.checkpoint.specs.declared.heads.Head.{Head}
use Rattle.checkpoint.specs.Damage.{IsSound}
use Rattle.checkpoint.specs.Slots.{Shown, slot_of, laid, opened}

-- Bytes that begin as a slot's do in which a head and a body were laid and whose gate was opened show this head and this body,
-- whatever stood in the slot before and whatever stands behind them.
abbrev pub ShowsWhatIsLaid : Type 0
ShowsWhatIsLaid =
    (slot : ℕ) (head : Head) (body bytes image : List ℕ) → IsSound slot head → length body < 256 ^ 8 → 0 < length bytes
    → take (length (opened (laid head body bytes))) image ≡ opened (laid head body bytes)
    → slot_of slot image ≡ Shown head body
