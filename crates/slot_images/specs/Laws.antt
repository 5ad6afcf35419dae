-- A file reads as one thing, and as what was laid in it.
use Rattle.std.specs.Prelude.{◌≡◌, ℕ, ◌^◌, ◌<◌, List, length, take}
use Rattle.checkpoint.specs.declared.heads.Head.{Head}
use Rattle.checkpoint.specs.Damage.{IsSound}
use Rattle.checkpoint.specs.Slots.{Slot, laid, opened}
use Rattle.image_text.specs.Bodies.{Values}
use Rattle.slot_images.specs.Images.{IsBodyFor, Reading, Says, SlotReads, FileReads, checkpoint_of}

-- there are no two things that a slot reads as
abbrev pub ReadsOnce : Type 0
ReadsOnce = (slot : Slot) (one other : Reading) → SlotReads slot one → SlotReads slot other → one ≡ other

-- Bytes that begin as a slot's do in which a head and the body of these values were laid, and whose gate was opened, read as this
-- checkpoint, whatever stood in the slot before and whatever stands behind them.
abbrev pub ReadsWhatIsLaid : Type 0
ReadsWhatIsLaid =
    (slot : ℕ) (head : Head) (v : Values) (body bytes image : List ℕ) → IsSound slot head → IsBodyFor head body v → length body < 256 ^ 8
    → 0 < length bytes → take (length (opened (laid head body bytes))) image ≡ opened (laid head body bytes)
    → FileReads slot image (Says (checkpoint_of head v))
