-- A slot reads as one thing, and as what was laid in it.
use Rattle.std.proofs.Common.{◌≡◌, ℕ, ◌^◌, ◌<◌, List, length, take, refl, sym, ◌∙◌, ap, subst}
use Rattle.checkpoint.specs.declared.heads.Head.{Head}
use Rattle.checkpoint.specs.Damage.{IsSound}
use Rattle.checkpoint.specs.Slots.{Slot, Shut, Shown, Bad, laid, opened}
use Rattle.checkpoint.proofs.Showing.{laid_shows}
use Rattle.image_text.specs.Bodies.{Values}
use Rattle.image_text.proofs.BodiesRead.{one_body}
use Rattle.slot_images.specs.Images.{values_in, checkpoint_of, IsBodyFor, Reading, Nothing, Says, Broken, BodyReads, SlotReads, FileReads}

pub body_once : (head : Head) (body : List ℕ) (one other : Reading) → BodyReads head body one → BodyReads head body other → one ≡ other
body_once head body Nothing other r s = absurd r
body_once head body (Says c) Nothing r s = absurd s
body_once head body (Says c) (Says d) r s =
    let heads : c.head ≡ d.head = r.0 ∙ sym s.0 in
    let values : values_in c ≡ values_in d = one_body body (values_in c) (values_in d) r.1.text s.1.text in
    λ i. Says (checkpoint_of (heads i) (values i))
body_once head body (Says c) (Broken at) r s = absurd (s.1 (values_in c) r.1)
body_once head body (Broken at) Nothing r s = absurd s
body_once head body (Broken at) (Says d) r s = absurd (r.1 (values_in d) s.1)
body_once head body (Broken at) (Broken other) r s = ap (λ (n : ℕ). Broken n) (r.0 ∙ sym s.0)

pub reads_once : (slot : Slot) (one other : Reading) → SlotReads slot one → SlotReads slot other → one ≡ other
reads_once Shut one other r s = r ∙ sym s
reads_once (Shown head body) one other r s = body_once head body one other r s
reads_once (Bad at) one other r s = r ∙ sym s

pub laid_reads : (slot : ℕ) (head : Head) (v : Values) (body bytes image : List ℕ) → IsSound slot head → IsBodyFor head body v → length body < 256 ^ 8
    → 0 < length bytes → take (length (opened (laid head body bytes))) image ≡ opened (laid head body bytes)
    → FileReads slot image (Says (checkpoint_of head v))
laid_reads slot head v body bytes image sound is small some front =
    let shown = laid_shows slot head body bytes image sound small some front in
    subst (λ (s : Slot). SlotReads s (Says (checkpoint_of head v))) (sym shown) (refl, is)
