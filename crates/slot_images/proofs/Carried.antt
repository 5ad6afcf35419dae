-- Requests that a checkpoint may carry, and bodies that are the text of them or of nothing.
use Rattle.std.proofs.Common.{◌≡◌, ℕ, ◌^◌, ◌<◌, ◌≤◌, List, [], ◌∷◌, refl, subst, arith}
use Rattle.std.specs.Prelude.{All, Result, Ok, Err, IfOk}
use Rattle.std.proofs.lemmas.List.Elements.{All-nil, All-cons}
use Rattle.aria_base.specs.declared.calls.Request.{Request}
use Rattle.aria_base.specs.declared.limits.TheConstants.{GREATEST_NUMBER}
use Rattle.batch_core.specs.Serial.{RiseWithin}
use Rattle.checkpoint.specs.declared.heads.Head.{Head}
use Rattle.image_text.specs.Bodies.{Values, IsBody}
use Rattle.image_text.proofs.BodiesRead.{one_body}
use Rattle.slot_images.specs.Images.{MayCarry, IsBodyFor, Broken, BodyReads}

abbrev pub Rise : ℕ → List Request → ℕ → Type 0
Rise low held high = RiseWithin (λ request. request.q) low held high

no_further : (low : ℕ) (held : List Request) (high : ℕ) → Rise low held high → low ≤ high
no_further low [] high r = r
no_further low (x ∷ held) high r = omega (arith, r.0, no_further x.q held high r.1)

none_above : (low : ℕ) (held : List Request) (high : ℕ) → Rise low held high → All (λ request. request.q ≤ high) held
none_above low [] high r = All-nil (λ request. request.q ≤ high)
none_above low (x ∷ held) high r = All-cons (λ request. request.q ≤ high) x held (no_further x.q held high r.1) (none_above x.q held high r.1)

-- where a head may carry the requests, their numbers have 63 bits
pub small_numbers : (head : Head) (held : List Request) → head.requests ≤ GREATEST_NUMBER → MayCarry head held → All (λ request. request.q < 2 ^ 63) held
small_numbers head held few carried = λ i d below.
    let least = none_above 0 held head.requests carried.numbered i d below in
    omega (arith, least, few)

-- a body of values that the head may not carry is the text of no others
pub body_not_carried : (head : Head) (body : List ℕ) (v : Values) → IsBody body v → (MayCarry head v.2 → ⊥) → BodyReads head body (Broken 40)
body_not_carried head body v is never =
    (refl, λ w h. let same : w ≡ v = one_body body w v h.text is in never (subst (λ (u : Values). MayCarry head u.2) same h.carried))

-- what is written stands for the values behind every head that may carry the requests
pub body_stands : {B E : Type 0} (result : Result B E) (items : B → List ℕ) (v : Values)
    → IfOk result (λ body. All (λ request. request.q < 2 ^ 63) v.2 → IsBody (items body) v)
    → IfOk result (λ body. (head : Head) → head.requests ≤ GREATEST_NUMBER → MayCarry head v.2 → IsBodyFor head (items body) v)
body_stands (Ok body) items v h = λ head few carried. record { text = h (small_numbers head v.2 few carried); carried = carried }
body_stands (Err e) items v h = tt
