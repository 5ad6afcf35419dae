-- What of the bytes a write leaves alone, whole or torn.
use Rattle.std.proofs.Common.{◌≡◌, ◌≢◌, ℕ, ◌+◌, ◌-◌, ◌<◌, ◌≤◌, List, [], ◌∷◌, ◌++◌, length, take, drop, get_or, Bool, false, sym, ◌∙◌, ap, arith, inl, inr, append_assoc, length-append, length-take, length-drop}
use Rattle.std.specs.Prelude.{nat_le, nat_lt, ◌&&◌, ◌||◌}
use Rattle.std.proofs.lemmas.Bool.{cases_lt}
use Rattle.std.proofs.lemmas.Bool.Decides.{nat_tests}
use Rattle.std.proofs.lemmas.List.{same_lists, get_or_default, take_at, drop_at, length-take-le, take-append-le, take-take, drop_all, append-nil, get_or-take, get_or-drop, get_or_append_left, get_or-append_right}
use Rattle.disk_model.specs.Files.{File, IsImage, covers, loosened, put, untouched}

module _ (old : List ℕ) (at : ℕ) (bytes : List ℕ) (within : at ≤ length old) where
  regroup : put old at bytes ≡ take at old ++ (bytes ++ drop (at + length bytes) old)
  regroup = append_assoc (take at old) bytes (drop (at + length bytes) old)

  pub put_before : take at (put old at bytes) ≡ take at old
  put_before = ap (λ (l : List ℕ). take at l) regroup ∙ take_at (take at old) (bytes ++ drop (at + length bytes) old) at (length-take-le at old within)

  pub put_here : drop at (put old at bytes) ≡ bytes ++ drop (at + length bytes) old
  put_here = ap (λ (l : List ℕ). drop at l) regroup ∙ drop_at (take at old) (bytes ++ drop (at + length bytes) old) at (length-take-le at old within)

  pub put_length : at + length bytes ≤ length (put old at bytes)
  put_length = omega (
    arith,
    length-append (take at old ++ bytes) (drop (at + length bytes) old),
    length-append (take at old) bytes,
    length-take-le at old within,
  )

-- what is written behind a byte, and then that byte, are one write
pub put_twice : (old : List ℕ) (at : ℕ) (bytes : List ℕ) (byte : ℕ) → at + 1 ≤ length old
    → put (put old (at + 1) bytes) at (byte ∷ []) ≡ put old at (byte ∷ bytes)
put_twice old at bytes byte within =
    let new : List ℕ = put old (at + 1) bytes in
    let front : take at new ≡ take at old = sym (take-take at (at + 1) new (omega arith))
    ∙ ap (λ (l : List ℕ). take at l) (put_before old (at + 1) bytes within) ∙ take-take at (at + 1) old (omega arith) in
    ap (λ (l : List ℕ). l ++ byte ∷ [] ++ drop (at + 1) new) front
    ∙ ap (λ (l : List ℕ). take at old ++ byte ∷ [] ++ l) (put_here old (at + 1) bytes within)
    ∙ append_assoc (take at old) (byte ∷ []) (bytes ++ drop (at + 1 + length bytes) old)
    ∙ ap (λ (n : ℕ). take at old ++ (byte ∷ (bytes ++ drop n old))) (omega arith)
    ∙ sym (append_assoc (take at old) (byte ∷ bytes) (drop (at + length (byte ∷ bytes)) old))

-- places that agree make parts that agree
pub same_part : (at n : ℕ) (xs ys : List ℕ) → at + n ≤ length xs → at + n ≤ length ys → ((k : ℕ) → at ≤ k → k < at + n → get_or xs k 0 ≡ get_or ys k 0)
    → take n (drop at xs) ≡ take n (drop at ys)
same_part at n xs ys in_xs in_ys same =
    let len_x : length (take n (drop at xs)) ≡ n = omega (arith, length-take n (drop at xs), length-drop at xs) in
    let len_y : length (take n (drop at ys)) ≡ n = omega (arith, length-take n (drop at ys), length-drop at ys) in
    same_lists (take n (drop at xs)) (take n (drop at ys)) (len_x ∙ sym len_y) (λ k d within.
    let low : k < n = omega arith in
    get_or_default (take n (drop at xs)) k d 0 within
    ∙ get_or-take n (drop at xs) k 0 low ∙ get_or-drop at xs k 0
    ∙ same (at + k) (omega arith) (omega arith)
    ∙ sym (get_or-drop at ys k 0) ∙ sym (get_or-take n (drop at ys) k 0 low)
    ∙ get_or_default (take n (drop at ys)) k 0 d (omega (arith, within)))

free : (at len : ℕ) (loose : List (ℕ × ℕ)) (place : ℕ) → place < at → covers loose place ≡ false → covers ((at, len) ∷ loose) place ≡ false
free at len loose place before out =
    let no : nat_le at place ≡ false = grind (arith, nat_tests) in
    ap (λ (b : Bool). b && nat_lt place (at + len) || covers loose place) no ∙ out

-- an image from before with the same prefix
pub torn_front : (f : File) (at len : ℕ) (image : List ℕ) → IsImage f f.seen → at ≤ length f.seen → IsImage (loosened at len f) image
    → (before : List ℕ) × IsImage f before × (take at before ≡ take at image)
torn_front f at len image reads within torn = (take at image ++ drop at f.synced, mixed, front)
  where
    before : List ℕ
    before = take at image ++ drop at f.synced

    size : length before ≡ length (take at image) + length (drop at f.synced)
    size = length-append (take at image) (drop at f.synced)

    front : take at before ≡ take at image
    front = elim (cases_lt (length image) at) [
      | inl short ↦
          let none : drop at f.synced ≡ [] = drop_all at f.synced (omega (arith, torn.long)) in
          ap (λ (l : List ℕ). take at (take at image ++ l)) none ∙ ap (λ (l : List ℕ). take at l) (append-nil (take at image))
          ∙ take-take at at image (omega arith)
      | inr long ↦ take-append-le at (take at image) (drop at f.synced) (omega (arith, length-take at image)) ∙ take-take at at image (omega arith)
    ]

    mixed : IsImage f before
    mixed = record {
      long = omega (arith, size, torn.long, length-take at image, length-drop at f.synced);
      short = λ none. omega (arith, size, length-take at image, length-drop at f.synced, within, reads.short none);
      stays = λ place inside out. elim (cases_lt place at) [
        | inl ahead ↦
            get_or_append_left (take at image) (drop at f.synced) 0 place (omega (arith, length-take at image, torn.long, inside, ahead))
            ∙ get_or-take at image place 0 ahead
            ∙ torn.stays place inside (free at len f.loose place ahead out)
        | inr behind ↦
            let whole : length (take at image) ≡ at = omega (arith, length-take at image, torn.long, inside, behind) in
            get_or-append_right (take at image) (drop at f.synced) at place 0 whole behind
            ∙ get_or-drop at f.synced (place - at) 0
            ∙ ap (λ (k : ℕ). get_or f.synced k 0) (omega arith)
      ];
    }

-- an image of a file of which only one byte was written since its sync
pub torn_byte : (seen : List ℕ) (at : ℕ) (image : List ℕ) → IsImage (loosened at 1 (untouched seen)) image → (place : ℕ) → place < length seen → place ≢ at
    → get_or image place 0 ≡ get_or seen place 0
torn_byte seen at image torn place inside apart =
    let out : covers ((at, 1) ∷ []) place ≡ false = grind (arith, nat_tests) in
    torn.stays place inside out
