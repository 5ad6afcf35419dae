-- The entries of a batch, each from its own node, are those of the whole batch.
use Rattle.std.proofs.Common.{◌≡◌, ℕ, zero, suc, ◌+◌, ◌-◌, ◌*◌, ◌/◌, ◌%◌, ◌<◌, ⊎_elim, List, [], ◌∷◌, map, length, Bool, true, false, cond}
use Rattle.std.proofs.Common.{refl, ap, ◌∙◌, arith}
use Rattle.std.specs.Prelude.{slice_get, ◌==◌}
use Rattle.std.specs.List.{filter, range_with_len}
use Rattle.std.proofs.lemmas.Bool.{eq-eqb, ne_eqb, cases_lt}
use Rattle.std.proofs.Math.Nat.{mul-le-mul_left}

-- a number that is past a multiple by less than the whole is not one
between_multiples : (nodes p q d : ℕ) → nodes * p + suc d ≡ q * nodes → suc d < nodes → ⊥
between_multiples nodes p q d e lt = ⊎_elim
    (λ less. let more = mul-le-mul_left {m = suc p} {n = q} nodes less in omega arith)
    (λ few. let less = mul-le-mul_left {m = q} {n = p} nodes few in omega arith)
    (cases_lt p q)

rest_of : (nodes n q : ℕ) → n < nodes → (n + q * nodes) % nodes ≡ n
rest_of nodes n q lt =
    let whole = n + q * nodes in
    let p = whole / nodes in
    let r = whole % nodes in
    let e : nodes * p + r ≡ n + q * nodes = omega arith in
    let low : r < nodes = omega arith in
    ⊎_elim
    (λ less. ⊎_elim
    (λ many. let more = mul-le-mul_left {m = suc q} {n = p} nodes many in absurd (omega arith))
    (λ few. let fewer = mul-le-mul_left {m = p} {n = q} nodes few in absurd (omega arith))
    (cases_lt q p))
    (λ same. ⊎_elim
    (λ many. let more = mul-le-mul_left {m = suc p} {n = q} nodes many in absurd (omega arith))
    (λ few. let fewer = mul-le-mul_left {m = q} {n = p} nodes few in omega arith)
    (cases_lt p q))
    (cases_lt r n)

module _ {X : Type 0} (tid : X → ℕ) (nodes : ℕ) where
  abbrev pub is_own : ℕ → X → Bool
  is_own n x = (tid x - 1) % nodes == n

  -- the first of the node's own stands so far behind the first, and each next one as far again as there are nodes
  at_share : (xs : List X) (base d n q j : ℕ) → map tid xs ≡ range_with_len (base + 1) (length xs) → d < nodes → n < nodes → base + d ≡ n + q * nodes
      → slice_get (filter (is_own n) xs) j ≡ slice_get xs (d + j * nodes)
  at_share [] base d n q j e less low at = refl
  at_share (x ∷ xs) base zero n q zero e less low at =
      let first : tid x ≡ base + 1 = cc in
      let here : tid x - 1 ≡ n + q * nodes = omega arith in
      let own : is_own n x ≡ true = ap (λ k. k % nodes == n) here ∙ eq-eqb ((n + q * nodes) % nodes) n (rest_of nodes n q low) in
      let place : zero ≡ zero + zero * nodes = omega arith in
      ap (λ b. slice_get (cond b (x ∷ filter (is_own n) xs) (filter (is_own n) xs)) zero) own ∙ ap (slice_get (x ∷ xs)) place
  at_share (x ∷ xs) base zero n q (suc j) e less low at =
      let first : tid x ≡ base + 1 = cc in
      let rest : map tid xs ≡ range_with_len (base + 1 + 1) (length xs) = cc in
      let here : tid x - 1 ≡ n + q * nodes = omega arith in
      let own : is_own n x ≡ true = ap (λ k. k % nodes == n) here ∙ eq-eqb ((n + q * nodes) % nodes) n (rest_of nodes n q low) in
      let place : suc (nodes - 1 + j * nodes) ≡ zero + suc j * nodes = omega arith in
      ap (λ b. slice_get (cond b (x ∷ filter (is_own n) xs) (filter (is_own n) xs)) (suc j)) own
      ∙ at_share xs (base + 1) (nodes - 1) n (suc q) j rest (omega arith) low (omega arith) ∙ ap (slice_get (x ∷ xs)) place
  at_share (x ∷ xs) base (suc d) n q j e less low at =
      let first : tid x ≡ base + 1 = cc in
      let rest : map tid xs ≡ range_with_len (base + 1 + 1) (length xs) = cc in
      let here : tid x - 1 ≡ base = omega arith in
      let whole : nodes * (base / nodes) + base % nodes ≡ base = omega arith in
      let other : is_own n x ≡ false = ap (λ k. k % nodes == n) here
      ∙ ne_eqb (base % nodes) n (λ same. between_multiples nodes (base / nodes) q d (omega arith) less) in
      let place : suc (d + j * nodes) ≡ suc d + j * nodes = omega arith in
      ap (λ b. slice_get (cond b (x ∷ filter (is_own n) xs) (filter (is_own n) xs)) j) other
      ∙ at_share xs (base + 1) d n q j rest (omega arith) low (omega arith) ∙ ap (slice_get (x ∷ xs)) place

  pub own_place : (xs : List X) (i : ℕ) → map tid xs ≡ range_with_len 1 (length xs) → 0 < nodes
      → slice_get (filter (is_own (i % nodes)) xs) (i / nodes) ≡ slice_get xs i
  own_place xs i e some =
      let place : i % nodes + (i / nodes) * nodes ≡ i = omega arith in
      at_share xs 0 (i % nodes) (i % nodes) 0 (i / nodes) e (omega arith) (omega arith) (omega arith) ∙ ap (slice_get xs) place
