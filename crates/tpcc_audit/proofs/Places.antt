-- Tables by district and by warehouse: what is found in them after one more is set.
use Rattle.std.proofs.Common.{◌≡◌, refl, ap, sym, subst, Bool, true, false, ◌&&◌, if◌then◌else◌, ℤ, ◌+ℤ◌}
use Rattle.std.specs.Prelude.{T}
use Rattle.std.specs.Ordering.{int_eq, int_cmp}
use Rattle.std.proofs.lemmas.Map.Lookups.{exact_signed}
use Rattle.std.proofs.lemmas.Map.Views.{tells_apart}
use Rattle.tpcc_audit.specs.declared.facts.District.{District}
use Rattle.tpcc_audit.specs.declared.tallies.Tally.{Tally}
use Rattle.tpcc_audit.specs.Books.{same, set_at, raised}

both-true : (x y : Bool) → (x && y) ≡ true → (x ≡ true) × (y ≡ true)
both-true true true h = (refl, refl)
both-true true false h = (refl, h)
both-true false y h = (h, absurd (subst T (sym h) tt))

pub same-is : (a b : District) → same a b ≡ true → a ≡ b
same-is a b h =
    let both = both-true (int_eq a.w b.w) (int_eq a.d b.d) h in
    let w = tells_apart {R = int_cmp} exact_signed a.w b.w both.0 in
    let d = tells_apart {R = int_cmp} exact_signed a.d b.d both.1 in
    λ i. record { w = w i; d = d i }

-- what is set at a district is made of what was there
set-by : (b : Bool) (at q : District) (more : Tally → Tally) (t : District → Tally) → same at q ≡ b
    → (if b then more (t at) else t q) ≡ (if b then more (t q) else t q)
set-by true at q more t h = ap (λ p. more (t p)) (same-is at q h)
set-by false at q more t h = refl

pub set-own : (at q : District) (more : Tally → Tally) (t : District → Tally) → set_at at (more (t at)) q (t q) ≡ set_at at (more (t q)) q (t q)
set-own at q more t = set-by (same at q) at q more t refl

raised-by : (b : Bool) (w q ytd : ℤ) (paid : ℤ → ℤ) → int_eq w q ≡ b → (if b then paid w +ℤ ytd else paid q) ≡ (if b then paid q +ℤ ytd else paid q)
raised-by true w q ytd paid h = ap (λ p. paid p +ℤ ytd) (tells_apart {R = int_cmp} exact_signed w q h)
raised-by false w q ytd paid h = refl

pub raised-own : (w q ytd : ℤ) (paid : ℤ → ℤ) → (if int_eq w q then paid w +ℤ ytd else paid q) ≡ raised w ytd q (paid q)
raised-own w q ytd paid = raised-by (int_eq w q) w q ytd paid refl
