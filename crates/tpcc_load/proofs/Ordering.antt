-- What is drawn of an order, one thing behind the other.
use Rattle.std.proofs.Common.{◌≡◌, ap, ◌∙◌, ℕ, ◌==◌, List}
use Rattle.std.proofs.Common.{ℤ}
use Rattle.rand_pcg.specs.Lcg.{Lcg}
use Rattle.load_gen.specs.Draws.{random}
use Rattle.tpcc_load.specs.declared.districts.TheConstants.{DISTRICTS_EACH}
use Rattle.tpcc_load.specs.declared.requests.Start.{Start}
use Rattle.tpcc_load.specs.declared.settings.Tpcc.{Tpcc}
use Rattle.tpcc_load.specs.Draws.{drawn_customer}
use Rattle.tpcc_load.specs.Requests.{order_start, order_lines, order_call, new_order, home, payer, payment_call, payment}

pub start-is : (s : Tpcc) (w d c count chance : ℕ) (g0 g1 g2 g3 g4 g5 : Lcg)
    → (w, g1) ≡ random 1 s.warehouses g0 → (d, g2) ≡ random 1 DISTRICTS_EACH g1 → (c, g3) ≡ drawn_customer s.customers g2
    → (count, g4) ≡ random 5 15 g3 → (chance, g5) ≡ random 1 100 g4
    → (record { w = w; d = d; c = c; count = count; fails = chance == 1 }, g5) ≡ order_start s g0
unfolding order_start
start-is s w d c count chance g0 g1 g2 g3 g4 g5 p1 p2 p3 p4 p5 = λ i.
    let q2 = p2 ∙ ap (λ x. random 1 DISTRICTS_EACH x.1) p1 in
    let q3 = p3 ∙ ap (λ x. drawn_customer s.customers x.1) q2 in
    let q4 = p4 ∙ ap (λ x. random 5 15 x.1) q3 in
    let q5 = p5 ∙ ap (λ x. random 1 100 x.1) q4 in
    (record { w = (p1 i).0; d = (q2 i).0; c = (q3 i).0; count = (q4 i).0; fails = (q5 i).0 == 1 }, (q5 i).1)

pub order-is : (s : Tpcc) (number : ℕ) (start : Start) (lines : List (List ℤ)) (g0 g1 g2 : Lcg)
    → (start, g1) ≡ order_start s g0 → lines ≡ (order_lines s start g1).0 → g2 ≡ (order_lines s start g1).1
    → (order_call number start lines, g2) ≡ new_order s number g0
unfolding new_order
order-is s number start lines g0 g1 g2 p q r =
    (λ i. (order_call number start (q i), r i))
    ∙ ap (λ x. (order_call number x.0 (order_lines s x.0 x.1).0, (order_lines s x.0 x.1).1)) p

pub payment-is : (s : Tpcc) (number w d amount : ℕ) (at by : ℕ × ℕ) (g0 g1 g2 g3 g4 g5 : Lcg)
    → (w, g1) ≡ random 1 s.warehouses g0 → (d, g2) ≡ random 1 DISTRICTS_EACH g1 → (at, g3) ≡ home s w d g2
    → (by, g4) ≡ payer s g3 → (amount, g5) ≡ random 100 500000 g4
    → (payment_call number w d at by amount, g5) ≡ payment s number g0
unfolding payment
payment-is s number w d amount at by g0 g1 g2 g3 g4 g5 p1 p2 p3 p4 p5 = λ i.
    let q2 = p2 ∙ ap (λ x. random 1 DISTRICTS_EACH x.1) p1 in
    let q3 = p3 ∙ (λ j. home s (p1 j).0 (q2 j).0 (q2 j).1) in
    let q4 = p4 ∙ ap (λ x. payer s x.1) q3 in
    let q5 = p5 ∙ ap (λ x. random 100 500000 x.1) q4 in
    (payment_call number (p1 i).0 (q2 i).0 (q3 i).0 (q4 i).0 (q5 i).0, (q5 i).1)
