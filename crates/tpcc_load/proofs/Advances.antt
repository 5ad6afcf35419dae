-- What a request draws takes words, and gives none back.
use Rattle.std.proofs.Common.{refl, ℕ, zero, suc, ◌+◌, Bool, true, false, List, nat_lt, if◌then◌else◌, ◌&&◌, ◌==◌}
use Rattle.load_gen.specs.Draws.{Drawn, random}
use Rattle.load_gen.proofs.Advances.{Advances, past-refl, past-trans}
use Rattle.tpcc_load.specs.declared.districts.TheConstants.{DISTRICTS_EACH}
use Rattle.tpcc_load.specs.declared.requests.Start.{Start}
use Rattle.tpcc_load.specs.declared.settings.Tpcc.{Tpcc}
use Rattle.tpcc_load.specs.Draws.{over, other_warehouse}
use Rattle.tpcc_load.specs.Requests.{item, supply, line, line_at, order_start, new_order, home, payer, payment, request}

pub advances-over : {A : Type 0} (n : ℕ) (d : ℕ → Drawn (List A)) → ((k : ℕ) → Advances (d k)) → Advances (over n d)
unfolding over
advances-over zero d a g = past-refl g
advances-over (suc n) d a g = past-trans g (over n d g).1 _ (advances-over n d a g) (a (n + 1) (over n d g).1)

-- of two ways, each takes words
advances-either : {A : Type 0} (b : Bool) (one other : Drawn A) → Advances one → Advances other → Advances (if b then one else other)
advances-either true one other a o g = a g
advances-either false one other a o g = o g

other-advances : (warehouses w : ℕ) → Advances (other_warehouse warehouses w)
other-advances warehouses w g = (1, refl)

supply-advances : (s : Tpcc) (w : ℕ) → Advances (supply s w)
supply-advances s w = advances-either (nat_lt 1 s.warehouses) _ _
    (λ g. past-trans g (random 1 100 g).1 _ (1, refl)
    (advances-either _ _ _ (other-advances s.warehouses w) past-refl (random 1 100 g).1))
    past-refl

pub line-advances : (s : Tpcc) (w : ℕ) (fails : Bool) → Advances (line s w fails)
line-advances s w fails g =
    past-trans g (item s fails g).1 _ (2, refl)
    (past-trans (item s fails g).1 (supply s w (item s fails g).1).1 _ (supply-advances s w (item s fails g).1) (1, refl))

pub line_at-advances : (s : Tpcc) (start : Start) (k : ℕ) → Advances (line_at s start k)
line_at-advances s start k = line-advances s start.w (start.fails && (k == start.count))

pub lines-advance : (s : Tpcc) (start : Start) (n : ℕ) → Advances (over n (line_at s start))
lines-advance s start n = advances-over n (line_at s start) (line_at-advances s start)

pub start-advances : (s : Tpcc) → Advances (order_start s)
unfolding order_start
start-advances s g = (6, refl)

pub order-advances : (s : Tpcc) (number : ℕ) → Advances (new_order s number)
unfolding new_order
order-advances s number g = past-trans g (order_start s g).1 _ (start-advances s g)
    (lines-advance s (order_start s g).0 (order_start s g).0.count (order_start s g).1)

home-advances : (s : Tpcc) (w d : ℕ) → Advances (home s w d)
home-advances s w d = advances-either (nat_lt 1 s.warehouses) _ _
    (λ g. past-trans g (random 1 100 g).1 _ (1, refl)
    (advances-either _ _ _ (λ g. (2, refl)) past-refl (random 1 100 g).1))
    past-refl

pub payer-advances : (s : Tpcc) → Advances (payer s)
payer-advances s g = past-trans g (random 1 100 g).1 _ (1, refl) (advances-either _ _ _ (λ g. (2, refl)) (λ g. (2, refl)) (random 1 100 g).1)

pub payment-advances : (s : Tpcc) (number : ℕ) → Advances (payment s number)
unfolding payment
payment-advances s number g =
    let w = random 1 s.warehouses g in
    let d = random 1 DISTRICTS_EACH w.1 in
    let at = home s w.0 d.0 d.1 in
    past-trans g d.1 _ (2, refl)
    (past-trans d.1 at.1 _ (home-advances s w.0 d.0 d.1) (past-trans at.1 (payer s at.1).1 _ (payer-advances s at.1) (1, refl)))

pub request-advances : (s : Tpcc) (number : ℕ) → Advances (request s number)
request-advances s number g = past-trans g (random 0 87 g).1 _ (1, refl)
    (advances-either _ _ _ (order-advances s number) (payment-advances s number) (random 0 87 g).1)
