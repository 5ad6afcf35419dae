-- What a batch of works draws takes words and gives none back, and each work is taken.
use Rattle.std.proofs.Common.{◌≡◌, refl, ℕ, Bool, true, false, nat_lt, if◌then◌else◌}
use Rattle.std.specs.List.{All}
use Rattle.std.proofs.lemmas.List.Sums.{AllPass-from_list_all}
use Rattle.rand_pcg.specs.Lcg.{Lcg}
use Rattle.cat_builtin.specs.Tpcc.{tpcc}
use Rattle.load_gen.specs.Draws.{Drawn, random, times}
use Rattle.load_gen.proofs.Advances.{Advances, past-trans}
use Rattle.load_gen.proofs.Times.{times-all}
use Rattle.range_rules.specs.declared.routines.Work.{Work}
use Rattle.range_suits.specs.Suits.{is_taken}
use Rattle.tpcc_load.specs.declared.districts.TheConstants.{DISTRICTS_EACH}
use Rattle.tpcc_load.specs.declared.settings.Tpcc.{Tpcc}
use Rattle.tpcc_load.proofs.Advances.{order-advances, payer-advances, payment-advances}
use Rattle.tpcc_load.proofs.Fitting.{order_fits, payment_fits}
use Rattle.tpcc_routines.specs.Mixes.{order_status, delivery, stock_level, proc_order, proc_payment, work_of, request}
use Rattle.tpcc_routines.specs.Routines.{is_more}

pub status-advances : (s : Tpcc) → Advances (order_status s)
unfolding order_status
status-advances s g =
    let w = random 1 s.warehouses g in
    let d = random 1 DISTRICTS_EACH w.1 in
    past-trans g d.1 _ (2, refl) (payer-advances s d.1)

pub delivery-advances : (s : Tpcc) (number : ℕ) → Advances (delivery s number)
unfolding delivery
delivery-advances s number g = (2, refl)

pub level-advances : (s : Tpcc) → Advances (stock_level s)
unfolding stock_level
level-advances s g = (3, refl)

pub proc_order-advances : (s : Tpcc) (number : ℕ) → Advances (proc_order s number)
unfolding proc_order
proc_order-advances s number g = order-advances s number g

pub proc_payment-advances : (s : Tpcc) (number : ℕ) → Advances (proc_payment s number)
unfolding proc_payment
proc_payment-advances s number g = payment-advances s number g

either-advances : {A : Type 0} (b : Bool) (one other : Drawn A) → Advances one → Advances other → Advances (if b then one else other)
either-advances true one other a o g = a g
either-advances false one other a o g = o g

pub work-advances : (s : Tpcc) (number kind : ℕ) → Advances (work_of s number kind)
work-advances s number kind = either-advances (nat_lt kind 45) _ _ (proc_order-advances s number)
    (either-advances (nat_lt kind 88) _ _ (proc_payment-advances s number) (either-advances (nat_lt kind 92) _ _ (status-advances s)
    (either-advances (nat_lt kind 96) _ _ (delivery-advances s number) (level-advances s))))

pub request-advances : (s : Tpcc) (number : ℕ) → Advances (request s number)
request-advances s number g = past-trans g (random 0 99 g).1 _ (1, refl) (work-advances s number (random 0 99 g).0 (random 0 99 g).1)

-- ---- works that are taken

abbrev taken : Work → Bool
taken work = is_taken tpcc is_more work

status_taken : (s : Tpcc) (g : Lcg) → taken (order_status s g).0 ≡ true
unfolding order_status
status_taken s g = refl

delivery_taken : (s : Tpcc) (number : ℕ) (g : Lcg) → taken (delivery s number g).0 ≡ true
unfolding delivery
delivery_taken s number g = refl

level_taken : (s : Tpcc) (g : Lcg) → taken (stock_level s g).0 ≡ true
unfolding stock_level
level_taken s g = refl

proc_order_taken : (s : Tpcc) (number : ℕ) (g : Lcg) → taken (proc_order s number g).0 ≡ true
unfolding proc_order
proc_order_taken s number g = order_fits s number g

proc_payment_taken : (s : Tpcc) (number : ℕ) (g : Lcg) → taken (proc_payment s number g).0 ≡ true
unfolding proc_payment
proc_payment_taken s number g = payment_fits s number g

either_taken : (b : Bool) (one other : Drawn Work) (g : Lcg) → taken (one g).0 ≡ true → taken (other g).0 ≡ true
    → taken ((if b then one else other) g).0 ≡ true
either_taken true one other g a o = a
either_taken false one other g a o = o

work_taken : (s : Tpcc) (number kind : ℕ) (g : Lcg) → taken (work_of s number kind g).0 ≡ true
work_taken s number kind g = either_taken (nat_lt kind 45) _ _ g (proc_order_taken s number g)
    (either_taken (nat_lt kind 88) _ _ g (proc_payment_taken s number g) (either_taken (nat_lt kind 92) _ _ g (status_taken s g)
    (either_taken (nat_lt kind 96) _ _ g (delivery_taken s number g) (level_taken s g))))

request_taken : (s : Tpcc) (number : ℕ) (g : Lcg) → taken (request s number g).0 ≡ true
request_taken s number g = work_taken s number (random 0 99 g).0 (random 0 99 g).1

pub works_taken : (s : Tpcc) (number n : ℕ) (g : Lcg) → All (λ work. is_taken tpcc is_more work ≡ true) (times n (request s number) g).0
works_taken s number n g = AllPass-from_list_all taken (times n (request s number) g).0 (times-all taken n (request s number) (request_taken s number) g)
