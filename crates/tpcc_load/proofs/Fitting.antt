-- Each request that is drawn fits the catalogue.
use Rattle.std.proofs.Common.{◌≡◌, refl, ap, ◌∙◌, ℕ, zero, suc, ◌+◌, ◌&&◌, ◌==◌, Bool, true, false, List, length, nat_lt, if◌then◌else◌}
use Rattle.std.specs.List.{All, list_all}
use Rattle.std.proofs.lemmas.List.Folds.{list_all-append}
use Rattle.std.proofs.lemmas.List.Sums.{AllPass-from_list_all}
use Rattle.rand_pcg.specs.Lcg.{Lcg}
use Rattle.aria_base.specs.declared.calls.Call.{Call}
use Rattle.proc_lang.specs.Catalogs.{takes}
use Rattle.cat_builtin.specs.Tpcc.{tpcc}
use Rattle.load_gen.specs.Draws.{Drawn, random, times}
use Rattle.load_gen.proofs.Times.{times-all}
use Rattle.tpcc_load.specs.declared.settings.Tpcc.{Tpcc}
use Rattle.tpcc_load.specs.Draws.{over}
use Rattle.tpcc_load.specs.Requests.{line_at, order_start, new_order, payment, request}

over-all : {A : Type 0} (p : A → Bool) (n : ℕ) (d : ℕ → Drawn (List A)) → ((k : ℕ) (g : Lcg) → list_all p (d k g).0 ≡ true) → (g : Lcg)
    → list_all p (over n d g).0 ≡ true
unfolding over
over-all p zero d each g = refl
over-all p (suc n) d each g =
    list_all-append p (over n d g).0 (d (n + 1) (over n d g).1).0
    ∙ (λ i. over-all p n d each g i && each (n + 1) (over n d g).1 i)

pub order_fits : (s : Tpcc) (number : ℕ) (g : Lcg) → takes tpcc (new_order s number g).0 ≡ true
unfolding new_order
order_fits s number g =
    let start = order_start s g in
    ap (λ b. b && true) (over-all (λ t. length t == 3) start.0.count (line_at s start.0) (λ k g. refl) start.1)

pub payment_fits : (s : Tpcc) (number : ℕ) (g : Lcg) → takes tpcc (payment s number g).0 ≡ true
unfolding payment
payment_fits s number g = refl

either_fits : (b : Bool) (one other : Drawn Call) (g : Lcg) → takes tpcc (one g).0 ≡ true → takes tpcc (other g).0 ≡ true
    → takes tpcc ((if b then one else other) g).0 ≡ true
either_fits true one other g a o = a
either_fits false one other g a o = o

request_fits : (s : Tpcc) (number : ℕ) (g : Lcg) → takes tpcc (request s number g).0 ≡ true
request_fits s number g =
    let kind = random 0 87 g in
    either_fits (nat_lt kind.0 45) (new_order s number) (payment s number) kind.1 (order_fits s number kind.1) (payment_fits s number kind.1)

pub requests_fit : (s : Tpcc) (number n : ℕ) (g : Lcg) → All (λ call. takes tpcc call ≡ true) (times n (request s number) g).0
requests_fit s number n g =
    AllPass-from_list_all (takes tpcc) (times n (request s number) g).0 (times-all (takes tpcc) n (request s number) (request_fits s number) g)
