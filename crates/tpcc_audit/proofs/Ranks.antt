-- The keys that an audit looks at, by the order in which they are drawn.
use Rattle.std.proofs.Common.{◌≡◌, refl, subst, ℕ, ◌+◌, ◌*◌, ◌≤◌, ◌==◌, ◌||◌, Bool, true, false, if◌then◌else◌, nat_abs, arith}
use Rattle.std.proofs.Common.{List, [], ◌∷◌, ◌++◌, None}
use Rattle.std.specs.Prelude.{T}
use Rattle.std.specs.List.{AllByRecursion}
use Rattle.std.proofs.lemmas.List.{append-nil}
use Rattle.std.specs.FinMap as fin
use Rattle.aria_base.specs.Orders.{Database}
use Rattle.aria_base.specs.declared.keys.Key.{Key}
use Rattle.cat_builtin.specs.Warehouses as table
use Rattle.tpcc_load.specs.Rows.{Row}
use Rattle.tpcc_audit.specs.declared.facts.Fact.TheVariants as fact
use Rattle.tpcc_audit.specs.Facts.{fact_of, part_at}

-- whether a key is one of a table that an audit looks at
abbrev pub is_seen : Key → Bool
is_seen k =
    k.table == table.warehouses || (k.table == table.districts || (k.table == table.open_orders || (k.table == table.orders || k.table == table.order_lines)))

unseen-by : (a b c d e : Bool) {A : Type 0} (x y z u v w : A) → (a || (b || (c || (d || e)))) ≡ false
    → (if a then x else if b then y else if c then z else if d then u else if e then v else w) ≡ w
unseen-by true b c d e x y z u v w h = cc
unseen-by false true c d e x y z u v w h = cc
unseen-by false false true d e x y z u v w h = cc
unseen-by false false false true e x y z u v w h = cc
unseen-by false false false false true x y z u v w h = cc
unseen-by false false false false false x y z u v w h = refl

pub other_fact : (r : Row) → is_seen r.0 ≡ false → fact_of r ≡ fact.Other
other_fact r h =
    unseen-by (r.0.table == table.warehouses) (r.0.table == table.districts) (r.0.table == table.open_orders) (r.0.table == table.orders)
    (r.0.table == table.order_lines) _ _ _ _ _ _ h

abbrev pub part_of : Key → ℕ → ℕ
part_of k n = nat_abs (part_at k.parts n)

-- a place in the order of drawing: by warehouse, district, order, and line, an order before its lines and their end behind them
abbrev pub place : ℕ → ℕ → ℕ → ℕ → ℕ
place w d o n = w * 2097152 + (d * 131072 + (o * 32 + n))

abbrev pub rank : Key → ℕ
rank k =
    if k.table == table.warehouses then place (part_of k 0) 0 0 0
    else if k.table == table.districts then place (part_of k 0) (part_of k 1) 0 0
    else if k.table == table.open_orders then place (part_of k 0) (part_of k 1) (part_of k 2) 31
    else if k.table == table.orders then place (part_of k 0) (part_of k 1) (part_of k 2) 0
    else place (part_of k 0) (part_of k 1) (part_of k 2) (part_of k 3)

-- the ranks of the keys that are looked at rise, from this number at least, and stay below that one
abbrev pub Rises_by : Bool → ℕ → Key → (ℕ → Type 0) → Type 0
Rises_by true low k rest = (low ≤ rank k) × rest (rank k + 1)
Rises_by false low k rest = rest low

abbrev pub Rises : ℕ → List Row → ℕ → Type 0
Rises low [] high = low ≤ high
Rises low (r ∷ rs) high = Rises_by (is_seen r.0) low r.0 (λ n. Rises n rs high)

-- no key that is looked at is there from this rank on
abbrev pub IsAbsentFrom : ℕ → Database → Type 0
IsAbsentFrom low db = (q : Key) → is_seen q ≡ true → low ≤ rank q → fin.get db q ≡ None

from-by : (s : Bool) (k : Key) (a b : ℕ) (P : ℕ → Type 0) → a ≤ b → (P b → P a) → Rises_by s b k P → Rises_by s a k P
from-by true k a b P h rest p = (omega (arith, h, p.0), p.1)
from-by false k a b P h rest p = rest p

pub rises-from : (rs : List Row) (a b high : ℕ) → a ≤ b → Rises b rs high → Rises a rs high
rises-from [] a b high h rises = omega (arith, h, rises)
rises-from (r ∷ rs) a b high h rises = from-by (is_seen r.0) r.0 a b (λ n. Rises n rs high) h (rises-from rs a b high h) rises

append-by : (s : Bool) (k : Key) (a : ℕ) (P Q : ℕ → Type 0) → ((n : ℕ) → P n → Q n) → Rises_by s a k P → Rises_by s a k Q
append-by true k a P Q rest p = (p.0, rest (rank k + 1) p.1)
append-by false k a P Q rest p = rest a p

pub rises-append : (xs ys : List Row) (a b c : ℕ) → Rises a xs b → Rises b ys c → Rises a (xs ++ ys) c
rises-append [] ys a b c first second = rises-from ys a b c first second
rises-append (x ∷ xs) ys a b c first second =
    append-by (is_seen x.0) x.0 a (λ n. Rises n xs b) (λ n. Rises n (xs ++ ys) c) (λ n p. rises-append xs ys n b c p second) first

pub rises-to : (rs : List Row) (a b c : ℕ) → b ≤ c → Rises a rs b → Rises a rs c
rises-to rs a b c h rises = subst (λ l. Rises a l c) (append-nil rs) (rises-append rs [] a b c rises h)

unseen-rest : (s : Bool) (k : Key) (a : ℕ) (P : ℕ → Type 0) → s ≡ false → P a → Rises_by s a k P
unseen-rest true k a P e p = absurd (subst T e tt)
unseen-rest false k a P e p = p

-- other keys may stand anywhere
pub rises-unseen : (rs : List Row) (a b : ℕ) → a ≤ b → AllByRecursion (λ r. is_seen r.0 ≡ false) rs → Rises a rs b
rises-unseen [] a b h all = h
rises-unseen (r ∷ rs) a b h all = unseen-rest (is_seen r.0) r.0 a (λ n. Rises n rs b) all.0 (rises-unseen rs a b h all.1)
