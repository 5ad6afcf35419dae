-- The order of keys is total, keys that tie are equal, and the order is the derived one.
use Rattle.std.proofs.Common.{◌≡◌, true, refl, sym, ap, subst}
use Rattle.std.proofs.Math.Path.{fun_ext}
use Rattle.std.specs.Cmp.{IsTotalOrder}
use Rattle.std.specs.FinMap.{IsAntisymmetric, slice_cmp-IsAntisymmetric, int_cmp-IsAntisymmetric, nat_cmp-IsAntisymmetric}
use Rattle.std.proofs.lemmas.Cmp.{int_cmp_total, nat_cmp_total, nat_list_cmp_total, lists_total, on_total, then_total}
use Rattle.std.specs.declared.cmp.Ordering.{Ordering}
use Rattle.std.specs.declared.cmp.Ordering.TheVariants.{Less, Equal, Greater}
use Rattle.std.specs.Ordering.{eq_by_cmp, is_eq, nat_cmp, ordering_reverse, ordering_then}
use Rattle.std.specs.Cmp.Lexicographic.{slice_cmp}
use Rattle.aria_base.specs.declared.keys.Part.{Part}
use Rattle.aria_base.specs.declared.keys.Part.TheVariants as part
use Rattle.aria_base.specs.declared.keys.Key.{Key}
use Rattle.aria_base.specs.contracts.keys.PartOrd.TheImpl as part_order
use Rattle.aria_base.specs.contracts.keys.KeyOrd.TheImpl as key_order
use Rattle.aria_base.specs.Orders.{part_cmp, key_cmp}

part_back : (x y : Part) → part_cmp x y ≡ ordering_reverse (part_cmp y x)
part_back (part.Int x) (part.Int y) = int_cmp_total.antisymm x y
part_back (part.Int x) (part.Text y) = refl
part_back (part.Text x) (part.Int y) = refl
part_back (part.Text x) (part.Text y) = nat_list_cmp_total.antisymm x y

part_trans : (x y z : Part) → part_cmp x y ≡ Less → part_cmp y z ≡ Less → part_cmp x z ≡ Less
part_trans (part.Int x) (part.Int y) (part.Int z) a b = int_cmp_total.trans x y z a b
part_trans (part.Int x) y (part.Text z) a b = refl
part_trans (part.Int x) (part.Text y) (part.Int z) a b = cc
part_trans (part.Text x) (part.Int y) z a b = cc
part_trans (part.Text x) (part.Text y) (part.Int z) a b = cc
part_trans (part.Text x) (part.Text y) (part.Text z) a b = nat_list_cmp_total.trans x y z a b

part_congr : (x y z : Part) → part_cmp x y ≡ Equal → part_cmp x z ≡ part_cmp y z
part_congr (part.Int x) (part.Int y) (part.Int z) e = int_cmp_total.congr x y z e
part_congr (part.Int x) (part.Int y) (part.Text z) e = refl
part_congr (part.Int x) (part.Text y) z e = cc
part_congr (part.Text x) (part.Int y) z e = cc
part_congr (part.Text x) (part.Text y) (part.Int z) e = refl
part_congr (part.Text x) (part.Text y) (part.Text z) e = nat_list_cmp_total.congr x y z e

pub part_cmp_total : IsTotalOrder part_cmp
part_cmp_total = record { antisymm = part_back; trans = part_trans; congr = part_congr }

pub part_cmp-IsAntisymmetric : IsAntisymmetric part_cmp
part_cmp-IsAntisymmetric (part.Int x) (part.Int y) e = ap part.Int (int_cmp-IsAntisymmetric x y e)
part_cmp-IsAntisymmetric (part.Int x) (part.Text y) e = cc
part_cmp-IsAntisymmetric (part.Text x) (part.Int y) e = cc
part_cmp-IsAntisymmetric (part.Text x) (part.Text y) e = ap part.Text (slice_cmp-IsAntisymmetric nat_cmp-IsAntisymmetric x y e)

-- two orders tie where each does
both_tie : (a b : Ordering) → ordering_then a b ≡ Equal → (a ≡ Equal) × (b ≡ Equal)
both_tie Less b e = cc
both_tie Equal b e = (refl, e)
both_tie Greater b e = cc

pub key_cmp_total : IsTotalOrder key_cmp
key_cmp_total = then_total (on_total (λ k. k.table) nat_cmp_total) (on_total (λ k. k.parts) (lists_total part_cmp_total))

pub key_cmp-IsAntisymmetric : IsAntisymmetric key_cmp
key_cmp-IsAntisymmetric a b e =
    let ties = both_tie (nat_cmp a.table b.table) (slice_cmp part_cmp a.parts b.parts) e in
    let table = nat_cmp-IsAntisymmetric a.table b.table ties.0 in
    let parts = slice_cmp-IsAntisymmetric part_cmp-IsAntisymmetric a.parts b.parts ties.1 in
    λ i. record { table = table i; parts = parts i }

equal : (r : Ordering) → is_eq r ≡ true → r ≡ Equal
equal Less e = cc
equal Equal e = refl
equal Greater e = cc

-- keys that tie are equal
pub same_key : (q k : Key) → eq_by_cmp key_cmp q k ≡ true → q ≡ k
same_key q k tied = key_cmp-IsAntisymmetric q k (equal _ tied)

-- ---- the order of the derived comparison

abbrev pub derived_cmp : Key → Key → Ordering
derived_cmp = key_order.cmp-value.it

part-is : (x y : Part) → part_order.cmp-value.it x y ≡ part_cmp x y
part-is (part.Int x) (part.Int y) = refl
part-is (part.Int x) (part.Text y) = refl
part-is (part.Text x) (part.Int y) = refl
part-is (part.Text x) (part.Text y) = refl

pub derived-is : (x y : Key) → derived_cmp x y ≡ key_cmp x y
derived-is x y = ap (λ cmp. ordering_then (nat_cmp x.table y.table) (slice_cmp cmp x.parts y.parts)) (fun_ext (λ a. fun_ext (part-is a)))

pub derived_same : derived_cmp ≡ key_cmp
derived_same = fun_ext (λ x. fun_ext (derived-is x))

pub derived_total : IsTotalOrder derived_cmp
derived_total = subst IsTotalOrder (sym derived_same) key_cmp_total
