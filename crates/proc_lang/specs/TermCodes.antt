-- How terms are kept as ghost values. No rule rests on the form: it only has to tell terms apart.
use Rattle.std.specs.Prelude.{◌≡◌, ℕ, ◌==◌, List, refl}
use mathlib.Core.Path.{ap, subst}
use lib.Dec.{T}
use Rattle.std.specs.Coded.{Coded, coded_ℕ, coded_ℤ, coded_list}
use base.Stored.{Gv, gnil, gnum, gcons, num}
use Rattle.proc_lang.specs.contracts.operators.Operand as source
use Rattle.proc_lang.specs.contracts.operators.UnaryOp as unary
use Rattle.proc_lang.specs.contracts.operators.BinaryOp as binary
use Rattle.proc_lang.specs.Terms.{Term, Num, Text, Me, Named, Unary, Binary, MulDiv, Front}

-- ---- a tag and three parts

abbrev pub tagged : ℕ → Gv → Gv → Gv → Gv
tagged tag a b c = gcons (gnum tag) (gcons a (gcons b c))

abbrev left : Gv → Gv
left gnil = gnil
left (gnum n) = gnil
left (gcons a b) = a

abbrev right : Gv → Gv
right gnil = gnil
right (gnum n) = gnil
right (gcons a b) = b

abbrev pub tag : Gv → ℕ
tag g = num (left g)

abbrev pub first : Gv → Gv
first g = left (right g)

abbrev pub second : Gv → Gv
second g = left (right (right g))

abbrev pub third : Gv → Gv
third g = right (right (right g))

-- ---- terms

abbrev pub numbers_code : Coded (List ℕ)
numbers_code = coded_list coded_ℕ

abbrev pub kept : Term → Gv
kept (Num z) = tagged 0 (coded_ℤ.code z) gnil gnil
kept (Text bytes) = tagged 1 (numbers_code.code bytes) gnil gnil
kept Me = tagged 2 gnil gnil gnil
kept (Named from n) = tagged 3 ((source.the_row).coded.code from) (gnum n) gnil
kept (Unary o a) = tagged 4 ((unary.the_row).coded.code o) (kept a) gnil
kept (Binary o a b) = tagged 5 ((binary.the_row).coded.code o) (kept a) (kept b)
kept (MulDiv a b c) = tagged 6 (kept a) (kept b) (kept c)
kept (Front a b n) = tagged 7 (kept a) (kept b) (gnum n)

-- terms that are kept as one are one
pub term_one : (s t : Term) → kept s ≡ kept t → s ≡ t
term_one (Num x) (Num y) e = ap Num (coded_ℤ.inj x y (ap first e))
term_one (Text x) (Text y) e = ap Text (numbers_code.inj x y (ap first e))
term_one Me Me e = refl
term_one (Named x n) (Named y m) e = λ i. Named ((source.the_row).coded.inj x y (ap first e) i) (num (second (e i)))
term_one (Unary o a) (Unary p b) e = λ i. Unary ((unary.the_row).coded.inj o p (ap first e) i) (term_one a b (ap second e) i)
term_one (Binary o a b) (Binary p c d) e =
    λ i. Binary ((binary.the_row).coded.inj o p (ap first e) i) (term_one a c (ap second e) i) (term_one b d (ap third e) i)
term_one (MulDiv a b c) (MulDiv x y z) e =
    λ i. MulDiv (term_one a x (ap first e) i) (term_one b y (ap second e) i) (term_one c z (ap third e) i)
term_one (Front a b n) (Front x y m) e = λ i. Front (term_one a x (ap first e) i) (term_one b y (ap second e) i) (num (third (e i)))
term_one s t e = absurd (subst (λ g. T (tag (kept s) == tag g)) e tt)

abbrev pub term_code : Coded Term
term_code = record { code = kept; inj = term_one }

abbrev pub terms_code : Coded (List Term)
terms_code = coded_list term_code
