-- How statements are kept as ghost values. No rule rests on the form: it only has to tell blocks apart.
use Rattle.std.specs.Prelude.{◌≡◌, ◌==◌, refl}
use mathlib.Core.Path.{ap, subst}
use lib.Dec.{T}
use Rattle.std.specs.Coded.{Coded}
use base.Stored.{Gv, gnil, gnum, num}
use Rattle.proc_lang.specs.Steps.{Absence, Traps, Fails, Blanks, Step, Let, Read, Put, Del, If, Each, Give, Fail, Steps, NoMore, More}
use Rattle.proc_lang.specs.TermCodes.{tagged, tag, first, second, third, numbers_code, terms_code, term_code}

abbrev kept_absence : Absence → Gv
kept_absence Traps = tagged 0 gnil gnil gnil
kept_absence (Fails code) = tagged 1 (gnum code) gnil gnil
kept_absence (Blanks flag) = tagged 2 (gnum flag) gnil gnil

absence_one : (x y : Absence) → kept_absence x ≡ kept_absence y → x ≡ y
absence_one Traps Traps e = refl
absence_one (Fails x) (Fails y) e = λ i. Fails (num (first (e i)))
absence_one (Blanks x) (Blanks y) e = λ i. Blanks (num (first (e i)))
absence_one x y e = absurd (subst (λ g. T (tag (kept_absence x) == tag g)) e tt)

abbrev mutual
  pub kept_step : Step → Gv
  kept_step (Let n e) = tagged 0 (gnum n) (term_code.code e) gnil
  kept_step (Read absence t ks rs) = tagged 1 (tagged t (kept_absence absence) gnil gnil) (terms_code.code ks) (numbers_code.code rs)
  kept_step (Put t ks es) = tagged 2 (gnum t) (terms_code.code ks) (terms_code.code es)
  kept_step (Del t ks) = tagged 3 (gnum t) (terms_code.code ks) gnil
  kept_step (If e a b) = tagged 4 (term_code.code e) (kept_steps a) (kept_steps b)
  kept_step (Each n body) = tagged 5 (gnum n) (kept_steps body) gnil
  kept_step (Give e) = tagged 6 (term_code.code e) gnil gnil
  kept_step (Fail code) = tagged 7 (gnum code) gnil gnil

  pub kept_steps : Steps → Gv
  kept_steps NoMore = tagged 0 gnil gnil gnil
  kept_steps (More s rest) = tagged 1 (kept_step s) (kept_steps rest) gnil

-- statements that are kept as one are one, and so are blocks
mutual
  pub step_one : (s t : Step) → kept_step s ≡ kept_step t → s ≡ t
  step_one (Let n a) (Let m b) e = λ i. Let (num (first (e i))) (term_code.inj a b (ap second e) i)
  step_one (Read x t ks rs) (Read y u ls ss) e =
      λ i. Read (absence_one x y (ap (λ g. first (first g)) e) i) (tag (first (e i)))
      (terms_code.inj ks ls (ap second e) i) (numbers_code.inj rs ss (ap third e) i)
  step_one (Put t ks es) (Put u ls fs) e =
      λ i. Put (num (first (e i))) (terms_code.inj ks ls (ap second e) i) (terms_code.inj es fs (ap third e) i)
  step_one (Del t ks) (Del u ls) e = λ i. Del (num (first (e i))) (terms_code.inj ks ls (ap second e) i)
  step_one (If a b c) (If x y z) e =
      λ i. If (term_code.inj a x (ap first e) i) (steps_one b y (ap second e) i) (steps_one c z (ap third e) i)
  step_one (Each n a) (Each m b) e = λ i. Each (num (first (e i))) (steps_one a b (ap second e) i)
  step_one (Give a) (Give b) e = λ i. Give (term_code.inj a b (ap first e) i)
  step_one (Fail n) (Fail m) e = λ i. Fail (num (first (e i)))
  step_one s t e = absurd (subst (λ g. T (tag (kept_step s) == tag g)) e tt)

  pub steps_one : (s t : Steps) → kept_steps s ≡ kept_steps t → s ≡ t
  steps_one NoMore NoMore e = refl
  steps_one (More s a) (More t b) e = λ i. More (step_one s t (ap first e) i) (steps_one a b (ap second e) i)
  steps_one s t e = absurd (subst (λ g. T (tag (kept_steps s) == tag g)) e tt)

abbrev pub steps_code : Coded Steps
steps_code = record { code = kept_steps; inj = steps_one }
