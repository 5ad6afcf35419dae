-- What the types of the language hold: numbers within their widths, and texts that are texts. A contract sees plain numbers, and so
-- does not see that.
use Rattle.std.specs.Prelude.{ℕ, ◌^◌, ◌&&◌, Bool, true, nat_lt}
use Rattle.std.specs.List.{list_all}
use Rattle.proc_lang.specs.Terms.{Term, Num, Text, Me, Named, Unary, Binary, MulDiv, Front}
use Rattle.proc_lang.specs.Steps.{Absence, Traps, Fails, Blanks, Step, Steps, NoMore, More}
use Rattle.proc_lang.specs.Steps as step
use Rattle.proc_lang.specs.Values.{is_i64}
use Rattle.cat_forms.specs.Shapes.{is_text}

abbrev pub is_u32 : ℕ → Bool
is_u32 n = nat_lt n (2 ^ 32)

abbrev pub term_held : Term → Bool
term_held (Num z) = is_i64 z
term_held (Text bytes) = is_text bytes
term_held Me = true
term_held (Named from n) = is_u32 n
term_held (Unary o a) = term_held a
term_held (Binary o a b) = term_held a && term_held b
term_held (MulDiv a b c) = term_held a && term_held b && term_held c
term_held (Front a b n) = term_held a && term_held b

abbrev pub absence_held : Absence → Bool
absence_held Traps = true
absence_held (Fails code) = true
absence_held (Blanks flag) = is_u32 flag

abbrev mutual
  pub step_held : Step → Bool
  step_held (step.Let r e) = is_u32 r && term_held e
  step_held (step.Read absence t ks rs) = list_all term_held ks && list_all is_u32 rs && absence_held absence
  step_held (step.Put t ks es) = list_all term_held ks && list_all term_held es
  step_held (step.Del t ks) = list_all term_held ks
  step_held (step.If e a b) = term_held e && steps_held a && steps_held b
  step_held (step.Each n body) = is_u32 n && steps_held body
  step_held (step.Give e) = term_held e
  step_held (step.Fail code) = true

  pub steps_held : Steps → Bool
  steps_held NoMore = true
  steps_held (More s rest) = step_held s && steps_held rest
