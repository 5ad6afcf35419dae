-- No form has more than three operands.
use Rattle.std.proofs.Common.{◌≡◌, ℕ, ◌≤◌, List, [], ◌∷◌, length, Some, refl, arith}
use Rattle.std.specs.declared.result.Result.TheVariants.{Err}
use Rattle.serde_json.specs.declared.value.Value.{Value}
use Rattle.serde_json.specs.View.{items_view}
use Rattle.proc_lang.specs.declared.procs.PathPart.{PathPart}
use Rattle.cat_forms.specs.declared.names.Form.{Form}
use Rattle.cat_forms.specs.declared.names.Form.TheVariants as form
use Rattle.cat_forms.specs.TermWalks.{form_at}

pub too_many : (path : List PathPart) (level : ℕ) (f : Form) (vs : List Value) → 4 ≤ length vs → form_at path level (Some f) (items_view vs) ≡ Err path
too_many path level f [] h = absurd (omega arith)
too_many path level f (a ∷ []) h = absurd (omega arith)
too_many path level f (a ∷ b ∷ []) h = absurd (omega arith)
too_many path level f (a ∷ b ∷ c ∷ []) h = absurd (omega arith)
too_many path level form.Me (a ∷ b ∷ c ∷ d ∷ vs) h = refl
too_many path level (form.Named from) (a ∷ b ∷ c ∷ d ∷ vs) h = refl
too_many path level (form.Unary u) (a ∷ b ∷ c ∷ d ∷ vs) h = refl
too_many path level (form.Binary o) (a ∷ b ∷ c ∷ d ∷ vs) h = refl
too_many path level form.MulDiv (a ∷ b ∷ c ∷ d ∷ vs) h = refl
too_many path level form.Front (a ∷ b ∷ c ∷ d ∷ vs) h = refl
