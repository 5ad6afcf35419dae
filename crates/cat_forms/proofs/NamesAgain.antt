-- Names compared either way round, and names that lead back to what is called so.
use Rattle.std.proofs.Common.{◌≡◌, ℕ, zero, suc, List, Some, true, refl, sym, arith}
use Rattle.std.specs.Str.{bytes_eq}
use Rattle.std.proofs.lemmas.Bool.Decides.{same_from_decides}
use Rattle.std.proofs.lemmas.Slice.Eq.{bytes_eq-Decides}
use Rattle.std.proofs.lemmas.Grind.{common_steps}
use Rattle.aria_base.specs.declared.values.Kind.{Kind}
use Rattle.aria_base.specs.declared.values.Kind.TheVariants as kind
use Rattle.proc_lang.specs.declared.operators.Operand.TheVariants as source
use Rattle.proc_lang.specs.declared.operators.UnaryOp.TheVariants as unary
use Rattle.proc_lang.specs.declared.operators.BinaryOp.TheVariants as binary
use Rattle.proc_lang.specs.declared.procs.ArgKind.{ArgKind}
use Rattle.proc_lang.specs.declared.procs.ArgKind.TheVariants as arg
use Rattle.proc_lang.specs.Catalogs.{arg_kind_fits}
use Rattle.cat_forms.specs.declared.names.Form.{Form}
use Rattle.cat_forms.specs.declared.names.Form.TheVariants as form
use Rattle.cat_forms.specs.declared.names.Verb.{Verb}
use Rattle.cat_forms.specs.declared.names.Verb.TheVariants as verb
use Rattle.cat_forms.specs.Names.{form_name, form_named, verb_name, verb_named, kind_name, kind_named, arg_kind_name, arg_kind_named}

pub bytes_eq-sym : (xs ys : List ℕ) → bytes_eq xs ys ≡ bytes_eq ys xs
bytes_eq-sym xs ys =
    let d = bytes_eq-Decides xs ys in
    let e = bytes_eq-Decides ys xs in
    same_from_decides (bytes_eq xs ys) (bytes_eq ys xs) d (λ h. sym (e.0 h), λ h. e.1 (sym h))

pub form_again : (f : Form) → form_named (form_name f) ≡ Some f
form_again form.Me = refl
form_again (form.Named source.Reg) = refl
form_again (form.Named source.Arg) = refl
form_again (form.Named source.Item) = refl
form_again (form.Named source.Len) = refl
form_again (form.Unary unary.Not) = refl
form_again (form.Unary unary.Show) = refl
form_again (form.Binary binary.Add) = refl
form_again (form.Binary binary.Sub) = refl
form_again (form.Binary binary.Mul) = refl
form_again (form.Binary binary.Div) = refl
form_again (form.Binary binary.Mod) = refl
form_again (form.Binary binary.Eq) = refl
form_again (form.Binary binary.Ne) = refl
form_again (form.Binary binary.Lt) = refl
form_again (form.Binary binary.Le) = refl
form_again (form.Binary binary.And) = refl
form_again (form.Binary binary.Or) = refl
form_again (form.Binary binary.Cat) = refl
form_again form.MulDiv = refl
form_again form.Front = refl

pub verb_again : (v : Verb) → verb_named (verb_name v) ≡ Some v
verb_again verb.Let = refl
verb_again verb.Get = refl
verb_again verb.Need = refl
verb_again verb.Find = refl
verb_again verb.Put = refl
verb_again verb.Del = refl
verb_again verb.If = refl
verb_again verb.Each = refl
verb_again verb.Give = refl
verb_again verb.Fail = refl

pub kind_again : (k : Kind) → kind_named (kind_name k) ≡ Some k
kind_again kind.Int = refl
kind_again kind.Text = refl

pub arg_kind_again : (k : ArgKind) → arg_kind_fits k ≡ true → arg_kind_named (arg_kind_name k) ≡ Some k
arg_kind_again arg.Int h = refl
arg_kind_again arg.Text h = refl
arg_kind_again (arg.List zero) h = absurd (cc h)
arg_kind_again (arg.List (suc zero)) h = refl
arg_kind_again (arg.List (suc (suc zero))) h = refl
arg_kind_again (arg.List (suc (suc (suc zero)))) h = refl
arg_kind_again (arg.List (suc (suc (suc (suc zero))))) h = refl
arg_kind_again (arg.List (suc (suc (suc (suc (suc zero)))))) h = refl
arg_kind_again (arg.List (suc (suc (suc (suc (suc (suc n))))))) h = absurd (grind (arith, common_steps, h))
