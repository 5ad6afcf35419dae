-- What expressions, statements and kinds are called in JSON.
use Rattle.std.specs.Prelude.{ℕ, ◌+◌, Bool, true, false, List, [], ◌∷◌, ◌++◌, Option, codes, find, if◌then◌else◌}
use Rattle.std.specs.Str.{bytes_eq}
use Rattle.aria_base.specs.declared.values.Kind.{Kind}
use Rattle.aria_base.specs.declared.values.Kind.TheVariants as kind
use Rattle.proc_lang.specs.declared.operators.Operand.{Operand}
use Rattle.proc_lang.specs.declared.operators.Operand.TheVariants as source
use Rattle.proc_lang.specs.declared.operators.UnaryOp.{UnaryOp}
use Rattle.proc_lang.specs.declared.operators.UnaryOp.TheVariants as unary
use Rattle.proc_lang.specs.declared.operators.BinaryOp.{BinaryOp}
use Rattle.proc_lang.specs.declared.operators.BinaryOp.TheVariants as binary
use Rattle.proc_lang.specs.declared.procs.ArgKind.{ArgKind}
use Rattle.proc_lang.specs.declared.procs.ArgKind.TheVariants as arg
use Rattle.proc_lang.specs.Catalogs.{is_between}
use Rattle.aria_base.specs.declared.limits.TheConstants.{SHORTEST_TUPLE, LONGEST_TUPLE}
use Rattle.cat_forms.specs.declared.names.Form.{Form}
use Rattle.cat_forms.specs.declared.names.Form.TheVariants as form
use Rattle.cat_forms.specs.declared.names.Verb.{Verb}
use Rattle.cat_forms.specs.declared.names.Verb.TheVariants as verb
use Rattle.cat_forms.specs.declared.names.TheConstants.{FORMS, VERBS, KINDS, ARG_KINDS}

abbrev pub operand_name : Operand → List ℕ
operand_name source.Reg = codes "reg"
operand_name source.Arg = codes "arg"
operand_name source.Item = codes "item"
operand_name source.Len = codes "len"

abbrev pub unary_name : UnaryOp → List ℕ
unary_name unary.Not = codes "not"
unary_name unary.Show = codes "show"

abbrev pub binary_name : BinaryOp → List ℕ
binary_name binary.Add = codes "add"
binary_name binary.Sub = codes "sub"
binary_name binary.Mul = codes "mul"
binary_name binary.Div = codes "div"
binary_name binary.Mod = codes "mod"
binary_name binary.Eq = codes "eq"
binary_name binary.Ne = codes "ne"
binary_name binary.Lt = codes "lt"
binary_name binary.Le = codes "le"
binary_name binary.And = codes "and"
binary_name binary.Or = codes "or"
binary_name binary.Cat = codes "cat"

abbrev pub form_name : Form → List ℕ
form_name form.Me = codes "me"
form_name (form.Named from) = operand_name from
form_name (form.Unary o) = unary_name o
form_name (form.Binary o) = binary_name o
form_name form.MulDiv = codes "muldiv"
form_name form.Front = codes "front"

-- the form with this name
abbrev pub form_named : List ℕ → Option Form
form_named name = find (λ f. bytes_eq (form_name f) name) FORMS

-- ---- statements

abbrev pub verb_name : Verb → List ℕ
verb_name verb.Let = codes "let"
verb_name verb.Get = codes "get"
verb_name verb.Need = codes "need"
verb_name verb.Find = codes "find"
verb_name verb.Put = codes "put"
verb_name verb.Del = codes "del"
verb_name verb.If = codes "if"
verb_name verb.Each = codes "each"
verb_name verb.Give = codes "give"
verb_name verb.Fail = codes "fail"

-- the verb with this name
abbrev pub verb_named : List ℕ → Option Verb
verb_named name = find (λ v. bytes_eq (verb_name v) name) VERBS

-- the statements of this verb hold blocks
abbrev pub has_blocks : Verb → Bool
has_blocks verb.Let = false
has_blocks verb.Get = false
has_blocks verb.Need = false
has_blocks verb.Find = false
has_blocks verb.Put = false
has_blocks verb.Del = false
has_blocks verb.If = true
has_blocks verb.Each = true
has_blocks verb.Give = false
has_blocks verb.Fail = false

-- ---- kinds

abbrev pub kind_name : Kind → List ℕ
kind_name kind.Int = codes "int"
kind_name kind.Text = codes "text"

-- a list by the number of its tuples' numbers; where no tuple has so many, a name that no kind has
abbrev pub arg_kind_name : ArgKind → List ℕ
arg_kind_name arg.Int = codes "int"
arg_kind_name arg.Text = codes "text"
arg_kind_name (arg.List width) = if is_between SHORTEST_TUPLE LONGEST_TUPLE width then codes "list" ++ (48 + width) ∷ [] else codes "list"

abbrev pub kind_named : List ℕ → Option Kind
kind_named name = find (λ k. bytes_eq (kind_name k) name) KINDS

abbrev pub arg_kind_named : List ℕ → Option ArgKind
arg_kind_named name = find (λ k. bytes_eq (arg_kind_name k) name) ARG_KINDS
