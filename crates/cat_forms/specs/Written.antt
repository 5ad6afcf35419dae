-- The JSON of a catalogue.
use Rattle.std.specs.Prelude.{ℕ, List, [], ◌∷◌, map, codes}
use Rattle.std.specs.List.{slice_get}
use Rattle.std.specs.Option.{option_map_or}
use Rattle.aria_base.specs.declared.schemas.Table.{Table}
use Rattle.aria_base.specs.declared.values.Kind.{Kind}
use Rattle.serde_json.specs.Data.{Data, unsigned, number, string, array, object, item, no_members, member}
use Rattle.serde_json.specs.Find.{of_integer}
use Rattle.serde_json.specs.View.{items_of}
use Rattle.proc_lang.specs.declared.procs.ArgKind.{ArgKind}
use Rattle.proc_lang.specs.declared.procs.Proc.{Proc}
use Rattle.proc_lang.specs.Terms.{Term}
use Rattle.proc_lang.specs.Terms as term
use Rattle.proc_lang.specs.Steps.{Absence, Traps, Fails, Blanks, Step, Steps, NoMore, More}
use Rattle.proc_lang.specs.Steps as step
use Rattle.proc_lang.specs.Catalogs.{Plan}
use Rattle.cat_forms.specs.declared.names.Form.{Form}
use Rattle.cat_forms.specs.declared.names.Form.TheVariants as form
use Rattle.cat_forms.specs.declared.names.Verb.{Verb}
use Rattle.cat_forms.specs.declared.names.Verb.TheVariants as verb
use Rattle.cat_forms.specs.Names.{form_name, verb_name, kind_name, arg_kind_name}

-- ---- expressions

-- an array of a name and operands
abbrev pub named : List ℕ → List Data → Data
named name operands = array (item (string name) (items_of operands))

abbrev pub index_data : ℕ → Data
index_data n = number (unsigned n)

abbrev pub form_data : Form → List Data → Data
form_data f operands = named (form_name f) operands

abbrev pub term_data : Term → Data
term_data (term.Num z) = number (of_integer z)
term_data (term.Text bytes) = string bytes
term_data term.Me = form_data form.Me []
term_data (term.Named from n) = form_data (form.Named from) (index_data n ∷ [])
term_data (term.Unary o a) = form_data (form.Unary o) (term_data a ∷ [])
term_data (term.Binary o a b) = form_data (form.Binary o) (term_data a ∷ term_data b ∷ [])
term_data (term.MulDiv a b c) = form_data form.MulDiv (term_data a ∷ term_data b ∷ term_data c ∷ [])
term_data (term.Front a b n) = form_data form.Front (term_data a ∷ term_data b ∷ index_data n ∷ [])

-- ---- statements

abbrev pub list_data : List Data → Data
list_data ds = array (items_of ds)

abbrev pub terms_data : List Term → Data
terms_data ts = list_data (map term_data ts)

abbrev pub indexes_data : List ℕ → Data
indexes_data ns = list_data (map index_data ns)

-- what the table with this number is called
abbrev pub table_name : List Table → ℕ → List ℕ
table_name tables t = option_map_or (λ t. t.name) (slice_get tables t) []

abbrev pub table_ref : List Table → ℕ → Data
table_ref tables t = string (table_name tables t)

abbrev pub verb_data : Verb → List Data → Data
verb_data v operands = named (verb_name v) operands

-- a read by what it does where there is no row: its verb, and its last operand if it has one
abbrev pub read_verb : Absence → Verb
read_verb Traps = verb.Get
read_verb (Fails code) = verb.Need
read_verb (Blanks flag) = verb.Find

abbrev pub read_last : Absence → List Data
read_last Traps = []
read_last (Fails code) = index_data code ∷ []
read_last (Blanks flag) = index_data flag ∷ []

abbrev mutual
  pub step_data : List Table → Step → Data
  step_data tables (step.Let r e) = verb_data verb.Let (index_data r ∷ term_data e ∷ [])
  step_data tables (step.Read absence t ks rs) =
      verb_data (read_verb absence) (table_ref tables t ∷ terms_data ks ∷ indexes_data rs ∷ read_last absence)
  step_data tables (step.Put t ks es) = verb_data verb.Put (table_ref tables t ∷ terms_data ks ∷ terms_data es ∷ [])
  step_data tables (step.Del t ks) = verb_data verb.Del (table_ref tables t ∷ terms_data ks ∷ [])
  step_data tables (step.If e a b) =
      verb_data verb.If (term_data e ∷ list_data (steps_data tables a) ∷ list_data (steps_data tables b) ∷ [])
  step_data tables (step.Each n body) = verb_data verb.Each (index_data n ∷ list_data (steps_data tables body) ∷ [])
  step_data tables (step.Give e) = verb_data verb.Give (term_data e ∷ [])
  step_data tables (step.Fail code) = verb_data verb.Fail (index_data code ∷ [])

  pub steps_data : List Table → Steps → List Data
  steps_data tables NoMore = []
  steps_data tables (More s rest) = step_data tables s ∷ steps_data tables rest

-- ---- tables, procedures and catalogues, with the members of an object in the order of their bytes

abbrev pub kinds_data : List Kind → Data
kinds_data ks = list_data (map (λ k. string (kind_name k)) ks)

abbrev pub arg_kinds_data : List ArgKind → Data
arg_kinds_data ks = list_data (map (λ k. string (arg_kind_name k)) ks)

abbrev pub table_data : Table → Data
table_data t =
    object (member (codes "cols") (kinds_data t.cols)
    (member (codes "key") (kinds_data t.key) (member (codes "name") (string t.name) no_members)))

abbrev pub proc_data : List Table → Proc → Data
proc_data tables p =
    object (member (codes "args") (arg_kinds_data p.args)
    (member (codes "body") (list_data (steps_data tables p.body))
    (member (codes "name") (string p.name) (member (codes "regs") (kinds_data p.regs) no_members))))

abbrev pub data_of : Plan → Data
data_of plan =
    object (member (codes "procs") (list_data (map (proc_data plan.tables) plan.procs))
    (member (codes "tables") (list_data (map table_data plan.tables)) no_members))
