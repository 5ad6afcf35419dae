-- What a catalogue's JSON says, or where it first does not have the stated form: from the outside in, and from the front.
use Rattle.std.specs.Prelude.{ℕ, ◌+◌, ◌==◌, ◌&&◌, not, List, [], ◌∷◌, ◌++◌, map, if◌then◌else◌, Option, Some, None, option_and_then}
use Rattle.std.specs.declared.result.Result.TheVariants.{Ok}
use Rattle.std.specs.List.{list_any}
use Rattle.std.specs.Str.{bytes_eq}
use Rattle.aria_base.specs.Texts.{is_word}
use Rattle.aria_base.specs.declared.schemas.Table.{Table}
use Rattle.serde_json.specs.Data.{Data, null, boolean, number, string, array, object, Items, no_items, item}
use Rattle.serde_json.specs.Events.{items_len, members_len}
use Rattle.serde_json.specs.Find.{as_str, as_array, get}
use Rattle.proc_lang.specs.declared.procs.PathPart.{PathPart}
use Rattle.proc_lang.specs.declared.procs.Proc.{Proc}
use Rattle.aria_base.specs.declared.limits.TheConstants.{FEWEST_PARTS, MOST_PARTS, MOST_COLUMNS, MOST_ARGS}
use Rattle.proc_lang.specs.declared.limits.TheConstants.{MOST_TABLES, MOST_PROCS, MOST_REGS}
use Rattle.proc_lang.specs.Catalogs.{Plan, is_between}
use Rattle.cat_forms.specs.declared.members.Member.{Member}
use Rattle.cat_forms.specs.declared.members.Member.TheVariants.{Tables, Procs, Name, Key, Cols, Args, Regs, Body}
use Rattle.cat_forms.specs.Members.{member_name}
use Rattle.cat_forms.specs.Names.{kind_named, arg_kind_named}
use Rattle.cat_forms.specs.Places.{in_member, in_item}
use Rattle.cat_forms.specs.Shapes.{Shaped, ◌>>=◌, at_path}
use Rattle.cat_forms.specs.StepWalks.{body_at}

-- ---- objects

abbrev pub member_count : Data → ℕ
member_count null = 0
member_count (boolean b) = 0
member_count (number n) = 0
member_count (string bytes) = 0
member_count (array ds) = 0
member_count (object ms) = members_len ms

-- the objects with these members and no others
abbrev pub two_members : Member → Member → Data → Option (Data × Data)
two_members a b d =
    if member_count d == 2
    then option_and_then (λ x. option_and_then (λ y. Some (x, y)) (get (member_name b) d)) (get (member_name a) d)
    else None

abbrev pub three_members : Member → Member → Member → Data → Option (Data × Data × Data)
three_members a b c d =
    if member_count d == 3
    then option_and_then
    (λ x. option_and_then
    (λ y. option_and_then (λ z. Some (x, y, z)) (get (member_name c) d))
    (get (member_name b) d))
    (get (member_name a) d)
    else None

abbrev pub four_members : Member → Member → Member → Member → Data → Option (Data × Data × Data × Data)
four_members a b c e d =
    if member_count d == 4
    then option_and_then
    (λ w. option_and_then
    (λ x. option_and_then
    (λ y. option_and_then (λ z. Some (w, x, y, z)) (get (member_name e) d))
    (get (member_name c) d))
    (get (member_name b) d))
    (get (member_name a) d)
    else None

-- ---- names and kinds

-- a word that is not among the earlier ones
abbrev pub new_word : List (List ℕ) → List ℕ → Option (List ℕ)
new_word earlier name = if is_word name && not (list_any (bytes_eq name) earlier) then Some name else None

abbrev pub name_at : List PathPart → List (List ℕ) → Data → Shaped (List ℕ)
name_at path earlier d = at_path path (option_and_then (new_word earlier) (as_str d))

-- the items of an array with this number of them
abbrev pub items_between : ℕ → ℕ → Data → Option Items
items_between low high d = option_and_then (λ ds. if is_between low high (items_len ds) then Some ds else None) (as_array d)

-- what the strings of an array name, one after another, behind those that are done
abbrev pub named_after : {A : Type 0} → (List ℕ → Option A) → List PathPart → ℕ → List A → Items → Shaped (List A)
named_after named path at done no_items = Ok done
named_after named path at done (item d ds) = do
  x ← at_path (in_item path at) (option_and_then named (as_str d))
  named_after named path (at + 1) (done ++ x ∷ []) ds

abbrev pub named_at : {A : Type 0} → (List ℕ → Option A) → List PathPart → ℕ → ℕ → Data → Shaped (List A)
named_at named path low high d = do
  ds ← at_path path (items_between low high d)
  named_after named path 0 [] ds

-- ---- tables

abbrev pub table_at : List PathPart → List (List ℕ) → Data → Shaped Table
table_at path earlier d = do
  ms ← at_path path (three_members Name Key Cols d)
  name ← name_at (in_member path Name) earlier ms.0
  key ← named_at kind_named (in_member path Key) FEWEST_PARTS MOST_PARTS ms.1
  cols ← named_at kind_named (in_member path Cols) 0 MOST_COLUMNS ms.2
  Ok (record { name = name; key = key; cols = cols })

abbrev pub tables_after : List PathPart → ℕ → List Table → Items → Shaped (List Table)
tables_after path at done no_items = Ok done
tables_after path at done (item d ds) = do
  t ← table_at (in_item path at) (map (λ t. t.name) done) d
  tables_after path (at + 1) (done ++ t ∷ []) ds

abbrev pub tables_at : List PathPart → Data → Shaped (List Table)
tables_at path d = do
  ds ← at_path path (items_between 0 MOST_TABLES d)
  tables_after path 0 [] ds

-- ---- procedures

abbrev pub proc_at : List Table → List PathPart → List (List ℕ) → Data → Shaped Proc
proc_at tables path earlier d = do
  ms ← at_path path (four_members Name Args Regs Body d)
  name ← name_at (in_member path Name) earlier ms.0
  args ← named_at arg_kind_named (in_member path Args) 0 MOST_ARGS ms.1
  regs ← named_at kind_named (in_member path Regs) 0 MOST_REGS ms.2
  body ← body_at tables (in_member path Body) ms.3
  Ok (record { name = name; args = args; regs = regs; body = body })

abbrev pub procs_after : List Table → List PathPart → ℕ → List Proc → Items → Shaped (List Proc)
procs_after tables path at done no_items = Ok done
procs_after tables path at done (item d ds) = do
  p ← proc_at tables (in_item path at) (map (λ p. p.name) done) d
  procs_after tables path (at + 1) (done ++ p ∷ []) ds

abbrev pub procs_at : List Table → List PathPart → Data → Shaped (List Proc)
procs_at tables path d = do
  ds ← at_path path (items_between 0 MOST_PROCS d)
  procs_after tables path 0 [] ds

-- ---- the catalogue

abbrev pub plan_at : List PathPart → Data → Shaped Plan
plan_at path d = do
  ms ← at_path path (two_members Tables Procs d)
  tables ← tables_at (in_member path Tables) ms.0
  procs ← procs_at tables (in_member path Procs) ms.1
  Ok (record { tables = tables; procs = procs })

-- what the data says, or the first place in the walk that does not have the stated form
abbrev pub plan_of : Data → Shaped Plan
plan_of d = plan_at [] d
