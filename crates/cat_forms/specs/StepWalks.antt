-- The walk through a procedure's body. Each statement's form comes first, then its operands from the front. A plain operand of the
-- wrong form is a fault of its statement. The walk counts statements, those in blocks included, and stops at one too many.
use Rattle.std.specs.Prelude.{ℕ, ◌+◌, nat_lt, List, [], ◌∷◌, ◌++◌, if◌then◌else◌, position, Option, Some, option_map}
use Rattle.std.specs.Prelude.{option_and_then, unwrap_or}
use Rattle.std.specs.declared.result.Result.TheVariants.{Ok, Err}
use Rattle.std.specs.Str.{bytes_eq}
use Rattle.aria_base.specs.declared.schemas.Table.{Table}
use Rattle.serde_json.specs.Data.{Data, null, boolean, number, string, array, object, Items, no_items, item}
use Rattle.serde_json.specs.Find.{as_str, as_array}
use Rattle.proc_lang.specs.declared.procs.PathPart.{PathPart}
use Rattle.proc_lang.specs.declared.limits.TheConstants.{MOST_STATEMENTS, GREATEST_CODE}
use Rattle.proc_lang.specs.Terms.{Term}
use Rattle.proc_lang.specs.Steps.{Step, Steps, Traps, Fails, Blanks, Let, Read, Put, Del, If, Each, Give, Fail}
use Rattle.proc_lang.specs.Syntax.{in_turn}
use Rattle.cat_forms.specs.declared.names.Verb.{Verb}
use Rattle.cat_forms.specs.declared.names.Verb.TheVariants as verb
use Rattle.cat_forms.specs.declared.names.TheConstants.{NO_TABLE}
use Rattle.cat_forms.specs.Names.{verb_named}
use Rattle.cat_forms.specs.Places.{in_item}
use Rattle.cat_forms.specs.Shapes.{Shaped, ◌>>=◌, at_path, index, number_between}
use Rattle.cat_forms.specs.TermWalks.{term_at, terms_after}

-- ---- plain operands

-- the number of the table with this name; another string is no table's number
abbrev pub number_of : List Table → List ℕ → ℕ
number_of tables name = unwrap_or (position (λ t. bytes_eq t.name name) tables) NO_TABLE

abbrev pub table_in : List Table → Data → Option ℕ
table_in tables d = option_map (number_of tables) (as_str d)

abbrev pub code : Data → Option ℕ
code d = number_between 1 GREATEST_CODE d

-- registers one after another, behind those that are done
abbrev pub indexes_after : List ℕ → Items → Option (List ℕ)
indexes_after done no_items = Some done
indexes_after done (item d ds) = option_and_then (λ n. indexes_after (done ++ n ∷ []) ds) (index d)

abbrev pub indexes : Data → Option (List ℕ)
indexes d = option_and_then (indexes_after []) (as_array d)

-- ---- statements

-- the expressions of the operand at this place of the statement at the path
abbrev pub terms_at : List PathPart → ℕ → Data → Shaped (List Term)
terms_at path at d = do
  ds ← at_path path (as_array d)
  terms_after (in_item path at) 0 [] ds

-- the table and the key of a row
abbrev pub row_at : List Table → List PathPart → Data → Data → Shaped (ℕ × List Term)
row_at tables path t ks = do
  n ← at_path path (table_in tables t)
  keys ← terms_at path 2 ks
  Ok (n, keys)

-- and the registers that it is read into
abbrev pub read_at : List Table → List PathPart → Data → Data → Data → Shaped ((ℕ × List Term) × List ℕ)
read_at tables path t ks rs = do
  row ← row_at tables path t ks
  regs ← at_path path (indexes rs)
  Ok (row, regs)

-- one more statement may stand in the body
abbrev pub with_room : {A : Type 0} → List PathPart → ℕ → Shaped A → Shaped A
with_room body seen read = if nat_lt seen MOST_STATEMENTS then read else Err body

abbrev mutual
  -- the statement at the path, in the body at another, and the number of statements up to its end, it being itself the last of `seen`
  pub step_at : List Table → List PathPart → List PathPart → ℕ → Data → Shaped (Step × ℕ)
  step_at tables body path seen null = Err path
  step_at tables body path seen (boolean b) = Err path
  step_at tables body path seen (number n) = Err path
  step_at tables body path seen (string bytes) = Err path
  step_at tables body path seen (array ds) = statement_at tables body path seen ds
  step_at tables body path seen (object ms) = Err path

  pub statement_at : List Table → List PathPart → List PathPart → ℕ → Items → Shaped (Step × ℕ)
  statement_at tables body path seen no_items = Err path
  statement_at tables body path seen (item name operands) =
      verb_at tables body path seen (option_and_then verb_named (as_str name)) operands

  -- the verb has these operands, and no others
  pub verb_at : List Table → List PathPart → List PathPart → ℕ → Option Verb → Items → Shaped (Step × ℕ)
  verb_at tables body path seen (Some verb.Let) (item r (item e no_items)) = do
    n ← at_path path (index r)
    t ← term_at (in_item path 2) 1 e
    Ok (Let n t, seen)
  verb_at tables body path seen (Some verb.Get) (item t (item ks (item rs no_items))) = do
    read ← read_at tables path t ks rs
    Ok (Read Traps read.0.0 read.0.1 read.1, seen)
  verb_at tables body path seen (Some verb.Need) (item t (item ks (item rs (item c no_items)))) = do
    read ← read_at tables path t ks rs
    failure ← at_path path (code c)
    Ok (Read (Fails failure) read.0.0 read.0.1 read.1, seen)
  verb_at tables body path seen (Some verb.Find) (item t (item ks (item rs (item f no_items)))) = do
    read ← read_at tables path t ks rs
    flag ← at_path path (index f)
    Ok (Read (Blanks flag) read.0.0 read.0.1 read.1, seen)
  verb_at tables body path seen (Some verb.Put) (item t (item ks (item es no_items))) = do
    row ← row_at tables path t ks
    cols ← terms_at path 3 es
    Ok (Put row.0 row.1 cols, seen)
  verb_at tables body path seen (Some verb.Del) (item t (item ks no_items)) = do
    row ← row_at tables path t ks
    Ok (Del row.0 row.1, seen)
  verb_at tables body path seen (Some verb.If) (item e (item a (item b no_items))) = do
    t ← term_at (in_item path 1) 1 e
    first ← block_at tables body path 2 seen a
    second ← block_at tables body path 3 first.1 b
    Ok (If t first.0 second.0, second.1)
  verb_at tables body path seen (Some verb.Each) (item n (item a no_items)) = do
    list ← at_path path (index n)
    block ← block_at tables body path 2 seen a
    Ok (Each list block.0, block.1)
  verb_at tables body path seen (Some verb.Give) (item e no_items) = do
    t ← term_at (in_item path 1) 1 e
    Ok (Give t, seen)
  verb_at tables body path seen (Some verb.Fail) (item c no_items) = do
    failure ← at_path path (code c)
    Ok (Fail failure, seen)
  verb_at tables body path seen other operands = Err path

  -- the block that is the operand at this place of the statement at the path
  pub block_at : List Table → List PathPart → List PathPart → ℕ → ℕ → Data → Shaped (Steps × ℕ)
  block_at tables body path at seen null = Err path
  block_at tables body path at seen (boolean b) = Err path
  block_at tables body path at seen (number n) = Err path
  block_at tables body path at seen (string bytes) = Err path
  block_at tables body path at seen (array ds) = steps_after tables body (in_item path at) 0 seen [] ds
  block_at tables body path at seen (object ms) = Err path

  -- statements one after another, behind those that are done
  pub steps_after : List Table → List PathPart → List PathPart → ℕ → ℕ → List Step → Items → Shaped (Steps × ℕ)
  steps_after tables body path at seen done no_items = Ok (in_turn done, seen)
  steps_after tables body path at seen done (item d ds) =
      with_room body seen
      (step_at tables body (in_item path at) (seen + 1) d >>= (λ s. steps_after tables body path (at + 1) s.1 (done ++ s.0 ∷ []) ds))

-- the body at the path
abbrev pub body_at : List Table → List PathPart → Data → Shaped Steps
body_at tables path d = do
  ds ← at_path path (as_array d)
  block ← steps_after tables path path 0 0 [] ds
  Ok block.0
