-- The walk through an expression: its form first, then its operands from the front.
use Rattle.std.specs.Prelude.{ℕ, ◌+◌, nat_le, List, [], ◌∷◌, ◌++◌, if◌then◌else◌, Option, Some, option_map, option_and_then}
use Rattle.std.specs.declared.result.Result.TheVariants.{Ok, Err}
use Rattle.serde_json.specs.Data.{Data, null, boolean, number, string, array, object, Items, no_items, item}
use Rattle.serde_json.specs.Find.{as_str, as_i64}
use Rattle.proc_lang.specs.declared.procs.PathPart.{PathPart}
use Rattle.proc_lang.specs.declared.limits.TheConstants.{DEEPEST_EXPR, MOST_FRONT}
use Rattle.proc_lang.specs.Terms.{Term, Num, Text, Me, Named, Unary, Binary, MulDiv, Front}
use Rattle.proc_lang.specs.Values.{both}
use Rattle.cat_forms.specs.declared.names.Form.{Form}
use Rattle.cat_forms.specs.declared.names.Form.TheVariants as form
use Rattle.cat_forms.specs.Names.{form_named}
use Rattle.cat_forms.specs.Places.{in_item}
use Rattle.cat_forms.specs.Shapes.{Shaped, ◌>>=◌, at_path, index, number_between, text_of}

-- what stands at a level at which expressions may stand
abbrev pub at_level : {A : Type 0} → List PathPart → ℕ → Shaped A → Shaped A
at_level path level read = if nat_le level DEEPEST_EXPR then read else Err path

abbrev mutual
  -- the expression at the path, at this level; one that lies in no other is at level 1
  pub term_at : List PathPart → ℕ → Data → Shaped Term
  term_at path level null = Err path
  term_at path level (boolean b) = Err path
  term_at path level (number n) = at_level path level (at_path path (option_map Num (as_i64 n)))
  term_at path level (string bytes) = at_level path level (at_path path (option_map Text (text_of bytes)))
  term_at path level (array ds) = at_level path level (node_at path level ds)
  term_at path level (object ms) = Err path

  pub node_at : List PathPart → ℕ → Items → Shaped Term
  node_at path level no_items = Err path
  node_at path level (item name operands) = form_at path level (option_and_then form_named (as_str name)) operands

  -- the form has these operands, and no others
  pub form_at : List PathPart → ℕ → Option Form → Items → Shaped Term
  form_at path level (Some form.Me) no_items = Ok Me
  form_at path level (Some (form.Named from)) (item n no_items) = at_path path (option_map (Named from) (index n))
  form_at path level (Some (form.Unary o)) (item x no_items) = do
    a ← term_at (in_item path 1) (level + 1) x
    Ok (Unary o a)
  form_at path level (Some (form.Binary o)) (item x (item y no_items)) = do
    ab ← both (term_at (in_item path 1) (level + 1) x) (term_at (in_item path 2) (level + 1) y)
    Ok (Binary o ab.0 ab.1)
  form_at path level (Some form.MulDiv) (item x (item y (item z no_items))) = do
    abc ← both (both (term_at (in_item path 1) (level + 1) x) (term_at (in_item path 2) (level + 1) y))
        (term_at (in_item path 3) (level + 1) z)
    Ok (MulDiv abc.0.0 abc.0.1 abc.1)
  form_at path level (Some form.Front) (item x (item y (item n no_items))) = do
    ab ← both (term_at (in_item path 1) (level + 1) x) (term_at (in_item path 2) (level + 1) y)
    at_path path (option_map (Front ab.0 ab.1) (number_between 0 MOST_FRONT n))
  form_at path level other operands = Err path

-- expressions one after another, behind those that are done
abbrev pub terms_after : List PathPart → ℕ → List Term → Items → Shaped (List Term)
terms_after path at done no_items = Ok done
terms_after path at done (item d ds) = do
  t ← term_at (in_item path at) 1 d
  terms_after path (at + 1) (done ++ t ∷ []) ds
