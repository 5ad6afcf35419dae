-- The body of a checkpoint, as a text.
use Rattle.std.specs.Prelude.{◌≡◌, ℕ, ◌≤◌, List, [], ◌∷◌, ◌++◌, map, All, Option, Some, None, option_map, option_and_then}
use Rattle.std.specs.FinMap as fin
use Rattle.aria_base.specs.Orders.{Database}
use Rattle.aria_base.specs.declared.calls.Request.{Request}
use Rattle.proc_lang.specs.Catalogs.{Plan, IsCatalog}
use Rattle.cat_forms.specs.Texts.{Tells}
use Rattle.image_text.specs.Lines.{lines_text, lines_taken}
use Rattle.image_text.specs.Exactly.{line_of_row, IsRowOf}
use Rattle.image_text.specs.Helds.{line_of_held, IsHeldOf}
use Rattle.image_text.specs.Entries.{Taken, nothing, take}
use Rattle.image_text.specs.Fronts.{catalog_text, front_text, front_of}

-- what a body is the text of
abbrev pub Values : Type 0
Values = Plan × Database × List Request

-- all rows in the order of their keys, and then what is carried over
abbrev pub entry_lines : Plan → Database → List Request → List (List ℕ)
entry_lines plan rows held = map (line_of_row plan) (fin.entries rows) ++ map (line_of_held plan) held

abbrev pub body_text : Plan → Database → List Request → List ℕ
body_text plan rows held = front_text plan ++ lines_text (entry_lines plan rows held)

-- the text of these values, which fit the catalogue
pub record IsBody (bytes : List ℕ) (v : Values) : Type 0 where
  pub text : bytes ≡ body_text v.0 v.1 v.2
  pub catalog : IsCatalog v.0
  pub told : Tells (catalog_text v.0) v.0
  pub rows : All (IsRowOf v.0) (fin.entries v.1)
  pub held : All (IsHeldOf v.0) v.2

-- the values of which these bytes are the text, or there are none
abbrev pub AreThose : List ℕ → Option Values → Type 0
AreThose bytes None = (v : Values) → ¬ (IsBody bytes v)
AreThose bytes (Some v) = IsBody bytes v

-- ---- how it is read

abbrev pub read_rest : Plan × List ℕ → Option (Plan × Taken)
read_rest front = option_map (λ s. (front.0, s)) (lines_taken (take front.0) nothing front.1)

abbrev pub read_body : List ℕ → Option (Plan × Taken)
read_body bytes = option_and_then read_rest (front_of bytes)
