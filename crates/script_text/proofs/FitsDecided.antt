-- The test of what fits is the relation of the schema.
use Rattle.std.proofs.Common.{◌≡◌, List, [], ◌∷◌, map, Option, Some, None, Bool, true, false, refl, sym, ◌∙◌}
use Rattle.std.specs.Prelude.{◌↔◌, IsTrue}
use Rattle.std.specs.List.{slice_get}
use Rattle.std.specs.Option.{IsSomeAnd}
use Rattle.std.proofs.lemmas.Bool.{and_parts, and_from}
use Rattle.aria_base.specs.Kinds.{part_kind, value_kind}
use Rattle.aria_base.specs.Orders.{Cells}
use Rattle.aria_base.specs.Schemas.{Fits}
use Rattle.aria_base.specs.declared.keys.Key.{Key}
use Rattle.aria_base.specs.declared.values.Kind.{Kind}
use Rattle.aria_base.specs.declared.values.Kind.TheVariants as kind
use Rattle.aria_base.specs.declared.schemas.Table.{Table}
use Rattle.script_text.specs.Fits.{is_kind, are_kinds, fits_table, row_fits}

kind_is : (g w : Kind) → is_kind g w ≡ true → g ≡ w
kind_is kind.Int kind.Int h = refl
kind_is kind.Text kind.Text h = refl
kind_is kind.Int kind.Text h = cc
kind_is kind.Text kind.Int h = cc

kind_itself : (k : Kind) → is_kind k k ≡ true
kind_itself kind.Int = refl
kind_itself kind.Text = refl

pub kinds_are : (given wanted : List Kind) → are_kinds given wanted ≡ true → given ≡ wanted
kinds_are [] [] h = refl
kinds_are [] (w ∷ wanted) h = cc
kinds_are (g ∷ given) [] h = cc
kinds_are (g ∷ given) (w ∷ wanted) h =
    let parts = and_parts (is_kind g w) (are_kinds given wanted) h in
    let first = kind_is g w parts.0 in
    let rest = kinds_are given wanted parts.1 in
    cc

kinds_themselves : (ks : List Kind) → are_kinds ks ks ≡ true
kinds_themselves [] = refl
kinds_themselves (k ∷ ks) = and_from (is_kind k k) (are_kinds ks ks) (kind_itself k) (kinds_themselves ks)

kinds_same : (given wanted : List Kind) → given ≡ wanted → are_kinds given wanted ≡ true
kinds_same given wanted e = rw e (kinds_themselves wanted)

pub fits_there : (key : Key) (row : Cells) (table : Option Table) → fits_table key row table ≡ true
    → IsSomeAnd table (λ t. (map part_kind key.parts ≡ t.key) × (map value_kind row ≡ t.cols))
fits_there key row None h = cc
fits_there key row (Some t) h =
    let parts = and_parts (are_kinds (map part_kind key.parts) t.key) (are_kinds (map value_kind row) t.cols) h in
    (kinds_are (map part_kind key.parts) t.key parts.0, kinds_are (map value_kind row) t.cols parts.1)

there_fits : (key : Key) (row : Cells) (table : Option Table) → IsSomeAnd table (λ t. (map part_kind key.parts ≡ t.key) × (map value_kind row ≡ t.cols))
    → fits_table key row table ≡ true
there_fits key row None h = absurd h
there_fits key row (Some t) h = and_from (are_kinds (map part_kind key.parts) t.key) (are_kinds (map value_kind row) t.cols)
    (kinds_same (map part_kind key.parts) t.key h.0) (kinds_same (map value_kind row) t.cols h.1)

pub fits_again : (tables : List Table) (key : Key) (row : Cells) → Fits tables key row → row_fits tables key row ≡ true
fits_again tables key row h = there_fits key row (slice_get tables key.table) h

pub fits_indeed : (tables : List Table) (key : Key) (row : Cells) → row_fits tables key row ≡ true → Fits tables key row
fits_indeed tables key row h = fits_there key row (slice_get tables key.table) h

pub decided : (tables : List Table) (key : Key) (row : Cells) (r : Bool) → (IsTrue r ↔ Fits tables key row) → r ≡ row_fits tables key row
decided tables key row r h = by r (row_fits tables key row) refl h
  where
    by : (r b : Bool) → row_fits tables key row ≡ b → (IsTrue r ↔ Fits tables key row) → r ≡ b
    by true true e h = refl
    by false false e h = refl
    by true false e h = let again : row_fits tables key row ≡ true = fits_again tables key row (h.0 refl) in let no : true ≡ false = sym again ∙ e in cc
    by false true e h = let no : false ≡ true = h.1 (fits_indeed tables key row e) in cc
