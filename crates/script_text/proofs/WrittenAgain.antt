-- What is written of a row or a call reads and fits as the same.
use Rattle.std.proofs.Common.{◌≡◌, ℕ, ℤ, List, [], ◌∷◌, length, Option, Some, None, true, refl, ap, ◌∙◌, arith}
use Rattle.std.specs.Prelude.{◌==◌, Ok}
use Rattle.std.specs.List.{list_all, slice_get}
use Rattle.std.proofs.lemmas.Bool.{and_parts, and_from, eqb-true}
use Rattle.std.proofs.lemmas.List.Sums.{AllPass-from_list_all}
use Rattle.std.proofs.lemmas.Grind.{common_steps}
use Rattle.aria_base.specs.Orders.{Cells}
use Rattle.aria_base.specs.Schemas.{Fits}
use Rattle.aria_base.specs.Texts.{is_word}
use Rattle.aria_base.specs.declared.keys.Key.{Key}
use Rattle.aria_base.specs.declared.calls.Arg.{Arg}
use Rattle.aria_base.specs.declared.calls.Arg.TheVariants as arg
use Rattle.aria_base.specs.declared.calls.Call.{Call}
use Rattle.aria_base.specs.declared.schemas.Table.{Table}
use Rattle.proc_lang.specs.Catalogs.{Plan, IsCatalog, table_fits, proc_fits, takes, fits_proc, args_fit, arg_fits}
use Rattle.proc_lang.specs.declared.procs.ArgKind.{ArgKind}
use Rattle.proc_lang.specs.declared.procs.ArgKind.TheVariants as kind
use Rattle.proc_lang.specs.declared.procs.Proc.{Proc}
use Rattle.script_text.specs.Fits.{fits_table, row_fits, row_said, call_said}
use Rattle.script_text.specs.Tokens.{same_lengths}
use Rattle.script_text.specs.Written.{table_name_or, table_name, proc_name_or, proc_name, row_line, call_line, IsParts, IsCells, IsArgs, is_alike}
use Rattle.script_text.proofs.FitsDecided.{fits_again}
use Rattle.script_text.proofs.LinesRead.{row_said_again, call_said_again}
use Rattle.script_text.proofs.NamesFound.{found, passes}

-- ---- rows

row_there : (plan : Plan) (key : Key) (row : Cells) (found_table : Option Table) → slice_get plan.tables key.table ≡ found_table → IsCatalog plan
    → row_fits plan.tables key row ≡ true
    → fits_table key row found_table ≡ true → IsParts key.parts → IsCells row → row_said plan (row_line plan.tables key row) ≡ Ok (key, row)
row_there plan key row None e is fits fit p v = cc
row_there plan key row (Some table) e is fits fit p v =
    let name : table_name plan.tables key.table ≡ table.name = ap table_name_or e in
    let limits : table_fits table ≡ true = passes table_fits plan.tables key.table table is.tables_fit e in
    let word : is_word table.name ≡ true = grind (arith, common_steps, limits) in
    let at = found (λ t. t.name) plan.tables key.table table is.table_names e in
    let says = row_said_again table.name key.parts row word p.some p.few v.few p.each v.each in
    rw (name, says, at, fits) refl

pub row_again : (plan : Plan) (key : Key) (row : Cells) (line : List ℕ) → line ≡ row_line plan.tables key row → IsCatalog plan → Fits plan.tables key row
    → IsParts key.parts → IsCells row
    → row_said plan line ≡ Ok (key, row)
row_again plan key row line e is fits p v =
    ap (row_said plan) e ∙ row_there plan key row (slice_get plan.tables key.table) refl is (fits_again plan.tables key row fits)
    (fits_again plan.tables key row fits) p v

-- ---- calls

alike_by : (width : ℕ) (tuples : List (List ℤ)) → list_all (λ t. length t == width) tuples ≡ true → same_lengths tuples ≡ true
alike_by width [] h = refl
alike_by width (t ∷ ts) h =
    let parts = and_parts (length t == width) (list_all (λ u. length u == width) ts) h in
    let e : length t ≡ width = eqb-true (length t) width parts.0 in
    ap (λ (n : ℕ). list_all (λ u. length u == n) ts) e ∙ parts.1

alike_arg : (k : ArgKind) (a : Arg) → arg_fits k a ≡ true → is_alike a ≡ true
alike_arg k (arg.Int n) h = refl
alike_arg k (arg.Text t) h = refl
alike_arg kind.Int (arg.List ts) h = cc
alike_arg kind.Text (arg.List ts) h = cc
alike_arg (kind.List width) (arg.List ts) h = alike_by width ts h

alike_args : (ks : List ArgKind) (args : List Arg) → args_fit ks args ≡ true → list_all is_alike args ≡ true
alike_args [] [] h = refl
alike_args [] (a ∷ args) h = cc
alike_args (k ∷ ks) [] h = cc
alike_args (k ∷ ks) (a ∷ args) h =
    let parts = and_parts (arg_fits k a) (args_fit ks args) h in
    and_from (is_alike a) (list_all is_alike args) (alike_arg k a parts.0) (alike_args ks args parts.1)

call_there : (plan : Plan) (call : Call) (found_proc : Option Proc) → slice_get plan.procs call.proc ≡ found_proc → IsCatalog plan → takes plan call ≡ true
    → fits_proc call.args found_proc ≡ true → IsArgs call.args
    → call_said plan (call_line plan.procs call) ≡ Ok call
call_there plan call None e is fits fit args = cc
call_there plan call (Some proc) e is fits fit args =
    let name : proc_name plan.procs call.proc ≡ proc.name = ap proc_name_or e in
    let limits : proc_fits proc ≡ true = passes proc_fits plan.procs call.proc proc is.procs_fit e in
    let word : is_word proc.name ≡ true = grind (arith, common_steps, limits) in
    let at = found (λ p. p.name) plan.procs call.proc proc is.proc_names e in
    let alike = alike_args proc.args call.args fit in
    let says = call_said_again proc.name call.args word args.few
    (λ i d below. (args.each i d below, AllPass-from_list_all is_alike call.args alike i d below)) in
    rw (name, says, at, fits) refl

pub call_again : (plan : Plan) (call : Call) (line : List ℕ) → line ≡ call_line plan.procs call → IsCatalog plan → takes plan call ≡ true → IsArgs call.args
    → call_said plan line ≡ Ok call
call_again plan call line e is fits args =
    ap (call_said plan) e ∙ call_there plan call (slice_get plan.procs call.proc) refl is fits fits args
