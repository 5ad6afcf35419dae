-- What is read exactly is written as its line, and what is written is read exactly.
use Rattle.std.proofs.Common.{◌≡◌, ℕ, List, Option, Some, None, Bool, true, false, cond, refl, ap, sym, ◌∙◌}
use Rattle.std.specs.Prelude.{Result, Ok, Err, bytes_eq, ok_or}
use Rattle.std.proofs.lemmas.Slice.Eq.{bytes_eq-Decides}
use Rattle.aria_base.specs.Orders.{Cells}
use Rattle.aria_base.specs.Schemas.{Fits}
use Rattle.aria_base.specs.declared.keys.Key.{Key}
use Rattle.aria_base.specs.declared.keys.Part.{Part}
use Rattle.aria_base.specs.declared.calls.Arg.{Arg}
use Rattle.aria_base.specs.declared.calls.Call.{Call}
use Rattle.proc_lang.specs.Catalogs.{Plan, IsCatalog, takes}
use Rattle.script_text.specs.declared.items.Item.{Item}
use Rattle.script_text.specs.declared.items.Item.TheVariants as item
use Rattle.script_text.specs.declared.refusals.RefusalKind.{RefusalKind}
use Rattle.script_text.specs.declared.refusals.RefusalKind.TheVariants.{Word, Argument, Byte}
use Rattle.script_text.specs.Cuts.{Lacks}
use Rattle.script_text.specs.Fits.{row_fits, row_in, fitted_row, row_said, call_of, fitted_call, call_said, and_then, table_named, proc_named}
use Rattle.script_text.specs.Forms.{said, is_printed, line_item}
use Rattle.script_text.proofs.WrittenAgain.{row_again, call_again}
use Rattle.script_text.proofs.FitsDecided.{fits_indeed}
use Rattle.image_text.specs.Exactly.{exactly, found, line_of_row, exact_row, line_of_call, exact_call, IsRowOf, IsCallOf}
use Rattle.image_text.proofs.NoFeeds.{printed_lacks}

-- ---- of any kind

pub exactly_again : {X : Type 0} (write : X → List ℕ) (line : List ℕ) (o : Option X) (x : X) → o ≡ Some x → line ≡ write x → exactly write line o ≡ Some x
exactly_again write line o x e k =
    let same : bytes_eq (write x) line ≡ true = (bytes_eq-Decides (write x) line).1 (sym k) in
    ap (exactly write line) e ∙ ap (λ (b : Bool). cond b (Some x) None) same

pub exactly_read : {X : Type 0} (write : X → List ℕ) (line : List ℕ) (o : Option X) (x : X) → exactly write line o ≡ Some x → (line ≡ write x) × (o ≡ Some x)
exactly_read write line None x e = cc
exactly_read write line (Some y) x e = by (bytes_eq (write y) line) refl e
  where
    by : (b : Bool) → bytes_eq (write y) line ≡ b → cond b (Some y) None ≡ Some x → (line ≡ write x) × (Some y ≡ Some x)
    by false w k = cc
    by true w k = let same : y ≡ x = cc in (sym ((bytes_eq-Decides (write y) line).0 w) ∙ ap write same, k)

pub exactly_same : {X : Type 0} (write : X → List ℕ) (line again : List ℕ) (o : Option X) (x : X) → Some x ≡ o → again ≡ write x → bytes_eq again line ≡ true
    → Some x ≡ exactly write line o
exactly_same write line again o x e k same =
    sym (exactly_again write line o x (sym e) (sym ((bytes_eq-Decides again line).0 same) ∙ k))

pub exactly_other : {X : Type 0} (write : X → List ℕ) (line again : List ℕ) (o : Option X) (x : X) → Some x ≡ o → again ≡ write x → bytes_eq again line ≡ false
    → None ≡ exactly write line o
exactly_other write line again o x e k other =
    let no : bytes_eq (write x) line ≡ false = ap (λ (l : List ℕ). bytes_eq l line) (sym k) ∙ other in
    sym (ap (exactly write line) (sym e) ∙ ap (λ (b : Bool). cond b (Some x) None) no)

pub found_of : {X : Type 0} (r : Result X RefusalKind) (x : X) → found r ≡ Some x → r ≡ Ok x
found_of (Ok y) x e = let same : y ≡ x = cc in ap Ok same
found_of (Err kind) x e = cc

-- ---- what is said is printed

said_printed : (line : List ℕ) (it : Item) → said line ≡ Ok it → is_printed line ≡ true
said_printed line it e = by (is_printed line) e
  where
    by : (b : Bool) → cond b (ok_or (line_item line) Word) (Err Byte) ≡ Ok it → b ≡ true
    by true k = refl
    by false k = cc

then_said : {B : Type 0} (f : Item → Result B RefusalKind) (line : List ℕ) (b : B) → and_then f (said line) ≡ Ok b → Lacks 10 line
then_said f line b e = by (said line) refl e
  where
    by : (r : Result Item RefusalKind) → said line ≡ r → and_then f r ≡ Ok b → Lacks 10 line
    by (Ok it) w k = printed_lacks line (said_printed line it w)
    by (Err kind) w k = cc

-- ---- rows

row_when : (plan : Plan) (key : Key) (row : Cells) (r : Key × Cells) (b : Bool) → row_fits plan.tables key row ≡ b
    → cond b (Ok (key, row)) (Err Argument) ≡ Ok r → row_fits plan.tables r.0 r.1 ≡ true
row_when plan key row r false w k = cc
row_when plan key row r true w k =
    let same : ◌≡◌ {A = Key × Cells} (key, row) r = cc in
    ap (λ (s : Key × Cells). row_fits plan.tables s.0 s.1) (sym same) ∙ w

row_in_fits : (plan : Plan) (parts : List Part) (row : Cells) (table : Option ℕ) (r : Key × Cells) → row_in plan parts row table ≡ Ok r
    → row_fits plan.tables r.0 r.1 ≡ true
row_in_fits plan parts row None r e = cc
row_in_fits plan parts row (Some table) r e =
    let key : Key = record { table = table; parts = parts } in
    row_when plan key row r (row_fits plan.tables key row) refl e

fitted_fits : (plan : Plan) (r : Key × Cells) (it : Item) → fitted_row plan it ≡ Ok r → row_fits plan.tables r.0 r.1 ≡ true
fitted_fits plan r (item.Row table parts row) e = row_in_fits plan parts row (table_named plan table) r e
fitted_fits plan r other e = cc

said_fits : (plan : Plan) (r : Key × Cells) (s : Result Item RefusalKind) → and_then (fitted_row plan) s ≡ Ok r → row_fits plan.tables r.0 r.1 ≡ true
said_fits plan r (Ok it) e = fitted_fits plan r it e
said_fits plan r (Err kind) e = cc

pub row_read : (plan : Plan) (line : List ℕ) (row : Key × Cells) → exact_row plan line ≡ Some row → (line ≡ line_of_row plan row) × Fits plan.tables row.0 row.1
row_read plan line row e =
    let k = exactly_read (line_of_row plan) line (found (row_said plan line)) row e in
    let says : row_said plan line ≡ Ok row = found_of (row_said plan line) row k.1 in
    (k.0, fits_indeed plan.tables row.0 row.1 (said_fits plan row (said line) says))

row_says : (plan : Plan) (row : Key × Cells) → IsCatalog plan → IsRowOf plan row → row_said plan (line_of_row plan row) ≡ Ok row
row_says plan row is h = row_again plan row.0 row.1 (line_of_row plan row) refl is h.fit h.parts h.cells

pub row_written : (plan : Plan) (row : Key × Cells) → IsCatalog plan → IsRowOf plan row → exact_row plan (line_of_row plan row) ≡ Some row
row_written plan row is h = exactly_again (line_of_row plan) (line_of_row plan row) (found (row_said plan (line_of_row plan row))) row
    (ap found (row_says plan row is h)) refl

pub row_lacks : (plan : Plan) (row : Key × Cells) → IsCatalog plan → IsRowOf plan row → Lacks 10 (line_of_row plan row)
row_lacks plan row is h = then_said (fitted_row plan) (line_of_row plan row) row (row_says plan row is h)

-- ---- calls

call_when : (plan : Plan) (made call : Call) (b : Bool) → takes plan made ≡ b → cond b (Ok made) (Err Argument) ≡ Ok call → takes plan call ≡ true
call_when plan made call false w k = cc
call_when plan made call true w k = let same : made ≡ call = cc in ap (takes plan) (sym same) ∙ w

call_of_fits : (plan : Plan) (args : List Arg) (proc : Option ℕ) (call : Call) → call_of plan args proc ≡ Ok call → takes plan call ≡ true
call_of_fits plan args None call e = cc
call_of_fits plan args (Some proc) call e =
    let made : Call = record { proc = proc; args = args } in
    call_when plan made call (takes plan made) refl e

fitted_takes : (plan : Plan) (call : Call) (it : Item) → fitted_call plan it ≡ Ok call → takes plan call ≡ true
fitted_takes plan call (item.Tx proc args) e = call_of_fits plan args (proc_named plan proc) call e
fitted_takes plan call other e = cc

said_takes : (plan : Plan) (call : Call) (s : Result Item RefusalKind) → and_then (fitted_call plan) s ≡ Ok call → takes plan call ≡ true
said_takes plan call (Ok it) e = fitted_takes plan call it e
said_takes plan call (Err kind) e = cc

pub call_takes : (plan : Plan) (line : List ℕ) (call : Call) → found (call_said plan line) ≡ Some call → takes plan call ≡ true
call_takes plan line call e = said_takes plan call (said line) (found_of (call_said plan line) call e)

pub call_read : (plan : Plan) (line : List ℕ) (call : Call) → exact_call plan line ≡ Some call → (line ≡ line_of_call plan call) × (takes plan call ≡ true)
call_read plan line call e =
    let k = exactly_read (line_of_call plan) line (found (call_said plan line)) call e in
    (k.0, call_takes plan line call k.1)

pub call_says : (plan : Plan) (call : Call) → IsCatalog plan → IsCallOf plan call → call_said plan (line_of_call plan call) ≡ Ok call
call_says plan call is h = call_again plan call (line_of_call plan call) refl is h.fit h.args

pub call_written : (plan : Plan) (call : Call) → IsCatalog plan → IsCallOf plan call → exact_call plan (line_of_call plan call) ≡ Some call
call_written plan call is h = exactly_again (line_of_call plan) (line_of_call plan call) (found (call_said plan (line_of_call plan call))) call
    (ap found (call_says plan call is h)) refl

pub call_lacks : (plan : Plan) (call : Call) → IsCatalog plan → IsCallOf plan call → Lacks 10 (line_of_call plan call)
call_lacks plan call is h = then_said (fitted_call plan) (line_of_call plan call) call (call_says plan call is h)
