-- What a line says holds texts of printed bytes alone.
use Rattle.std.proofs.Common.{◌≡◌, ℕ, ℤ, pos, negsuc, Bool, true, false, cond, ◌==◌, List, [], ◌∷◌, ◌++◌, length, Option, Some, None, Ok, Err, IfOk, refl, arith}
use Rattle.std.specs.Prelude.{⊤, ◌&&◌, nat_le, IfSome, codes, bytes_eq, ok_or, option_map, option_and_then}
use Rattle.std.specs.List.{AllByRecursion, list_all}
use Rattle.std.proofs.lemmas.Bool.{and_parts}
use Rattle.std.proofs.lemmas.Grind.{common_steps}
use Rattle.aria_base.specs.Orders.{Cells}
use Rattle.aria_base.specs.Texts.{is_word, may_hold}
use Rattle.aria_base.specs.declared.calls.Arg.{Arg}
use Rattle.aria_base.specs.declared.calls.Arg.TheVariants as arg
use Rattle.aria_base.specs.declared.keys.Key.{Key}
use Rattle.aria_base.specs.declared.keys.Part.{Part}
use Rattle.aria_base.specs.declared.keys.Part.TheVariants as part
use Rattle.aria_base.specs.declared.limits.TheConstants.{FEWEST_PARTS, LONGEST_TEXT, MOST_ARGS, MOST_COLUMNS, MOST_PARTS}
use Rattle.aria_base.specs.declared.values.Value.{Value}
use Rattle.aria_base.specs.declared.values.Value.TheVariants as value
use Rattle.proc_lang.specs.Catalogs.{Plan, takes}
use Rattle.script_text.specs.Cuts.{tokens}
use Rattle.script_text.specs.Fits.{call_of, placed_call, placed_row, proc_named, row_fits, row_in, table_named}
use Rattle.script_text.specs.Forms.{catalog_of, end_of, is_printed, item_of, line_item, only, report_of, row_after, row_of, said, settings_of, tx_of, with_end, with_row, with_tx, word_of}
use Rattle.script_text.specs.Numbers.{number_of}
use Rattle.script_text.specs.Tokens.{all_after, all_of, arg_of, before_last, fit_text, list_behind, part_of, text_behind, value_of}
use Rattle.script_text.specs.declared.items.Item.{Item}
use Rattle.script_text.specs.declared.items.Item.TheVariants as item
use Rattle.script_text.specs.declared.refusals.RefusalKind.{RefusalKind}
use Rattle.script_text.specs.declared.refusals.RefusalKind.TheVariants.{Argument, Byte, Word}
use Rattle.script_text.proofs.Places.{all_weaker}
use Rattle.output_laws.proofs.Texts.{Printed, PrintedArg, PrintedCall, PrintedCells, PrintedKey, PrintedPart, PrintedValue, all_joined}

abbrev pub PrintedItem : Item → Type 0
PrintedItem item.Skip = ⊤
PrintedItem (item.Catalog name) = ⊤
PrintedItem (item.Piece piece) = ⊤
PrintedItem (item.Row table parts row) = AllByRecursion PrintedPart parts × PrintedCells row
PrintedItem (item.Tx proc args) = AllByRecursion PrintedArg args
PrintedItem (item.End n) = ⊤
PrintedItem item.Report = ⊤
PrintedItem (item.Settings name percent) = ⊤

-- ---- what may be there

pub if_some : {A : Type 0} (P : A → Type 0) (b : Bool) (o p : Option A) → IfSome o P → IfSome p P → IfSome (cond b o p) P
if_some P true o p h k = h
if_some P false o p h k = k

then_some : {A B : Type 0} (P : A → Type 0) (Q : B → Type 0) (f : A → Option B) (o : Option A) → IfSome o P → ((x : A) → P x → IfSome (f x) Q)
    → IfSome (option_and_then f o) Q
then_some P Q f None h k = tt
then_some P Q f (Some x) h k = k x h

map_some : {A B : Type 0} (P : A → Type 0) (Q : B → Type 0) (f : A → B) (o : Option A) → IfSome o P → ((x : A) → P x → Q (f x)) → IfSome (option_map f o) Q
map_some P Q f None h k = tt
map_some P Q f (Some x) h k = k x h

any_some : {A : Type 0} (o : Option A) → IfSome o (λ _. ⊤)
any_some None = tt
any_some (Some x) = tt

-- ---- tokens

pub held_printed : (bytes : List ℕ) → list_all may_hold bytes ≡ true → Printed bytes
held_printed bytes h = all_weaker may_hold (λ b. nat_le 32 b && nat_le b 126) (λ b k. grind (arith, common_steps, k)) bytes h

fit_when : (bytes : List ℕ) (b : Bool) → (nat_le (length bytes) LONGEST_TEXT && list_all may_hold bytes) ≡ b → IfSome (cond b (Some bytes) None) Printed
fit_when bytes true e = held_printed bytes (and_parts (nat_le (length bytes) LONGEST_TEXT) (list_all may_hold bytes) e).1
fit_when bytes false e = tt

text_is : (rest : List ℕ) → IfSome (text_behind rest) Printed
text_is rest =
    then_some (λ _. ⊤) Printed fit_text (before_last 34 rest) (any_some (before_last 34 rest))
    (λ bytes k. fit_when bytes (nat_le (length bytes) LONGEST_TEXT && list_all may_hold bytes) refl)

part_is : (token : List ℕ) → IfSome (part_of token) PrintedPart
part_is [] = tt
part_is (b ∷ bs) =
    if_some PrintedPart (b == 34) (option_map part.Text (text_behind bs)) (option_map part.Int (number_of (b ∷ bs)))
    (map_some Printed PrintedPart part.Text (text_behind bs) (text_is bs) (λ t h. h))
    (map_some (λ _. ⊤) PrintedPart part.Int (number_of (b ∷ bs)) (any_some (number_of (b ∷ bs))) (λ n h. tt))

value_is : (token : List ℕ) → IfSome (value_of token) PrintedValue
value_is [] = tt
value_is (b ∷ bs) =
    if_some PrintedValue (b == 34) (option_map value.Text (text_behind bs)) (option_map value.Int (number_of (b ∷ bs)))
    (map_some Printed PrintedValue value.Text (text_behind bs) (text_is bs) (λ t h. h))
    (map_some (λ _. ⊤) PrintedValue value.Int (number_of (b ∷ bs)) (any_some (number_of (b ∷ bs))) (λ n h. tt))

arg_is : (token : List ℕ) → IfSome (arg_of token) PrintedArg
arg_is [] = tt
arg_is (b ∷ bs) =
    if_some PrintedArg (b == 34) (option_map arg.Text (text_behind bs))
    (cond (b == 91) (option_map arg.List (list_behind bs)) (option_map arg.Int (number_of (b ∷ bs))))
    (map_some Printed PrintedArg arg.Text (text_behind bs) (text_is bs) (λ t h. h))
    (if_some PrintedArg (b == 91) (option_map arg.List (list_behind bs)) (option_map arg.Int (number_of (b ∷ bs)))
    (map_some (λ _. ⊤) PrintedArg arg.List (list_behind bs) (any_some (list_behind bs)) (λ n h. tt))
    (map_some (λ _. ⊤) PrintedArg arg.Int (number_of (b ∷ bs)) (any_some (number_of (b ∷ bs))) (λ n h. tt)))

all_are : {B : Type 0} (P : B → Type 0) (f : List ℕ → Option B) → ((token : List ℕ) → IfSome (f token) P) → (done : List B) (ts : List (List ℕ))
    → AllByRecursion P done
    → IfSome (all_after f done ts) (AllByRecursion P)
all_are P f each done [] a = a
all_are P f each done (t ∷ ts) a =
    then_some P (AllByRecursion P) (λ b. all_after f (done ++ b ∷ []) ts) (f t) (each t)
    (λ b h. all_are P f each (done ++ b ∷ []) ts (all_joined P done (b ∷ []) a (h, tt)))

-- ---- lines

with_row_is : (table : List ℕ) (parts : List Part) (o : Option (List Value)) → AllByRecursion PrintedPart parts → IfSome o PrintedCells
    → IfSome (with_row table parts o) PrintedItem
with_row_is table parts None a h = tt
with_row_is table parts (Some values) a h =
    if_some PrintedItem (nat_le FEWEST_PARTS (length parts) && nat_le (length parts) MOST_PARTS && nat_le (length values) MOST_COLUMNS)
    (Some (item.Row table parts values)) None (a, h) tt

row_after_is : (table : List ℕ) (parts : List Part) (ts : List (List ℕ)) → AllByRecursion PrintedPart parts → IfSome (row_after table parts ts) PrintedItem
row_after_is table parts [] a = tt
row_after_is table parts (t ∷ ts) a =
    if_some PrintedItem (bytes_eq t (codes "=")) (with_row table parts (all_of value_of ts))
    (option_and_then (λ part. row_after table (parts ++ part ∷ []) ts) (part_of t))
    (with_row_is table parts (all_of value_of ts) a (all_are PrintedValue value_of value_is [] ts tt))
    (then_some PrintedPart PrintedItem (λ part. row_after table (parts ++ part ∷ []) ts) (part_of t) (part_is t)
    (λ part h. row_after_is table (parts ++ part ∷ []) ts (all_joined PrintedPart parts (part ∷ []) a (h, tt))))

row_is : (ts : List (List ℕ)) → IfSome (row_of ts) PrintedItem
row_is [] = tt
row_is (table ∷ ts) = if_some PrintedItem (is_word table) (row_after table [] ts) None (row_after_is table [] ts tt) tt

with_tx_is : (proc : List ℕ) (o : Option (List Arg)) → IfSome o (AllByRecursion PrintedArg) → IfSome (with_tx proc o) PrintedItem
with_tx_is proc None h = tt
with_tx_is proc (Some args) h = if_some PrintedItem (nat_le (length args) MOST_ARGS) (Some (item.Tx proc args)) None h tt

tx_is : (ts : List (List ℕ)) → IfSome (tx_of ts) PrintedItem
tx_is [] = tt
tx_is (proc ∷ ts) = if_some PrintedItem (is_word proc) (with_tx proc (all_of arg_of ts)) None
    (with_tx_is proc (all_of arg_of ts) (all_are PrintedArg arg_of arg_is [] ts tt)) tt

with_end_is : (o : Option ℤ) → IfSome (with_end o) PrintedItem
with_end_is None = tt
with_end_is (Some (pos n)) = if_some PrintedItem (n == 0) None (Some (item.End n)) tt tt
with_end_is (Some (negsuc n)) = tt

settings_is : (ts : List (List ℕ)) → IfSome (settings_of ts) PrintedItem
settings_is [] = tt
settings_is (name ∷ ts) =
    let number = option_and_then number_of (only ts) in
    if_some PrintedItem (is_word name) (option_map (item.Settings name) number) None
    (map_some (λ _. ⊤) PrintedItem (item.Settings name) number (any_some number) (λ n h. tt)) tt

catalog_is : (ts : List (List ℕ)) → IfSome (catalog_of ts) PrintedItem
catalog_is ts = map_some (λ _. ⊤) PrintedItem item.Catalog (option_and_then word_of (only ts)) (any_some (option_and_then word_of (only ts))) (λ n h. tt)

report_is : (ts : List (List ℕ)) → IfSome (report_of ts) PrintedItem
report_is [] = tt
report_is (t ∷ ts) = tt

item_is : (ts : List (List ℕ)) → IfSome (item_of ts) PrintedItem
item_is [] = tt
item_is (kind ∷ ts) =
    let reports = if_some PrintedItem (bytes_eq kind (codes "report")) (report_of ts) None (report_is ts) tt in
    let catalogs = if_some PrintedItem (bytes_eq kind (codes "catalog")) (catalog_of ts) _ (catalog_is ts) reports in
    let settings = if_some PrintedItem (bytes_eq kind (codes "settings")) (settings_of ts) _ (settings_is ts) catalogs in
    let ends = if_some PrintedItem (bytes_eq kind (codes "end")) (end_of ts) _ (with_end_is (option_and_then number_of (only ts))) settings in
    let rows = if_some PrintedItem (bytes_eq kind (codes "row")) (row_of ts) _ (row_is ts) ends in
    if_some PrintedItem (bytes_eq kind (codes "tx")) (tx_of ts) _ (tx_is ts) rows

line_is : (line : List ℕ) → IfSome (line_item line) PrintedItem
line_is [] = tt
line_is (b ∷ bs) =
    let spaces = if_some PrintedItem (list_all (λ c. c == 32) bs) (Some item.Skip) None tt tt in
    let begins = if_some PrintedItem (b == 32) (cond (list_all (λ c. c == 32) bs) (Some item.Skip) None) (item_of (tokens (b ∷ bs))) spaces
    (item_is (tokens (b ∷ bs))) in
    let pieces = if_some PrintedItem (b == 58) (Some (item.Piece bs)) _ tt begins in
    if_some PrintedItem (b == 35) (Some item.Skip) _ tt pieces

or_word : (o : Option Item) → IfSome o PrintedItem → IfOk (ok_or o Word) PrintedItem
or_word None h = tt
or_word (Some i) h = h

pub said_printed : (line : List ℕ) → IfOk (said line) PrintedItem
said_printed line = by (is_printed line)
  where
    by : (b : Bool) → IfOk (cond b (ok_or (line_item line) Word) (Err Byte)) PrintedItem
    by true = or_word (line_item line) (line_is line)
    by false = tt

-- ---- under a catalogue

abbrev pub PrintedPair : Key × Cells → Type 0
PrintedPair row = PrintedKey row.0 × PrintedCells row.1

ok_when : {A : Type 0} (P : A → Type 0) (b : Bool) (x : A) (why : RefusalKind) → P x → IfOk (cond b (Ok x) (Err why)) P
ok_when P true x why h = h
ok_when P false x why h = tt

pub placed_row_printed : (plan : Plan) (table : List ℕ) (parts : List Part) (row : Cells) → AllByRecursion PrintedPart parts → PrintedCells row
    → IfOk (placed_row plan table parts row) PrintedPair
placed_row_printed plan table parts row a h = by (table_named plan table)
  where
    by : (o : Option ℕ) → IfOk (row_in plan parts row o) PrintedPair
    by None = tt
    by (Some n) = ok_when PrintedPair (row_fits plan.tables (record { table = n; parts = parts }) row) (record { table = n; parts = parts }, row) Argument
        (a, h)

pub placed_call_printed : (plan : Plan) (proc : List ℕ) (args : List Arg) → AllByRecursion PrintedArg args → IfOk (placed_call plan proc args) PrintedCall
placed_call_printed plan proc args a = by (proc_named plan proc)
  where
    by : (o : Option ℕ) → IfOk (call_of plan args o) PrintedCall
    by None = tt
    by (Some n) = ok_when PrintedCall (takes plan (record { proc = n; args = args })) (record { proc = n; args = args }) Argument a
