-- Lines that were cut from a text with a bound are within it, and so is what is written of the calls that they say.
use Rattle.std.proofs.Common.{◌≡◌, ◌∙◌, ap, sym, subst, ℕ, zero, suc, ℤ, ◌+◌, ◌-◌, ◌<◌, ◌≤◌, List, [], ◌∷◌, ◌++◌, length, take, get_or, Option, Some, None, Bool, true, false, cond, refl, arith, length-append}
use Rattle.std.specs.Prelude.{All, IfSome, IfOk, Result, Ok, Err, codes, bytes_eq, nat_le, nat_lt, not, ◌&&◌, ◌||◌, ◌==◌}
use Rattle.std.proofs.lemmas.Grind.{common_steps}
use Rattle.std.proofs.lemmas.List.Elements.{All-append, All-weaker}
use Rattle.aria_base.specs.Orders.{Cells}
use Rattle.aria_base.specs.declared.calls.Arg.{Arg}
use Rattle.aria_base.specs.declared.calls.Call.{Call}
use Rattle.aria_base.specs.declared.keys.Part.{Part}
use Rattle.aria_base.specs.declared.limits.TheConstants.{GREATEST_NUMBER, LONGEST_LINE, MOST_REQUESTS}
use Rattle.cat_builtin.specs.Builtins.{builtin_named}
use Rattle.image_text.specs.Exactly.{line_of_call}
use Rattle.proc_lang.specs.Catalogs.{Plan}
use Rattle.script_places.specs.Places.{Asked, asked, at_call, at_catalog, at_end, at_item, at_row, at_settings, behind_text, by_head, calls, closed, ends, found, goes_on, has_batches, has_catalog, in_text, is_audit, is_byte, is_check, is_unnamed, next_line, plan_in, puts, read_text, runs, sets, under, within_text, without_head}
use Rattle.script_places.specs.declared.deeds.Deed.{Deed}
use Rattle.script_places.specs.declared.deeds.Deed.TheVariants as deed
use Rattle.script_places.specs.declared.heads.ScriptCatalog.{ScriptCatalog}
use Rattle.script_places.specs.declared.heads.ScriptCatalog.TheVariants as head
use Rattle.script_places.specs.declared.limits.TheConstants.{MOST_CATALOG}
use Rattle.script_places.specs.declared.places.Counts.{Counts}
use Rattle.script_places.specs.declared.places.ScriptPlace.{ScriptPlace}
use Rattle.script_text.specs.Fits.{and_then, placed_call, placed_row, placed_settings}
use Rattle.script_text.specs.Forms.{said}
use Rattle.script_text.specs.Lines.{Feed, Scan, is_past_limit, is_past_line, last_line, scan, scan_after, stopped, unreturned, with_byte, with_feed}
use Rattle.script_text.specs.Tokens.{arg_token}
use Rattle.script_text.specs.Written.{call_line}
use Rattle.script_text.specs.declared.items.Item.{Item}
use Rattle.script_text.specs.declared.items.Item.TheVariants as item
use Rattle.script_text.specs.declared.refusals.CatFault.TheVariants as fault
use Rattle.script_text.specs.declared.refusals.RefusalKind.{RefusalKind}
use Rattle.script_text.specs.declared.refusals.RefusalKind.TheVariants as kind
use Rattle.run_commands.specs.Keeps.{IsShort}
use Rattle.run_commands.proofs.Spelled.{call_within, placed_within, weight}

-- ---- lines

-- a line without its carriage return is no longer
unreturned_short : (line : List ℕ) → length (unreturned line) ≤ length line
unreturned_short line = by (get_or line (length line - 1) 0 == 13)
  where
    by : (returned : Bool) → length (cond returned (take (length line - 1) line) line) ≤ length line
    by true = grind (arith, common_steps)
    by false = omega arith

-- what was cut is within the bound, and so is what is begun; the bound stays
pub record IsWithin (longest : ℕ) (s : Scan) : Type 0 where
  pub lines : All (λ line. length line ≤ longest) s.lines
  pub longest_is : s.feed.longest ≡ longest
  pub begun : length s.feed.begun ≤ longest

all_one : (longest : ℕ) (line : List ℕ) → length line ≤ longest → All (λ l. length l ≤ longest) (line ∷ [])
all_one longest line h zero d below = h
all_one longest line h (suc k) d below = absurd (omega arith)

room : (feed : Feed) (b : ℕ) → is_past_line feed b ≡ false → (b == 10) ≡ false → length feed.begun < feed.longest
room feed b within other = grind (arith, common_steps, within, other)

stops_within : (longest : ℕ) (past limit ends : Bool) (long size feed byte : Scan) → IsWithin longest long → IsWithin longest size
    → (ends ≡ true → IsWithin longest feed) → (past ≡ false → ends ≡ false → IsWithin longest byte)
    → IsWithin longest (cond past long (cond limit size (cond ends feed byte)))
stops_within longest true limit ends long size feed byte a b c d = a
stops_within longest false true ends long size feed byte a b c d = b
stops_within longest false false true long size feed byte a b c d = c refl
stops_within longest false false false long size feed byte a b c d = d refl refl

after_within : (done : List (List ℕ)) (feed : Feed) (bytes : List ℕ) (longest : ℕ) → feed.longest ≡ longest → length feed.begun ≤ longest
    → All (λ line. length line ≤ longest) done
    → IsWithin longest (scan_after done feed bytes)
after_within done feed [] longest is begun all = record { lines = all; longest_is = is; begun = begun }
after_within done feed (b ∷ bs) longest is begun all =
    let line : length (unreturned feed.begun) ≤ longest = let few = unreturned_short feed.begun in omega arith in
    stops_within longest (is_past_line feed b) (is_past_limit feed) (b == 10) (stopped done feed kind.Long) (stopped done feed kind.Size)
    (scan_after (done ++ unreturned feed.begun ∷ []) (with_feed feed) bs) (scan_after done (with_byte feed b) bs)
    (record { lines = all; longest_is = is; begun = begun })
    (record { lines = all; longest_is = is; begun = begun })
    (λ ends. after_within (done ++ unreturned feed.begun ∷ []) (with_feed feed) bs longest is (omega arith)
    (All-append (λ l. length l ≤ longest) done (unreturned feed.begun ∷ []) all (all_one longest (unreturned feed.begun) line)))
    (λ within other. after_within done (with_byte feed b) bs longest is (let some = room feed b within other in let more = length-append feed.begun (b ∷ []) in
    omega arith) all)

pub scan_within : (feed : Feed) (bytes : List ℕ) → length feed.begun ≤ feed.longest → IsWithin feed.longest (scan feed bytes)
scan_within feed bytes begun = after_within [] feed bytes feed.longest refl begun (λ i d below. absurd (omega arith))

pub scan_short : (feed : Feed) (bytes : List ℕ) → feed.longest ≤ LONGEST_LINE → length feed.begun ≤ feed.longest
    → All (λ line. length line ≤ LONGEST_LINE) (scan feed bytes).lines
scan_short feed bytes few begun = All-weaker (λ line. length line ≤ feed.longest) (λ line. length line ≤ LONGEST_LINE) (λ line h. omega arith)
    (scan feed bytes).lines (scan_within feed bytes begun).lines

pub last_short : (feed : Feed) → feed.longest ≤ LONGEST_LINE → length feed.begun ≤ feed.longest → IfSome (last_line feed) (λ line. length line ≤ LONGEST_LINE)
last_short feed few begun = by (length feed.begun == 0)
  where
    by : (none : Bool) → IfSome (cond none None (Some (unreturned feed.begun))) (λ line. length line ≤ LONGEST_LINE)
    by true = tt
    by false = let line = unreturned_short feed.begun in omega arith

-- ---- what a line asks for

-- what holds where there is a result
either_ok : {A : Type 0} (P : A → Type 0) (b : Bool) (x y : Result A RefusalKind) → (b ≡ true → IfOk x P) → (b ≡ false → IfOk y P) → IfOk (cond b x y) P
either_ok P true x y h k = h refl
either_ok P false x y h k = k refl

then_ok : {A B : Type 0} (P : A → Type 0) (Q : B → Type 0) (f : A → Result B RefusalKind) (r : Result A RefusalKind) → IfOk r P
    → ((a : A) → P a → IfOk (f a) Q) → IfOk (and_then f r) Q
then_ok P Q f (Ok a) h k = k a h
then_ok P Q f (Err why) h k = tt

any_ok : {A : Type 0} (r : Result A RefusalKind) → IfOk r (λ a. Unit {0})
any_ok (Ok a) = tt
any_ok (Err why) = tt

-- a call that is asked for is written in a line of a log, under the catalogue that is there then
abbrev IsShortThere : ScriptPlace × Deed → Type 0
IsShortThere r = IsShort (plan_in r.0.head) r.1

under_short : (h : ScriptCatalog) (ask : Plan → Asked) → ((plan : Plan) → h ≡ head.Ready plan → IfOk (ask plan) IsShortThere) → IfOk (under h ask) IsShortThere
under_short head.Unnamed ask each = tt
under_short (head.Text text) ask each = tt
under_short (head.Ready plan) ask each = each plan refl

catalog_short : (p : ScriptPlace) (name : List ℕ) → IfOk (at_catalog p name) IsShortThere
catalog_short p name =
    either_ok IsShortThere (not (has_catalog p.mode && is_unnamed p.head)) (Err kind.Site) _ (λ no. tt)
    (λ may. either_ok IsShortThere (is_audit p.mode && not (bytes_eq name (codes "tpcc"))) (Err kind.Name) _ (λ no. tt)
    (λ is. either_ok IsShortThere (bytes_eq name (codes "text")) (Ok (record p { head = head.Text [] }, deed.Nothing)) (found p (builtin_named name))
    (λ text. tt)
    (λ other. by (builtin_named name))))
  where
    by : (o : Option Plan) → IfOk (found p o) IsShortThere
    by None = tt
    by (Some plan) = tt

row_short : (p : ScriptPlace) (table : List ℕ) (parts : List Part) (row : Cells) → IfOk (at_row p table parts row) IsShortThere
row_short p table parts row = under_short p.head (λ plan. cond p.rows_ended (Err kind.Site) (and_then (puts p) (placed_row plan table parts row)))
    (λ plan is. either_ok IsShortThere p.rows_ended (Err kind.Site) (and_then (puts p) (placed_row plan table parts row)) (λ ended. tt)
    (λ open_yet. then_ok (λ r. Unit {0}) IsShortThere (puts p) (placed_row plan table parts row) (any_ok (placed_row plan table parts row)) (λ r any. tt)))

calls_short : (p : ScriptPlace) (plan : Plan) (call : Call) → p.head ≡ head.Ready plan → length (line_of_call plan call) ≤ LONGEST_LINE
    → IfOk (calls p call) IsShortThere
calls_short p plan call is few =
    either_ok IsShortThere (nat_lt p.open_calls MOST_REQUESTS) (Ok (record p { rows_ended = true; open_calls = p.open_calls + 1 }, deed.Call call))
    (Err kind.Batch)
    (λ room. subst (λ (h : ScriptCatalog). length (line_of_call (plan_in h) call) ≤ LONGEST_LINE) (sym is) few) (λ full. tt)

call_short : (p : ScriptPlace) (proc : List ℕ) (args : List Arg) → 3 + length proc + weight arg_token args ≤ LONGEST_LINE
    → IfOk (at_call p proc args) IsShortThere
call_short p proc args few = under_short p.head (λ plan. cond (has_batches p.mode) (and_then (calls p) (placed_call plan proc args)) (Err kind.Site))
    (λ plan is. either_ok IsShortThere (has_batches p.mode) (and_then (calls p) (placed_call plan proc args)) (Err kind.Site)
    (λ may. then_ok (λ call. length (call_line plan.procs call) ≤ LONGEST_LINE) IsShortThere (calls p) (placed_call plan proc args)
    (placed_within plan proc args 4096 few) (λ call within. calls_short p plan call is within))
    (λ no. tt))

ends_short : (p : ScriptPlace) (counts : Counts) (n : ℕ) → IfOk (ends p counts n) IsShortThere
ends_short p counts n =
    either_ok IsShortThere (nat_lt (counts.batches + 1) n) (Err (kind.Gap n (counts.batches + 1))) _ (λ gap. tt)
    (λ next. either_ok IsShortThere (nat_le n counts.batches) (Ok (closed p, deed.Keep n)) (runs p counts n) (λ before. tt)
    (λ new. either_ok IsShortThere (not (is_check p.mode) && nat_lt MOST_REQUESTS (counts.waiting + p.open_calls)) (Err kind.Batch) _ (λ full. tt)
    (λ room. either_ok IsShortThere (nat_lt GREATEST_NUMBER n || nat_lt GREATEST_NUMBER (counts.requests + p.open_calls)) (Err kind.Numbers)
    (Ok (closed p, deed.Run)) (λ no. tt) (λ runs. tt))))

end_short : (p : ScriptPlace) (counts : Counts) (n : ℕ) → IfOk (at_end p counts n) IsShortThere
end_short p counts n = under_short p.head (λ plan. cond (has_batches p.mode) (ends p counts n) (Err kind.Site))
    (λ plan is. either_ok IsShortThere (has_batches p.mode) (ends p counts n) (Err kind.Site) (λ may. ends_short p counts n) (λ no. tt))

settings_short : (p : ScriptPlace) (name : List ℕ) (percent : ℤ) → IfOk (at_settings p name percent) IsShortThere
settings_short p name percent = under_short p.head (λ plan. cond (has_batches p.mode && p.open_calls == 0) (and_then (sets p) (placed_settings name percent))
    (Err kind.Site))
    (λ plan is. either_ok IsShortThere (has_batches p.mode && p.open_calls == 0) (and_then (sets p) (placed_settings name percent)) (Err kind.Site)
    (λ may. then_ok (λ r. Unit {0}) IsShortThere (sets p) (placed_settings name percent) (any_ok (placed_settings name percent)) (λ r any. tt))
    (λ no. tt))

-- what a line of a call comes to
abbrev IsShortItem : Item → Type 0
IsShortItem i = (proc : List ℕ) (args : List Arg) → i ≡ item.Tx proc args → 3 + length proc + weight arg_token args ≤ LONGEST_LINE

item_short : (p : ScriptPlace) (counts : Counts) (i : Item) → IsShortItem i → IfOk (at_item p counts i) IsShortThere
item_short p counts item.Skip short = tt
item_short p counts (item.Catalog name) short = catalog_short p name
item_short p counts (item.Piece piece) short = tt
item_short p counts (item.Row table parts row) short = row_short p table parts row
item_short p counts (item.Tx proc args) short = call_short p proc args (short proc args refl)
item_short p counts (item.End n) short = end_short p counts n
item_short p counts item.Report short = either_ok IsShortThere (is_check p.mode && p.open_calls == 0) (Ok (record p { reports = true }, deed.Nothing))
    (Err kind.Site) (λ may. tt) (λ no. tt)
item_short p counts (item.Settings name percent) short = settings_short p name percent

piece_short : (p : ScriptPlace) (text : List ℕ) (i : Item) → IfOk (within_text p text i) IsShortThere
piece_short p text item.Skip = tt
piece_short p text (item.Catalog name) = tt
piece_short p text (item.Piece piece) =
    either_ok IsShortThere (nat_lt MOST_CATALOG (length text + length piece)) (Err (kind.Catalog fault.Long))
    (Ok (record p { head = head.Text (text ++ piece) }, deed.Nothing)) (λ long. tt) (λ fits. tt)
piece_short p text (item.Row table parts row) = tt
piece_short p text (item.Tx proc args) = tt
piece_short p text (item.End n) = tt
piece_short p text item.Report = tt
piece_short p text (item.Settings name percent) = tt

text_line_short : (p : ScriptPlace) (counts : Counts) (text : List ℕ) (line : Result Item RefusalKind) → IfOk line IsShortItem
    → IfOk (in_text p counts text line) IsShortThere
text_line_short p counts text (Ok i) short =
    either_ok IsShortThere (goes_on i) (within_text p text i) (behind_text p counts text i) (λ more. piece_short p text i)
    (λ over. then_ok (λ ready. Unit {0}) IsShortThere (λ ready. at_item ready counts i) (read_text p text) (any_ok (read_text p text))
    (λ ready any. item_short ready counts i short))
text_line_short p counts text (Err why) short =
    either_ok IsShortThere (is_byte why) (Err why) (and_then (λ ready. Err why) (read_text p text)) (λ byte. tt)
    (λ other. then_ok (λ ready. Unit {0}) IsShortThere (λ ready. Err why) (read_text p text) (any_ok (read_text p text)) (λ ready any. tt))

line_short : (p : ScriptPlace) (counts : Counts) (h : ScriptCatalog) (line : Result Item RefusalKind) → IfOk line IsShortItem
    → IfOk (by_head p counts h line) IsShortThere
line_short p counts head.Unnamed line short = then_ok IsShortItem IsShortThere (at_item p counts) line short (item_short p counts)
line_short p counts (head.Text text) line short = text_line_short (without_head p) counts text line short
line_short p counts (head.Ready plan) line short = then_ok IsShortItem IsShortThere (at_item p counts) line short (item_short p counts)

said_short : (line : List ℕ) → length line ≤ LONGEST_LINE → IfOk (said line) IsShortItem
said_short line few = by (said line) refl
  where
    by : (r : Result Item RefusalKind) → said line ≡ r → IfOk r IsShortItem
    by (Err why) says = tt
    by (Ok i) says = λ proc args is. let within = call_within line proc args (says ∙ ap (λ (j : Item). Ok j) is) in omega arith

asked_short : (p : ScriptPlace) (counts : Counts) (line : List ℕ) → length line ≤ LONGEST_LINE → IfOk (asked p counts line) IsShortThere
asked_short p counts line few =
    either_ok IsShortThere p.reports (Ok (next_line p, deed.Tell)) (by_head (next_line p) counts p.head (said line)) (λ told. tt)
    (λ none. line_short (next_line p) counts p.head (said line) (said_short line few))

-- a line of a script asks for no call that is longer than a line of a log
pub short_deed : (p next : ScriptPlace) (counts : Counts) (line : List ℕ) (asks : Deed) → asked p counts line ≡ Ok (next, asks) → length line ≤ LONGEST_LINE
    → IsShort (plan_in next.head) asks
short_deed p next counts line asks is few = subst (λ (r : Asked). IfOk r IsShortThere) is (asked_short p counts line few)
