-- What a line of a script asks for at its place, or why it is refused. The refusals of one line come in this order: a byte that no
-- line has; the text of a catalogue that this line ends; no form; no place; no name; what does not fit; the room of a batch.
use Rattle.std.specs.Prelude.{ℕ, ℤ, ◌+◌, Bool, true, false, not, ◌&&◌, ◌||◌, ◌==◌, nat_le, nat_lt, if◌then◌else◌, List, [], ◌++◌}
use Rattle.std.specs.Prelude.{length, Option, Some, None, Result, Ok, Err, codes, bytes_eq}
use Rattle.aria_base.specs.Orders.{Cells}
use Rattle.aria_base.specs.declared.keys.Key.{Key}
use Rattle.aria_base.specs.declared.keys.Part.{Part}
use Rattle.aria_base.specs.declared.calls.Arg.{Arg}
use Rattle.aria_base.specs.declared.calls.Call.{Call}
use Rattle.aria_base.specs.declared.limits.TheConstants.{GREATEST_NUMBER, MOST_REQUESTS}
use Rattle.batch_rules.specs.declared.verdicts.Rule.{Rule}
use Rattle.batch_rules.specs.declared.verdicts.Rule.TheVariants.{Plain, Reorder}
use Rattle.proc_lang.specs.Catalogs.{Plan}
use Rattle.cat_builtin.specs.Builtins.{builtin_named}
use Rattle.cat_text.specs.Texts.{catalog_of}
use Rattle.script_text.specs.Fits.{placed_row, placed_call, placed_settings, and_then}
use Rattle.script_text.specs.Forms.{said}
use Rattle.script_text.specs.Lines.{line_after}
use Rattle.script_text.specs.declared.items.Item.{Item}
use Rattle.script_text.specs.declared.items.Item.TheVariants as item
use Rattle.script_text.specs.declared.refusals.CatFault.TheVariants as fault
use Rattle.script_text.specs.declared.refusals.RefusalKind.{RefusalKind}
use Rattle.script_text.specs.declared.refusals.RefusalKind.TheVariants as kind
use Rattle.script_places.specs.declared.deeds.Deed.{Deed}
use Rattle.script_places.specs.declared.deeds.Deed.TheVariants as deed
use Rattle.script_places.specs.declared.heads.ScriptCatalog.{ScriptCatalog}
use Rattle.script_places.specs.declared.heads.ScriptCatalog.TheVariants as head
use Rattle.script_places.specs.declared.limits.TheConstants.{MOST_CATALOG}
use Rattle.script_places.specs.declared.places.Counts.{Counts}
use Rattle.script_places.specs.declared.places.Mode.{Mode}
use Rattle.script_places.specs.declared.places.Mode.TheVariants as mode
use Rattle.script_places.specs.declared.places.ScriptPlace.{ScriptPlace}

-- what a line asks for, and the place behind it; or why it is refused
abbrev pub Asked : Type 0
Asked = Result (ScriptPlace × Deed) RefusalKind

-- ---- places

abbrev pub start : Mode → ScriptPlace
start m = record { mode = m; lines = 0; head = head.Unnamed; rows_ended = false; open_calls = 0; reports = false }

-- with a catalogue that the script does not bring, and without rows
abbrev pub start_with : Mode → Plan → ScriptPlace
start_with m plan = record { mode = m; lines = 0; head = head.Ready plan; rows_ended = true; open_calls = 0; reports = false }

abbrev pub next_line : ScriptPlace → ScriptPlace
next_line p = record p { lines = line_after p.lines }

abbrev pub has_catalog : Mode → Bool
has_catalog mode.Once = true
has_catalog mode.Init = true
has_catalog mode.Run = false
has_catalog mode.Check = true
has_catalog mode.Audit = true

abbrev pub has_batches : Mode → Bool
has_batches mode.Once = true
has_batches mode.Init = false
has_batches mode.Run = true
has_batches mode.Check = true
has_batches mode.Audit = false

-- a report may follow; and the room of a batch's list is looked at when the report is
abbrev pub is_check : Mode → Bool
is_check mode.Once = false
is_check mode.Init = false
is_check mode.Run = false
is_check mode.Check = true
is_check mode.Audit = false

abbrev pub is_audit : Mode → Bool
is_audit mode.Once = false
is_audit mode.Init = false
is_audit mode.Run = false
is_audit mode.Check = false
is_audit mode.Audit = true

abbrev pub is_unnamed : ScriptCatalog → Bool
is_unnamed head.Unnamed = true
is_unnamed (head.Text text) = false
is_unnamed (head.Ready plan) = false

abbrev pub is_ready : ScriptCatalog → Bool
is_ready head.Unnamed = false
is_ready (head.Text text) = false
is_ready (head.Ready plan) = true

-- the catalogue of a head; where there is none yet, the one without tables and procedures
abbrev pub plan_in : ScriptCatalog → Plan
plan_in head.Unnamed = record { tables = []; procs = [] }
plan_in (head.Text text) = record { tables = []; procs = [] }
plan_in (head.Ready plan) = plan

-- what needs a catalogue may not stand before there is one
abbrev pub under : ScriptCatalog → (Plan → Asked) → Asked
under head.Unnamed ask = Err kind.Site
under (head.Text text) ask = Err kind.Site
under (head.Ready plan) ask = ask plan

-- ---- a catalogue

abbrev pub found : ScriptPlace → Option Plan → Asked
found p None = Err kind.Name
found p (Some plan) = Ok (record p { head = head.Ready plan }, deed.Nothing)

-- once, and before all else; that of an audit is `tpcc`
abbrev pub at_catalog : ScriptPlace → List ℕ → Asked
at_catalog p name =
    if not (has_catalog p.mode && is_unnamed p.head) then Err kind.Site
    else (if is_audit p.mode && not (bytes_eq name (codes "tpcc")) then Err kind.Name
    else (if bytes_eq name (codes "text") then Ok (record p { head = head.Text [] }, deed.Nothing)
    else found p (builtin_named name)))

-- the next piece of its text
abbrev pub at_piece : ScriptPlace → List ℕ → List ℕ → Asked
at_piece p text piece =
    if nat_lt MOST_CATALOG (length text + length piece) then Err (kind.Catalog fault.Long)
    else Ok (record p { head = head.Text (text ++ piece) }, deed.Nothing)

-- ---- rows, before all calls, ends and settings

abbrev pub puts : ScriptPlace → Key × Cells → Asked
puts p row = Ok (p, deed.Put row.0 row.1)

abbrev pub at_row : ScriptPlace → List ℕ → List Part → Cells → Asked
at_row p table parts row =
    under p.head (λ plan. if p.rows_ended then Err kind.Site else and_then (puts p) (placed_row plan table parts row))

-- ---- calls: one more of the open batch, whose room comes last

abbrev pub calls : ScriptPlace → Call → Asked
calls p call =
    if nat_lt p.open_calls MOST_REQUESTS then Ok (record p { rows_ended = true; open_calls = p.open_calls + 1 }, deed.Call call)
    else Err kind.Batch

abbrev pub at_call : ScriptPlace → List ℕ → List Arg → Asked
at_call p proc args =
    under p.head (λ plan. if has_batches p.mode then and_then (calls p) (placed_call plan proc args) else Err kind.Site)

-- ---- ends: the gap first; where the batch is to be run, the room of its list, then the numbers

abbrev pub closed : ScriptPlace → ScriptPlace
closed p = record p { rows_ended = true; open_calls = 0 }

abbrev pub runs : ScriptPlace → Counts → ℕ → Asked
runs p counts n =
    if not (is_check p.mode) && nat_lt MOST_REQUESTS (counts.waiting + p.open_calls) then Err kind.Batch
    else (if nat_lt GREATEST_NUMBER n || nat_lt GREATEST_NUMBER (counts.requests + p.open_calls) then Err kind.Numbers
    else Ok (closed p, deed.Run))

abbrev pub ends : ScriptPlace → Counts → ℕ → Asked
ends p counts n =
    if nat_lt (counts.batches + 1) n then Err (kind.Gap n (counts.batches + 1))
    else (if nat_le n counts.batches then Ok (closed p, deed.Keep n) else runs p counts n)

abbrev pub at_end : ScriptPlace → Counts → ℕ → Asked
at_end p counts n = under p.head (λ plan. if has_batches p.mode then ends p counts n else Err kind.Site)

-- ---- settings, between batches

abbrev pub rule_of : ℕ → Rule
rule_of number = if number == 0 then Plain else Reorder

abbrev pub sets : ScriptPlace → ℕ × ℕ → Asked
sets p settings = Ok (record p { rows_ended = true }, deed.Set (rule_of settings.0) settings.1)

abbrev pub at_settings : ScriptPlace → List ℕ → ℤ → Asked
at_settings p name percent =
    under p.head
    (λ plan. if has_batches p.mode && p.open_calls == 0 then and_then (sets p) (placed_settings name percent) else Err kind.Site)

-- ---- the line behind which a report begins

abbrev pub at_report : ScriptPlace → Asked
at_report p = if is_check p.mode && p.open_calls == 0 then Ok (record p { reports = true }, deed.Nothing) else Err kind.Site

-- ---- a line of a form

abbrev pub at_item : ScriptPlace → Counts → Item → Asked
at_item p counts item.Skip = Ok (p, deed.Nothing)
at_item p counts (item.Catalog name) = at_catalog p name
at_item p counts (item.Piece piece) = Err kind.Site
at_item p counts (item.Row table parts row) = at_row p table parts row
at_item p counts (item.Tx proc args) = at_call p proc args
at_item p counts (item.End n) = at_end p counts n
at_item p counts item.Report = at_report p
at_item p counts (item.Settings name percent) = at_settings p name percent

-- ---- a line: what was said of it, by the catalogue

-- with the catalogue that a text says
abbrev pub read_text : ScriptPlace → List ℕ → Result ScriptPlace RefusalKind
read_text p text = and_then (λ plan. Ok (record p { head = head.Ready plan })) (catalog_of text)

-- the text is read, and the line stands behind it
abbrev pub behind_text : ScriptPlace → Counts → List ℕ → Item → Asked
behind_text p counts text item = and_then (λ ready. at_item ready counts item) (read_text p text)

-- a skipped line and a piece do not end the text of a catalogue
abbrev pub goes_on : Item → Bool
goes_on item.Skip = true
goes_on (item.Piece piece) = true
goes_on other = false

abbrev pub within_text : ScriptPlace → List ℕ → Item → Asked
within_text p text (item.Piece piece) = at_piece p text piece
within_text p text other = Ok (record p { head = head.Text text }, deed.Nothing)

-- while the text of a catalogue comes: the first line that is neither skipped nor a piece has it read, also where the line is of no form
abbrev pub item_in_text : ScriptPlace → Counts → List ℕ → Item → Asked
item_in_text p counts text i = if goes_on i then within_text p text i else behind_text p counts text i

abbrev pub is_byte : RefusalKind → Bool
is_byte kind.Byte = true
is_byte other = false

abbrev pub refused_in_text : ScriptPlace → List ℕ → RefusalKind → Asked
refused_in_text p text why = if is_byte why then Err why else and_then (λ ready. Err why) (read_text p text)

abbrev pub in_text : ScriptPlace → Counts → List ℕ → Result Item RefusalKind → Asked
in_text p counts text (Ok i) = item_in_text p counts text i
in_text p counts text (Err why) = refused_in_text p text why

abbrev pub without_head : ScriptPlace → ScriptPlace
without_head p = record p { head = head.Unnamed }

abbrev pub by_head : ScriptPlace → Counts → ScriptCatalog → Result Item RefusalKind → Asked
by_head p counts (head.Text text) line = in_text (without_head p) counts text line
by_head p counts head.Unnamed line = and_then (at_item p counts) line
by_head p counts (head.Ready plan) line = and_then (at_item p counts) line

-- the next line; a line of the report is taken as it is
abbrev pub asked_at : ScriptPlace → Counts → List ℕ → Asked
asked_at p counts line = if p.reports then Ok (p, deed.Tell) else by_head p counts p.head (said line)

abbrev pub asked : ScriptPlace → Counts → List ℕ → Asked
asked p counts line = asked_at (next_line p) counts line

-- ---- the end of the input, which counts as one line more: the text of a catalogue is read, and no call may be open

abbrev pub shut : ScriptPlace → Result ScriptPlace RefusalKind
shut p = if p.open_calls == 0 then Ok p else Err kind.Unfinished

abbrev pub closed_by : ScriptPlace → ScriptCatalog → Result ScriptPlace RefusalKind
closed_by p (head.Text text) = and_then shut (read_text (without_head p) text)
closed_by p head.Unnamed = shut p
closed_by p (head.Ready plan) = shut p

abbrev pub closing : ScriptPlace → Result ScriptPlace RefusalKind
closing p = closed_by (next_line p) p.head
