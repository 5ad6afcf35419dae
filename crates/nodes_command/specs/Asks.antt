-- What a line of a script for nodes asks for: the same as for one database, but that settings never stand, and that the calls of a
-- whole script have a bound.
use Rattle.std.specs.Prelude.{ℕ, Bool, true, false, not, ◌&&◌, nat_lt, if◌then◌else◌, List, Result, Ok, Err}
use Rattle.aria_base.specs.declared.limits.TheConstants.{MOST_REQUESTS}
use Rattle.script_places.specs.Places.{Asked, asked}
use Rattle.script_places.specs.declared.deeds.Deed.{Deed}
use Rattle.script_places.specs.declared.deeds.Deed.TheVariants as deed
use Rattle.script_places.specs.declared.places.Counts.{Counts}
use Rattle.script_places.specs.declared.places.ScriptPlace.{ScriptPlace}
use Rattle.script_text.specs.Forms.{said}
use Rattle.script_text.specs.declared.items.Item.{Item}
use Rattle.script_text.specs.declared.items.Item.TheVariants as item
use Rattle.script_text.specs.declared.refusals.RefusalKind.{RefusalKind}
use Rattle.script_text.specs.declared.refusals.RefusalKind.TheVariants as kind

-- a line of the form of settings
abbrev pub is_settings : Result Item RefusalKind → Bool
is_settings (Ok item.Skip) = false
is_settings (Ok (item.Catalog name)) = false
is_settings (Ok (item.Piece piece)) = false
is_settings (Ok (item.Row table parts row)) = false
is_settings (Ok (item.Tx proc args)) = false
is_settings (Ok (item.End number)) = false
is_settings (Ok item.Report) = false
is_settings (Ok (item.Settings name percent)) = true
is_settings (Err why) = false

-- settings are asked for
abbrev pub is_set : Deed → Bool
is_set deed.Nothing = false
is_set (deed.Put key row) = false
is_set (deed.Call call) = false
is_set (deed.Set rule percent) = true
is_set (deed.Keep number) = false
is_set deed.Run = false
is_set deed.Tell = false

-- a call is asked for
abbrev pub is_call : Deed → Bool
is_call deed.Nothing = false
is_call (deed.Put key row) = false
is_call (deed.Call call) = true
is_call (deed.Set rule percent) = false
is_call (deed.Keep number) = false
is_call deed.Run = false
is_call deed.Tell = false

-- the text of a catalogue is refused
abbrev pub is_of_text : RefusalKind → Bool
is_of_text (kind.Catalog fault) = true
is_of_text other = false

-- settings stand nowhere; where they end the text of a catalogue, the refusal of that text comes first
abbrev pub without_settings : Asked → Asked
without_settings (Ok asked) = Err kind.Site
without_settings (Err why) = if is_of_text why then Err why else Err kind.Site

-- where so many calls came before, in all batches of the script: the bound of all calls comes behind every other refusal of a line
abbrev pub within_all : ℕ → Asked → Asked
within_all called (Ok asked) = if is_call asked.1 && not (nat_lt called MOST_REQUESTS) then Err kind.Batch else Ok asked
within_all called (Err why) = Err why

abbrev pub asked_among : ℕ → ScriptPlace → Counts → List ℕ → Asked
asked_among called p counts line =
    if is_settings (said line) then without_settings (asked p counts line) else within_all called (asked p counts line)
