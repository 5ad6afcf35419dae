-- What is known behind a line that is not refused.
use Rattle.std.specs.Prelude.{◌≡◌, ◌≤◌, ◌<◌, ◌+◌, ℕ, true, false}
use Rattle.aria_base.specs.Schemas.{Fits}
use Rattle.aria_base.specs.declared.limits.TheConstants.{GREATEST_NUMBER, MOST_PERCENT, MOST_REQUESTS}
use Rattle.proc_lang.specs.Catalogs.{Plan, takes}
use Rattle.script_places.specs.Places.{is_check}
use Rattle.script_places.specs.declared.deeds.Deed.{Deed}
use Rattle.script_places.specs.declared.deeds.Deed.TheVariants as deed
use Rattle.script_places.specs.declared.heads.ScriptCatalog.{ScriptCatalog}
use Rattle.script_places.specs.declared.heads.ScriptCatalog.TheVariants as head
use Rattle.script_places.specs.declared.places.Counts.{Counts}
use Rattle.script_places.specs.declared.places.ScriptPlace.{ScriptPlace}

-- a catalogue that is there stays
abbrev pub HeadStays : ScriptCatalog → ScriptCatalog → Type 0
HeadStays (head.Ready plan) after = after ≡ head.Ready plan
HeadStays head.Unnamed after = Unit {0}
HeadStays (head.Text text) after = Unit {0}

-- the catalogue is there, and this holds of it
abbrev pub IsReadyWith : ScriptCatalog → (Plan → Type 0) → Type 0
IsReadyWith (head.Ready plan) P = P plan
IsReadyWith head.Unnamed P = ⊥
IsReadyWith (head.Text text) P = ⊥

-- no call more, and rows may stand only where they might before
pub record Stays (before after : ScriptPlace) : Type 0 where
  pub calls : after.open_calls ≡ before.open_calls
  pub rows : before.rows_ended ≡ true → after.rows_ended ≡ true

-- a row of the catalogue, which may stand there
pub record Puts (before after : ScriptPlace) (P : Plan → Type 0) : Type 0 where
  pub fits : IsReadyWith after.head P
  pub calls : after.open_calls ≡ before.open_calls
  pub rows : before.rows_ended ≡ false

-- a call of the catalogue, and there is room for one
pub record Calls (before after : ScriptPlace) (P : Plan → Type 0) : Type 0 where
  pub fits : IsReadyWith after.head P
  pub calls : after.open_calls ≡ before.open_calls + 1
  pub room : before.open_calls < MOST_REQUESTS
  pub rows : after.rows_ended ≡ true

-- a percentage, between batches
pub record Sets (before after : ScriptPlace) (percent : ℕ) : Type 0 where
  pub within : percent ≤ MOST_PERCENT
  pub calls : after.open_calls ≡ before.open_calls
  pub rows : after.rows_ended ≡ true

-- the end of a batch
pub record Closes (after : ScriptPlace) : Type 0 where
  pub calls : after.open_calls ≡ 0
  pub rows : after.rows_ended ≡ true

-- of one that is run: its list has room, and so have its numbers
pub record Runs (before : ScriptPlace) (counts : Counts) (after : ScriptPlace) : Type 0 where
  pub ready : IsReadyWith after.head (λ plan. Unit {0})
  pub calls : after.open_calls ≡ 0
  pub rows : after.rows_ended ≡ true
  pub room : is_check before.mode ≡ false → counts.waiting + before.open_calls ≤ MOST_REQUESTS
  pub batches : counts.batches < GREATEST_NUMBER
  pub requests : counts.requests + before.open_calls ≤ GREATEST_NUMBER

abbrev pub Allows : ScriptPlace → Counts → ScriptPlace → Deed → Type 0
Allows before counts after deed.Nothing = Stays before after
Allows before counts after deed.Tell = Stays before after
Allows before counts after (deed.Put key row) = Puts before after (λ plan. Fits plan.tables key row)
Allows before counts after (deed.Call call) = Calls before after (λ plan. takes plan call ≡ true)
Allows before counts after (deed.Set rule percent) = Sets before after percent
Allows before counts after (deed.Keep number) = Closes after
Allows before counts after deed.Run = Runs before counts after

-- what a line asks for at a place is allowed there, and the mode and the catalogue stay
pub record Follows (before : ScriptPlace) (counts : Counts) (after : ScriptPlace) (asks : Deed) : Type 0 where
  pub mode_stays : after.mode ≡ before.mode
  pub head_stays : HeadStays before.head after.head
  pub allows : Allows before counts after asks
