-- What is true of a script between two of its lines, and behind a line of what it asks for.
use Rattle.std.specs.Prelude.{◌≡◌, ◌≤◌, ◌<◌, ◌+◌, ℕ, Bool, true, false, List, [], length}
use Rattle.std.specs.List.{All}
use Rattle.aria_base.specs.Orders.{Cells}
use Rattle.aria_base.specs.Schemas.{Fits}
use Rattle.aria_base.specs.declared.calls.Call.{Call}
use Rattle.aria_base.specs.declared.keys.Key.{Key}
use Rattle.aria_base.specs.declared.limits.TheConstants.{GREATEST_NUMBER, MOST_PERCENT, MOST_REPLICAS, MOST_REQUESTS}
use Rattle.proc_lang.specs.Catalogs.{takes}
use Rattle.script_places.specs.Follows.{IsReadyWith}
use Rattle.script_places.specs.Places.{is_check}
use Rattle.script_places.specs.declared.deeds.Deed.{Deed}
use Rattle.script_places.specs.declared.deeds.Deed.TheVariants as deed
use Rattle.script_places.specs.declared.heads.ScriptCatalog.{ScriptCatalog}
use Rattle.script_places.specs.declared.heads.ScriptCatalog.TheVariants as head
use Rattle.script_places.specs.declared.places.ScriptPlace.{ScriptPlace}
use Rattle.run_commands.specs.Bases.{IsBounded, IsUnder, IsBlank, IsHead, IsListed, state_in, store_in, checkpoint_in}
use Rattle.run_commands.specs.Onces.{Doing, Running}
use Rattle.run_commands.specs.declared.bases.Base.{Base}
use Rattle.run_commands.specs.declared.bases.Base.TheVariants as base
use Rattle.run_commands.specs.declared.works.Work.{Work}

-- a script as its output sees it: without replicas and workers
abbrev pub doing_of : ScriptPlace → Work → Doing
doing_of place work = record { place = place; calls = work.calls.items; state = state_in work.base; each = work.each }

-- with its store
abbrev pub running_of : ScriptPlace → Work → Running
running_of place work = record { doing = doing_of place work; store = store_in work.base; checkpoint = checkpoint_in work.base }

-- before the catalogue is there, there is no row and no call; then both are of it
abbrev pub IsOf : ScriptCatalog → List Call → Base → Type 0
IsOf (head.Ready plan) calls b = All (λ call. takes plan call ≡ true) calls × IsUnder plan b
IsOf head.Unnamed calls b = (calls ≡ []) × IsBlank b
IsOf (head.Text text) calls b = (calls ≡ []) × IsBlank b

-- no row may come behind a batch
abbrev pub HasEnded : Bool → Base → Type 0
HasEnded rows_ended (base.Rows tables config) = Unit {0}
HasEnded rows_ended (base.Runs live) = rows_ended ≡ true

-- what holds whatever calls are open
pub record Holds (place : ScriptPlace) (work : Work) : Type 0 where
  pub mode_kept : is_check place.mode ≡ false
  pub of_head : IsOf place.head work.calls.items work.base
  pub ended : HasEnded place.rows_ended work.base
  pub bounded : IsBounded work.base
  pub listed : IsListed work.each work.base
  pub engines : (1 ≤ work.replicas) × (work.replicas ≤ MOST_REPLICAS)

-- between two lines
pub record Stands (place : ScriptPlace) (work : Work) : Type 0 where
  pub holds : Holds place work
  pub counted : place.open_calls ≡ length work.calls.items
  pub few : length work.calls.items ≤ MOST_REQUESTS

-- ---- behind a line, before what it asks for is done

pub record MayPut (place : ScriptPlace) (work : Work) (key : Key) (row : Cells) : Type 0 where
  pub stands : Stands place work
  pub fits : IsReadyWith place.head (λ plan. Fits plan.tables key row)
  pub before_all : IsHead work.base

pub record MayCall (place : ScriptPlace) (work : Work) (call : Call) : Type 0 where
  pub holds : Holds place work
  pub counted : place.open_calls ≡ length work.calls.items + 1
  pub room : length work.calls.items < MOST_REQUESTS
  pub fits : IsReadyWith place.head (λ plan. takes plan call ≡ true)

pub record MaySet (place : ScriptPlace) (work : Work) (percent : ℕ) : Type 0 where
  pub stands : Stands place work
  pub within : percent ≤ MOST_PERCENT

pub record MayClose (place : ScriptPlace) (work : Work) : Type 0 where
  pub holds : Holds place work
  pub counted : place.open_calls ≡ 0

pub record MayRun (place : ScriptPlace) (work : Work) : Type 0 where
  pub holds : Holds place work
  pub counted : place.open_calls ≡ 0
  pub rows : place.rows_ended ≡ true
  pub ready : IsReadyWith place.head (λ plan. Unit {0})
  pub room : length (state_in work.base).waiting + length work.calls.items ≤ MOST_REQUESTS
  pub batches : (state_in work.base).batches < GREATEST_NUMBER
  pub requests : (state_in work.base).requests + length work.calls.items ≤ GREATEST_NUMBER

-- whether a batch is asked for
abbrev pub runs_batch : Deed → Bool
runs_batch deed.Run = true
runs_batch deed.Nothing = false
runs_batch deed.Tell = false
runs_batch (deed.Put key row) = false
runs_batch (deed.Call call) = false
runs_batch (deed.Set rule percent) = false
runs_batch (deed.Keep number) = false

abbrev pub MayDo : ScriptPlace → Work → Deed → Type 0
MayDo place work deed.Nothing = Stands place work
MayDo place work deed.Tell = Stands place work
MayDo place work (deed.Put key row) = MayPut place work key row
MayDo place work (deed.Call call) = MayCall place work call
MayDo place work (deed.Set rule percent) = MaySet place work percent
MayDo place work (deed.Keep number) = MayClose place work
MayDo place work deed.Run = MayRun place work
