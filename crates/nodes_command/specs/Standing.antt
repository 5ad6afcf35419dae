-- What is true of a script on nodes between two of its lines.
use Rattle.std.specs.Prelude.{◌≡◌, ◌≤◌, ◌<◌, ◌+◌, Bool, true, false, length}
use Rattle.aria_base.specs.declared.limits.TheConstants.{MOST_REQUESTS}
use Rattle.node_world.specs.declared.worlds.TheConstants.{MOST_NODES}
use Rattle.run_commands.specs.Onces.{Doing}
use Rattle.script_places.specs.Follows.{IsReadyWith}
use Rattle.script_places.specs.Places.{is_check}
use Rattle.script_places.specs.declared.deeds.Deed.{Deed}
use Rattle.script_places.specs.declared.deeds.Deed.TheVariants as deed
use Rattle.script_places.specs.declared.heads.ScriptCatalog.{ScriptCatalog}
use Rattle.script_places.specs.declared.heads.ScriptCatalog.TheVariants as head
use Rattle.script_places.specs.declared.places.ScriptPlace.{ScriptPlace}
use Rattle.nodes_command.specs.Bases.{IsHead, IsUnder, requests_in, state_of}
use Rattle.nodes_command.specs.Scripts.{Among}
use Rattle.nodes_command.specs.declared.bases.Base.{Base}
use Rattle.nodes_command.specs.declared.bases.Base.TheVariants as base
use Rattle.nodes_command.specs.declared.works.Work.{Work}

abbrev pub doing_of : ScriptPlace → Work → Doing
doing_of place work = record { place = place; calls = work.calls.items; state = state_of work.base; each = work.each }

-- a script as its output sees it: without nodes
abbrev pub among_of : ScriptPlace → Work → Among
among_of place work = record { doing = doing_of place work; called = work.called }

-- before the catalogue is there, no batch was run; then the nodes run by it
abbrev pub IsOf : ScriptCatalog → Base → Type 0
IsOf (head.Ready plan) b = IsUnder plan b
IsOf head.Unnamed b = IsHead b
IsOf (head.Text text) b = IsHead b

-- no row may come behind a batch
abbrev pub HasEnded : Bool → Base → Type 0
HasEnded rows_ended (base.Rows tables rule) = Unit {0}
HasEnded rows_ended (base.Runs n) = rows_ended ≡ true

-- what holds whatever calls are open
pub record Holds (place : ScriptPlace) (work : Work) : Type 0 where
  pub mode_kept : is_check place.mode ≡ false
  pub silent : place.reports ≡ false
  pub of_head : IsOf place.head work.base
  pub ended : HasEnded place.rows_ended work.base
  pub nodes : (1 ≤ work.nodes) × (work.nodes ≤ MOST_NODES)
  pub all_calls : requests_in work.base + length work.calls.items ≤ work.called
  pub few_calls : work.called ≤ MOST_REQUESTS

-- between two lines
pub record Stands (place : ScriptPlace) (work : Work) : Type 0 where
  pub holds : Holds place work
  pub counted : place.open_calls ≡ length work.calls.items

-- ---- behind a line, before what it asks for is done

pub record MayPut (place : ScriptPlace) (work : Work) : Type 0 where
  pub stands : Stands place work
  pub before_all : IsHead work.base

pub record MayCall (place : ScriptPlace) (work : Work) : Type 0 where
  pub holds : Holds place work
  pub counted : place.open_calls ≡ length work.calls.items + 1
  pub room : work.called < MOST_REQUESTS

pub record MayClose (place : ScriptPlace) (work : Work) : Type 0 where
  pub holds : Holds place work
  pub counted : place.open_calls ≡ 0

pub record MayRun (place : ScriptPlace) (work : Work) : Type 0 where
  pub may_close : MayClose place work
  pub rows : place.rows_ended ≡ true
  pub ready : IsReadyWith place.head (λ plan. Unit {0})

abbrev pub MayDo : ScriptPlace → Work → Deed → Type 0
MayDo place work deed.Nothing = Stands place work
MayDo place work deed.Tell = Stands place work
MayDo place work (deed.Put key row) = MayPut place work
MayDo place work (deed.Call call) = MayCall place work
MayDo place work (deed.Set rule percent) = ⊥
MayDo place work (deed.Keep number) = MayClose place work
MayDo place work deed.Run = MayRun place work
