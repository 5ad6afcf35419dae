-- What is true of a script and its report between two lines.
use Rattle.std.specs.Prelude.{◌≡◌, ◌≤◌, ◌+◌, ℕ, map, length}
use Rattle.aria_base.specs.declared.limits.TheConstants.{GREATEST_NUMBER}
use Rattle.script_places.specs.declared.deeds.Deed.{Deed}
use Rattle.script_places.specs.declared.deeds.Deed.TheVariants as deed
use Rattle.script_places.specs.declared.places.ScriptPlace.{ScriptPlace}
use Rattle.serial_check.specs.Crowds.{run_behind}
use Rattle.check_command.specs.Checks.{Doing}
use Rattle.check_command.specs.declared.works.Work.{Work}

abbrev pub doing_of : ScriptPlace → Work → Doing
doing_of place work = record {
  place = place;
  rows = work.tables;
  calls = work.calls.items;
  script = map (λ batch. (batch.0, batch.1.items)) work.script.items;
  ends = work.ends.items;
  requests = work.requests;
  report = work.report.items;
}

-- each batch that is run has the line that ends it
abbrev pub HasEnds : Doing → Type 0
HasEnds d = run_behind 0 d.script ≡ length d.ends

-- between two lines: the open calls are those that the place counts
pub record Stands (d : Doing) : Type 0 where
  pub ends : HasEnds d
  pub counted : d.place.open_calls ≡ length d.calls

-- ---- behind a line, before what it asks for is done

pub record MayCall (d : Doing) : Type 0 where
  pub ends : HasEnds d
  pub counted : d.place.open_calls ≡ length d.calls + 1

pub record MayKeep (d : Doing) (number : ℕ) : Type 0 where
  pub ends : HasEnds d
  pub counted : d.place.open_calls ≡ 0
  pub before : number ≤ length d.ends

pub record MayRun (d : Doing) : Type 0 where
  pub ends : HasEnds d
  pub counted : d.place.open_calls ≡ 0
  pub requests : d.requests + length d.calls ≤ GREATEST_NUMBER

abbrev pub MayDo : Doing → Deed → Type 0
MayDo d deed.Nothing = Stands d
MayDo d (deed.Put key row) = Stands d
MayDo d (deed.Call call) = MayCall d
MayDo d (deed.Set rule percent) = Stands d
MayDo d (deed.Keep number) = MayKeep d number
MayDo d deed.Run = MayRun d
MayDo d deed.Tell = Stands d
