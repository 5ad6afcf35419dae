-- The end of a script, behind what drained it.
use Rattle.std.proofs.Common.{◌≡◌, ◌≢◌, sym, ℕ, Bool, true, false, List, [], Option, Some, None}
use Rattle.std.specs.Prelude.{Result, Ok, Err}
use Rattle.batch_core.specs.Steps.{State}
use Rattle.proc_lang.specs.Catalogs.{Plan}
use Rattle.script_course.proofs.Ends.{completes_on, completes_cut}
use Rattle.script_course.specs.Courses.{Course, Out, ended}
use Rattle.script_course.specs.Served.{Finishes, Serves, ServesCut}
use Rattle.script_course.specs.declared.stops.Stop.{Stop}
use Rattle.script_course.specs.declared.stops.Stop.TheVariants as stop
use Rattle.script_places.specs.declared.heads.ScriptCatalog.{ScriptCatalog}
use Rattle.script_places.specs.declared.heads.ScriptCatalog.TheVariants as head
use Rattle.serving.specs.Drains.{drains}
use Rattle.run_commands.specs.Onces.{drained, listed}
use Rattle.run_commands.specs.declared.bases.Base.{Base}
use Rattle.run_commands.specs.declared.bases.Base.TheVariants as base

module _ {R : Type 0} (on_end : R → Out) (c : Course R) where
  pub ended_by : (r : R) (old mid new : Option (List ℕ)) (result : Result ℕ Stop) → Serves c old mid (Ok r) → result ≢ Err stop.NoRead
      → Finishes (on_end r) mid new result
      → Finishes (ended on_end c) old new result
  ended_by r old mid new result h read last =
      (completes_on on_end (λ (text : List ℕ). c) (λ (text : List ℕ). c) (Some []) None old mid new r result (h, tt) read last).0

  pub ended_cut : (old new : Option (List ℕ)) (why : Stop) → ServesCut c old new why → Finishes (ended on_end c) old new (Err why)
  ended_cut old new stop.Refused h = (completes_cut on_end (λ (text : List ℕ). c) (λ (text : List ℕ). c) (Some []) None old new stop.Refused (h, tt)).0
  ended_cut old new stop.NoMemory h = (completes_cut on_end (λ (text : List ℕ). c) (λ (text : List ℕ). c) (Some []) None old new stop.NoMemory (h, tt)).0
  ended_cut old new stop.NoWrite h = (completes_cut on_end (λ (text : List ℕ). c) (λ (text : List ℕ). c) (Some []) None old new stop.NoWrite (h, tt)).0
  ended_cut old new stop.NoDisk h = (completes_cut on_end (λ (text : List ℕ). c) (λ (text : List ℕ). c) (Some []) None old new stop.NoDisk (h, tt)).0
  ended_cut old new stop.NoRead h = absurd h

module _ (drain : Bool) (plan : Plan) (each : Bool) (line : ℕ) (state : State) where
  drained_if : (b : Bool) → b ≡ true → (r : State) (old mid new : Option (List ℕ)) (result : Result ℕ Stop)
      → Serves (drains plan each line state) old mid (Ok r) → result ≢ Err stop.NoRead
      → Finishes (listed plan each r) mid new result → Finishes (drained b plan each line state) old new result
  drained_if true on r old mid new result h read last = ended_by (listed plan each) (drains plan each line state) r old mid new result h read last
  drained_if false on r old mid new result h read last = absurd cc

  cut_if : (b : Bool) → b ≡ true → (old new : Option (List ℕ)) (why : Stop) → ServesCut (drains plan each line state) old new why
      → Finishes (drained b plan each line state) old new (Err why)
  cut_if true on old new why h = ended_cut (listed plan each) (drains plan each line state) old new why h
  cut_if false on old new why h = absurd cc

  pub drained_by : drain ≡ true → (r : State) (old mid new : Option (List ℕ)) (result : Result ℕ Stop) → Serves (drains plan each line state) old mid (Ok r)
      → result ≢ Err stop.NoRead
      → Finishes (listed plan each r) mid new result → Finishes (drained drain plan each line state) old new result
  drained_by on r old mid new result h read last = drained_if drain on r old mid new result h read last

  pub drained_cut : drain ≡ true → (old new : Option (List ℕ)) (why : Stop) → ServesCut (drains plan each line state) old new why
      → Finishes (drained drain plan each line state) old new (Err why)
  drained_cut on old new why h = cut_if drain on old new why h
