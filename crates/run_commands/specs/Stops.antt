-- Why a script stops at a batch that was not told.
use Rattle.std.specs.Prelude.{◌≡◌}
use Rattle.script_course.specs.declared.stops.Stop.{Stop}
use Rattle.script_course.specs.declared.stops.Stop.TheVariants as stop
use Rattle.serving.specs.declared.batches.Delivery.{Delivery}
use Rattle.serving.specs.declared.batches.Delivery.TheVariants as delivery

-- the stop has the cause that the batch has
abbrev pub IsStopFor : Delivery → Stop → Type 0
IsStopFor delivery.Told why = ⊥
IsStopFor delivery.NoMemory why = why ≡ stop.NoMemory
IsStopFor delivery.NoWrite why = why ≡ stop.NoWrite
IsStopFor delivery.NoDisk why = why ≡ stop.NoDisk
