-- Who was at fault where a command stopped, and when a text is taken so far.
use Rattle.std.specs.Prelude.{◌≡◌, None}
use Rattle.script_text.specs.Lines.{Feed, Scan}
use Rattle.script_course.specs.declared.stops.Stop.{Stop}
use Rattle.script_course.specs.declared.stops.Stop.TheVariants as stop

-- a stop by the sink or the disk says that its count of faults rose; no line is stopped by the source
abbrev pub IsCause : Stop → Type 0 → Type 0 → Type 0
IsCause stop.Refused sink disk = Unit {0}
IsCause stop.NoMemory sink disk = Unit {0}
IsCause stop.NoWrite sink disk = sink
IsCause stop.NoDisk sink disk = disk
IsCause stop.NoRead sink disk = ⊥

-- and a stop by the source that its own did
abbrev pub IsReadCause : Stop → Type 0 → Type 0 → Type 0 → Type 0
IsReadCause stop.Refused source sink disk = Unit {0}
IsReadCause stop.NoMemory source sink disk = Unit {0}
IsReadCause stop.NoWrite source sink disk = sink
IsReadCause stop.NoDisk source sink disk = disk
IsReadCause stop.NoRead source sink disk = source

-- no byte was past a bound, and so far the text is taken
abbrev pub IsTaken : Scan → Feed → Type 0
IsTaken scan feed = (scan.fault ≡ None) × (scan.feed ≡ feed)
