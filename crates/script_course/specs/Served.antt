-- When a sink was given what a course prints.
use Rattle.std.specs.Prelude.{◌≡◌, ℕ, List, Option, Result, Ok, Err}
use Rattle.std.specs.Option.{IfSome}
use Rattle.std.specs.Io.KnownBytes.{Appends, Consumes}
use Rattle.aria_base.specs.Streams.{AppendsFront}
use Rattle.script_course.specs.Courses.{Course, Goes, Stops, Out, printed, status_of}
use Rattle.script_course.specs.declared.stops.Stop.{Stop}
use Rattle.script_course.specs.declared.stops.Stop.TheVariants as stop

-- it goes on from this state, and all of it was given
abbrev pub IsGoing : {R : Type 0} → R → Course R → Option (List ℕ) → Option (List ℕ) → Type 0
IsGoing r (Goes bytes s) old new = (r ≡ s) × Appends old new bytes
IsGoing r (Stops bytes) old new = ⊥

-- a line was refused, and all of it was given
abbrev pub IsStopped : {R : Type 0} → Course R → Option (List ℕ) → Option (List ℕ) → Type 0
IsStopped (Goes bytes s) old new = ⊥
IsStopped (Stops bytes) old new = Appends old new bytes

-- where it was cut off, a prefix of it was given; no line is cut off by the source
abbrev pub ServesCut : {R : Type 0} → Course R → Option (List ℕ) → Option (List ℕ) → Stop → Type 0
ServesCut c old new stop.Refused = IsStopped c old new
ServesCut c old new stop.NoMemory = AppendsFront old new (printed c)
ServesCut c old new stop.NoWrite = AppendsFront old new (printed c)
ServesCut c old new stop.NoDisk = AppendsFront old new (printed c)
ServesCut c old new stop.NoRead = ⊥

abbrev pub Serves : {R : Type 0} → Course R → Option (List ℕ) → Option (List ℕ) → Result R Stop → Type 0
Serves c old new (Ok r) = IsGoing r c old new
Serves c old new (Err why) = ServesCut c old new why

-- to serve the rest of a course from here is to serve the whole from there
abbrev pub Leads : {R : Type 0} → Course R → Option (List ℕ) → Course R → Option (List ℕ) → Type 0
Leads {R = R} rest now c old = (new : Option (List ℕ)) (result : Result R Stop) → Serves rest now new result → Serves c old new result

-- ---- a whole text

-- as a course is served, and where the source failed too a prefix of it was given
abbrev pub ReachesCut : {R : Type 0} → Course R → Option (List ℕ) → Option (List ℕ) → Stop → Type 0
ReachesCut c old new stop.Refused = IsStopped c old new
ReachesCut c old new stop.NoMemory = AppendsFront old new (printed c)
ReachesCut c old new stop.NoWrite = AppendsFront old new (printed c)
ReachesCut c old new stop.NoDisk = AppendsFront old new (printed c)
ReachesCut c old new stop.NoRead = AppendsFront old new (printed c)

abbrev pub Reaches : {R : Type 0} → Course R → Option (List ℕ) → Option (List ℕ) → Result R Stop → Type 0
Reaches c old new (Ok r) = IsGoing r c old new
Reaches c old new (Err why) = ReachesCut c old new why

-- all that a course tells was given, and no line of it was refused
abbrev pub IsSoFar : {R : Type 0} → Course R → Option (List ℕ) → Option (List ℕ) → Type 0
IsSoFar (Goes bytes r) old new = Appends old new bytes
IsSoFar (Stops bytes) old new = ⊥

-- what was given is all that the bytes that were taken tell, and no line of them was refused
abbrev pub IsToldOf : {R : Type 0} → (List ℕ → Course R) → Option (List ℕ) → Option (List ℕ) → Option (List ℕ) → Option (List ℕ) → Type 0
IsToldOf told left rest old new = (text : List ℕ) × Consumes left rest text × IsSoFar (told text) old new

-- so it is where the source failed
abbrev pub ToldWhere : {R : Type 0} → (List ℕ → Course R) → Option (List ℕ) → Option (List ℕ) → Option (List ℕ)
    → Option (List ℕ) → Stop → Type 0
ToldWhere told left rest old new stop.Refused = Unit {0}
ToldWhere told left rest old new stop.NoMemory = Unit {0}
ToldWhere told left rest old new stop.NoWrite = Unit {0}
ToldWhere told left rest old new stop.NoDisk = Unit {0}
ToldWhere told left rest old new stop.NoRead = IsToldOf told left rest old new

abbrev pub Tells : {A R : Type 0} → (List ℕ → Course R) → Option (List ℕ) → Option (List ℕ) → Option (List ℕ)
    → Option (List ℕ) → Result A Stop → Type 0
Tells told left rest old new (Ok r) = Unit {0}
Tells told left rest old new (Err why) = ToldWhere told left rest old new why

-- what a reading comes to, where the source tells what it had
abbrev pub Comes : {R : Type 0} → (List ℕ → Course R) → (List ℕ → Course R) → Option (List ℕ) → Option (List ℕ)
    → Option (List ℕ) → Option (List ℕ) → Result R Stop → Type 0
Comes told whole left rest old new result = IfSome left (λ text. Reaches (whole text) old new result) × Tells told left rest old new result

-- to read the rest of a text from here is to read the whole from there
abbrev pub Carries : {R : Type 0} → (List ℕ → Course R) → (List ℕ → Course R) → Option (List ℕ) → Option (List ℕ)
    → (List ℕ → Course R) → (List ℕ → Course R) → Option (List ℕ) → Option (List ℕ) → Type 0
Carries {R = R} rest_told rest_whole here now told whole left old = (rest new : Option (List ℕ)) (result : Result R Stop)
    → Comes rest_told rest_whole here rest now new result → Comes told whole left rest old new result

-- ---- a whole command

-- all of an output was given, and this is its status; where it was cut off, a prefix of it was given
abbrev pub FinishesCut : Out → Option (List ℕ) → Option (List ℕ) → Stop → Type 0
FinishesCut out old new stop.Refused = (out.status ≡ status_of stop.Refused) × Appends old new out.bytes
FinishesCut out old new stop.NoMemory = AppendsFront old new out.bytes
FinishesCut out old new stop.NoWrite = AppendsFront old new out.bytes
FinishesCut out old new stop.NoDisk = AppendsFront old new out.bytes
FinishesCut out old new stop.NoRead = AppendsFront old new out.bytes

abbrev pub Finishes : Out → Option (List ℕ) → Option (List ℕ) → Result ℕ Stop → Type 0
Finishes out old new (Ok status) = (out.status ≡ status) × Appends old new out.bytes
Finishes out old new (Err why) = FinishesCut out old new why

-- what a command comes to, where the source tells what it had
abbrev pub Completes : {R : Type 0} → (List ℕ → Course R) → (List ℕ → Out) → Option (List ℕ) → Option (List ℕ)
    → Option (List ℕ) → Option (List ℕ) → Result ℕ Stop → Type 0
Completes told whole left rest old new result = IfSome left (λ text. Finishes (whole text) old new result)
    × Tells told left rest old new result
