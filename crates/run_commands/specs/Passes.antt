-- Which states a store holds in turn while a script runs, and what was given at those times. No store and no disk come into it.
use Rattle.std.specs.Prelude.{◌≡◌, ◌⊎◌, ◌==◌, ℕ, Bool, if◌then◌else◌, List, [], ◌∷◌, ◌++◌, length, take, map, replicate}
use Rattle.std.specs.Prelude.{Option, Some, None, Result, Ok, Err}
use Rattle.answer_text.specs.Notices.{at_text}
use Rattle.answer_text.specs.Refusals.{refusal_text}
use Rattle.batch_core.specs.Steps.{State}
use Rattle.script_course.specs.Courses.{Course, Goes, Stops, behind, refused_after}
use Rattle.script_text.specs.Lines.{Scan, last_line}
use Rattle.script_text.specs.declared.refusals.RefusalKind.{RefusalKind}
use Rattle.script_text.specs.declared.refusals.Refusal.{Refusal}
use Rattle.script_places.specs.Places.{closing, plan_in}
use Rattle.script_places.specs.declared.places.ScriptPlace.{ScriptPlace}
use Rattle.serving.specs.Lives.{listing}
use Rattle.serving.specs.Drains.{one_drained}
use Rattle.run_commands.specs.Onces.{Doing, on_line}

-- ---- steps that print, one after the other

-- a course, and what follows where it goes on
abbrev pub onward : {R : Type 0} → (R → Course R) → Course R → Course R
onward next (Goes bytes r) = behind bytes (next r)
onward next (Stops bytes) = Stops bytes

-- what steps print and leave
module _ {R X : Type 0} (on : R → X → Course R) where
  abbrev pub over : List X → R → Course R
  over [] r = Goes [] r
  over (x ∷ steps) r = onward (over steps) (on r x)

-- this state is held, while some first of these bytes were given
pub record IsHere (held : State) (bytes : List ℕ) (t : State) (given : List ℕ) : Type 0 where
  pub state : t ≡ held
  pub count : ℕ
  pub front : given ≡ take count bytes

-- these bytes were given, and the rest passes
pub record IsBehind (bytes : List ℕ) (passes : State → List ℕ → Type 0) (t : State) (given : List ℕ) : Type 0 where
  pub rest : List ℕ
  pub first : given ≡ bytes ++ rest
  pub passes_on : passes t rest

-- `held_by held r next` is what is held behind a step from r to next, where held is held before it
module _ {R X : Type 0} (on : R → X → Course R) (held_by : State → R → R → State) where
  -- a step: before its first byte, what it leaves is held already; where it stops, nothing changes
  abbrev pub PassesBy : R → State → (R → State → State → List ℕ → Type 0) → Course R → State → List ℕ → Type 0
  PassesBy r held passes (Stops bytes) t given = IsHere held bytes t given
  PassesBy r held passes (Goes bytes next) t given =
      IsHere (held_by held r next) bytes t given ⊎ IsBehind bytes (passes next (held_by held r next)) t given

  -- from r on, where `held` is held: at some time of these steps `t` is held, and `given` was given by them
  abbrev pub Passes : List X → R → State → State → List ℕ → Type 0
  Passes [] r held t given = IsHere held [] t given
  Passes (x ∷ steps) r held t given = IsHere held [] t given ⊎ PassesBy r held (Passes steps) (on r x) t given

-- what is held behind them, whatever that is
module _ {H R X : Type 0} (on : R → X → Course R) (held_by : H → R → R → H) where
  abbrev pub held_by_step : R → H → (R → H → H) → Course R → H
  held_by_step r held over (Stops bytes) = held
  held_by_step r held over (Goes bytes next) = over next (held_by held r next)

  abbrev pub held_over : List X → R → H → H
  held_over [] r held = held
  held_over (x ∷ steps) r held = held_by_step r held (held_over steps) (on r x)

-- ---- the lines of a script

-- Settings alone are in no store: what is held changes with the count of batches.
abbrev pub held_then : State → Doing → Doing → State
held_then held before after = if after.state.batches == before.state.batches then held else after.state

-- What a script does in turn. `Line` is a line, and `Past` one that passes a bound; `Close` is the end of the input, `Drain` a batch
-- without new calls where something waits, and `Listed` the listing behind all. `At` tells how many batches were run before, which is
-- what a script over a store begins with.
pub data Turn : Type 0 where
  At : Turn
  Line : List ℕ → Turn
  Past : Refusal → Turn
  Close : Turn
  Drain : Turn
  Listed : Turn

-- the end of the input at a place
abbrev pub on_close : Doing → Result ScriptPlace RefusalKind → Course Doing
on_close d (Ok place) = Goes [] (record d { place = place })
on_close d (Err kind) = Stops (refused_after d.place.lines kind)

-- the state that a course leaves, as that of a script
abbrev pub as_doing : Doing → Course State → Course Doing
as_doing d (Goes bytes state) = Goes bytes (record d { state = state })
as_doing d (Stops bytes) = Stops bytes

-- behind the end of the input, whose line counts: its number is that of a drained batch that is refused
abbrev pub on_drain : Doing → Course Doing
on_drain d =
    if length d.state.waiting == 0 then Goes [] d
    else as_doing d (one_drained (plan_in d.place.head) d.each d.place.lines d.state)

abbrev pub on_turn : Doing → Turn → Course Doing
on_turn d At = Goes (at_text d.state.batches) d
on_turn d (Line line) = on_line d line
on_turn d (Past refusal) = Stops (refusal_text refusal)
on_turn d Close = on_close d (closing d.place)
on_turn d Drain = on_drain d
on_turn d Listed = Goes (if d.each then [] else listing (plan_in d.place.head) d.state) d

abbrev pub past : Option Refusal → List Turn
past None = []
past (Some refusal) = Past refusal ∷ []

abbrev pub last : Option (List ℕ) → List Turn
last None = []
last (Some line) = Line line ∷ []

-- the whole lines of what was read, up to the first byte that is past a bound; and the line at its end that no line feed completes
abbrev pub turns : Scan → List Turn
turns scan = map Line scan.lines ++ past scan.fault

abbrev pub turns_whole : Scan → List Turn
turns_whole scan = turns scan ++ last (last_line scan.feed)

-- the end of the input, with so many drained batches
abbrev pub ending : ℕ → List Turn
ending n = Close ∷ (replicate n Drain ++ Listed ∷ [])

-- As many as requests wait are enough.
abbrev pub ending_of : Bool → Doing → List Turn
ending_of drains d = ending (if drains then length d.state.waiting else 0)

-- behind lines that came so far; where one was refused, nothing follows
abbrev pub ending_behind : Bool → Course Doing → List Turn
ending_behind drains (Goes bytes d) = ending_of drains d
ending_behind drains (Stops bytes) = []

-- lines from here on, where this state is held
abbrev pub PassesTurns : List Turn → Doing → State → State → List ℕ → Type 0
PassesTurns steps d held t given = Passes on_turn held_then steps d held t given

abbrev pub held_behind : List Turn → Doing → State → State
held_behind steps d held = held_over on_turn held_then steps d held
