-- A line that was taken is served by what it prints.
use Rattle.std.proofs.Common.{◌≡◌, ◌∙◌, sym, ap, subst, refl, ℕ, List, [], Option}
use Rattle.std.specs.Prelude.{Result, Ok, Err}
use Rattle.script_course.proofs.Turns.{front_none}
use Rattle.script_course.specs.Courses.{Course, Stops, printed}
use Rattle.script_course.specs.Served.{Serves}
use Rattle.script_course.specs.declared.stops.Stop.{Stop}
use Rattle.script_course.specs.declared.stops.Stop.TheVariants as stop
use Rattle.run_commands.specs.Onces.{Doing, Running, doing_result}

module _ {R : Type 0} (c : Course R) where
  pub moved_to : (other : Course R) (old new : Option (List ℕ)) (result : Result R Stop) → c ≡ other → Serves other old new result → Serves c old new result
  moved_to other old new result is h = subst (λ (d : Course R). Serves d old new result) (sym is) h

  pub not_moved : (now : Option (List ℕ)) → Serves c now now (Err stop.NoMemory)
  not_moved now = front_none now (printed c)

pub refused_doing : (bytes : List ℕ) (old new : Option (List ℕ)) (result : Result Running Stop) → Serves {R = Running} (Stops bytes) old new result
    → Serves {R = Doing} (Stops bytes) old new (doing_result result)
refused_doing bytes old new (Ok script) h = h
refused_doing bytes old new (Err stop.Refused) h = h
refused_doing bytes old new (Err stop.NoMemory) h = h
refused_doing bytes old new (Err stop.NoWrite) h = h
refused_doing bytes old new (Err stop.NoDisk) h = h
refused_doing bytes old new (Err stop.NoRead) h = h
