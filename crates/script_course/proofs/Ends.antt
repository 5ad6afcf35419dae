-- The end of a command, behind what its lines print.
use Rattle.std.proofs.Common.{◌≢◌, ℕ, List, Option, Some, None, refl, sym, ap}
use Rattle.std.specs.Prelude.{Result, Ok, Err}
use Rattle.std.specs.Option.{IfSome}
use Rattle.std.specs.Io.KnownBytes.{Appends}
use Rattle.std.proofs.KnownBytes.{Appends-trans}
use Rattle.aria_base.specs.Streams.{AppendsFront}
use Rattle.script_course.specs.Courses.{Course, Goes, Stops, Out, printed, out_behind, ended}
use Rattle.script_course.specs.Served.{IsGoing, Reaches, ReachesCut, Finishes, FinishesCut, Tells, Comes, Completes}
use Rattle.script_course.specs.declared.stops.Stop.{Stop}
use Rattle.script_course.specs.declared.stops.Stop.TheVariants as stop
use Rattle.script_course.proofs.Turns.{front_longer, front_behind}

-- what ended behind bytes that were given before
pub cut_behind : (bytes : List ℕ) (out : Out) (old mid new : Option (List ℕ)) (why : Stop) → Appends old mid bytes → FinishesCut out mid new why
    → FinishesCut (out_behind bytes out) old new why
cut_behind bytes out old mid new stop.Refused first h = (h.0, Appends-trans old mid new bytes out.bytes first h.1)
cut_behind bytes out old mid new stop.NoMemory first h = front_behind old mid new bytes out.bytes first h
cut_behind bytes out old mid new stop.NoWrite first h = front_behind old mid new bytes out.bytes first h
cut_behind bytes out old mid new stop.NoDisk first h = front_behind old mid new bytes out.bytes first h
cut_behind bytes out old mid new stop.NoRead first h = front_behind old mid new bytes out.bytes first h

pub finishes_behind : (bytes : List ℕ) (out : Out) (old mid new : Option (List ℕ)) (result : Result ℕ Stop) → Appends old mid bytes
    → Finishes out mid new result → Finishes (out_behind bytes out) old new result
finishes_behind bytes out old mid new (Ok status) first h = (h.0, Appends-trans old mid new bytes out.bytes first h.1)
finishes_behind bytes out old mid new (Err why) first h = cut_behind bytes out old mid new why first h

module _ {R : Type 0} (on_end : R → Out) where
  ended_on : (c : Course R) (r : R) (old mid new : Option (List ℕ)) (result : Result ℕ Stop) → IsGoing r c old mid → Finishes (on_end r) mid new result
      → Finishes (ended on_end c) old new result
  ended_on (Stops bytes) r old mid new result h last = absurd h
  ended_on (Goes bytes s) r old mid new result (e, first) last = finishes_behind bytes (on_end s) old mid new result first (rw (ap on_end (sym e)) last)

  front_ended : (c : Course R) (old new : Option (List ℕ)) → AppendsFront old new (printed c) → AppendsFront old new (ended on_end c).bytes
  front_ended (Goes bytes r) old new h = front_longer old new bytes (on_end r).bytes h
  front_ended (Stops bytes) old new h = h

  stopped_ended : (c : Course R) (old new : Option (List ℕ)) → ReachesCut c old new stop.Refused → FinishesCut (ended on_end c) old new stop.Refused
  stopped_ended (Goes bytes r) old new h = absurd h
  stopped_ended (Stops bytes) old new h = (refl, h)

  ended_cut : (c : Course R) (old new : Option (List ℕ)) (why : Stop) → ReachesCut c old new why → FinishesCut (ended on_end c) old new why
  ended_cut c old new stop.Refused h = stopped_ended c old new h
  ended_cut c old new stop.NoMemory h = front_ended c old new h
  ended_cut c old new stop.NoWrite h = front_ended c old new h
  ended_cut c old new stop.NoDisk h = front_ended c old new h
  ended_cut c old new stop.NoRead h = front_ended c old new h

  all_on : (whole : List ℕ → Course R) (left old mid new : Option (List ℕ)) (r : R) (result : Result ℕ Stop)
      → IfSome left (λ text. Reaches (whole text) old mid (Ok r)) → Finishes (on_end r) mid new result
      → IfSome left (λ text. Finishes (ended on_end (whole text)) old new result)
  all_on whole None old mid new r result h last = tt
  all_on whole (Some text) old mid new r result h last = ended_on (whole text) r old mid new result h last

  all_cut : (whole : List ℕ → Course R) (left old new : Option (List ℕ)) (why : Stop) → IfSome left (λ text. ReachesCut (whole text) old new why)
      → IfSome left (λ text. FinishesCut (ended on_end (whole text)) old new why)
  all_cut whole None old new why h = tt
  all_cut whole (Some text) old new why h = ended_cut (whole text) old new why h

tells_nothing : {R : Type 0} (told : List ℕ → Course R) (left rest old new : Option (List ℕ)) (result : Result ℕ Stop) → result ≢ Err stop.NoRead
    → Tells told left rest old new result
tells_nothing told left rest old new (Ok status) read = tt
tells_nothing told left rest old new (Err stop.Refused) read = tt
tells_nothing told left rest old new (Err stop.NoMemory) read = tt
tells_nothing told left rest old new (Err stop.NoWrite) read = tt
tells_nothing told left rest old new (Err stop.NoDisk) read = tt
tells_nothing told left rest old new (Err stop.NoRead) read = absurd (read refl)

module _ {R : Type 0} where
  pub completes_on : (on_end : R → Out) (told whole : List ℕ → Course R) (left rest old mid new : Option (List ℕ)) (r : R) (result : Result ℕ Stop)
      → Comes told whole left rest old mid (Ok r) → result ≢ Err stop.NoRead → Finishes (on_end r) mid new result
      → Completes told (λ text. ended on_end (whole text)) left rest old new result
  completes_on on_end told whole left rest old mid new r result h read last =
      (all_on on_end whole left old mid new r result h.0 last, tells_nothing told left rest old new result read)

  pub completes_cut : (on_end : R → Out) (told whole : List ℕ → Course R) (left rest old new : Option (List ℕ)) (why : Stop)
      → Comes {R = R} told whole left rest old new (Err why) → Completes told (λ text. ended on_end (whole text)) left rest old new (Err why)
  completes_cut on_end told whole left rest old new why h = (all_cut on_end whole left old new why h.0, h.1)
