-- A text that comes in pieces comes to what it comes to as a whole.
use Rattle.std.proofs.Common.{◌≡◌, ℕ, List, [], ◌∷◌, ◌++◌, Option, Some, None, refl, sym, ap, ◌∙◌, append_assoc, append-nil, subst, take}
use Rattle.std.specs.Prelude.{Result, Ok, Err}
use Rattle.std.specs.Option.{IfSome}
use Rattle.std.specs.Io.KnownBytes.{Appends, Consumes, Keeps, IsAtEnd}
use Rattle.std.proofs.KnownBytes.{Appends-trans, Appends-nil, Consumes-trans}
use Rattle.aria_base.specs.Streams.{AppendsFront}
use Rattle.script_text.specs.declared.refusals.Refusal.{Refusal}
use Rattle.script_text.specs.Lines.{Feed, Scan, scan, last_line}
use Rattle.script_text.proofs.Scans.{cut, scan-faulted}
use Rattle.script_course.specs.Courses.{Course, Goes, Stops, printed, behind, with_fault, with_line, with_lines, with_last, with_scan, told, told_whole}
use Rattle.answer_text.specs.Refusals.{refusal_text}
use Rattle.script_course.specs.Served.{Serves, ServesCut, Reaches, ReachesCut, ToldWhere, Tells, IsSoFar, Comes}
use Rattle.script_course.specs.declared.stops.Stop.{Stop}
use Rattle.script_course.specs.declared.stops.Stop.TheVariants as stop
use Rattle.script_course.proofs.Turns.{front_longer, front_behind, front_none, behind_nothing, with_lines-behind, stopped_lines, printed_lines, printed_line, printed_fault, with_line-behind}

module _ {R : Type 0} where
  fault-behind : (a : List ℕ) (c : Course R) (fault : Option Refusal) → with_fault (behind a c) fault ≡ behind a (with_fault c fault)
  fault-behind a (Goes bytes r) None = refl
  fault-behind a (Stops bytes) None = refl
  fault-behind a (Goes bytes r) (Some refusal) = ap (λ l. Stops l) (append_assoc a bytes (refusal_text refusal))
  fault-behind a (Stops bytes) (Some refusal) = refl

  fault_none : (c : Course R) → with_fault c None ≡ c
  fault_none (Goes bytes r) = refl
  fault_none (Stops bytes) = refl

  fault_stopped : (bytes : List ℕ) (fault : Option Refusal) → with_fault {R = R} (Stops bytes) fault ≡ Stops bytes
  fault_stopped bytes None = refl
  fault_stopped bytes (Some refusal) = refl

  -- what stands where a turn was served
  data Going (r : R) (c : Course R) (old new : Option (List ℕ)) : Type 0 where
    going : (bytes : List ℕ) → c ≡ Goes bytes r → Appends old new bytes → Going r c old new

  goes_to : (r : R) (c : Course R) (old new : Option (List ℕ)) → Serves c old new (Ok r) → Going r c old new
  goes_to r (Goes bytes s) old new (e, first) = going bytes (ap (λ q. Goes bytes q) (sym e)) first
  goes_to r (Stops bytes) old new h = absurd h

  data Stopping (c : Course R) (old new : Option (List ℕ)) : Type 0 where
    stopping : (bytes : List ℕ) → c ≡ Stops bytes → Appends old new bytes → Stopping c old new

  stops_to : (c : Course R) (old new : Option (List ℕ)) → ServesCut c old new stop.Refused → Stopping c old new
  stops_to (Goes bytes s) old new h = absurd h
  stops_to (Stops bytes) old new h = stopping bytes refl h

  so_far : (a : List ℕ) (c : Course R) (old mid new : Option (List ℕ)) → Appends old mid a → IsSoFar c mid new → IsSoFar (behind a c) old new
  so_far a (Goes bytes r) old mid new first h = Appends-trans old mid new a bytes first h
  so_far a (Stops bytes) old mid new first h = absurd h

  -- ---- a whole text, behind what was given before

  cut_front : (a : List ℕ) (c : Course R) (old mid new : Option (List ℕ)) → Appends old mid a → AppendsFront mid new (printed c)
      → AppendsFront old new (printed (behind a c))
  cut_front a (Goes bytes r) old mid new first h = front_behind old mid new a bytes first h
  cut_front a (Stops bytes) old mid new first h = front_behind old mid new a bytes first h

  refused_behind : (a : List ℕ) (c : Course R) (old mid new : Option (List ℕ)) → Appends old mid a → ReachesCut c mid new stop.Refused
      → ReachesCut (behind a c) old new stop.Refused
  refused_behind a (Goes bytes r) old mid new first h = absurd h
  refused_behind a (Stops bytes) old mid new first h = Appends-trans old mid new a bytes first h

  pub reaches_behind : (a : List ℕ) (c : Course R) (old mid new : Option (List ℕ)) (result : Result R Stop) → Appends old mid a → Reaches c mid new result
      → Reaches (behind a c) old new result
  reaches_behind a (Goes bytes r) old mid new (Ok s) first h = (h.0, Appends-trans old mid new a bytes first h.1)
  reaches_behind a (Stops bytes) old mid new (Ok s) first h = absurd h
  reaches_behind a c old mid new (Err stop.Refused) first h = refused_behind a c old mid new first h
  reaches_behind a c old mid new (Err stop.NoMemory) first h = cut_front a c old mid new first h
  reaches_behind a c old mid new (Err stop.NoWrite) first h = cut_front a c old mid new first h
  reaches_behind a c old mid new (Err stop.NoDisk) first h = cut_front a c old mid new first h
  reaches_behind a c old mid new (Err stop.NoRead) first h = cut_front a c old mid new first h

  -- what serves a line serves as the whole text
  reaches_as : (c : Course R) (old new : Option (List ℕ)) (result : Result R Stop) → Serves c old new result → Reaches c old new result
  reaches_as c old new (Ok r) h = h
  reaches_as c old new (Err stop.Refused) h = h
  reaches_as c old new (Err stop.NoMemory) h = h
  reaches_as c old new (Err stop.NoWrite) h = h
  reaches_as c old new (Err stop.NoDisk) h = h
  reaches_as c old new (Err stop.NoRead) h = absurd h

  tells_none : (told : List ℕ → Course R) (left rest old new : Option (List ℕ)) (c : Course R) (why : Stop) → ServesCut c old new why
      → ToldWhere told left rest old new why
  tells_none told left rest old new c stop.Refused h = tt
  tells_none told left rest old new c stop.NoMemory h = tt
  tells_none told left rest old new c stop.NoWrite h = tt
  tells_none told left rest old new c stop.NoDisk h = tt
  tells_none told left rest old new c stop.NoRead h = absurd h

module _ {R : Type 0} (on_line : R → List ℕ → Course R) where
  lines-append : (c : Course R) (xs ys : List (List ℕ)) → with_lines on_line c (xs ++ ys) ≡ with_lines on_line (with_lines on_line c xs) ys
  lines-append c [] ys = refl
  lines-append c (x ∷ xs) ys = lines-append (with_line on_line c x) xs ys

  -- what a piece and more bytes tell, by what the piece came to
  told_on : (feed : Feed) (r : R) (piece text : List ℕ) → (scan feed piece).fault ≡ None
      → told on_line feed r (piece ++ text) ≡ with_scan on_line (told on_line feed r piece) (scan (scan feed piece).feed text)
  told_on feed r piece text none =
      let s = scan feed piece in
      let t = scan s.feed text in
      let c : Course R = with_lines on_line (Goes [] r) s.lines in
      let same : told on_line feed r piece ≡ c = ap (with_fault c) none ∙ fault_none c in
      ap (with_scan on_line (Goes [] r)) (cut feed piece text none)
      ∙ ap (λ d. with_fault d t.fault) (lines-append (Goes [] r) s.lines t.lines)
      ∙ ap (λ d. with_scan on_line d t) (sym same)

  scan-behind : (a : List ℕ) (c : Course R) (s : Scan) → with_scan on_line (behind a c) s ≡ behind a (with_scan on_line c s)
  scan-behind a c s = ap (λ d. with_fault d s.fault) (with_lines-behind on_line a c s.lines) ∙ fault-behind a (with_lines on_line c s.lines) s.fault

  -- where it went on
  told_going : (feed : Feed) (r next : R) (piece text bytes : List ℕ) → (scan feed piece).fault ≡ None → told on_line feed r piece ≡ Goes bytes next
      → told on_line feed r (piece ++ text) ≡ behind bytes (told on_line (scan feed piece).feed next text)
  told_going feed r next piece text bytes none goes =
      let t = scan (scan feed piece).feed text in
      told_on feed r piece text none
      ∙ ap (λ d. with_scan on_line d t) (goes ∙ ap (λ l. Goes l next) (sym (append-nil bytes)))
      ∙ scan-behind bytes (Goes [] next) t

  -- where it stopped
  stopped_by : (feed : Feed) (r : R) (piece text bytes : List ℕ) (fault : Option Refusal) → (scan feed piece).fault ≡ fault
      → told on_line feed r piece ≡ Stops bytes
      → told on_line feed r (piece ++ text) ≡ Stops bytes
  stopped_by feed r piece text bytes None none stops =
      let t = scan (scan feed piece).feed text in
      told_on feed r piece text none
      ∙ ap (λ d. with_scan on_line d t) stops
      ∙ ap (λ d. with_fault d t.fault) (stopped_lines on_line bytes t.lines)
      ∙ fault_stopped bytes t.fault
  stopped_by feed r piece text bytes (Some refusal) some stops =
      ap (with_scan on_line (Goes [] r)) (scan-faulted [] feed piece text (λ none. let e : Some refusal ≡ None = sym some ∙ none in absurd cc)) ∙ stops

  -- what is told only grows
  grows_by : (feed : Feed) (r : R) (piece text : List ℕ) (fault : Option Refusal) → (scan feed piece).fault ≡ fault
      → (more : List ℕ) × (printed (told on_line feed r (piece ++ text)) ≡ printed (told on_line feed r piece) ++ more)
  grows_by feed r piece text None none =
      let t = scan (scan feed piece).feed text in
      let c = told on_line feed r piece in
      let one = printed_lines on_line c t.lines in
      let two = printed_fault (with_lines on_line c t.lines) t.fault in
      (one.0 ++ two.0, ap printed (told_on feed r piece text none) ∙ two.1 ∙ ap (λ l. l ++ two.0) one.1 ∙ append_assoc (printed c) one.0 two.0)
  grows_by feed r piece text (Some refusal) some = (
    [],
    ap (λ s. printed (with_scan on_line (Goes [] r) s))
        (scan-faulted [] feed piece text (λ none. let e : Some refusal ≡ None = sym some ∙ none in absurd cc)) ∙ sym (append-nil _),
  )

  last-behind : (a : List ℕ) (c : Course R) (last : Option (List ℕ)) → with_last on_line (behind a c) last ≡ behind a (with_last on_line c last)
  last-behind a c None = refl
  last-behind a c (Some line) = with_line-behind on_line a c line

  last_stopped : (bytes : List ℕ) (last : Option (List ℕ)) → with_last on_line (Stops bytes) last ≡ Stops bytes
  last_stopped bytes None = refl
  last_stopped bytes (Some line) = refl

  printed_last : (c : Course R) (last : Option (List ℕ)) → (more : List ℕ) × (printed (with_last on_line c last) ≡ printed c ++ more)
  printed_last c None = ([], sym (append-nil (printed c)))
  printed_last c (Some line) = printed_line on_line c line

  whole_going : (feed : Feed) (r next : R) (piece text bytes : List ℕ) → (scan feed piece).fault ≡ None → told on_line feed r piece ≡ Goes bytes next
      → told_whole on_line feed r (piece ++ text) ≡ behind bytes (told_whole on_line (scan feed piece).feed next text)
  whole_going feed r next piece text bytes none goes =
      let f = (scan feed piece).feed in
      let last = last_line (scan f text).feed in
      ap (λ s. with_last on_line (told on_line feed r (piece ++ text)) (last_line s.feed)) (cut feed piece text none)
      ∙ ap (λ d. with_last on_line d last) (told_going feed r next piece text bytes none goes)
      ∙ last-behind bytes (told on_line f next text) last

  whole_stopped : (feed : Feed) (r : R) (piece text bytes : List ℕ) → told on_line feed r piece ≡ Stops bytes
      → told_whole on_line feed r (piece ++ text) ≡ Stops bytes
  whole_stopped feed r piece text bytes stops =
      let last = last_line (scan feed (piece ++ text)).feed in
      ap (λ d. with_last on_line d last) (stopped_by feed r piece text bytes (scan feed piece).fault refl stops) ∙ last_stopped bytes last

  whole_grows : (feed : Feed) (r : R) (piece text : List ℕ)
      → (more : List ℕ) × (printed (told_whole on_line feed r (piece ++ text)) ≡ printed (told on_line feed r piece) ++ more)
  whole_grows feed r piece text =
      let all = told on_line feed r (piece ++ text) in
      let one = grows_by feed r piece text (scan feed piece).fault refl in
      let two = printed_last all (last_line (scan feed (piece ++ text)).feed) in
      (one.0 ++ two.0, two.1 ∙ ap (λ l. l ++ two.0) one.1 ∙ append_assoc (printed (told on_line feed r piece)) one.0 two.0)

  -- ---- what the loop needs of it: it goes on, it was cut off, it came to the end, the source failed

  tells_on : (feed : Feed) (r next : R) (piece bytes : List ℕ) (left mid rest old now new : Option (List ℕ)) (result : Result R Stop)
      → (scan feed piece).fault ≡ None → told on_line feed r piece ≡ Goes bytes next
      → Consumes left mid piece → Appends old now bytes → Tells (told on_line (scan feed piece).feed next) mid rest now new result
      → Tells (told on_line feed r) left rest old new result
  tells_on feed r next piece bytes left mid rest old now new (Ok c) none goes taken first h = tt
  tells_on feed r next piece bytes left mid rest old now new (Err stop.Refused) none goes taken first h = tt
  tells_on feed r next piece bytes left mid rest old now new (Err stop.NoMemory) none goes taken first h = tt
  tells_on feed r next piece bytes left mid rest old now new (Err stop.NoWrite) none goes taken first h = tt
  tells_on feed r next piece bytes left mid rest old now new (Err stop.NoDisk) none goes taken first h = tt
  tells_on feed r next piece bytes left mid rest old now new (Err stop.NoRead) none goes taken first (text, more, h) = (
    piece ++ text,
    Consumes-trans left mid rest piece text taken more,
    rw (told_going feed r next piece text bytes none goes)
        (so_far bytes (told on_line (scan feed piece).feed next text) old now new first h),
  )

  reaches_on : (feed : Feed) (r next : R) (piece bytes : List ℕ) (left mid old now new : Option (List ℕ)) (result : Result R Stop)
      → (scan feed piece).fault ≡ None → told on_line feed r piece ≡ Goes bytes next
      → Consumes left mid piece → Appends old now bytes → IfSome mid (λ text. Reaches (told_whole on_line (scan feed piece).feed next text) now new result)
      → IfSome left (λ text. Reaches (told_whole on_line feed r text) old new result)
  reaches_on feed r next piece bytes None mid old now new result none goes taken first h = tt
  reaches_on feed r next piece bytes (Some all) None old now new result none goes taken first h = absurd taken
  reaches_on feed r next piece bytes (Some all) (Some text) old now new result none goes taken first h =
      rw (taken, whole_going feed r next piece text bytes none goes)
      (reaches_behind bytes (told_whole on_line (scan feed piece).feed next text) old now new result first h)

  pub comes_on : (feed after : Feed) (r next : R) (piece : List ℕ) (left mid old now : Option (List ℕ)) → Consumes left mid piece
      → Serves (with_scan on_line (Goes [] r) (scan feed piece)) old now (Ok next) → (scan feed piece).fault ≡ None → (scan feed piece).feed ≡ after
      → (rest new : Option (List ℕ)) (result : Result R Stop) → Comes (told on_line after next) (told_whole on_line after next) mid rest now new result
      → Comes (told on_line feed r) (told_whole on_line feed r) left rest old new result
  comes_on feed after r next piece left mid old now taken served none same rest new result h =
      let FromHere : Feed → Type 0 = λ f. Comes (told on_line f next) (told_whole on_line f next) mid rest now new result in
      let here = subst FromHere (sym same) h in
      elim (goes_to next (told on_line feed r piece) old now served) [
        | going bytes goes first ↦ (
          reaches_on feed r next piece bytes left mid old now new result none goes taken first here.0,
          tells_on feed r next piece bytes left mid rest old now new result none goes taken first here.1,
        )
      ]

  refused_of : (feed : Feed) (r : R) (piece : List ℕ) (left rest old new : Option (List ℕ)) → Consumes left rest piece
      → ServesCut (told on_line feed r piece) old new stop.Refused
      → IfSome left (λ text. ReachesCut (told_whole on_line feed r text) old new stop.Refused)
  refused_of feed r piece None rest old new taken served = tt
  refused_of feed r piece (Some all) None old new taken served = absurd taken
  refused_of feed r piece (Some all) (Some text) old new taken served =
      elim (stops_to (told on_line feed r piece) old new served) [
        | stopping bytes stops first ↦ rw (taken, whole_stopped feed r piece text bytes stops) first
      ]

  front_of : (feed : Feed) (r : R) (piece : List ℕ) (left rest old new : Option (List ℕ)) → Consumes left rest piece
      → AppendsFront old new (printed (told on_line feed r piece))
      → IfSome left (λ text. AppendsFront old new (printed (told_whole on_line feed r text)))
  front_of feed r piece None rest old new taken served = tt
  front_of feed r piece (Some all) None old new taken served = absurd taken
  front_of feed r piece (Some all) (Some text) old new taken served =
      let more = whole_grows feed r piece text in rw (taken, more.1) (front_longer old new (printed (told on_line feed r piece)) more.0 served)

  pub comes_cut : (feed : Feed) (r : R) (piece : List ℕ) (left rest old new : Option (List ℕ)) (why : Stop) → Consumes left rest piece
      → ServesCut (with_scan on_line (Goes [] r) (scan feed piece)) old new why
      → Comes (told on_line feed r) (told_whole on_line feed r) left rest old new (Err why)
  comes_cut feed r piece left rest old new stop.Refused taken served = (refused_of feed r piece left rest old new taken served, tt)
  comes_cut feed r piece left rest old new stop.NoMemory taken served = (front_of feed r piece left rest old new taken served, tt)
  comes_cut feed r piece left rest old new stop.NoWrite taken served = (front_of feed r piece left rest old new taken served, tt)
  comes_cut feed r piece left rest old new stop.NoDisk taken served = (front_of feed r piece left rest old new taken served, tt)
  comes_cut feed r piece left rest old new stop.NoRead taken served = absurd served

  at_end : (feed : Feed) (r : R) (left old new : Option (List ℕ)) (result : Result R Stop) → IsAtEnd left
      → Serves (with_last on_line (Goes [] r) (last_line feed)) old new result
      → IfSome left (λ text. Reaches (told_whole on_line feed r text) old new result)
  at_end feed r None old new result end h = tt
  at_end feed r (Some text) old new result end h = rw end (reaches_as (with_last on_line (Goes [] r) (last_line feed)) old new result h)

  tells_end : (told : List ℕ → Course R) (c : Course R) (left rest old new : Option (List ℕ)) (result : Result R Stop) → Serves c old new result
      → Tells told left rest old new result
  tells_end told c left rest old new (Ok r) h = tt
  tells_end told c left rest old new (Err why) h = tells_none told left rest old new c why h

  pub comes_end : (feed : Feed) (r : R) (left rest old new : Option (List ℕ)) (result : Result R Stop) → IsAtEnd left
      → Serves (with_last on_line (Goes [] r) (last_line feed)) old new result
      → Comes (told on_line feed r) (told_whole on_line feed r) left rest old new result
  comes_end feed r left rest old new result end h =
      (at_end feed r left old new result end h, tells_end (told on_line feed r) (with_last on_line (Goes [] r) (last_line feed)) left rest old new result h)

  none_of : (whole : List ℕ → Course R) (left now : Option (List ℕ)) → IfSome left (λ text. AppendsFront now now (printed (whole text)))
  none_of whole None now = tt
  none_of whole (Some text) now = front_none now (printed (whole text))

  kept_taken : (left rest : Option (List ℕ)) → Keeps left rest → Consumes left rest []
  kept_taken None rest kept = tt
  kept_taken (Some text) None kept = absurd kept
  kept_taken (Some text) (Some more) kept = sym kept

  pub comes_fault : (feed : Feed) (r : R) (left rest now : Option (List ℕ)) → Keeps left rest
      → Comes (told on_line feed r) (told_whole on_line feed r) left rest now now (Err stop.NoRead)
  comes_fault feed r left rest now kept = (none_of (told_whole on_line feed r) left now, ([], kept_taken left rest kept, Appends-nil now))

  -- the last line
  pub last_is : (r : R) (line : List ℕ) (last : Option (List ℕ)) (old new : Option (List ℕ)) (result : Result R Stop) → last ≡ Some line
      → Serves (on_line r line) old new result
      → Serves (with_last on_line (Goes [] r) last) old new result
  last_is r line last old new result is h = rw (is, behind_nothing (on_line r line)) h

-- a source that gives nothing was at its end
pub end_before : (left rest : Option (List ℕ)) (n : ℕ) (buffer : List ℕ) → n ≡ 0 → Consumes left rest (take n buffer) → (n ≡ 0 → IsAtEnd rest) → IsAtEnd left
end_before None rest n buffer zero taken end = tt
end_before (Some all) None n buffer zero taken end = absurd taken
end_before (Some all) (Some text) n buffer zero taken end = taken ∙ ap (λ k. take k buffer ++ text) zero ∙ end zero
