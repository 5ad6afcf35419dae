-- What was given to a sink, line by line.
use Rattle.std.proofs.Common.{◌≡◌, ℕ, ◌+◌, List, [], ◌∷◌, ◌++◌, length, take, drop, ◌<◌, suc, get_or, drop-cons, add-one, Option, Some, None, refl, sym, ap, ◌∙◌, append_assoc, subst}
use Rattle.std.specs.Prelude.{Result, Ok, Err}
use Rattle.std.specs.Io.KnownBytes.{Appends}
use Rattle.std.proofs.KnownBytes.{Appends-trans, Appends-nil}
use Rattle.std.proofs.lemmas.List.{append-nil}
use Rattle.std.proofs.lemmas.List.{take-append-drop}
use Rattle.std.proofs.Math.Seq.{take-length, take-append_seam, take-append-add}
use Rattle.aria_base.specs.Streams.{AppendsFront}
use Rattle.script_text.specs.declared.refusals.Refusal.{Refusal}
use Rattle.script_course.specs.Courses.{Course, Goes, Stops, printed, behind, with_fault, with_line, with_lines}
use Rattle.answer_text.specs.Refusals.{refusal_text}
use Rattle.script_course.specs.Served.{Serves, ServesCut, IsStopped, Leads}
use Rattle.script_course.specs.declared.stops.Stop.{Stop}
use Rattle.script_course.specs.declared.stops.Stop.TheVariants as stop

-- ---- prefixes

-- a prefix of a list is a prefix of a longer one
take_longer : (n : ℕ) (xs ys : List ℕ) → (m : ℕ) × (take m (xs ++ ys) ≡ take n xs)
take_longer n xs ys = (
  length (take n xs),
  ap (λ l. take (length (take n xs)) (l ++ ys)) (sym (take-append-drop n xs))
      ∙ ap (take (length (take n xs))) (append_assoc (take n xs) (drop n xs) ys) ∙ take-append_seam (take n xs) (drop n xs ++ ys),
)

-- and behind others
take_behind : (n : ℕ) (xs ys : List ℕ) → take (length xs + n) (xs ++ ys) ≡ xs ++ take n ys
take_behind n xs ys = take-append-add xs ys n

pub front_longer : (old new : Option (List ℕ)) (xs ys : List ℕ) → AppendsFront old new xs → AppendsFront old new (xs ++ ys)
front_longer old new xs ys (n, h) = let m = take_longer n xs ys in (m.0, rw m.1 h)

pub front_behind : (old mid new : Option (List ℕ)) (xs ys : List ℕ) → Appends old mid xs → AppendsFront mid new ys → AppendsFront old new (xs ++ ys)
front_behind old mid new xs ys first (n, h) = (length xs + n, rw (take_behind n xs ys) (Appends-trans old mid new xs (take n ys) first h))

pub front_none : (now : Option (List ℕ)) (xs : List ℕ) → AppendsFront now now xs
front_none now xs = (0, Appends-nil now)

pub front_all : (old new : Option (List ℕ)) (xs : List ℕ) → Appends old new xs → AppendsFront old new xs
front_all old new xs h = (length xs, rw (take-length xs) h)

-- ---- courses

module _ {R : Type 0} where
  pub behind-behind : (a b : List ℕ) (c : Course R) → behind (a ++ b) c ≡ behind a (behind b c)
  behind-behind a b (Goes bytes r) = ap (λ l. Goes l r) (append_assoc a b bytes)
  behind-behind a b (Stops bytes) = ap (λ l. Stops l) (append_assoc a b bytes)

  pub behind_nothing : (c : Course R) → behind [] c ≡ c
  behind_nothing (Goes bytes r) = refl
  behind_nothing (Stops bytes) = refl

  cut_behind : (a : List ℕ) (c : Course R) (old mid new : Option (List ℕ)) (why : Stop) → Appends old mid a → ServesCut c mid new why
      → ServesCut (behind a c) old new why
  cut_behind a (Goes bytes r) old mid new stop.Refused first h = absurd h
  cut_behind a (Goes bytes r) old mid new stop.NoMemory first h = front_behind old mid new a bytes first h
  cut_behind a (Goes bytes r) old mid new stop.NoWrite first h = front_behind old mid new a bytes first h
  cut_behind a (Goes bytes r) old mid new stop.NoDisk first h = front_behind old mid new a bytes first h
  cut_behind a (Goes bytes r) old mid new stop.NoRead first h = absurd h
  cut_behind a (Stops bytes) old mid new stop.Refused first h = Appends-trans old mid new a bytes first h
  cut_behind a (Stops bytes) old mid new stop.NoMemory first h = front_behind old mid new a bytes first h
  cut_behind a (Stops bytes) old mid new stop.NoWrite first h = front_behind old mid new a bytes first h
  cut_behind a (Stops bytes) old mid new stop.NoDisk first h = front_behind old mid new a bytes first h
  cut_behind a (Stops bytes) old mid new stop.NoRead first h = absurd h

  pub serves_behind : (a : List ℕ) (c : Course R) (old mid new : Option (List ℕ)) (result : Result R Stop) → Appends old mid a → Serves c mid new result
      → Serves (behind a c) old new result
  serves_behind a (Goes bytes r) old mid new (Ok s) first h = (h.0, Appends-trans old mid new a bytes first h.1)
  serves_behind a (Stops bytes) old mid new (Ok s) first h = absurd h
  serves_behind a c old mid new (Err why) first h = cut_behind a c old mid new why first h

  -- a longer course is served by what cut the shorter one off
  pub cut_longer : (c longer : Course R) (more : List ℕ) (old new : Option (List ℕ)) (why : Stop) → printed longer ≡ printed c ++ more
      → (IsStopped c old new → IsStopped longer old new) → ServesCut c old new why → ServesCut longer old new why
  cut_longer c longer more old new stop.Refused all same h = same h
  cut_longer c longer more old new stop.NoMemory all same h = rw all (front_longer old new (printed c) more h)
  cut_longer c longer more old new stop.NoWrite all same h = rw all (front_longer old new (printed c) more h)
  cut_longer c longer more old new stop.NoDisk all same h = rw all (front_longer old new (printed c) more h)
  cut_longer c longer more old new stop.NoRead all same h = absurd h

module _ {R : Type 0} (on_line : R → List ℕ → Course R) where
  pub with_line-behind : (a : List ℕ) (c : Course R) (line : List ℕ) → with_line on_line (behind a c) line ≡ behind a (with_line on_line c line)
  with_line-behind a (Goes bytes r) line = behind-behind a bytes (on_line r line)
  with_line-behind a (Stops bytes) line = refl

  pub with_lines-behind : (a : List ℕ) (c : Course R) (lines : List (List ℕ)) → with_lines on_line (behind a c) lines ≡ behind a (with_lines on_line c lines)
  with_lines-behind a c [] = refl
  with_lines-behind a c (line ∷ lines) = ap (λ d. with_lines on_line d lines) (with_line-behind a c line) ∙ with_lines-behind a (with_line on_line c line) lines

  pub stopped_lines : (bytes : List ℕ) (lines : List (List ℕ)) → with_lines on_line (Stops bytes) lines ≡ Stops bytes
  stopped_lines bytes [] = refl
  stopped_lines bytes (line ∷ lines) = stopped_lines bytes lines

  -- what is printed only grows
  printed_behind : (a : List ℕ) (c : Course R) → printed (behind a c) ≡ a ++ printed c
  printed_behind a (Goes bytes r) = refl
  printed_behind a (Stops bytes) = refl

  pub printed_line : (c : Course R) (line : List ℕ) → (more : List ℕ) × (printed (with_line on_line c line) ≡ printed c ++ more)
  printed_line (Goes bytes r) line = (printed (on_line r line), printed_behind bytes (on_line r line))
  printed_line (Stops bytes) line = ([], sym (append-nil bytes))

  pub printed_lines : (c : Course R) (lines : List (List ℕ)) → (more : List ℕ) × (printed (with_lines on_line c lines) ≡ printed c ++ more)
  printed_lines c [] = ([], sym (append-nil (printed c)))
  printed_lines c (line ∷ lines) =
      let one = printed_line c line in
      let rest = printed_lines (with_line on_line c line) lines in
      (one.0 ++ rest.0, rest.1 ∙ ap (λ l. l ++ rest.0) one.1 ∙ append_assoc (printed c) one.0 rest.0)

  -- ---- one line, and then the others

  goes_by : (c : Course R) (r : R) (lines : List (List ℕ)) (now mid : Option (List ℕ)) → Serves c now mid (Ok r)
      → Leads (with_lines on_line (Goes [] r) lines) mid (with_lines on_line (behind [] c) lines) now
  goes_by (Stops bytes) r lines now mid h = absurd h
  goes_by (Goes bytes s) r lines now mid (e, first) = λ new result h.
      let ServesIt : Course R → Type 0 = λ d. Serves d now new result in
      let same : behind bytes (with_lines on_line (Goes [] r) lines) ≡ with_lines on_line (Goes bytes s) lines =
      sym (with_lines-behind bytes (Goes [] r) lines) ∙ ap (λ d. with_lines on_line d lines) (ap (λ l. Goes l r) (append-nil bytes)
      ∙ ap (λ q. Goes bytes q) e) in
      subst ServesIt same (serves_behind bytes (with_lines on_line (Goes [] r) lines) now mid new result first h)

  pub goes_on : (r next : R) (line : List ℕ) (lines : List (List ℕ)) (now mid : Option (List ℕ)) → Serves (on_line r line) now mid (Ok next)
      → Leads (with_lines on_line (Goes [] next) lines) mid (with_lines on_line (Goes [] r) (line ∷ lines)) now
  goes_on r next line lines now mid h = goes_by (on_line r line) next lines now mid h

  stays_stopped : (c : Course R) (lines : List (List ℕ)) (old new : Option (List ℕ)) → IsStopped c old new → IsStopped (with_lines on_line c lines) old new
  stays_stopped (Goes bytes r) lines old new h = absurd h
  stays_stopped (Stops bytes) lines old new h = rw (stopped_lines bytes lines) h

  stops_by : (c : Course R) (lines : List (List ℕ)) (now new : Option (List ℕ)) (why : Stop) → ServesCut c now new why
      → ServesCut (with_lines on_line c lines) now new why
  stops_by c lines now new why h = let more = printed_lines c lines in
      cut_longer c (with_lines on_line c lines) more.0 now new why more.1 (stays_stopped c lines now new) h

  pub stops_at : (r : R) (line : List ℕ) (lines : List (List ℕ)) (now new : Option (List ℕ)) (why : Stop) → ServesCut (on_line r line) now new why
      → ServesCut (with_lines on_line (Goes [] r) (line ∷ lines)) now new why
  stops_at r line lines now new why h = stops_by (behind [] (on_line r line)) lines now new why (rw (behind_nothing (on_line r line)) h)

-- the next line, and those behind it
pub next_of : (lines : List (List ℕ)) (i : ℕ) (item line : List ℕ) → i < length lines → item ≡ get_or lines i item → line ≡ item
    → drop i lines ≡ line ∷ drop (i + 1) lines
next_of lines i item line within is same =
    drop-cons lines i item within ∙ ap (λ x. x ∷ drop (suc i) lines) (sym is ∙ sym same) ∙ ap (λ n. line ∷ drop n lines) (sym (add-one i))

-- ---- the lines, and then a refusal

module _ {R : Type 0} where
  pub refused_on : (c : Course R) (next : R) (refusal : Refusal) (old mid new : Option (List ℕ)) (result : Result R Stop) → Serves c old mid (Ok next)
      → Serves {R = R} (Stops (refusal_text refusal)) mid new result → Serves (with_fault c (Some refusal)) old new result
  refused_on (Stops bytes) next refusal old mid new result h last = absurd h
  refused_on (Goes bytes r) next refusal old mid new result h last = serves_behind {R = R} bytes (Stops (refusal_text refusal)) old mid new result h.1 last

  pub printed_fault : (c : Course R) (fault : Option Refusal) → (more : List ℕ) × (printed (with_fault c fault) ≡ printed c ++ more)
  printed_fault (Goes bytes r) None = ([], sym (append-nil bytes))
  printed_fault (Stops bytes) None = ([], sym (append-nil bytes))
  printed_fault (Goes bytes r) (Some refusal) = (refusal_text refusal, refl)
  printed_fault (Stops bytes) (Some refusal) = ([], sym (append-nil bytes))

  stays_refused : (c : Course R) (refusal : Refusal) (old new : Option (List ℕ)) → IsStopped c old new → IsStopped (with_fault c (Some refusal)) old new
  stays_refused (Goes bytes r) refusal old new h = absurd h
  stays_refused (Stops bytes) refusal old new h = h

  pub refused_cut : (c : Course R) (refusal : Refusal) (old new : Option (List ℕ)) (why : Stop) → ServesCut c old new why
      → ServesCut (with_fault c (Some refusal)) old new why
  refused_cut c refusal old new why h = let more = printed_fault c (Some refusal) in
      cut_longer c (with_fault c (Some refusal)) more.0 old new why more.1 (stays_refused c refusal old new) h
