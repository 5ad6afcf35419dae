-- A script that is run again over a state that it left before: it keeps batches until it stands where the first run stood.
use Rattle.std.proofs.Common.{◌≡◌, ◌≢◌, ◌⊎◌, inl, inr, ◌∙◌, sym, ap, subst, refl, ℕ, ◌+◌, ◌<◌, ◌≤◌, ◌==◌, nat_lt, Bool, true, false, List, [], ◌∷◌, ◌++◌, map, Option, arith}
use Rattle.std.specs.Prelude.{if◌then◌else◌, Result, Ok, Err}
use Rattle.batch_core.specs.Steps.{State}
use Rattle.script_course.specs.Courses.{Course, Goes, Stops, behind}
use Rattle.script_places.proofs.Allowed.{follows}
use Rattle.script_places.specs.Places.{Asked, asked}
use Rattle.script_places.specs.declared.deeds.Deed.{Deed}
use Rattle.script_places.specs.declared.deeds.Deed.TheVariants as deed
use Rattle.script_places.specs.declared.places.ScriptPlace.{ScriptPlace}
use Rattle.run_commands.specs.Bases.{counts_of}
use Rattle.run_commands.specs.Onces.{Doing, behind_batch, done, done_by, on_line, text_of, with_call, with_settings, without_calls}
use Rattle.run_commands.specs.Passes.{Line, Passes, PassesBy, PassesTurns, Turn, held_then, on_turn}
use Rattle.run_commands.specs.Standing.{runs_batch}
use Rattle.resume_laws.specs.Resumptions.{answers, answers_by, later_than}
use Rattle.resume_laws.proofs.Asks.{as_kept, asked_later}

-- ---- a course that ends at this script

abbrev pub EndsIn : Course Doing → Doing → Type 0
EndsIn c last = (bytes : List ℕ) × (c ≡ Goes bytes last)

abbrev last_or : Doing → Course Doing → Doing
last_or d (Goes bytes r) = r
last_or d (Stops bytes) = d

pub ends_behind : (first : List ℕ) (c : Course Doing) (last : Doing) → EndsIn (behind first c) last → EndsIn c last
ends_behind first (Goes bytes r) last e = (bytes, ap (λ (x : Doing). Goes bytes x) (ap (last_or last) e.1))
ends_behind first (Stops bytes) last e = absurd cc

behind_ends : (first : List ℕ) (c : Course Doing) (last : Doing) → EndsIn c last → EndsIn (behind first c) last
behind_ends first c last e = (first ++ e.0, ap (behind first) e.1)

-- ---- lines, one after the other

abbrev pub goes_by : (Doing → Course Doing) → Course Doing → Course Doing
goes_by rest (Goes bytes next) = behind bytes (rest next)
goes_by rest (Stops bytes) = Stops bytes

abbrev pub goes : List (List ℕ) → Doing → Course Doing
goes [] d = Goes [] d
goes (line ∷ lines) d = goes_by (goes lines) (on_line d line)

-- ---- a state that a batch of these turns leaves

abbrev pub ReachesBy : Doing → (Doing → State → Type 0) → Course Doing → State → Type 0
ReachesBy d rest (Stops bytes) t = ⊥
ReachesBy d rest (Goes bytes next) t = ((next.state.batches ≢ d.state.batches) × (t ≡ next.state)) ⊎ rest next t

abbrev pub Reaches : List Turn → Doing → State → Type 0
Reaches [] d t = ⊥
Reaches (turn ∷ turns) d t = ReachesBy d (Reaches turns) (on_turn d turn) t

held_case : (b : Bool) (n m : ℕ) (held next t : State) → (n == m) ≡ b → t ≡ (if b then held else next) → (t ≡ held) ⊎ ((n ≢ m) × (t ≡ next))
held_case true n m held next t e h = inl h
held_case false n m held next t e h = inr ((λ same. absurd (grind (arith, e, same))), h)

held_or : (held : State) (d next : Doing) (t : State) → t ≡ held_then held d next → (t ≡ held) ⊎ ((next.state.batches ≢ d.state.batches) × (t ≡ next.state))
held_or held d next t h = held_case (next.state.batches == d.state.batches) next.state.batches d.state.batches held next.state t refl h

or_now : (turns : List Turn) (d next : Doing) (held t : State) → (t ≡ held) ⊎ ((next.state.batches ≢ d.state.batches) × (t ≡ next.state))
    → (t ≡ held) ⊎ (((next.state.batches ≢ d.state.batches) × (t ≡ next.state)) ⊎ Reaches turns next t)
or_now turns d next held t (inl e) = inl e
or_now turns d next held t (inr h) = inr (inl h)

or_later : (turns : List Turn) (d next : Doing) (held t : State) → (t ≡ held_then held d next) ⊎ Reaches turns next t
    → (t ≡ held) ⊎ (((next.state.batches ≢ d.state.batches) × (t ≡ next.state)) ⊎ Reaches turns next t)
or_later turns d next held t (inl e) = or_now turns d next held t (held_or held d next t e)
or_later turns d next held t (inr h) = inr (inr h)

by_reach : (turns : List Turn) (d : Doing) (held t : State) (given : List ℕ) (c : Course Doing)
    → ((next : Doing) (kept : State) (rest : List ℕ) → PassesTurns turns next kept t rest → (t ≡ kept) ⊎ Reaches turns next t)
    → PassesBy on_turn held_then d held (Passes on_turn held_then turns) c t given → (t ≡ held) ⊎ ReachesBy d (Reaches turns) c t
by_reach turns d held t given (Stops bytes) each h = inl h.state
by_reach turns d held t given (Goes bytes next) each (inl h) = or_now turns d next held t (held_or held d next t h.state)
by_reach turns d held t given (Goes bytes next) each (inr h) = or_later turns d next held t (each next (held_then held d next) h.rest h.passes_on)

-- what a stop leaves is what was held, or what a batch of these turns left
pub passes_reach : (turns : List Turn) (d : Doing) (held t : State) (given : List ℕ) → PassesTurns turns d held t given → (t ≡ held) ⊎ Reaches turns d t
passes_reach [] d held t given h = inl h.state
passes_reach (turn ∷ turns) d held t given (inl h) = inl h.state
passes_reach (turn ∷ turns) d held t given (inr h) =
    by_reach turns d held t given (on_turn d turn) (λ next kept rest p. passes_reach turns next kept t rest p) h

-- ---- the count of batches never falls

-- behind a course the count is at least as before, and a state that its lines reach has more
abbrev Rises : Doing → Course Doing → Type 0
Rises d (Goes bytes next) = d.state.batches ≤ next.state.batches
Rises d (Stops bytes) = Unit {0}

done_counts : (d : Doing) (place : ScriptPlace) (asks : Deed) → Rises d (done (record d { place = place }) asks)
done_counts d place deed.Run = omega arith
done_counts d place deed.Nothing = omega arith
done_counts d place deed.Tell = omega arith
done_counts d place (deed.Put key row) = omega arith
done_counts d place (deed.Call call) = omega arith
done_counts d place (deed.Set rule percent) = omega arith
done_counts d place (deed.Keep number) = omega arith

asked_counts : (d : Doing) (a : Asked) → Rises d (done_by d a)
asked_counts d (Ok r) = done_counts d r.0 r.1
asked_counts d (Err why) = tt

pub line_counts : (d : Doing) (line : List ℕ) → Rises d (on_line d line)
line_counts d line = asked_counts d (asked d.place (counts_of d.state) line)

by_more : (lines : List (List ℕ)) (d : Doing) (t : State) (c : Course Doing)
    → ((next : Doing) → Reaches (map Line lines) next t → next.state.batches < t.batches) → Rises d c
    → ReachesBy d (Reaches (map Line lines)) c t → d.state.batches < t.batches
by_more lines d t (Stops bytes) each rises h = absurd h
by_more lines d t (Goes bytes next) each rises (inl h) =
    let n = next.state.batches in
    let same : t.batches ≡ n = ap (λ (s : State). s.batches) h.1 in
    grind (arith, rises, h.0, same)
by_more lines d t (Goes bytes next) each rises (inr h) = let more = each next h in omega (arith, rises, more)

reached_more : (lines : List (List ℕ)) (d : Doing) (t : State) → Reaches (map Line lines) d t → d.state.batches < t.batches
reached_more [] d t h = absurd h
reached_more (line ∷ lines) d t h = by_more lines d t (on_line d line) (λ next k. reached_more lines next t k) (line_counts d line) h

-- so the answers of lines have numbers above it
abbrev Above : ℕ → List (ℕ × List ℕ) → Type 0
Above n [] = Unit {0}
Above n (a ∷ rest) = (n < a.0) × Above n rest

above_less : (n m : ℕ) (answered : List (ℕ × List ℕ)) → m ≤ n → Above n answered → Above m answered
above_less n m [] le h = tt
above_less n m (a ∷ rest) le h = (let first = h.0 in omega (arith, le, first), above_less n m rest le h.1)

above_if : (b : Bool) (n m : ℕ) (text : List ℕ) (rest : List (ℕ × List ℕ)) → (m == n) ≡ b → n ≤ m → Above n rest
    → Above n (if b then rest else (m, text) ∷ rest)
above_if true n m text rest e le h = h
above_if false n m text rest e le h = (grind (arith, e, le), h)

by_above : (lines : List (List ℕ)) (d : Doing) (c : Course Doing) → ((next : Doing) → Above next.state.batches (answers (map Line lines) next)) → Rises d c
    → Above d.state.batches (answers_by d (answers (map Line lines)) c)
by_above lines d (Stops bytes) each rises = tt
by_above lines d (Goes bytes next) each rises =
    above_if (next.state.batches == d.state.batches) d.state.batches next.state.batches bytes (answers (map Line lines) next) refl rises
    (above_less next.state.batches d.state.batches (answers (map Line lines) next) rises (each next))

above : (lines : List (List ℕ)) (d : Doing) → Above d.state.batches (answers (map Line lines) d)
above [] d = tt
above (line ∷ lines) d = by_above lines d (on_line d line) (λ next. above lines next) (line_counts d line)

not_later : (n m : ℕ) → m ≤ n → nat_lt n m ≡ false
not_later n m le = grind (arith, le)

later_if : (b : Bool) (n : ℕ) (a : ℕ × List ℕ) (rest : List (ℕ × List ℕ)) → nat_lt n a.0 ≡ b
    → later_than n (a ∷ rest) ≡ (if b then a ∷ later_than n rest else later_than n rest)
later_if b n a rest e = ap (λ (x : Bool). if x then a ∷ later_than n rest else later_than n rest) e

later_all : (n : ℕ) (answered : List (ℕ × List ℕ)) → Above n answered → later_than n answered ≡ answered
later_all n [] h = refl
later_all n (a ∷ rest) h = later_if true n a rest (grind (arith, h.0)) ∙ ap (λ (l : List (ℕ × List ℕ)). a ∷ l) (later_all n rest h.1)

-- ---- a run that catches up

-- the same script over a later state, by the settings of that state or by those of the script here
abbrev own : Doing → State → Doing
own d t = record d { state = t }

abbrev its : Doing → State → Doing
its d t = record d { state = record t { rule = d.state.rule; percent = d.state.percent } }

abbrev pub Catches : Doing → State → Doing → Type 0
Catches d t e = (e ≡ own d t) ⊎ (e ≡ its d t)

-- what it comes to
pub record Caught (lines : List (List ℕ)) (d : Doing) (t : State) (e last : Doing) : Type 0 where
  pub ends : EndsIn (goes lines e) last
  pub answered : answers (map Line lines) e ≡ later_than t.batches (answers (map Line lines) d)
  pub back : (u : State) → Reaches (map Line lines) e u → Reaches (map Line lines) d u

answers_if : (b : Bool) (n m : ℕ) (text : List ℕ) (rest : List (ℕ × List ℕ)) → (m == n) ≡ b
    → (if m == n then rest else (m, text) ∷ rest) ≡ (if b then rest else (m, text) ∷ rest)
answers_if b n m text rest e = ap (λ (x : Bool). if x then rest else (m, text) ∷ rest) e

-- the first line goes on from d to next, and from e to after
module _ (line : List ℕ) (lines : List (List ℕ)) (d e next after : Doing) (t : State) (last : Doing) (text other : List ℕ)
    (is : on_line d line ≡ Goes text next) (stands : on_line e line ≡ Goes other after) (same_e : after.state.batches ≡ e.state.batches) where
  ends_on : EndsIn (goes lines after) last → EndsIn (goes (line ∷ lines) e) last
  ends_on h = subst (λ (c : Course Doing). EndsIn (goes_by (goes lines) c) last) (sym stands) (behind_ends other (goes lines after) last h)

  answers_e : answers (map Line (line ∷ lines)) e ≡ answers (map Line lines) after
  answers_e =
      ap (λ (c : Course Doing). answers_by e (answers (map Line lines)) c) stands
      ∙ answers_if true e.state.batches after.state.batches other (answers (map Line lines) after) (grind (arith, same_e))

  answers_d : (b : Bool) → (next.state.batches == d.state.batches) ≡ b
      → answers (map Line (line ∷ lines)) d ≡ (if b then answers (map Line lines) next else (next.state.batches, text) ∷ answers (map Line lines) next)
  answers_d b h =
      ap (λ (c : Course Doing). answers_by d (answers (map Line lines)) c) is
      ∙ answers_if b d.state.batches next.state.batches text (answers (map Line lines) next) h

  -- what is not later is no answer of the other run
  later_d : (b : Bool) → (next.state.batches == d.state.batches) ≡ b → next.state.batches ≤ t.batches
      → later_than t.batches (answers (map Line (line ∷ lines)) d) ≡ later_than t.batches (answers (map Line lines) next)
  later_d true h le = ap (λ (l : List (ℕ × List ℕ)). later_than t.batches l) (answers_d true h)
  later_d false h le =
      ap (λ (l : List (ℕ × List ℕ)). later_than t.batches l) (answers_d false h)
      ∙ later_if false t.batches (next.state.batches, text) (answers (map Line lines) next) (not_later t.batches next.state.batches le)

  only_later : (u : State) → ((after.state.batches ≢ e.state.batches) × (u ≡ after.state)) ⊎ Reaches (map Line lines) after u → Reaches (map Line lines) after u
  only_later u (inl k) = absurd (k.0 same_e)
  only_later u (inr k) = k

  back_on : (u : State) → ((u : State) → Reaches (map Line lines) after u → Reaches (map Line lines) next u) → Reaches (map Line (line ∷ lines)) e u
      → Reaches (map Line (line ∷ lines)) d u
  back_on u back h =
      subst (λ (c : Course Doing). ReachesBy d (Reaches (map Line lines)) c u) (sym is)
      (inr (back u (only_later u (subst (λ (c : Course Doing). ReachesBy e (Reaches (map Line lines)) c u) stands h))))

  caught_on : next.state.batches ≤ t.batches → Caught lines next t after last → Caught (line ∷ lines) d t e last
  caught_on le h = record {
    ends = ends_on h.ends;
    answered = answers_e ∙ h.answered ∙ sym (later_d (next.state.batches == d.state.batches) refl le);
    back = λ u k. back_on u h.back k;
  }

-- where both stand at one place, both go on alike
pub caught_same : (lines : List (List ℕ)) (d : Doing) (t : State) (last : Doing) → t.batches ≡ d.state.batches → EndsIn (goes lines d) last
    → Caught lines d t d last
caught_same lines d t last e ends = record {
  ends = ends;
  answered = sym (later_all t.batches (answers (map Line lines) d)
      (above_less d.state.batches t.batches (answers (map Line lines) d) (omega (arith, e)) (above lines d)));
  back = λ u h. h;
}

-- ---- one line of it

-- a line that runs no batch leaves the count
abbrev quiet_next : Doing → ScriptPlace → Deed → Doing
quiet_next d place deed.Run = d
quiet_next d place deed.Nothing = record d { place = place }
quiet_next d place deed.Tell = record d { place = place }
quiet_next d place (deed.Put key row) = d
quiet_next d place (deed.Call call) = with_call (record d { place = place }) call
quiet_next d place (deed.Set rule percent) = with_settings (record d { place = place }) rule percent
quiet_next d place (deed.Keep number) = without_calls (record d { place = place })

-- a line that may stand in a script over a store
abbrev IsOver : Deed → Type 0
IsOver deed.Run = Unit {0}
IsOver deed.Nothing = Unit {0}
IsOver deed.Tell = Unit {0}
IsOver (deed.Put key row) = ⊥
IsOver (deed.Call call) = Unit {0}
IsOver (deed.Set rule percent) = Unit {0}
IsOver (deed.Keep number) = Unit {0}

quiet_goes : (d : Doing) (place : ScriptPlace) (asks : Deed) → runs_batch asks ≡ false → IsOver asks
    → (text : List ℕ) × (done (record d { place = place }) asks ≡ Goes text (quiet_next d place asks))
quiet_goes d place deed.Run q over = absurd cc
quiet_goes d place deed.Nothing q over = ([], refl)
quiet_goes d place deed.Tell q over = ([], refl)
quiet_goes d place (deed.Put key row) q over = absurd over
quiet_goes d place (deed.Call call) q over = ([], refl)
quiet_goes d place (deed.Set rule percent) q over = ([], refl)
quiet_goes d place (deed.Keep number) q over = (_, refl)

quiet_count : (d : Doing) (place : ScriptPlace) (asks : Deed) → runs_batch asks ≡ false → IsOver asks
    → (quiet_next d place asks).state.batches ≡ d.state.batches
quiet_count d place deed.Run q over = absurd cc
quiet_count d place deed.Nothing q over = refl
quiet_count d place deed.Tell q over = refl
quiet_count d place (deed.Put key row) q over = absurd over
quiet_count d place (deed.Call call) q over = refl
quiet_count d place (deed.Set rule percent) q over = refl
quiet_count d place (deed.Keep number) q over = refl

quiet_catches : (d : Doing) (t : State) (e : Doing) (place : ScriptPlace) (asks : Deed) → runs_batch asks ≡ false → IsOver asks → Catches d t e
    → Catches (quiet_next d place asks) t (quiet_next e place asks)
quiet_catches d t e place deed.Run q over c = absurd cc
quiet_catches d t e place deed.Nothing q over (inl h) = inl (ap (λ (x : Doing). quiet_next x place deed.Nothing) h)
quiet_catches d t e place deed.Nothing q over (inr h) = inr (ap (λ (x : Doing). quiet_next x place deed.Nothing) h)
quiet_catches d t e place deed.Tell q over (inl h) = inl (ap (λ (x : Doing). quiet_next x place deed.Tell) h)
quiet_catches d t e place deed.Tell q over (inr h) = inr (ap (λ (x : Doing). quiet_next x place deed.Tell) h)
quiet_catches d t e place (deed.Put key row) q over c = absurd over
quiet_catches d t e place (deed.Call call) q over (inl h) = inl (ap (λ (x : Doing). quiet_next x place (deed.Call call)) h)
quiet_catches d t e place (deed.Call call) q over (inr h) = inr (ap (λ (x : Doing). quiet_next x place (deed.Call call)) h)
quiet_catches d t e place (deed.Set rule percent) q over (inl h) = inr (ap (λ (x : Doing). quiet_next x place (deed.Set rule percent)) h)
quiet_catches d t e place (deed.Set rule percent) q over (inr h) = inr (ap (λ (x : Doing). quiet_next x place (deed.Set rule percent)) h)
quiet_catches d t e place (deed.Keep number) q over (inl h) = inl (ap (λ (x : Doing). quiet_next x place (deed.Keep number)) h)
quiet_catches d t e place (deed.Keep number) q over (inr h) = inr (ap (λ (x : Doing). quiet_next x place (deed.Keep number)) h)

-- what is asked for there
at_place : (d : Doing) (t : State) (e : Doing) → Catches d t e → e.place ≡ d.place
at_place d t e (inl h) = ap (λ (x : Doing). x.place) h
at_place d t e (inr h) = ap (λ (x : Doing). x.place) h

at_count : (d : Doing) (t : State) (e : Doing) → Catches d t e → e.state.batches ≡ t.batches
at_count d t e (inl h) = ap (λ (x : Doing). x.state.batches) h
at_count d t e (inr h) = ap (λ (x : Doing). x.state.batches) h

-- behind a batch that is kept in the one run and run in the other
abbrev kept_next : Doing → ScriptPlace → Doing
kept_next e place = without_calls (record e { place = place })

abbrev ran_next : Doing → ScriptPlace → Doing
ran_next d place = behind_batch (record d { place = place })

kept_same : (d : Doing) (t : State) (e : Doing) (place : ScriptPlace) → Catches d t e → t ≡ (ran_next d place).state → kept_next e place ≡ ran_next d place
kept_same d t e place (inl h) same = ap (λ (x : Doing). kept_next x place) h ∙ ap (λ (s : State). record (ran_next d place) { state = s }) same
kept_same d t e place (inr h) same =
    ap (λ (x : Doing). kept_next x place) h
    ∙ ap (λ (s : State). record (ran_next d place) { state = record s { rule = d.state.rule; percent = d.state.percent } }) same

kept_catches : (d : Doing) (t : State) (e : Doing) (place : ScriptPlace) → Catches d t e → Catches (ran_next d place) t (kept_next e place)
kept_catches d t e place (inl h) = inl (ap (λ (x : Doing). kept_next x place) h)
kept_catches d t e place (inr h) = inr (ap (λ (x : Doing). kept_next x place) h)

-- a row may not stand in it, and so it is behind each line
over_of : (d : Doing) (line : List ℕ) (place : ScriptPlace) (asks : Deed) → asked d.place (counts_of d.state) line ≡ Ok (place, asks)
    → d.place.rows_ended ≡ true
    → IsOver asks × (place.rows_ended ≡ true)
over_of d line place deed.Run e rows = (tt, (follows d.place (counts_of d.state) line place deed.Run e).allows.rows)
over_of d line place deed.Nothing e rows = (tt, (follows d.place (counts_of d.state) line place deed.Nothing e).allows.rows rows)
over_of d line place deed.Tell e rows = (tt, (follows d.place (counts_of d.state) line place deed.Tell e).allows.rows rows)
over_of d line place (deed.Put key row) e rows =
    let none = (follows d.place (counts_of d.state) line place (deed.Put key row) e).allows.rows in
    absurd (let both : true ≡ false = sym rows ∙ none in cc)
over_of d line place (deed.Call call) e rows = (tt, (follows d.place (counts_of d.state) line place (deed.Call call) e).allows.rows)
over_of d line place (deed.Set rule percent) e rows = (tt, (follows d.place (counts_of d.state) line place (deed.Set rule percent) e).allows.rows)
over_of d line place (deed.Keep number) e rows = (tt, (follows d.place (counts_of d.state) line place (deed.Keep number) e).allows.rows)

rows_next : (d : Doing) (place : ScriptPlace) (asks : Deed) → IsOver asks → place.rows_ended ≡ true → runs_batch asks ≡ false
    → (quiet_next d place asks).place.rows_ended ≡ true
rows_next d place deed.Run over rows q = absurd cc
rows_next d place deed.Nothing over rows q = rows
rows_next d place deed.Tell over rows q = rows
rows_next d place (deed.Put key row) over rows q = absurd over
rows_next d place (deed.Call call) over rows q = rows
rows_next d place (deed.Set rule percent) over rows q = rows
rows_next d place (deed.Keep number) over rows q = rows

-- what is asked for of the later state
asked_of : (d : Doing) (t : State) (e : Doing) (line : List ℕ) (place : ScriptPlace) (asks : Deed) → Catches d t e → d.state.batches < t.batches
    → asked d.place (counts_of d.state) line ≡ Ok (place, asks)
    → on_line e line ≡ done (record e { place = place }) (as_kept d.state.batches asks)
asked_of d t e line place asks c less is =
    let count : (counts_of e.state).batches ≡ t.batches = at_count d t e c in
    ap (λ (p : ScriptPlace). done_by e (asked p (counts_of e.state) line)) (at_place d t e c)
    ∙ ap (λ (a : Asked). done_by e a) (asked_later (counts_of d.state) (counts_of e.state) (omega (arith, less, count)) d.place line place asks is)

quiet_kept : (n : ℕ) (asks : Deed) → runs_batch asks ≡ false → as_kept n asks ≡ asks
quiet_kept n deed.Run q = absurd cc
quiet_kept n deed.Nothing q = refl
quiet_kept n deed.Tell q = refl
quiet_kept n (deed.Put key row) q = refl
quiet_kept n (deed.Call call) q = refl
quiet_kept n (deed.Set rule percent) q = refl
quiet_kept n (deed.Keep number) q = refl

-- a state that a line's rest reaches, where it runs no batch
later_only : (lines : List (List ℕ)) (d next : Doing) (t : State) → next.state.batches ≡ d.state.batches
    → ((next.state.batches ≢ d.state.batches) × (t ≡ next.state)) ⊎ Reaches (map Line lines) next t
    → Reaches (map Line lines) next t
later_only lines d next t same (inl h) = absurd (h.0 same)
later_only lines d next t same (inr h) = h

ends_next : (line : List ℕ) (lines : List (List ℕ)) (d next last : Doing) (text : List ℕ) → on_line d line ≡ Goes text next
    → EndsIn (goes (line ∷ lines) d) last → EndsIn (goes lines next) last
ends_next line lines d next last text is h =
    ends_behind text (goes lines next) last (subst (λ (c : Course Doing). EndsIn (goes_by (goes lines) c) last) is h)

reach_by : (line : List ℕ) (lines : List (List ℕ)) (d : Doing) (t : State) (c : Course Doing) → on_line d line ≡ c → Reaches (map Line (line ∷ lines)) d t
    → ReachesBy d (Reaches (map Line lines)) c t
reach_by line lines d t c is h = subst (λ (k : Course Doing). ReachesBy d (Reaches (map Line lines)) k t) is h

-- ---- all of it

abbrev Catch : List (List ℕ) → Type 0
Catch lines = (d : Doing) (t : State) (e last : Doing) → d.place.rows_ended ≡ true → Catches d t e → Reaches (map Line lines) d t → EndsIn (goes lines d) last
    → Caught lines d t e last

module _ (line : List ℕ) (lines : List (List ℕ)) (rest : Catch lines) (d : Doing) (t : State) (e last : Doing) (rows : d.place.rows_ended ≡ true)
    (c : Catches d t e)
    (reach : Reaches (map Line (line ∷ lines)) d t) (ends : EndsIn (goes (line ∷ lines) d) last) where
  catch_quiet : (place : ScriptPlace) (asks : Deed) → asked d.place (counts_of d.state) line ≡ Ok (place, asks) → runs_batch asks ≡ false
      → Caught (line ∷ lines) d t e last
  catch_quiet place asks is q =
      let over = over_of d line place asks is rows in
      let next = quiet_next d place asks in
      let after = quiet_next e place asks in
      let goes_d = quiet_goes d place asks q over.0 in
      let goes_e = quiet_goes e place asks q over.0 in
      let line_d : on_line d line ≡ Goes goes_d.0 next = ap (λ (a : Asked). done_by d a) is ∙ goes_d.1 in
      let less = reached_more (line ∷ lines) d t reach in
      let line_e : on_line e line ≡ Goes goes_e.0 after =
      asked_of d t e line place asks c less is ∙ ap (λ (k : Deed). done (record e { place = place }) k) (quiet_kept d.state.batches asks q) ∙ goes_e.1 in
      let count_d = quiet_count d place asks q over.0 in
      let count_e = quiet_count e place asks q over.0 in
      let on = later_only lines d next t count_d (reach_by line lines d t (Goes goes_d.0 next) line_d reach) in
      caught_on line lines d e next after t last goes_d.0 goes_e.0 line_d line_e count_e (omega (arith, less, count_d))
      (rest next t after last (rows_next d place asks over.0 over.1 q) (quiet_catches d t e place asks q over.0 c) on
      (ends_next line lines d next last goes_d.0 line_d ends))

  run_rest : (place : ScriptPlace) → EndsIn (goes lines (ran_next d place)) last → place.rows_ended ≡ true
      → (((ran_next d place).state.batches ≢ d.state.batches) × (t ≡ (ran_next d place).state)) ⊎ Reaches (map Line lines) (ran_next d place) t
      → Caught lines (ran_next d place) t (kept_next e place) last
  run_rest place go rows_on (inl h) =
      subst (λ (x : Doing). Caught lines (ran_next d place) t x last) (sym (kept_same d t e place c h.1))
      (caught_same lines (ran_next d place) t last (ap (λ (s : State). s.batches) h.1) go)
  run_rest place go rows_on (inr h) = rest (ran_next d place) t (kept_next e place) last rows_on (kept_catches d t e place c) h go

  catch_run : (place : ScriptPlace) → asked d.place (counts_of d.state) line ≡ Ok (place, deed.Run) → Caught (line ∷ lines) d t e last
  catch_run place is =
      let next = ran_next d place in
      let after = kept_next e place in
      let text = text_of (record d { place = place }) in
      let line_d : on_line d line ≡ Goes text next = ap (λ (a : Asked). done_by d a) is in
      let less = reached_more (line ∷ lines) d t reach in
      let line_e = asked_of d t e line place deed.Run c less is in
      let go = ends_next line lines d next last text line_d ends in
      let one : next.state.batches ≡ d.state.batches + 1 = refl in
      caught_on line lines d e next after t last text _ line_d line_e refl (omega (arith, less, one))
      (run_rest place go (over_of d line place deed.Run is rows).1 (reach_by line lines d t (Goes text next) line_d reach))

  catch_asks : (place : ScriptPlace) (asks : Deed) → asked d.place (counts_of d.state) line ≡ Ok (place, asks) → Caught (line ∷ lines) d t e last
  catch_asks place deed.Run is = catch_run place is
  catch_asks place deed.Nothing is = catch_quiet place deed.Nothing is refl
  catch_asks place deed.Tell is = catch_quiet place deed.Tell is refl
  catch_asks place (deed.Put key row) is = catch_quiet place (deed.Put key row) is refl
  catch_asks place (deed.Call call) is = catch_quiet place (deed.Call call) is refl
  catch_asks place (deed.Set rule percent) is = catch_quiet place (deed.Set rule percent) is refl
  catch_asks place (deed.Keep number) is = catch_quiet place (deed.Keep number) is refl

  catch_line : (a : Asked) → asked d.place (counts_of d.state) line ≡ a → Caught (line ∷ lines) d t e last
  catch_line (Ok r) is = catch_asks r.0 r.1 is
  catch_line (Err why) is = absurd (reach_by line lines d t (done_by d (Err why)) (ap (λ (a : Asked). done_by d a) is) reach)

pub catch : (lines : List (List ℕ)) → Catch lines
catch [] d t e last rows c reach ends = absurd reach
catch (line ∷ lines) d t e last rows c reach ends = catch_line line lines (catch lines) d t e last rows c reach ends
    (asked d.place (counts_of d.state) line) refl
