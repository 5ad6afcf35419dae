-- The end of a script: what is printed behind its last line is the same over the store of a head and behind that head.
use Rattle.std.proofs.Common.{◌≡◌, ◌∙◌, sym, ap, refl, ℕ, zero, suc, ◌==◌, nat_lt, Bool, true, false, List, [], ◌++◌, length}
use Rattle.std.specs.Prelude.{if◌then◌else◌, Result, Ok, Err}
use Rattle.answer_text.specs.Refusals.{refusal_text}
use Rattle.aria_base.specs.declared.limits.TheConstants.{GREATEST_NUMBER}
use Rattle.batch_core.specs.Steps.{State, step}
use Rattle.proc_lang.specs.Catalogs.{Plan, run_of}
use Rattle.script_course.specs.Courses.{Course, Goes, Stops, Out, behind, ended}
use Rattle.script_course.specs.declared.statuses.TheConstants.{DONE}
use Rattle.script_places.specs.Places.{closing, next_line, shut, without_head}
use Rattle.script_places.specs.declared.heads.ScriptCatalog.{ScriptCatalog}
use Rattle.script_places.specs.declared.heads.ScriptCatalog.TheVariants as head
use Rattle.script_places.specs.declared.places.ScriptPlace.{ScriptPlace}
use Rattle.script_text.specs.Fits.{and_then}
use Rattle.script_text.specs.Lines.{line_after}
use Rattle.script_text.specs.declared.refusals.RefusalKind.{RefusalKind}
use Rattle.script_text.specs.declared.refusals.RefusalKind.TheVariants as kind
use Rattle.serving.specs.Drains.{drained, drains, goes_on, no_calls}
use Rattle.serving.specs.Lives.{batch_text, no_plan}
use Rattle.run_commands.proofs.Turns.{not_both}
use Rattle.run_commands.specs.Onces.{Doing, closed_by, listed, on_end}
use Rattle.run_commands.specs.Onces as onces
use Rattle.store_laws.proofs.Behind.{Gives, before_batches, behind_head}
use Rattle.store_laws.proofs.Scripts.{as_run, in_batches}

-- ---- courses that go on

module _ {R : Type 0} where
  abbrev state_or : R → Course R → R
  state_or r (Goes bytes next) = next
  state_or r (Stops bytes) = r

  abbrev bytes_or : List ℕ → Course R → List ℕ
  bytes_or none (Goes bytes next) = bytes
  bytes_or none (Stops bytes) = none

  pub same_state : (bytes printed : List ℕ) (r last : R) → Goes bytes r ≡ Goes printed last → r ≡ last
  same_state bytes printed r last is = ap (λ (c : Course R). state_or r c) is

  pub record GoesOn (first printed : List ℕ) (last : R) (c : Course R) : Type 0 where
    pub more : List ℕ
    pub goes : c ≡ Goes more last
    pub bytes : first ++ more ≡ printed

  pub goes_behind : (first printed : List ℕ) (last : R) (c : Course R) → behind first c ≡ Goes printed last → GoesOn first printed last c
  goes_behind first printed last (Goes more r) is = record {
    more = more;
    goes = ap (λ (x : R). Goes more x) (same_state (first ++ more) printed r last is);
    bytes = ap (λ (c : Course R). bytes_or printed c) is;
  }
  goes_behind first printed last (Stops more) is = not_both (first ++ more) printed last is

-- ---- what is drained behind the last line: the number of a line has a say in a refusal alone

module _ (plan : Plan) (each : Bool) (line other : ℕ) where
  -- one batch, and those behind it
  drained_by : (n : ℕ) (state s : State) (none room : Bool) (bytes : List ℕ)
      → ((next : State) (more : List ℕ) → drained plan each line n next ≡ Goes more s → drained plan each other n next ≡ Goes more s)
      → (if none then Goes [] state else goes_on (drained plan each line n)
      (if room then Goes (batch_text plan each state (no_calls state)) (step (run_of plan) state (no_calls state)) else Stops
      (refusal_text (record { line = line; kind = kind.Numbers })))) ≡ Goes bytes s
      → (if none then Goes [] state else goes_on (drained plan each other n)
      (if room then Goes (batch_text plan each state (no_calls state)) (step (run_of plan) state (no_calls state)) else Stops
      (refusal_text (record { line = other; kind = kind.Numbers })))) ≡ Goes bytes s
  drained_by n state s true room bytes rest is = is
  drained_by n state s false false bytes rest is = not_both (refusal_text (record { line = line; kind = kind.Numbers })) bytes s is
  drained_by n state s false true bytes rest is =
      let text = batch_text plan each state (no_calls state) in
      let next = step (run_of plan) state (no_calls state) in
      let g = goes_behind text bytes s (drained plan each line n next) is in
      ap (λ (c : Course State). behind text c) (rest next g.more g.goes) ∙ ap (λ (l : List ℕ). Goes l s) g.bytes

  drained_same : (n : ℕ) (state s : State) (bytes : List ℕ) → drained plan each line n state ≡ Goes bytes s → drained plan each other n state ≡ Goes bytes s
  drained_same zero state s bytes is = is
  drained_same (suc n) state s bytes is =
      drained_by n state s (length state.waiting == 0) (nat_lt state.batches GREATEST_NUMBER) bytes (λ next more goes. drained_same n next s more goes) is

  drains_same : (state : State) (c : Course State) → drains plan each line state ≡ c → (ended (listed plan each) c).status ≡ DONE
      → ended (listed plan each) (drains plan each other state) ≡ ended (listed plan each) (drains plan each line state)
  drains_same state (Goes bytes s) is done = ap (λ (c : Course State). ended (listed plan each) c) (drained_same (length state.waiting) state s bytes is
      ∙ sym is)
  drains_same state (Stops bytes) is done = absurd (cc done)

  all_drained : (drain : Bool) (state : State) → (onces.drained drain plan each line state).status ≡ DONE
      → onces.drained drain plan each other state ≡ onces.drained drain plan each line state
  all_drained true state done = drains_same state (drains plan each line state) refl done
  all_drained false state done = refl

-- ---- the end of both

-- both end in one state, and where one of them comes to its end, both print the same from there on
pub record EndsLike (last end : Doing) : Type 0 where
  pub state : end.state ≡ last.state
  pub out : (drain : Bool) → (on_end drain last).status ≡ DONE → on_end drain end ≡ on_end drain last
  pub back : (drain : Bool) → (on_end drain end).status ≡ DONE → on_end drain end ≡ on_end drain last

-- where no line came but skipped ones
module _ (plan : Plan) (drain : Bool) (d : Doing) (p : ScriptPlace) where
  once_ends : (h : ScriptCatalog) → Gives no_plan h plan → on_end drain (record d { place = behind_head h p }) ≡ onces.drained drain plan d.each
      (line_after p.lines) d.state
  once_ends head.Unnamed gives = ap (λ (q : Plan). onces.drained drain q d.each (line_after p.lines) d.state) (sym gives)
  once_ends (head.Ready given) gives = ap (λ (q : Plan). onces.drained drain q d.each (line_after p.lines) d.state) gives
  once_ends (head.Text text) gives =
      let at = behind_head (head.Text text) p in
      ap (λ (r : Result Plan RefusalKind). closed_by drain (record d { place = at })
      (and_then shut (and_then (λ q. Ok (record (without_head (next_line at)) { head = head.Ready q })) r))) gives

  run_ends : (h : ScriptCatalog) (lines : ℕ) → Gives no_plan h plan → (on_end drain (record d { place = behind_head h p })).status ≡ DONE
      → on_end drain (record d { place = before_batches plan lines }) ≡ on_end drain (record d { place = behind_head h p })
  run_ends h lines gives done =
      let is = once_ends h gives in
      all_drained plan d.each (line_after p.lines) (line_after lines) drain d.state (sym (ap (λ (o : Out). o.status) is) ∙ done) ∙ sym is

  run_ended : (h : ScriptCatalog) (lines : ℕ) → Gives no_plan h plan → (on_end drain (record d { place = before_batches plan lines })).status ≡ DONE
      → on_end drain (record d { place = before_batches plan lines }) ≡ on_end drain (record d { place = behind_head h p })
  run_ended h lines gives done = sym (all_drained plan d.each (line_after lines) (line_after p.lines) drain d.state done) ∙ sym (once_ends h gives)

pub ends_behind : (plan : Plan) (d : Doing) (p : ScriptPlace) (h : ScriptCatalog) (lines : ℕ) → Gives no_plan h plan
    → EndsLike (record d { place = behind_head h p }) (record d { place = before_batches plan lines })
ends_behind plan d p h lines gives = record {
  state = refl;
  out = λ drain done. run_ends plan drain d p h lines gives done;
  back = λ drain done. run_ended plan drain d p h lines gives done;
}

-- behind a line of batches
abbrev pub runs_as : ℕ → Doing → Doing
runs_as lines d = record d { place = as_run lines d.place }

module _ (plan : Plan) (drain : Bool) (lines : ℕ) (last : Doing) (at : last.place ≡ in_batches plan last.place) where
  abbrev Shut : Bool → Result ScriptPlace RefusalKind
  Shut b = if b then Ok (in_batches plan (next_line last.place)) else Err kind.Unfinished

  abbrev ShutRun : Bool → Result ScriptPlace RefusalKind
  ShutRun b = if b then Ok (as_run (line_after lines) (in_batches plan (next_line last.place))) else Err kind.Unfinished

  shut_like : (b : Bool) → (closed_by drain last (Shut b)).status ≡ DONE → closed_by drain (runs_as lines last) (ShutRun b) ≡ closed_by drain last (Shut b)
  shut_like true done = all_drained plan last.each (line_after last.place.lines) (line_after lines) drain last.state done
  shut_like false done = absurd (cc done)

  shut_back : (b : Bool) → (closed_by drain (runs_as lines last) (ShutRun b)).status ≡ DONE
      → closed_by drain (runs_as lines last) (ShutRun b) ≡ closed_by drain last (Shut b)
  shut_back true done = sym (all_drained plan last.each (line_after lines) (line_after last.place.lines) drain last.state done)
  shut_back false done = absurd (cc done)

  once_is : on_end drain last ≡ closed_by drain last (Shut (last.place.open_calls == 0))
  once_is = ap (λ (q : ScriptPlace). closed_by drain last (closing q)) at

  run_is : on_end drain (runs_as lines last) ≡ closed_by drain (runs_as lines last) (ShutRun (last.place.open_calls == 0))
  run_is = ap (λ (q : ScriptPlace). closed_by drain (runs_as lines last) (closing (as_run lines q))) at

  batches_end : (on_end drain last).status ≡ DONE → on_end drain (runs_as lines last) ≡ on_end drain last
  batches_end done = run_is ∙ shut_like (last.place.open_calls == 0) (sym (ap (λ (o : Out). o.status) once_is) ∙ done) ∙ sym once_is

  batches_ended : (on_end drain (runs_as lines last)).status ≡ DONE → on_end drain (runs_as lines last) ≡ on_end drain last
  batches_ended done = run_is ∙ shut_back (last.place.open_calls == 0) (sym (ap (λ (o : Out). o.status) run_is) ∙ done) ∙ sym once_is

pub ends_batches : (plan : Plan) (lines : ℕ) (last : Doing) → last.place ≡ in_batches plan last.place → EndsLike last (runs_as lines last)
ends_batches plan lines last at = record {
  state = refl;
  out = λ drain done. batches_end plan drain lines last at done;
  back = λ drain done. batches_ended plan drain lines last at done;
}
