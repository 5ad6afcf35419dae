-- What `replay` prints of a log is what `run` printed.
use Rattle.std.proofs.Common.{◌≡◌, ◌⊎◌, inl, inr, ◌∙◌, sym, ap, subst, refl, ℕ, ◌+◌, ◌≤◌, ◌<◌, ◌==◌, nat_lt, Bool, true, false, List, [], ◌∷◌, ◌++◌, length, map, Option, Some, None, append_assoc, append-nil, length-append, arith}
use Rattle.std.specs.Prelude.{if◌then◌else◌, Result, Ok, Err}
use Rattle.std.proofs.lemmas.Bool.{cond-true, cond-false}
use Rattle.std.proofs.lemmas.Bool.Decides.{nat_tests}
use Rattle.std.proofs.lemmas.List.Elements.{filter-append}
use Rattle.answer_text.specs.Refusals.{refusal_text}
use Rattle.aria_base.specs.declared.calls.Call.{Call}
use Rattle.aria_base.specs.declared.limits.TheConstants.{GREATEST_NUMBER}
use Rattle.batch_core.specs.Steps.{State, Handed, run, step}
use Rattle.image_text.specs.Payloads.{Batch}
use Rattle.proc_lang.specs.Catalogs.{Plan, run_of}
use Rattle.script_course.specs.Courses.{Course, Goes, Stops, Out, out_behind}
use Rattle.script_places.proofs.Allowed.{follows}
use Rattle.script_places.specs.Follows.{Follows, HeadStays}
use Rattle.script_places.specs.Places.{Asked, asked, closed_by, closing, next_line, plan_in, shut}
use Rattle.script_places.specs.declared.deeds.Deed.{Deed}
use Rattle.script_places.specs.declared.deeds.Deed.TheVariants as deed
use Rattle.script_places.specs.declared.heads.ScriptCatalog.{ScriptCatalog}
use Rattle.script_places.specs.declared.heads.ScriptCatalog.TheVariants as head
use Rattle.script_places.specs.declared.places.ScriptPlace.{ScriptPlace}
use Rattle.script_text.specs.declared.refusals.RefusalKind.{RefusalKind}
use Rattle.script_text.specs.declared.refusals.RefusalKind.TheVariants.{Numbers, Unfinished}
use Rattle.serving.specs.Drains.{no_calls, one_drained}
use Rattle.serving.specs.Lives.{batch_text, handed_at}
use Rattle.serving.specs.Stored.{batch_of, crowded_from, handed_in, is_crowded, is_due, state_at, state_behind}
use Rattle.serving.proofs.Storing.{batches_behind}
use Rattle.slot_images.specs.Images.{Checkpoint}
use Rattle.store_openings.specs.Saved.{Saved, laid_where}
use Rattle.run_commands.specs.Bases.{counts_of}
use Rattle.run_commands.specs.Onces.{Doing, done, done_by, listed, on_line, text_of, with_call, with_settings, without_calls}
use Rattle.run_commands.specs.Onces as onces
use Rattle.run_commands.specs.Passes.{At, Close, Drain, Line, Listed, Past, Turn, as_doing, held_by_step, held_over, on_close, on_drain, on_turn, onward, over}
use Rattle.run_commands.specs.Saves.{saved_behind, saved_more, saved_then, with_batch}
use Rattle.run_commands.proofs.Endings.{ran_then, still_then}
use Rattle.run_commands.proofs.Turns.{not_both}
use Rattle.store_laws.proofs.Ended.{goes_behind, same_state}
use Rattle.resume_laws.specs.Resumptions.{answers, answers_by, later_than}
use Rattle.store_commands.specs.Replays.{replayed}
use Rattle.store_laws.specs.OneRuns.{HoldsAs}
use Rattle.store_laws.specs.Replies.{StandsOver, joined, replies, replies_behind}

-- ---- what `replay` prints

module _ (plan : Plan) (each : Bool) (crowd : ℕ → Out) where
  replayed_by : (b : Bool) (place : ℕ) (rest : Option ℕ) (text : List ℕ) (out other : Out) → (if b then Some place else rest) ≡ None
      → (rest ≡ None → out ≡ other) → (if b then crowd place else out_behind text out) ≡ out_behind text other
  replayed_by true place rest text out other none same = absurd cc
  replayed_by false place rest text out other none same = ap (λ (o : Out). out_behind text o) (same none)

  behind_both : (first more : List ℕ) (out : Out) → out_behind first (out_behind more out) ≡ out_behind (first ++ more) out
  behind_both first more out = ap (λ (l : List ℕ). record { bytes = l; status = out.status }) (sym (append_assoc first more out.bytes))

  pub replayed_as : (place : ℕ) (state : State) (later : List Batch) → crowded_from plan place state later ≡ None
      → replayed plan each crowd place state later
      ≡ out_behind (joined (replies plan each state later)) (listed plan each (run (run_of plan) state (map handed_in later)))
  replayed_as place state [] none = refl
  replayed_as place state (batch ∷ later) none =
      let next = step (run_of plan) state (handed_in batch) in
      let text = batch_text plan each state (handed_in batch) in
      let last = listed plan each (run (run_of plan) next (map handed_in later)) in
      replayed_by (is_crowded state batch) place (crowded_from plan (place + 1) next later) text (replayed plan each crowd (place + 1) next later)
      (out_behind (joined (replies plan each next later)) last) none (λ rest. replayed_as (place + 1) next later rest)
      ∙ behind_both text (joined (replies plan each next later)) last

-- ---- a batch more

module _ (plan : Plan) (each : Bool) where
  replies_more : (state : State) (before : List Batch) (batch : Batch) → replies plan each state (before ++ batch ∷ [])
      ≡ replies plan each state before ++ (
        (run (run_of plan) state (map handed_in before)).batches + 1,
        batch_text plan each (run (run_of plan) state (map handed_in before)) (handed_in batch),
      ) ∷ []
  replies_more state [] batch = refl
  replies_more state (b ∷ before) batch =
      ap (λ (l : List (ℕ × List ℕ)). (state.batches + 1, batch_text plan each state (handed_in b)) ∷ l)
      (replies_more (step (run_of plan) state (handed_in b)) before batch)

  run_more : (state : State) (before : List Batch) (batch : Batch) → run (run_of plan) state (map handed_in (before ++ batch ∷ []))
      ≡ step (run_of plan) (run (run_of plan) state (map handed_in before)) (handed_in batch)
  run_more state [] batch = refl
  run_more state (b ∷ before) batch = run_more (step (run_of plan) state (handed_in b)) before batch

  -- settings that no batch followed have no say
  text_same : (s t : State) (handed : Handed) → HoldsAs s t → batch_text plan each s handed ≡ batch_text plan each t handed
  text_same s t handed k = λ i. batch_text plan each
      (record { rule = s.rule; percent = s.percent; rows = k.rows i; waiting = k.waiting i; batches = k.batches i; requests = k.requests i }) handed

  step_same : (s t : State) (handed : Handed) → HoldsAs s t → step (run_of plan) s handed ≡ step (run_of plan) t handed
  step_same s t handed k = λ i. step (run_of plan)
      (record { rule = s.rule; percent = s.percent; rows = k.rows i; waiting = k.waiting i; batches = k.batches i; requests = k.requests i }) handed

  more_same : (s t : State) (before : List (ℕ × List ℕ)) (handed : Handed) → HoldsAs s t
      → before ++ (s.batches + 1, batch_text plan each s handed) ∷ [] ≡ before ++ (t.batches + 1, batch_text plan each t handed) ∷ []
  more_same s t before handed k =
      let text = text_same s t handed k in
      λ i. before ++ (k.batches i + 1, text i) ∷ []

-- behind those of a store
pub would_print : (c : Checkpoint) (before : List Batch) (d : Doing) → StandsOver c before d
    → replies_behind d.each c (before ++ batch_of (onces.handed_in d) ∷ []) ≡ replies_behind d.each c before ++ (d.state.batches + 1, text_of d) ∷ []
would_print c before d s =
    replies_more c.plan d.each (state_at c) before (batch_of (onces.handed_in d))
    ∙ more_same c.plan d.each (state_behind c before) d.state (replies_behind d.each c before) (onces.handed_in d) s.holds
    ∙ ap (λ (p : Plan). replies_behind d.each c before ++ (d.state.batches + 1, batch_text p d.each d.state (onces.handed_in d)) ∷ []) (sym s.plan_is)

-- ---- numbers

abbrev UpTo : ℕ → List (ℕ × List ℕ) → Type 0
UpTo n [] = Unit {0}
UpTo n (a ∷ rest) = (a.0 ≤ n) × UpTo n rest

up_on : (n m : ℕ) (answered : List (ℕ × List ℕ)) → n ≤ m → UpTo n answered → UpTo m answered
up_on n m [] le h = tt
up_on n m (a ∷ rest) le h = (omega (arith, h.0, le), up_on n m rest le h.1)

up_more : (n : ℕ) (answered more : List (ℕ × List ℕ)) → UpTo n answered → UpTo n more → UpTo n (answered ++ more)
up_more n [] more h k = k
up_more n (a ∷ rest) more h k = (h.0, up_more n rest more h.1 k)

-- none of them is later
pub none_later : (n : ℕ) (answered : List (ℕ × List ℕ)) → UpTo n answered → later_than n answered ≡ []
none_later n [] h = refl
none_later n (a ∷ rest) h =
    let off : nat_lt n a.0 ≡ false = grind (arith, nat_tests, h.0) in
    cond-false (nat_lt n a.0) (a ∷ later_than n rest) (later_than n rest) off ∙ none_later n rest h.1

one_later : (n m : ℕ) (text : List ℕ) → n < m → later_than n ((m, text) ∷ []) ≡ (m, text) ∷ []
one_later n m text less =
    let on : nat_lt n m ≡ true = grind (arith, nat_tests, less) in
    cond-true (nat_lt n m) ((m, text) ∷ []) [] on

later_more : (n m : ℕ) (text : List ℕ) (answered : List (ℕ × List ℕ)) → n < m
    → later_than n (answered ++ (m, text) ∷ []) ≡ later_than n answered ++ (m, text) ∷ []
later_more n m text answered less =
    filter-append (λ (a : ℕ × List ℕ). nat_lt n a.0) answered ((m, text) ∷ [])
    ∙ ap (λ (l : List (ℕ × List ℕ)). later_than n answered ++ l) (one_later n m text less)

module _ (plan : Plan) (each : Bool) where
  pub replies_later : (n : ℕ) (state : State) (later : List Batch) → n ≤ state.batches
      → later_than n (replies plan each state later) ≡ replies plan each state later
  replies_later n state [] le = refl
  replies_later n state (batch ∷ later) le =
      let on : nat_lt n (state.batches + 1) ≡ true = grind (arith, nat_tests, le) in
      let next = step (run_of plan) state (handed_in batch) in
      let one : ℕ × List ℕ = (state.batches + 1, batch_text plan each state (handed_in batch)) in
      cond-true (nat_lt n (state.batches + 1)) (one ∷ later_than n (replies plan each next later)) (later_than n (replies plan each next later)) on
      ∙ ap (λ (l : List (ℕ × List ℕ)). one ∷ l) (replies_later n next later (omega (arith, le)))

  pub replies_up : (state : State) (later : List Batch) → UpTo (run (run_of plan) state (map handed_in later)).batches (replies plan each state later)
  replies_up state [] = tt
  replies_up state (batch ∷ later) =
      let next = step (run_of plan) state (handed_in batch) in
      let n = batches_behind (run_of plan) next later in
      (omega (arith, n), replies_up next later)

-- ---- a script over a store

-- what stands, the answers so far, and a script whose store it is
pub record Tracks (plan : Plan) (each closed : Bool) (saved : Saved) (past : List (ℕ × List ℕ)) (d : Doing) : Type 0 where
  pub head_is : d.place.head ≡ head.Ready plan
  pub each_is : d.each ≡ each
  pub rows : d.place.rows_ended ≡ true
  pub counted : d.place.open_calls ≡ length d.calls
  pub shut_is : closed ≡ true → d.calls ≡ []
  pub under : saved.c.plan ≡ plan
  pub holds : HoldsAs (state_behind saved.c saved.later) d.state
  pub answered : replies_behind each saved.c saved.later ≡ later_than saved.c.head.batches past
  pub up_to : UpTo d.state.batches past
  pub from : saved.c.head.batches ≤ d.state.batches

-- a turn that runs no batch
pub record Quiet (closed : Bool) (plan : Plan) (d next : Doing) : Type 0 where
  pub head_is : next.place.head ≡ head.Ready plan
  pub each_is : next.each ≡ d.each
  pub rows : next.place.rows_ended ≡ true
  pub counted : next.place.open_calls ≡ length next.calls
  pub shut_is : closed ≡ true → next.calls ≡ []
  pub table : next.state.rows ≡ d.state.rows
  pub waiting : next.state.waiting ≡ d.state.waiting
  pub batches : next.state.batches ≡ d.state.batches
  pub requests : next.state.requests ≡ d.state.requests

-- and one that does
pub record Ran (closed : Bool) (plan : Plan) (d : Doing) (bytes : List ℕ) (next : Doing) : Type 0 where
  pub head_is : next.place.head ≡ head.Ready plan
  pub each_is : next.each ≡ d.each
  pub rows : next.place.rows_ended ≡ true
  pub counted : next.place.open_calls ≡ length next.calls
  pub shut_is : closed ≡ true → next.calls ≡ []
  pub bytes_are : bytes ≡ batch_text plan d.each d.state (onces.handed_in d)
  pub state_is : next.state ≡ step (run_of plan) d.state (onces.handed_in d)

abbrev TurnTo : Bool → Plan → Doing → Course Doing → Type 0
TurnTo closed plan d (Stops bytes) = Unit {0}
TurnTo closed plan d (Goes bytes next) = Quiet closed plan d next ⊎ Ran closed plan d bytes next

pub holds_own : (state : State) → HoldsAs state state
holds_own state = record { rows = refl; waiting = refl; batches = refl; requests = refl }

module _ (plan : Plan) (each : Bool) (saved : Saved) (past : List (ℕ × List ℕ)) (d : Doing) where
  quiet_tracks : (was closed : Bool) (next : Doing) → Tracks plan each was saved past d → Quiet closed plan d next → Tracks plan each closed saved past next
  quiet_tracks was closed next t q = record {
    head_is = q.head_is;
    each_is = q.each_is ∙ t.each_is;
    rows = q.rows;
    counted = q.counted;
    shut_is = q.shut_is;
    under = t.under;
    holds = record {
      rows = t.holds.rows ∙ sym q.table;
      waiting = t.holds.waiting ∙ sym q.waiting;
      batches = t.holds.batches ∙ sym q.batches;
      requests = t.holds.requests ∙ sym q.requests;
    };
    answered = t.answered;
    up_to = subst (λ (n : ℕ). UpTo n past) (sym q.batches) t.up_to;
    from = omega (arith, t.from, q.batches);
  }

  module _ (was closed : Bool) (bytes : List ℕ) (next : Doing) (t : Tracks plan each was saved past d) (r : Ran closed plan d bytes next) where
    abbrev One : List (ℕ × List ℕ)
    One = (next.state.batches, bytes) ∷ []

    abbrev Added : Batch
    Added = batch_of (onces.handed_in d)

    counts : next.state.batches ≡ d.state.batches + 1
    counts = ap (λ (s : State). s.batches) r.state_is

    one_is : (d.state.batches + 1, text_of d) ∷ [] ≡ One
    one_is =
        let number : d.state.batches + 1 ≡ next.state.batches = sym counts in
        let text : text_of d ≡ bytes = ap (λ (h : ScriptCatalog). batch_text (plan_in h) d.each d.state (onces.handed_in d)) t.head_is ∙ sym r.bytes_are in
        λ i. (number i, text i) ∷ []

    stands : StandsOver saved.c saved.later d
    stands = record { plan_is = ap plan_in t.head_is ∙ sym t.under; holds = t.holds }

    answers_on : replies_behind each saved.c (saved.later ++ Added ∷ []) ≡ later_than saved.c.head.batches past ++ One
    answers_on =
        subst (λ (e : Bool). replies_behind e saved.c (saved.later ++ Added ∷ []) ≡ replies_behind e saved.c saved.later ++ One) t.each_is
        (would_print saved.c saved.later d stands ∙ ap (λ (l : List (ℕ × List ℕ)). replies_behind d.each saved.c saved.later ++ l) one_is)
        ∙ ap (λ (l : List (ℕ × List ℕ)). l ++ One) t.answered

    state_on : state_behind saved.c (saved.later ++ Added ∷ []) ≡ next.state
    state_on =
        run_more saved.c.plan each (state_at saved.c) saved.later Added
        ∙ step_same saved.c.plan each (state_behind saved.c saved.later) d.state (onces.handed_in d) t.holds
        ∙ ap (λ (p : Plan). step (run_of p) d.state (onces.handed_in d)) t.under
        ∙ sym r.state_is

    up_on_both : UpTo next.state.batches (past ++ One)
    up_on_both = up_more next.state.batches past One (up_on d.state.batches next.state.batches past (omega (arith, counts)) t.up_to) (omega arith, tt)

    tracks_due : (due : Bool) → Tracks plan each closed (laid_where due (with_batch saved Added) next.state) (past ++ One) next
    tracks_due true = record {
      head_is = r.head_is;
      each_is = r.each_is ∙ t.each_is;
      rows = r.rows;
      counted = r.counted;
      shut_is = r.shut_is;
      under = t.under;
      holds = holds_own next.state;
      answered = sym (none_later next.state.batches (past ++ One) up_on_both);
      up_to = up_on_both;
      from = omega arith;
    }
    tracks_due false = record {
      head_is = r.head_is;
      each_is = r.each_is ∙ t.each_is;
      rows = r.rows;
      counted = r.counted;
      shut_is = r.shut_is;
      under = t.under;
      holds = subst (λ (s : State). HoldsAs s next.state) (sym state_on) (holds_own next.state);
      answered = answers_on ∙ sym (later_more saved.c.head.batches next.state.batches bytes past (omega (arith, t.from, counts)));
      up_to = up_on_both;
      from = omega (arith, t.from, counts);
    }

    ran_tracks : (checkpoint : ℕ) → Tracks plan each closed (saved_more checkpoint saved Added next.state) (past ++ One) next
    ran_tracks checkpoint = tracks_due (is_due checkpoint next.state.batches (with_batch saved Added).bytes)

-- ---- a turn

ready_stays : (h next : ScriptCatalog) (plan : Plan) → h ≡ head.Ready plan → HeadStays h next → next ≡ head.Ready plan
ready_stays h next plan is stays = subst (λ (x : ScriptCatalog). HeadStays x next) is stays

module _ (plan : Plan) (d : Doing) (ready : d.place.head ≡ head.Ready plan) (rows : d.place.rows_ended ≡ true)
    (counted : d.place.open_calls ≡ length d.calls) where
  not_shut : {X : Type 0} → false ≡ true → X
  not_shut e = absurd (cc e)

  one_more : (call : Call) → length (d.calls ++ call ∷ []) ≡ length d.calls + 1
  one_more call = length-append d.calls (call ∷ [])

  module _ (after : ScriptPlace) where
    abbrev There : Doing
    There = record d { place = after }

    quiet_to : (next : Doing) → next.place.head ≡ head.Ready plan → next.each ≡ d.each → next.place.rows_ended ≡ true
        → next.place.open_calls ≡ length next.calls → next.state.rows ≡ d.state.rows → next.state.waiting ≡ d.state.waiting
        → next.state.batches ≡ d.state.batches → next.state.requests ≡ d.state.requests → Quiet false plan d next
    quiet_to next h e r k table waiting batches requests = record {
      head_is = h;
      each_is = e;
      rows = r;
      counted = k;
      shut_is = λ no. not_shut no;
      table = table;
      waiting = waiting;
      batches = batches;
      requests = requests;
    }

    done_to : (asks : Deed) → Follows d.place (counts_of d.state) after asks → TurnTo false plan d (done There asks)
    done_to deed.Nothing f = inl (quiet_to There (ready_stays d.place.head after.head plan ready f.head_stays) refl (f.allows.rows rows)
        (f.allows.calls ∙ counted) refl refl refl refl)
    done_to deed.Tell f = inl (quiet_to There (ready_stays d.place.head after.head plan ready f.head_stays) refl (f.allows.rows rows)
        (f.allows.calls ∙ counted) refl refl refl refl)
    done_to (deed.Put key row) f = absurd (let both : true ≡ false = sym rows ∙ f.allows.rows in cc)
    done_to (deed.Call call) f = inl (quiet_to (with_call There call) (ready_stays d.place.head after.head plan ready f.head_stays) refl f.allows.rows
        (f.allows.calls ∙ ap (λ (n : ℕ). n + 1) counted ∙ sym (one_more call)) refl refl refl refl)
    done_to (deed.Set rule percent) f = inl (quiet_to (with_settings There rule percent) (ready_stays d.place.head after.head plan ready f.head_stays) refl
        f.allows.rows (f.allows.calls ∙ counted) refl refl refl refl)
    done_to (deed.Keep number) f = inl (quiet_to (without_calls There) (ready_stays d.place.head after.head plan ready f.head_stays) refl f.allows.rows
        f.allows.calls refl refl refl refl)
    done_to deed.Run f =
        let h = ready_stays d.place.head after.head plan ready f.head_stays in
        inr (record {
          head_is = h;
          each_is = refl;
          rows = f.allows.rows;
          counted = f.allows.calls;
          shut_is = λ no. not_shut no;
          bytes_are = ap (λ (x : ScriptCatalog). batch_text (plan_in x) d.each d.state (onces.handed_in d)) h;
          state_is = ap (λ (x : ScriptCatalog). step (run_of (plan_in x)) d.state (onces.handed_in d)) h;
        })

  line_by : (line : List ℕ) (a : Asked) → asked d.place (counts_of d.state) line ≡ a → TurnTo false plan d (done_by d a)
  line_by line (Ok r) is = done_to r.0 r.1 (follows d.place (counts_of d.state) line r.0 r.1 is)
  line_by line (Err why) is = tt

  pub line_to : (line : List ℕ) → TurnTo false plan d (on_line d line)
  line_to line = line_by line (asked d.place (counts_of d.state) line) refl

  -- the end of the input
  shut_by : (p q : ScriptPlace) (b : Bool) → (p.open_calls == 0) ≡ b → (if b then Ok p else Err Unfinished) ≡ Ok q → (q ≡ p) × (p.open_calls ≡ 0)
  shut_by p q true zero_is e = (cc, grind (arith, nat_tests, zero_is))
  shut_by p q false zero_is e = absurd cc

  none_called : (calls : List Call) → length calls ≡ 0 → calls ≡ []
  none_called [] e = refl
  none_called (call ∷ calls) e = absurd (omega (arith, e))

  close_by : (r : Result ScriptPlace RefusalKind) → shut (next_line d.place) ≡ r → TurnTo true plan d (on_close d r)
  close_by (Err why) is = tt
  close_by (Ok q) is =
      let both = shut_by (next_line d.place) q (d.place.open_calls == 0) refl is in
      inl (record {
        head_is = ap (λ (x : ScriptPlace). x.head) both.0 ∙ ready;
        each_is = refl;
        rows = ap (λ (x : ScriptPlace). x.rows_ended) both.0 ∙ rows;
        counted = ap (λ (x : ScriptPlace). x.open_calls) both.0 ∙ counted;
        shut_is = λ _. none_called d.calls (sym counted ∙ both.1);
        table = refl;
        waiting = refl;
        batches = refl;
        requests = refl;
      })

  pub close_to : TurnTo true plan d (on_turn d Close)
  close_to = close_by (closing d.place) (sym (ap (λ (h : ScriptCatalog). closed_by (next_line d.place) h) ready))

  -- nothing changes
  pub stays_to : (closed : Bool) (bytes : List ℕ) → (closed ≡ true → d.calls ≡ []) → TurnTo closed plan d (Goes bytes d)
  stays_to closed bytes none = inl (record {
    head_is = ready;
    each_is = refl;
    rows = rows;
    counted = counted;
    shut_is = none;
    table = refl;
    waiting = refl;
    batches = refl;
    requests = refl;
  })

  -- a batch that drains
  module _ (none : d.calls ≡ []) where
    calls_none : no_calls d.state ≡ onces.handed_in d
    calls_none = ap (λ (l : List Call). handed_at d.state l) (sym none)

    drained_to : (b : Bool) → TurnTo true plan d (as_doing d (if b then Goes (batch_text (plan_in d.place.head) d.each d.state (no_calls d.state))
        (step (run_of (plan_in d.place.head)) d.state (no_calls d.state))
        else Stops (refusal_text (record { line = d.place.lines; kind = Numbers }))))
    drained_to false = tt
    drained_to true = inr (record {
      head_is = ready;
      each_is = refl;
      rows = rows;
      counted = counted;
      shut_is = λ _. none;
      bytes_are = λ i. batch_text (plan_in (ready i)) d.each d.state (calls_none i);
      state_is = λ i. step (run_of (plan_in (ready i))) d.state (calls_none i);
    })

    drain_by : (b : Bool) → TurnTo true plan d (if b then Goes [] d else as_doing d (one_drained (plan_in d.place.head) d.each d.place.lines d.state))
    drain_by true = stays_to true [] (λ _. none)
    drain_by false = drained_to (nat_lt d.state.batches GREATEST_NUMBER)

    pub drain_to : TurnTo true plan d (on_drain d)
    drain_to = drain_by (length d.state.waiting == 0)

-- ---- turns

-- lines, the end of the input, and batches that drain
abbrev pub Shape : Bool → List Turn → Type 0
Shape closed [] = Unit {0}
Shape closed (At ∷ steps) = Shape closed steps
Shape closed (Line line ∷ steps) = (closed ≡ false) × Shape false steps
Shape closed (Past refusal ∷ steps) = Shape closed steps
Shape closed (Close ∷ steps) = Shape true steps
Shape closed (Drain ∷ steps) = (closed ≡ true) × Shape true steps
Shape closed (Listed ∷ steps) = Shape closed steps

module _ (plan : Plan) (each : Bool) where
  pub turn_to : (turn : Turn) (more : List Turn) (closed : Bool) → Shape closed (turn ∷ more) → (saved : Saved) (past : List (ℕ × List ℕ)) (d : Doing)
      → Tracks plan each closed saved past d → (after : Bool) × TurnTo after plan d (on_turn d turn) × Shape after more
  turn_to At more closed shape saved past d t = (closed, stays_to plan d t.head_is t.rows t.counted closed _ t.shut_is, shape)
  turn_to (Line line) more closed shape saved past d t = (false, line_to plan d t.head_is t.rows t.counted line, shape.1)
  turn_to (Past refusal) more closed shape saved past d t = (closed, tt, shape)
  turn_to Close more closed shape saved past d t = (true, close_to plan d t.head_is t.rows t.counted, shape)
  turn_to Drain more closed shape saved past d t = (true, drain_to plan d t.head_is t.rows t.counted (t.shut_is shape.0), shape.1)
  turn_to Listed more closed shape saved past d t = (closed, stays_to plan d t.head_is t.rows t.counted closed _ t.shut_is, shape)

module _ (plan : Plan) (each : Bool) (checkpoint : ℕ) where
  -- a turn and those behind it, where P holds of what stands behind all and of all answers
  by_course : (P : Saved → List (ℕ × List ℕ) → Type 0) (was closed : Bool) (steps : List Turn) (d : Doing) (saved : Saved) (past : List (ℕ × List ℕ))
      → Tracks plan each was saved past d → (c : Course Doing) → TurnTo closed plan d c
      → ((bytes : List ℕ) → c ≡ Stops bytes → P saved (past ++ []))
      → ((bytes : List ℕ) (next : Doing) → c ≡ Goes bytes next → (after : Saved) (more : List (ℕ × List ℕ)) → Tracks plan each closed after more next
      → P (saved_behind checkpoint steps next after) (more ++ answers steps next))
      → P (held_by_step on_turn (saved_then checkpoint) d saved (held_over on_turn (saved_then checkpoint) steps) c) (past ++ answers_by d (answers steps) c)
  by_course P was closed steps d saved past t (Stops bytes) to stop rest = stop bytes refl
  by_course P was closed steps d saved past t (Goes bytes next) (inl q) stop rest =
      let same : saved_then checkpoint saved d next ≡ saved =
      still_then saved (saved_more checkpoint saved (batch_of (onces.handed_in d)) next.state) d next q.batches in
      let quiet : answers_by d (answers steps) (Goes bytes next) ≡ answers steps next =
      still_then (answers steps next) ((next.state.batches, bytes) ∷ answers steps next) d next q.batches in
      subst (λ (s : Saved). P (saved_behind checkpoint steps next s) (past ++ answers_by d (answers steps) (Goes bytes next))) (sym same)
      (subst (λ (l : List (ℕ × List ℕ)). P (saved_behind checkpoint steps next saved) (past ++ l)) (sym quiet)
      (rest bytes next refl saved past (quiet_tracks plan each saved past d was closed next t q)))
  by_course P was closed steps d saved past t (Goes bytes next) (inr r) stop rest =
      let more = saved_more checkpoint saved (batch_of (onces.handed_in d)) next.state in
      let counted = counts plan each saved past d was closed bytes next t r in
      let is : saved_then checkpoint saved d next ≡ more = ran_then saved more d next counted in
      let told : answers_by d (answers steps) (Goes bytes next) ≡ (next.state.batches, bytes) ∷ answers steps next =
      ran_then (answers steps next) ((next.state.batches, bytes) ∷ answers steps next) d next counted in
      subst (λ (s : Saved). P (saved_behind checkpoint steps next s) (past ++ answers_by d (answers steps) (Goes bytes next))) (sym is)
      (subst (λ (l : List (ℕ × List ℕ)). P (saved_behind checkpoint steps next more) l)
      (append_assoc past ((next.state.batches, bytes) ∷ []) (answers steps next) ∙ ap (λ (l : List (ℕ × List ℕ)). past ++ l) (sym told))
      (rest bytes next refl more (past ++ (next.state.batches, bytes) ∷ [])
      (ran_tracks plan each saved past d was closed bytes next t r checkpoint)))

  abbrev IsReplayed : Saved → List (ℕ × List ℕ) → Type 0
  IsReplayed saved answered = replies_behind each saved.c saved.later ≡ later_than saved.c.head.batches answered

  nothing_more : (closed : Bool) (d : Doing) (saved : Saved) (past : List (ℕ × List ℕ)) → Tracks plan each closed saved past d → IsReplayed saved (past ++ [])
  nothing_more closed d saved past t = t.answered ∙ ap (λ (l : List (ℕ × List ℕ)). later_than saved.c.head.batches l) (sym (append-nil past))

  pub is_replayed : (steps : List Turn) (closed : Bool) → Shape closed steps → (d : Doing) (saved : Saved) (past : List (ℕ × List ℕ))
      → Tracks plan each closed saved past d → IsReplayed (saved_behind checkpoint steps d saved) (past ++ answers steps d)
  is_replayed [] closed shape d saved past t = nothing_more closed d saved past t
  is_replayed (turn ∷ steps) closed shape d saved past t =
      let to = turn_to plan each turn steps closed shape saved past d t in
      by_course IsReplayed closed to.0 steps d saved past t (on_turn d turn) to.1 (λ bytes e. nothing_more closed d saved past t)
      (λ bytes next e after more k. is_replayed steps to.0 to.2 next after more k)

  -- the catalogue stays
  pub plan_stays : (steps : List Turn) (closed : Bool) → Shape closed steps → (d : Doing) (saved : Saved) (past : List (ℕ × List ℕ))
      → Tracks plan each closed saved past d → (saved_behind checkpoint steps d saved).c.plan ≡ plan
  plan_stays [] closed shape d saved past t = t.under
  plan_stays (turn ∷ steps) closed shape d saved past t =
      let to = turn_to plan each turn steps closed shape saved past d t in
      by_course (λ s answered. s.c.plan ≡ plan) closed to.0 steps d saved past t (on_turn d turn) to.1 (λ bytes e. t.under)
      (λ bytes next e after more k. plan_stays steps to.0 to.2 next after more k)

  -- ---- where they go on

  -- and the turns behind them
  pub record TracksOn (rest : List Turn) (here : Doing) (saved : Saved) (answered : List (ℕ × List ℕ)) : Type 0 where
    pub closed : Bool
    pub shape : Shape closed rest
    pub tracks : Tracks plan each closed saved answered here

  pub tracks_on : (steps rest : List Turn) (closed : Bool) → Shape closed (steps ++ rest) → (d here : Doing) (saved : Saved) (past : List (ℕ × List ℕ))
      (printed : List ℕ) → Tracks plan each closed saved past d → over on_turn steps d ≡ Goes printed here
      → TracksOn rest here (saved_behind checkpoint steps d saved) (past ++ answers steps d)
  tracks_on [] rest closed shape d here saved past printed t goes = record {
    closed = closed;
    shape = shape;
    tracks = subst (λ (l : List (ℕ × List ℕ)). Tracks plan each closed saved l here) (sym (append-nil past))
        (subst (λ (x : Doing). Tracks plan each closed saved past x) (same_state [] printed d here goes) t);
  }
  tracks_on (turn ∷ steps) rest closed shape d here saved past printed t goes =
      let to = turn_to plan each turn (steps ++ rest) closed shape saved past d t in
      by_course (TracksOn rest here) closed to.0 steps d saved past t (on_turn d turn) to.1
      (λ bytes e. not_both bytes printed here (sym (ap (λ (c : Course Doing). onward (over on_turn steps) c) e) ∙ goes))
      (λ bytes next e after more k.
      let g = goes_behind bytes printed here (over on_turn steps next) (sym (ap (λ (c : Course Doing). onward (over on_turn steps) c) e) ∙ goes) in
      tracks_on steps rest to.0 to.2 next here after more g.more k g.goes)

-- a turn that runs a batch prints its answer
pub at_work : (plan : Plan) (d next : Doing) (closed : Bool) (bytes : List ℕ) (c : Course Doing) → TurnTo closed plan d c → c ≡ Goes bytes next
    → next.state.batches ≡ d.state.batches + 1 → d.place.head ≡ head.Ready plan → text_of d ≡ bytes
at_work plan d next closed bytes c to is counted ready =
    by_to (subst (λ (x : Course Doing). TurnTo closed plan d x) is to)
  where
    by_to : TurnTo closed plan d (Goes bytes next) → text_of d ≡ bytes
    by_to (inl q) = absurd (let same = q.batches in omega (arith, same, counted))
    by_to (inr r) = ap (λ (h : ScriptCatalog). batch_text (plan_in h) d.each d.state (onces.handed_in d)) ready ∙ sym r.bytes_are
