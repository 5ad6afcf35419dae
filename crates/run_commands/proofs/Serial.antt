-- The requests that wait keep their numbers in order, so that each batch is serial.
use Rattle.std.proofs.Common.{◌≡◌, ap, sym, subst, ℕ, List, [], ◌∷◌, map, Option, Some, None, arith}
use Rattle.std.specs.Prelude.{Ok, Err}
use Rattle.batch_core.proofs.Serial.{all_serial, keeps_numbers}
use Rattle.answer_text.specs.Notices.{at_text}
use Rattle.aria_store.specs.Reopens.{Found, LogReads, OpenedReads, TakenReads}
use Rattle.batch_core.specs.Serial.{IsNumbered, RiseWithin}
use Rattle.batch_core.specs.Steps.{State, run, step}
use Rattle.checkpoint.specs.declared.heads.Head.{Head}
use Rattle.image_text.specs.Payloads.{Batch}
use Rattle.input_log.specs.Layout.{Log, Breaks, Ends}
use Rattle.command_words.specs.declared.settings.Once.{Once}
use Rattle.proc_lang.specs.Catalogs.{Plan, run_of}
use Rattle.script_course.specs.Courses.{Course, Goes, Stops, behind, told, with_fault, with_line, with_lines, whole}
use Rattle.script_places.specs.Places.{Asked, asked, plan_in}
use Rattle.script_places.specs.declared.deeds.Deed.{Deed}
use Rattle.script_places.specs.declared.deeds.Deed.TheVariants as deed
use Rattle.script_text.specs.Lines.{scan}
use Rattle.serving.specs.Stored.{handed_in as handed_batch, state_at}
use Rattle.slot_images.specs.Images as images
use Rattle.slot_images.specs.Images.{BodyReads, Checkpoint, IsBodyFor, Reading, values_in}
use Rattle.store_files.specs.Openings.{Damage, NoGate, Opened, Taken, opened_of}
use Rattle.script_text.specs.declared.refusals.Refusal.{Refusal}
use Rattle.run_commands.specs.Bases.{counts_of}
use Rattle.run_commands.specs.Onces.{Doing, done, done_by, handed_in, on_end, on_line}
use Rattle.run_commands.specs.Outs.{AreOne, IsAlike, is_each, no_line, start_by, start_of, told_of}
use Rattle.run_commands.specs.Resumes.{start_over, told_from}
use Rattle.run_commands.specs.Serial.{EachIsSerial, EachReplayIsSerial, EachRunIsSerial, GoesSerially}

abbrev Counted : Course Doing → Type 0
Counted (Goes bytes d) = IsNumbered d.state
Counted (Stops bytes) = Unit {0}

done_counted : (d : Doing) (asks : Deed) → IsNumbered d.state → Counted (done d asks)
done_counted d deed.Nothing h = h
done_counted d (deed.Put key row) h = h
done_counted d (deed.Call call) h = h
done_counted d (deed.Set rule percent) h = h
done_counted d (deed.Keep number) h = h
done_counted d deed.Run h = keeps_numbers (run_of (plan_in d.place.head)) d.state (handed_in d) h
done_counted d deed.Tell h = h

by_counted : (d : Doing) (a : Asked) → IsNumbered d.state → Counted (done_by d a)
by_counted d (Ok r) h = done_counted (record d { place = r.0 }) r.1 h
by_counted d (Err kind) h = tt

behind_counted : (bytes : List ℕ) (c : Course Doing) → Counted c → Counted (behind bytes c)
behind_counted bytes (Goes more d) h = h
behind_counted bytes (Stops more) h = tt

line_counted : (c : Course Doing) (line : List ℕ) → Counted c → Counted (with_line on_line c line)
line_counted (Goes bytes d) line h = behind_counted bytes (on_line d line) (by_counted d (asked d.place (counts_of d.state) line) h)
line_counted (Stops bytes) line h = tt

lines_counted : (c : Course Doing) (lines : List (List ℕ)) → Counted c → Counted (with_lines on_line c lines)
lines_counted c [] h = h
lines_counted c (line ∷ lines) h = lines_counted (with_line on_line c line) lines (line_counted c line h)

fault_counted : (c : Course Doing) (fault : Option Refusal) → Counted c → Counted (with_fault c fault)
fault_counted c None h = h
fault_counted (Goes bytes d) (Some refusal) h = tt
fault_counted (Stops bytes) (Some refusal) h = tt

serially : (c : Course Doing) → Counted c → GoesSerially c
serially (Goes bytes d) h = λ batches. all_serial (run_of (plan_in d.place.head)) d.state batches h
serially (Stops bytes) h = tt

pub each_is_serial : (settings : Once) (text : List ℕ) → EachIsSerial settings text
each_is_serial settings text =
    let s = scan no_line text in
    let begun : Counted (Goes [] (start_of settings)) = omega arith in
    serially (told_of settings text) (fault_counted (with_lines on_line (Goes [] (start_of settings)) s.lines) s.fault
    (lines_counted (Goes [] (start_of settings)) s.lines begun))

pub one_output : (first second : Once) (text : List ℕ) → IsAlike first second → AreOne first second text
one_output first second text alike =
    let start : start_of first ≡ start_of second = λ i. start_by (alike.rules i) (alike.fallbacks i) (is_each (alike.listings i)) in
    (ap (λ (d : Doing). told on_line no_line d text) start, λ i. whole on_line (on_end (alike.drains i)) no_line (start i) text)

-- ---- over a store

-- the requests that a store carries over have their numbers in order
numbered_in : (slot : ℕ) (c d : Checkpoint) (later : List Batch) (head : Head) (body : List ℕ) (log : Log) → d.head ≡ head → IsBodyFor head body (values_in d)
    → LogReads slot d log (Found c later)
    → IsNumbered (state_at c)
numbered_in slot c d later head body (Breaks at) same says h = absurd cc
numbered_in slot c d later head body (Ends payloads end) same says h =
    let own : IsNumbered (state_at d) = subst (λ (n : ℕ). RiseWithin (λ request. request.q) 0 d.held n)
    (ap (λ (x : Head). x.requests) (sym same)) says.carried.numbered in
    subst (λ (x : Checkpoint). IsNumbered (state_at x)) (sym h.0) own

numbered_taken : (slot : ℕ) (c : Checkpoint) (later : List Batch) (head : Head) (body : List ℕ) (log : Log) (reading : Reading) → BodyReads head body reading
    → TakenReads slot reading log (Found c later)
    → IsNumbered (state_at c)
numbered_taken slot c later head body log images.Nothing reads h = absurd reads
numbered_taken slot c later head body log (images.Broken at) reads h = absurd cc
numbered_taken slot c later head body log (images.Says d) reads h = numbered_in slot c d later head body log reads.0 reads.1 h

numbered_opened : (c : Checkpoint) (later : List Batch) (o : Opened) → OpenedReads o (Found c later) → IsNumbered (state_at c)
numbered_opened c later NoGate h = absurd cc
numbered_opened c later (Damage file at) h = absurd cc
numbered_opened c later (Taken slot head body log) h = numbered_taken slot c later head body log h.0 h.1 h.2

run_numbered : (plan : Plan) (state : State) (later : List Batch) → IsNumbered state → IsNumbered (run (run_of plan) state (map handed_batch later))
run_numbered plan state [] h = h
run_numbered plan state (batch ∷ later) h = run_numbered plan (step (run_of plan) state (handed_batch batch)) later
    (keeps_numbers (run_of plan) state (handed_batch batch) h)

pub each_run_is_serial : EachRunIsSerial
each_run_is_serial settings files c later text reopens =
    let d = start_over settings c later in
    let s = scan no_line text in
    let begun : Counted (Goes [] d) = run_numbered c.plan (state_at c) later (numbered_opened c later (opened_of files) reopens) in
    serially (told_from d text)
    (behind_counted (at_text d.state.batches) (told on_line no_line d text)
    (fault_counted (with_lines on_line (Goes [] d) s.lines) s.fault (lines_counted (Goes [] d) s.lines begun)))

pub each_replay_is_serial : EachReplayIsSerial
each_replay_is_serial files c later reopens =
    all_serial (run_of c.plan) (state_at c) (map handed_batch later) (numbered_opened c later (opened_of files) reopens)
