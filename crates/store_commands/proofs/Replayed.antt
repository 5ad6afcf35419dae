-- What stands in a store, run again and printed: where one stands between two batches, and what is printed where there is no batch to run.
use Rattle.std.proofs.Common.{◌≡◌, ◌∙◌, sym, ap, subst, refl, ℕ, ◌+◌, ◌≤◌, Bool, true, false, List, [], ◌∷◌, Option, Some, None, arith}
use Rattle.std.specs.Prelude.{Result, Ok, Err, IfErr, IfOk, IfSome}
use Rattle.std.specs.Io.KnownBytes.{Appends}
use Rattle.std.specs.Option.{IsSomeAnd}
use Rattle.aria_base.specs.Faults.{Rose}
use Rattle.aria_base.specs.Streams.{AppendsFront}
use Rattle.aria_base.specs.declared.limits.TheConstants.{GREATEST_NUMBER}
use Rattle.aria_store.specs.Causes.{AttachCause}
use Rattle.aria_store.specs.Reopens.{Damaged, Found, NoStore, Reopened, Reopens}
use Rattle.aria_store.proofs.Founds.{reopens_once}
use Rattle.batch_core.specs.Steps.{Handed, State, step}
use Rattle.batch_engine.specs.Engines.{Between}
use Rattle.command_words.specs.declared.settings.Replay.{Replay}
use Rattle.dep_rules.specs.declared.configs.Config.{Config}
use Rattle.disk_model.specs.Files.{File}
use Rattle.disk_model.specs.Histories.{History, MayLeave, current}
use Rattle.image_text.specs.Payloads.{Batch}
use Rattle.input_log.specs.Layout.{log_of}
use Rattle.proc_lang.specs.Catalogs.{Plan, run_of}
use Rattle.run_commands.specs.Onces.{listed}
use Rattle.run_commands.specs.Outs.{is_each}
use Rattle.script_course.proofs.Turns.{front_longer, front_none}
use Rattle.script_course.specs.Causes.{IsCause}
use Rattle.script_course.specs.Courses.{Goes, Out, out_behind}
use Rattle.script_course.specs.Served.{Finishes, Serves}
use Rattle.script_course.specs.declared.stops.Stop.{Stop}
use Rattle.script_course.specs.declared.stops.Stop.TheVariants as stop
use Rattle.serving.specs.Lives.{IsRunnable, batch_text, first_state, next_text, plan_of, state_of}
use Rattle.serving.specs.Stored.{handed_in, is_crowded, state_at}
use Rattle.serving.specs.declared.lives.Live.{Live}
use Rattle.slot_images.specs.Images.{Checkpoint}
use Rattle.store_files.proofs.Syncs.{rose_later}
use Rattle.script_course.proofs.Ends.{finishes_behind}
use Rattle.store_files.specs.declared.refusals.StoreRefused.{StoreRefused}
use Rattle.store_files.specs.declared.refusals.StoreRefused.TheVariants as of_store
use Rattle.store_openings.specs.Openings.{AreRunnable, IsFaultOf, MayFollow, ReadsAs, log_in, offset_in}
use Rattle.store_openings.specs.Refusals.{IsFor}
use Rattle.store_openings.specs.Runs.{IsLook, IsStepped}
use Rattle.store_openings.specs.declared.refusals.NotOpened.{NotOpened}
use Rattle.store_openings.specs.declared.refusals.NotOpened.TheVariants as refusal
use Rattle.store_openings.proofs.Fits.{settled}
use Rattle.store_openings.proofs.Readings.{attach_fault, log_low}
use Rattle.store_openings.proofs.Ways.{below_here, chosen, may_follow_here, other}
use Rattle.store_commands.specs.Replays.{IsAnswered, IsCut, IsHalt, LeadsTo, crowded_out, out_of, replayed}
use Rattle.run_commands.specs.Resumes.{RefusesStore, damaged_out, none_out}
use Rattle.store_commands.specs.declared.steps.Halt.TheVariants as halt

-- ---- outputs behind bytes that were given

-- an output of which a prefix was given, whatever stopped it
pub finishes_cut : (out : Out) (old new : Option (List ℕ)) (why : Stop) → IsCut why → AppendsFront old new out.bytes → Finishes out old new (Err why)
finishes_cut out old new stop.Refused cut h = absurd cut
finishes_cut out old new stop.NoRead cut h = absurd cut
finishes_cut out old new stop.NoMemory cut h = h
finishes_cut out old new stop.NoWrite cut h = h
finishes_cut out old new stop.NoDisk cut h = h

-- ---- where one stands between two batches

-- From the start on so many of all these batches were run and printed, and these are left.
pub record IsOnWay (start : Live) (all : List Batch) (old : Option (List ℕ)) (live : Live) (place : ℕ) (now : Option (List ℕ))
    (rest : List Batch) : Type 0 where
  pub plan : plan_of live ≡ plan_of start
  pub each : live.each ≡ start.each
  pub runnable : IsRunnable live
  pub fit : AreRunnable (plan_of start) (state_of live).batches (state_of live).requests rest
  pub counted : (state_of live).batches ≡ (state_of start).batches + place
  pub leads : LeadsTo start all old (λ crowd. replayed (plan_of start) start.each crowd place (state_of live) rest) now

pub begun : (start : Live) (all : List Batch) (old : Option (List ℕ)) → IsRunnable start
    → AreRunnable (plan_of start) (state_of start).batches (state_of start).requests all
    → IsOnWay start all old start 0 old all
begun start all old runs fit = record {
  plan = refl;
  each = refl;
  runnable = runs;
  fit = fit;
  counted = omega arith;
  leads = λ crowd new result h. h;
}

module _ (start : Live) (all : List Batch) (old : Option (List ℕ)) (live : Live) (place : ℕ) (now : Option (List ℕ)) (batch : Batch) (rest : List Batch)
    (on : IsOnWay start all old live place now (batch ∷ rest)) where
  abbrev After : State
  After = step (run_of (plan_of start)) (state_of live) (handed_in batch)

  -- what is printed of this batch, and of those behind it
  abbrev Here : List ℕ
  Here = batch_text (plan_of start) start.each (state_of live) (handed_in batch)

  abbrev Behind : (ℕ → Out) → Out
  Behind crowd = replayed (plan_of start) start.each crowd (place + 1) After rest

  pub may_follow : MayFollow (plan_of live) (state_of live).batches (state_of live).requests batch
  may_follow = may_follow_here (plan_of start) live batch rest on.plan on.fit

  pub below : place + 1 ≤ GREATEST_NUMBER
  below = below_here (plan_of start) (state_of start).batches place (state_of live).batches (state_of live).requests batch rest on.counted on.fit

  pub crowd_here : is_crowded (state_of live) batch ≡ true → LeadsTo start all old (λ crowd. crowd place) now
  crowd_here here crowd new result h =
      on.leads crowd new result (subst (λ (out : Out). Finishes out now new result)
      (sym (chosen (is_crowded (state_of live) batch) (crowd place) (out_behind Here (Behind crowd)) here)) h)

  -- with room it is printed, and then the rest
  on_roomy : is_crowded (state_of live) batch ≡ false → LeadsTo start all old (λ crowd. out_behind Here (Behind crowd)) now
  on_roomy roomy crowd new result h =
      on.leads crowd new result (subst (λ (out : Out). Finishes out now new result)
      (sym (other (is_crowded (state_of live) batch) (crowd place) (out_behind Here (Behind crowd)) roomy)) h)

  here_is : batch_text (plan_of live) live.each (state_of live) (handed_in batch) ≡ Here
  here_is = ap (λ (plan : Plan). batch_text plan live.each (state_of live) (handed_in batch)) on.plan
      ∙ ap (λ (each : Bool). batch_text (plan_of start) each (state_of live) (handed_in batch)) on.each

  pub on_next : is_crowded (state_of live) batch ≡ false → (next : Live) (new : Option (List ℕ)) → IsStepped live batch next
      → Appends now new (batch_text (plan_of live) live.each (state_of live) (handed_in batch)) → IsOnWay start all old next (place + 1) new rest
  on_next roomy next mid s given =
      let state : state_of next ≡ After = s.state ∙ ap (λ (plan : Plan). step (run_of plan) (state_of live) (handed_in batch)) on.plan in
      let count : (state_of next).batches ≡ (state_of live).batches + 1 = ap (λ (q : State). q.batches) state in
      record {
        plan = s.plan ∙ on.plan;
        each = s.alike.each ∙ on.each;
        runnable = s.runnable;
        fit = subst (λ (q : State). AreRunnable (plan_of start) q.batches q.requests rest) (sym state) on.fit.1;
        counted = omega (arith, count, on.counted);
        leads = λ crowd new result h.
            on_roomy roomy crowd new result (finishes_behind Here (Behind crowd) now mid new result (subst (λ (l : List ℕ). Appends now mid l) here_is given)
            (subst (λ (q : State). Finishes (replayed (plan_of start) start.each crowd (place + 1) q rest) mid new result) state h));
      }

  -- its answer was cut off
  pub on_stop : is_crowded (state_of live) batch ≡ false → (why : Stop) (new : Option (List ℕ)) → IsCut why
      → AppendsFront now new (batch_text (plan_of live) live.each (state_of live) (handed_in batch)) → IsHalt start all old new (halt.Stopped why)
  on_stop roomy why new cut front = (
    cut,
    λ crowd. on_roomy roomy crowd new (Err why)
        (finishes_cut (out_behind Here (Behind crowd)) now new why cut
        (front_longer now new Here (Behind crowd).bytes (subst (λ (l : List ℕ). AppendsFront now new l) here_is front))),
  )

-- ---- what is printed of a batch goes by its own settings

text_by : (plan : Plan) (each : Bool) (a b : Config) (engines : List Between) (handed : Handed)
    → batch_text plan each (first_state a engines) handed ≡ batch_text plan each (first_state b engines) handed
text_by plan each a b [] handed = refl
text_by plan each a b (engine ∷ rest) handed = refl

pub text_settled : (live : Live) (batch : Batch) → next_text (settled live batch) batch.calls ≡ batch_text (plan_of live) live.each (state_of live)
    (handed_in batch)
text_settled live batch = text_by (plan_of live) live.each (settled live batch).config live.config live.replicas (handed_in batch)

pub done : (start : Live) (all : List Batch) (old : Option (List ℕ)) (live : Live) (place : ℕ) (now : Option (List ℕ)) → IsOnWay start all old live place now []
    → IsAnswered start all old now live
done start all old live place now on = record {
  leads = λ crowd new result h.
      on.leads crowd new result (subst (λ (plan : Plan). Finishes (listed plan start.each (state_of live)) now new result) on.plan
      (subst (λ (each : Bool). Finishes (listed (plan_of live) each (state_of live)) now new result) on.each h));
}

-- ---- what one call comes to

-- a batch that was given
module _ {R : Type 0} (bytes text : List ℕ) (next : R) (old new : Option (List ℕ)) where
  pub served_step : (P : R → Type 0) (result : Result R Stop) → P next → Serves (Goes bytes next) old new result → IfOk result P
  served_step P (Ok r) p h = subst P (sym h.0) p
  served_step P (Err why) p h = tt

  pub served_given : (result : Result R Stop) → bytes ≡ text → Serves (Goes bytes next) old new result → IfOk result (λ r. Appends old new text)
  served_given (Ok r) same h = subst (λ (l : List ℕ). Appends old new l) same h.1
  served_given (Err why) same h = tt

  pub served_front : (result : Result R Stop) → bytes ≡ text → Serves (Goes bytes next) old new result → IfErr result (λ why. AppendsFront old new text)
  served_front (Ok r) same h = tt
  served_front (Err stop.Refused) same h = absurd h
  served_front (Err stop.NoRead) same h = absurd h
  served_front (Err stop.NoMemory) same h = subst (λ (l : List ℕ). AppendsFront old new l) same h
  served_front (Err stop.NoWrite) same h = subst (λ (l : List ℕ). AppendsFront old new l) same h
  served_front (Err stop.NoDisk) same h = subst (λ (l : List ℕ). AppendsFront old new l) same h

-- the database of a checkpoint is replayed as the checkpoint is
pub replayed_from : (bytes : List ℕ) (later : List Batch) (plan p : Plan) (each e : Bool) (log l : ℕ) (state s : State) → plan ≡ p → each ≡ e → log ≡ l
    → state ≡ s
    → replayed plan each (crowded_out log bytes) 0 state later ≡ replayed p e (crowded_out l bytes) 0 s later
replayed_from bytes later plan p each e log l state s ps es ls ss =
    ap (λ (x : Plan). replayed x each (crowded_out log bytes) 0 state later) ps
    ∙ ap (λ (x : Bool). replayed p x (crowded_out log bytes) 0 state later) es
    ∙ ap (λ (x : ℕ). replayed p e (crowded_out x bytes) 0 state later) ls
    ∙ ap (λ (x : State). replayed p e (crowded_out l bytes) 0 x later) ss

-- ---- refusals

-- where nothing was told of a store, nothing was given, which is a prefix of every output
untold : (out : Out) (old new : Option (List ℕ)) (result : Result ℕ Stop) (why : Stop) → IsCut why → (result ≡ Err why) × (new ≡ old)
    → Finishes out old new result
untold out old new result why cut h =
    subst (λ (r : Result ℕ Stop). Finishes out old new r) (sym h.0)
    (subst (λ (g : Option (List ℕ)). Finishes out old g (Err why)) (sym h.1) (finishes_cut out old old why cut (front_none old out.bytes)))

module _ (out : Out) (old new : Option (List ℕ)) (result : Result ℕ Stop) where
  -- a refusal that is known to be told by this output
  abbrev IsTold : NotOpened → Type 0
  IsTold refusal.NoStore = out ≡ none_out
  IsTold (refusal.Damaged file at) = out ≡ damaged_out file at
  IsTold refusal.NoDisk = Unit {0}
  IsTold refusal.NoMemory = Unit {0}

  tells : (why : NotOpened) → IsTold why → RefusesStore why old new result → Finishes out old new result
  tells refusal.NoStore told h = subst (λ (o : Out). Finishes o old new result) (sym told) h
  tells (refusal.Damaged file at) told h = subst (λ (o : Out). Finishes o old new result) (sym told) h
  tells refusal.NoDisk told h = untold out old new result stop.NoDisk tt h
  tells refusal.NoMemory told h = untold out old new result stop.NoMemory tt h

-- ---- a record without room

crowded_is : (told : Option File) (log place file at : ℕ) (bytes : List ℕ) → file ≡ log → IfSome told (λ f. at ≡ offset_in (log_of f.seen) place)
    → IsSomeAnd told (λ f. f.seen ≡ bytes)
    → crowded_out log bytes place ≡ damaged_out file at
crowded_is None log place file at bytes same look is = absurd is
crowded_is (Some f) log place file at bytes same look is =
    sym (ap (λ (n : ℕ). damaged_out n at) same ∙ ap (λ (n : ℕ). damaged_out log n) (look ∙ ap (λ (l : List ℕ). offset_in (log_of l) place) is))

module _ (disk after : History) (log place : ℕ) where
  look_told : (bytes : List ℕ) (old new : Option (List ℕ)) (result : Result ℕ Stop) (why : NotOpened) → IsSomeAnd (current disk log) (λ f. f.seen ≡ bytes)
      → IsLook disk after log place why → IsTold (crowded_out log bytes place) old new result why
  look_told bytes old new result refusal.NoStore is look = absurd look
  look_told bytes old new result (refusal.Damaged file at) is look = crowded_is (current disk log) log place file at bytes look.0 look.1 is
  look_told bytes old new result refusal.NoDisk is look = tt
  look_told bytes old new result refusal.NoMemory is look = tt

  -- what a look at the log finds is told
  pub crowd_told : (bytes : List ℕ) (old new : Option (List ℕ)) (result : Result ℕ Stop) (why : NotOpened) → IsSomeAnd (current disk log) (λ f. f.seen ≡ bytes)
      → IsLook disk after log place why → RefusesStore why old new result → Finishes (crowded_out log bytes place) old new result
  crowd_told bytes old new result why is look h =
      tells (crowded_out log bytes place) old new result why (look_told bytes old new result why is look) h

  look_fault : (why : NotOpened) → IsLook disk after log place why → why ≡ refusal.NoDisk → Rose disk.faults after.faults
  look_fault why look is = subst (λ (w : NotOpened). IsLook disk after log place w) is look

-- ---- attaching

module _ (settings : Replay) (images : ℕ → List ℕ) (before disk : History) (found : Reopened) (left : MayLeave disk disk.now images)
    (reopens : Reopens images found) (old new : Option (List ℕ)) (result : Result ℕ Stop) where
  attach_told : (refused : StoreRefused) (why : NotOpened) → AttachCause before disk refused → IsFor refused why
      → IsTold (out_of settings images found) old new result why
  attach_told of_store.Memory why cause is = subst (IsTold (out_of settings images found) old new result) (sym is) tt
  attach_told of_store.DiskFault why cause is = subst (IsTold (out_of settings images found) old new result) (sym is) tt
  attach_told of_store.NoStore why cause is = subst (IsTold (out_of settings images found) old new result) (sym is)
      (ap (λ (f : Reopened). out_of settings images f) (reopens_once images found NoStore reopens (cause images left)))
  attach_told (of_store.Damaged file at) why cause is = subst (IsTold (out_of settings images found) old new result) (sym is)
      (ap (λ (f : Reopened). out_of settings images f) (reopens_once images found (Damaged file at) reopens (cause images left)))
  attach_told of_store.Exists why cause is = absurd cause
  attach_told (of_store.Closed faults) why cause is = absurd cause

  -- what is told where attaching was refused is the output of what the files read as
  pub attach_tells : (refused : StoreRefused) (why : NotOpened) → AttachCause before disk refused → IsFor refused why
      → RefusesStore why old new result → Finishes (out_of settings images found) old new result
  attach_tells refused why cause is h = tells (out_of settings images found) old new result why (attach_told refused why cause is) h

-- what was found is replayed as what the files read as
pub found_finishes : (settings : Replay) (images : ℕ → List ℕ) (disk : History) (c : Checkpoint) (later : List Batch) (found : Reopened)
    (old new : Option (List ℕ)) (result : Result ℕ Stop)
    → ReadsAs disk images → found ≡ Found c later
    → ((bytes : List ℕ) → IsSomeAnd (current disk (log_in c)) (λ f. f.seen ≡ bytes)
    → Finishes (replayed c.plan (is_each settings.listing) (crowded_out (log_in c) bytes) 0 (state_at c) later) old new result)
    → Finishes (out_of settings images found) old new result
found_finishes settings images disk c later found old new result reads same all =
    subst (λ (f : Reopened). Finishes (out_of settings images f) old new result) (sym same) (all (images (log_in c)) (reads (log_in c) (log_low c)))

-- ---- the cause of a stop

-- a stop whose causes tell others
cause_more : (sink wider disk other : Type 0) → (sink → wider) → (disk → other) → (result : Result ℕ Stop) → IfErr result (λ why. IsCause why sink disk)
    → IfErr result (λ why. IsCause why wider other)
cause_more sink wider disk other by_sink by_disk (Ok ending) h = tt
cause_more sink wider disk other by_sink by_disk (Err stop.Refused) h = tt
cause_more sink wider disk other by_sink by_disk (Err stop.NoMemory) h = tt
cause_more sink wider disk other by_sink by_disk (Err stop.NoWrite) h = by_sink h
cause_more sink wider disk other by_sink by_disk (Err stop.NoDisk) h = by_disk h
cause_more sink wider disk other by_sink by_disk (Err stop.NoRead) h = absurd h

pub attach_cause : (old disk : History) (sink : Type 0) (refused : StoreRefused) (why : NotOpened) (result : Result ℕ Stop) → AttachCause old disk refused
    → IsFor refused why → IfErr result (λ stop. IsCause stop sink (why ≡ refusal.NoDisk))
    → IfErr result (λ stop. IsCause stop sink (Rose old.faults disk.faults))
attach_cause old disk sink refused why result cause is h =
    cause_more sink sink (why ≡ refusal.NoDisk) (Rose old.faults disk.faults) (λ rose. rose)
    (λ e. subst (λ (w : NotOpened). IsFaultOf (Rose old.faults disk.faults) w) e (attach_fault old disk refused why cause is)) result h

-- and a fault of the sink behind the answers is one behind the start
pub crowd_cause : (old disk : History) (log place first mid last : ℕ) (why : NotOpened) (result : Result ℕ Stop) → IsLook old disk log place why → first ≤ mid
    → IfErr result (λ stop. IsCause stop (Rose mid last) (why ≡ refusal.NoDisk))
    → IfErr result (λ stop. IsCause stop (Rose first last) (Rose old.faults disk.faults))
crowd_cause old disk log place first mid last why result look le h =
    cause_more (Rose mid last) (Rose first last) (why ≡ refusal.NoDisk) (Rose old.faults disk.faults) (rose_later first mid last le)
    (look_fault old disk log place why look) result h

-- a fault of the disk behind attaching is one behind the start
pub replay_cause : (old mid new : History) (sink : Type 0) (result : Result ℕ Stop) → old.faults ≤ mid.faults
    → IfErr result (λ why. IsCause why sink (Rose mid.faults new.faults)) → IfErr result (λ why. IsCause why sink (Rose old.faults new.faults))
replay_cause old mid new sink result le h =
    cause_more sink sink (Rose mid.faults new.faults) (Rose old.faults new.faults) (λ rose. rose) (rose_later old.faults mid.faults new.faults le) result h

-- ---- the database of a checkpoint

pub fit_from : (plan p : Plan) (state s : State) (later : List Batch) → plan ≡ p → state ≡ s → AreRunnable p s.batches s.requests later
    → AreRunnable plan state.batches state.requests later
fit_from plan p state s later ps ss fit =
    subst (λ (x : State). AreRunnable plan x.batches x.requests later) (sym ss) (subst (λ (x : Plan). AreRunnable x s.batches s.requests later) (sym ps) fit)

pub read_from : (disk : History) (log l : ℕ) (bytes : List ℕ) → log ≡ l → IsSomeAnd (current disk l) (λ f. f.seen ≡ bytes)
    → IsSomeAnd (current disk log) (λ f. f.seen ≡ bytes)
read_from disk log l bytes same reads = subst (λ (n : ℕ). IsSomeAnd (current disk n) (λ f. f.seen ≡ bytes)) (sym same) reads
