-- A script over a store that was opened: what it tells first, and all that follows.
use Rattle.std.proofs.Common.{◌≡◌, ◌≢◌, ◌⊎◌, inl, inr, ◌∙◌, sym, ap, subst, refl, ℕ, Bool, true, false, List, [], ◌∷◌, Option, Some, None, IfSome, arith}
use Rattle.std.proofs.KnownBytes.{Appends-nil, Appends-trans}
use Rattle.std.proofs.Math.Nat.{le_refl}
use Rattle.std.specs.Prelude.{Result, Ok, Err}
use Rattle.std.specs.Io.KnownBytes.{Appends}
use Rattle.answer_text.specs.Notices.{at_text}
use Rattle.aria_base.specs.Streams.{AppendsFront}
use Rattle.aria_store.specs.Reopens.{Reopened, Reopens, NoStore, Damaged, Found}
use Rattle.batch_core.specs.Steps.{State}
use Rattle.command_words.specs.declared.settings.Run.{Run}
use Rattle.disk_model.proofs.Spans.{leaves_more, leaves_then}
use Rattle.disk_model.specs.Histories.{History, LeavesAll, MayLeave}
use Rattle.image_text.specs.Payloads.{Batch}
use Rattle.proc_lang.specs.Catalogs.{Plan}
use Rattle.script_course.proofs.Turns.{front_longer, front_none}
use Rattle.script_course.specs.Courses.{Course, Goes, Out, Stops, behind, out_behind, told, whole}
use Rattle.script_course.specs.Served.{Completes, Finishes, FinishesCut, IsSoFar, Serves, Tells}
use Rattle.script_course.specs.declared.stops.Stop.{Stop}
use Rattle.script_course.specs.declared.stops.Stop.TheVariants as stop
use Rattle.serving.specs.Lives.{plan_of, state_of}
use Rattle.serving.proofs.Storing.{by_state}
use Rattle.serving.specs.Stored.{IsLogging, LeavesState, crowded, state_behind, stored_state}
use Rattle.serving.specs.declared.lives.Live.{Live}
use Rattle.slot_images.specs.Images.{Checkpoint}
use Rattle.store_openings.specs.Openings.{IsOpenedAs, IsRefusalOf, ReopensToOpened, opened, opened_at}
use Rattle.store_openings.specs.Saved.{HoldsSaved, Saved, is_full, laid, laid_where, saved_in}
use Rattle.store_openings.specs.declared.refusals.NotOpened.{NotOpened}
use Rattle.store_openings.specs.declared.refusals.NotOpened.TheVariants as refusal
use Rattle.run_commands.specs.Endings.{HoldsLive}
use Rattle.run_commands.specs.Keeps.{IsOpen, Keeps, LeavesLaid, ReopensAsGiven, ReopensToPassed, held_of}
use Rattle.run_commands.specs.Onces.{Doing, Running, on_end, on_line}
use Rattle.run_commands.specs.Outs.{is_each, no_line, text_turns}
use Rattle.run_commands.specs.Passes.{At, PassesTurns, held_behind, held_then, on_turn}
use Rattle.run_commands.specs.Resumes.{CompletesOver, HoldsOver, IsLeftOver, LeavesJust, LeavesOver, StandsOver, Outlives, PassesOver, RefusesStore, damaged_out, none_out, out_from, over, resumed, running_over, saved_first, start_over, told_from, turns_over}
use Rattle.run_commands.specs.Saves.{IsLeft, ReadsAs, saved_behind}
use Rattle.run_commands.specs.Turns.{HoldsScript, saved_over}
use Rattle.run_commands.proofs.Endings.{held_still, holds_leave, laid_as, saved_still}
use Rattle.run_commands.proofs.Kept.{keeps_cut, keeps_on, keeps_quiet}
use Rattle.script_course.proofs.Ends.{finishes_behind}
use Rattle.run_commands.proofs.Ran.{no_lines}
use Rattle.run_commands.proofs.Turns.{left_both, left_still, onward_none}
use Rattle.script_places.specs.Places.{plan_in}

-- the script over a database
pub script_is : (live : Live) (script : Running) → script.doing ≡ over live → script.store ≡ live.store → script.checkpoint ≡ live.checkpoint
    → script ≡ running_over live
script_is live script d s c = λ i. record { doing = d i; store = s i; checkpoint = c i }

pub open_over : (disk : History) (live : Live) (script : Running) → script ≡ running_over live → IsLogging disk live → IsOpen disk script
open_over disk live script is logging =
    subst (λ (s : Running). IsOpen disk s) (sym is) (record { logging = logging; lines = no_lines (plan_of live) [] live.store refl })

-- ---- what is printed, behind the count

all_behind : (out : List ℕ → Out) (first : List ℕ) (left ga gm gc : Option (List ℕ)) (result : Result ℕ Stop) → Appends ga gm first
    → IfSome left (λ text. Finishes (out text) gm gc result)
    → IfSome left (λ text. Finishes (out_behind first (out text)) ga gc result)
all_behind out first None ga gm gc result gives h = tt
all_behind out first (Some text) ga gm gc result gives h = finishes_behind first (out text) ga gm gc result gives h

so_far_behind : (c : Course Doing) (first : List ℕ) (ga gm gc : Option (List ℕ)) → Appends ga gm first → IsSoFar c gm gc → IsSoFar (behind first c) ga gc
so_far_behind (Goes bytes d) first ga gm gc gives h = Appends-trans ga gm gc first bytes gives h
so_far_behind (Stops bytes) first ga gm gc gives h = absurd h

told_behind : (told_of : List ℕ → Course Doing) (first : List ℕ) (left rest ga gm gc : Option (List ℕ)) (result : Result ℕ Stop) → Appends ga gm first
    → Tells told_of left rest gm gc result
    → Tells (λ text. behind first (told_of text)) left rest ga gc result
told_behind told_of first left rest ga gm gc (Ok status) gives h = tt
told_behind told_of first left rest ga gm gc (Err stop.Refused) gives h = tt
told_behind told_of first left rest ga gm gc (Err stop.NoMemory) gives h = tt
told_behind told_of first left rest ga gm gc (Err stop.NoWrite) gives h = tt
told_behind told_of first left rest ga gm gc (Err stop.NoDisk) gives h = tt
told_behind told_of first left rest ga gm gc (Err stop.NoRead) gives h = (h.0, h.1, so_far_behind (told_of h.0) first ga gm gc gives h.2)

-- nothing but a prefix of the count was given
none_cut : (out : List ℕ → Out) (left ga gm : Option (List ℕ)) (why : Stop) → why ≢ stop.Refused → ((text : List ℕ) → AppendsFront ga gm (out text).bytes)
    → IfSome left (λ text. FinishesCut (out text) ga gm why)
none_cut out None ga gm why other front = tt
none_cut out (Some text) ga gm stop.Refused other front = absurd (other refl)
none_cut out (Some text) ga gm stop.NoMemory other front = front text
none_cut out (Some text) ga gm stop.NoWrite other front = front text
none_cut out (Some text) ga gm stop.NoDisk other front = front text
none_cut out (Some text) ga gm stop.NoRead other front = front text

none_told : (told_of : List ℕ → Course Doing) (left rest ga gm : Option (List ℕ)) (why : Stop) → why ≢ stop.NoRead
    → Tells {A = ℕ} told_of left rest ga gm (Err why)
none_told told_of left rest ga gm stop.Refused other = tt
none_told told_of left rest ga gm stop.NoMemory other = tt
none_told told_of left rest ga gm stop.NoWrite other = tt
none_told told_of left rest ga gm stop.NoDisk other = tt
none_told told_of left rest ga gm stop.NoRead other = absurd (other refl)

module _ (drain : Bool) (d : Doing) (left rest ga : Option (List ℕ)) where
  abbrev Whole0 : Option (List ℕ) → Result ℕ Stop → Type 0
  Whole0 gc result = Completes (told_from d) (out_from drain d) left rest ga gc result

  pub completes_behind : (gm gc : Option (List ℕ)) (result : Result ℕ Stop) → Appends ga gm (at_text d.state.batches)
      → Completes (told on_line no_line d) (whole on_line (on_end drain) no_line d) left rest gm gc result → Whole0 gc result
  completes_behind gm gc result gives h = (
    all_behind (whole on_line (on_end drain) no_line d) (at_text d.state.batches) left ga gm gc result gives h.0,
    told_behind (told on_line no_line d) (at_text d.state.batches) left rest ga gm gc result gives h.1,
  )

  -- nothing but a prefix of the count was given
  pub completes_none : (gm : Option (List ℕ)) (why : Stop) → why ≢ stop.Refused → why ≢ stop.NoRead → AppendsFront ga gm (at_text d.state.batches)
      → Whole0 gm (Err why)
  completes_none gm why refused read front = (
    none_cut (out_from drain d) left ga gm why refused (λ text. front_longer ga gm (at_text d.state.batches)
        (whole on_line (on_end drain) no_line d text).bytes front),
    none_told (told_from d) left rest ga gm why read,
  )

-- ---- what a stop leaves, behind the count

module _ (drain : Bool) (first : ℕ) (saved : Saved) (live : Live) (a : History) (ga gm : Option (List ℕ)) (holds : HoldsLive first saved a live) where
  abbrev D0 : Doing
  D0 = over live

  abbrev Held0 : State
  Held0 = stored_state live

  leaves_here : LeavesState a (plan_of live) Held0
  leaves_here = holds_leave first saved live.checkpoint a (plan_of live) Held0 live.store holds

  abbrev state_in_course : Course Doing → State
  state_in_course (Goes b d) = d.state
  state_in_course (Stops b) = Held0

  at_stays : (bytes : List ℕ) (next : Doing) → Goes (at_text D0.state.batches) D0 ≡ Goes bytes next → held_then Held0 D0 next ≡ Held0
  at_stays bytes next e = held_still Held0 D0 next (ap state_in_course (sym e))

  at_keeps : (result : Result Doing Stop) → Serves (Goes (at_text D0.state.batches) D0) ga gm result
      → Keeps (PassesTurns (At ∷ []) D0 Held0) (plan_of live) a a ga gm
  at_keeps result serves = keeps_quiet on_turn held_then (plan_of live) At D0 Held0 a ga gm result at_stays serves leaves_here

  over_keeps : (c : History) (gc : Option (List ℕ)) (text : List ℕ) → Appends ga gm (at_text D0.state.batches)
      → Keeps (PassesTurns (text_turns drain D0 text) D0 Held0) (plan_of live) a c gm gc
      → Keeps (PassesTurns (turns_over drain D0 text) D0 Held0) (plan_of live) a c ga gc
  over_keeps c gc text gives k =
      keeps_on on_turn held_then (plan_of live) At (text_turns drain D0 text) D0 D0 Held0 (at_text D0.state.batches) a a c ga gm gc refl gives
      (at_keeps (Ok D0) (refl, gives))
      (subst (λ (s : State). Keeps (PassesTurns (text_turns drain D0 text) D0 s) (plan_of live) a c gm gc) (sym (held_still Held0 D0 D0 refl)) k)

  pub keeps_over : (left : Option (List ℕ)) (c : History) (gc : Option (List ℕ)) → Appends ga gm (at_text D0.state.batches)
      → IfSome left (λ text. Keeps (PassesTurns (text_turns drain D0 text) D0 Held0) (plan_of live) a c gm gc)
      → IfSome left (λ text. Keeps (PassesTurns (turns_over drain D0 text) D0 Held0) (plan_of live) a c ga gc)
  keeps_over None c gc gives k = tt
  keeps_over (Some text) c gc gives k = over_keeps c gc text gives k

  pub keeps_over_cut : (left : Option (List ℕ)) (why : Stop) → Serves (Goes (at_text D0.state.batches) D0) ga gm (Err why)
      → IfSome left (λ text. Keeps (PassesTurns (turns_over drain D0 text) D0 Held0) (plan_of live) a a ga gm)
  keeps_over_cut None why serves = tt
  keeps_over_cut (Some text) why serves = keeps_cut on_turn held_then (plan_of live) At (text_turns drain D0 text) D0 Held0 a a ga gm
      (at_keeps (Err why) serves)

  over_left : (c : History) (text : List ℕ) → LeavesAll a c (IsLeft live.checkpoint (text_turns drain D0 text) D0 saved)
      → LeavesAll a c (IsLeft live.checkpoint (turns_over drain D0 text) D0 saved)
  over_left c text h =
      left_both live.checkpoint (At ∷ []) (text_turns drain D0 text) D0 D0 saved (at_text D0.state.batches) (onward_none on_turn (on_turn D0 At)) a a c
      (left_still live.checkpoint first (At ∷ []) D0 saved a (plan_of live) Held0 live.store holds)
      (subst (λ (s : Saved). LeavesAll a c (IsLeft live.checkpoint (text_turns drain D0 text) D0 s)) (sym (saved_still live.checkpoint saved D0 D0 refl)) h)

  pub left_over : (left : Option (List ℕ)) (c : History)
      → IfSome left (λ text. LeavesAll a c (IsLeft live.checkpoint (text_turns drain D0 text) D0 saved))
      → IfSome left (λ text. LeavesAll a c (IsLeft live.checkpoint (turns_over drain D0 text) D0 saved))
  left_over None c h = tt
  left_over (Some text) c h = over_left c text h

  pub left_over_none : (left : Option (List ℕ)) → IfSome left (λ text. LeavesAll a a (IsLeft live.checkpoint (turns_over drain D0 text) D0 saved))
  left_over_none None = tt
  left_over_none (Some text) = left_still live.checkpoint first (turns_over drain D0 text) D0 saved a (plan_of live) Held0 live.store holds

  pub laid_over : (left : Option (List ℕ)) (c : History) → IfSome left
      (λ text. LeavesLaid first (saved_behind live.checkpoint (text_turns drain D0 text) D0 saved) live.checkpoint c (plan_of live)
      (held_behind (text_turns drain D0 text) D0 Held0))
      → IfSome left (λ text. LeavesLaid first (saved_behind live.checkpoint (turns_over drain D0 text) D0 saved) live.checkpoint c (plan_of live)
      (held_behind (turns_over drain D0 text) D0 Held0))
  laid_over None c h = tt
  laid_over (Some text) c h =
      let rest = text_turns drain D0 text in
      laid_as first live.checkpoint c (plan_of live) (saved_behind live.checkpoint rest D0 saved) (saved_behind live.checkpoint (At ∷ rest) D0 saved)
      (held_behind rest D0 Held0) (held_behind (At ∷ rest) D0 Held0)
      (ap (λ (x : Saved). saved_behind live.checkpoint rest D0 x) (sym (saved_still live.checkpoint saved D0 D0 refl)))
      (ap (λ (s : State). held_behind rest D0 s) (sym (held_still Held0 D0 D0 refl))) h

-- ---- by what was opened

-- the database is that of what was opened
start_is : (settings : Run) (live : Live) (c : Checkpoint) (later : List Batch) → live.each ≡ is_each settings.listing → IsOpenedAs (Found c later) live
    → over live ≡ start_over settings c later
start_is settings live c later each is = λ i. resumed (each i) (is.0 i) (is.1 i)

module _ (settings : Run) (live : Live) (each : live.each ≡ is_each settings.listing) (left rest ga gb : Option (List ℕ)) (result : Result ℕ Stop) where
  pub completes_opened : (found : Reopened) → IsOpenedAs found live
      → Completes (told_from (over live)) (out_from settings.drain (over live)) left rest ga gb result
      → CompletesOver settings found left rest ga gb result
  completes_opened NoStore is h = absurd is
  completes_opened (Damaged file at) is h = absurd is
  completes_opened (Found c later) is h =
      subst (λ (d : Doing). Completes (told_from d) (out_from settings.drain d) left rest ga gb result) (start_is settings live c later each is) h

  pub laid_opened : (images : ℕ → List ℕ) (c : Checkpoint) (later : List Batch) (disk : History) → IsOpenedAs (Found c later) live
      → live.checkpoint ≡ settings.checkpoint → stored_state live ≡ state_of live
      → IfSome left (λ text. LeavesLaid (state_of live).batches
      (saved_behind live.checkpoint (turns_over settings.drain (over live) text) (over live) (saved_first images c later)) live.checkpoint disk (plan_of live)
      (held_behind (turns_over settings.drain (over live) text) (over live) (stored_state live)))
      → IfSome left (λ text. HoldsOver settings images (Found c later) text disk)
  laid_opened images c later disk is checkpoint same h =
      let d = start_is settings live c later each is in
      let held : stored_state live ≡ (over live).state = same in
      let AsSo : ℕ → ℕ → Plan → Doing → State → Type 0 = λ first k plan e s. IfSome left (λ text. LeavesLaid first
      (saved_behind k (turns_over settings.drain e text) e (saved_first images c later)) k disk plan (held_behind (turns_over settings.drain e text) e s)) in
      let own = subst (λ (s : State). AsSo (state_of live).batches live.checkpoint (plan_of live) (over live) s) held h in
      let by = subst (λ (e : Doing). AsSo (state_of live).batches live.checkpoint (plan_of live) e e.state) d own in
      let start = start_over settings c later in
      let under = subst (λ (p : Plan). AsSo (state_of live).batches live.checkpoint p start (state_behind c later)) is.0 by in
      let from = subst (λ (s : State). AsSo s.batches live.checkpoint c.plan start (state_behind c later)) is.1 under in
      subst (λ (n : ℕ). AsSo (state_behind c later).batches n c.plan start (state_behind c later)) checkpoint from

-- before the count, what was opened is held
begun : (drain : Bool) (d : Doing) (text : List ℕ) → PassesOver drain d text d.state []
begun drain d text = inl (record { state = refl; count = 0; front = refl })

module _ (settings : Run) (c : Checkpoint) (later : List Batch) (text : List ℕ) where
  abbrev Passed : State → List ℕ → Type 0
  Passed = PassesOver settings.drain (start_over settings c later) text

  or_opened : (old : History) (images : ℕ → List ℕ) → MayLeave old old.now images ⊎ ReopensToOpened (Found c later) images
      → MayLeave old old.now images ⊎ ReopensToPassed Passed c.plan images
  or_opened old images (inl h) = inl h
  or_opened old images (inr h) =
      inr (record {
        state = state_behind c later;
        given = [];
        passed = begun settings.drain (start_over settings c later) text;
        reopens = by_state true c later c.plan (state_behind c later) images h;
      })

  exit_opened : (old : History) (ga gb : Option (List ℕ)) (images : ℕ → List ℕ) → Appends ga gb []
      → MayLeave old old.now images ⊎ ReopensToOpened (Found c later) images
      → ReopensAsGiven Passed c.plan ga gb images ⊎ (MayLeave old old.now images × Appends ga gb [])
  exit_opened old ga gb images none (inl h) = inr (h, none)
  exit_opened old ga gb images none (inr h) =
      inl (record {
        state = state_behind c later;
        given = [];
        passed = begun settings.drain (start_over settings c later) text;
        appends = none;
        reopens = by_state true c later c.plan (state_behind c later) images h;
      })

  -- it was opened, and the script ran
  outlives_ran : (old mid new : History) (ga gb : Option (List ℕ))
      → LeavesAll old mid (λ images. MayLeave old old.now images ⊎ ReopensToOpened (Found c later) images)
      → Keeps Passed c.plan mid new ga gb → Outlives Passed c.plan old new ga gb
  outlives_ran old mid new ga gb opened k = record {
    images = leaves_then old mid new (λ images. MayLeave old old.now images ⊎ ReopensToPassed Passed c.plan images)
        (leaves_more old mid (λ images. MayLeave old old.now images ⊎ ReopensToOpened (Found c later) images)
        (λ images. MayLeave old old.now images ⊎ ReopensToPassed Passed c.plan images) opened (or_opened old))
        (leaves_more mid new (ReopensToPassed Passed c.plan) (λ images. MayLeave old old.now images ⊎ ReopensToPassed Passed c.plan images) k.images
        (λ images h. inr h));
    exit = λ images may. inl (k.exit images may);
  }

  -- it was not
  outlives_none : (old new : History) (ga gb : Option (List ℕ)) → Appends ga gb []
      → LeavesAll old new (λ images. MayLeave old old.now images ⊎ ReopensToOpened (Found c later) images)
      → Outlives Passed c.plan old new ga gb
  outlives_none old new ga gb none opened = record {
    images = leaves_more old new (λ images. MayLeave old old.now images ⊎ ReopensToOpened (Found c later) images)
        (λ images. MayLeave old old.now images ⊎ ReopensToPassed Passed c.plan images) opened (or_opened old);
    exit = λ images may. exit_opened old ga gb images none (opened.each new.now opened.later (le_refl new.now) images may);
  }

only_left : (old : History) (images : ℕ → List ℕ) → MayLeave old old.now images ⊎ ⊥ → MayLeave old old.now images
only_left old images (inl h) = h
only_left old images (inr h) = absurd h

module _ (settings : Run) (old : History) where
  abbrev pub Opening : Reopened → History → Type 0
  Opening found new = LeavesAll old new (λ images. MayLeave old old.now images ⊎ ReopensToOpened found images)

  pub leaves_opened : (live : Live) (each : live.each ≡ is_each settings.listing) (found : Reopened) (left : Option (List ℕ)) (mid new : History)
      (ga gb : Option (List ℕ)) → IsOpenedAs found live
      → stored_state live ≡ state_of live → Opening found mid
      → IfSome left (λ text. Keeps (PassesTurns (turns_over settings.drain (over live) text) (over live) (stored_state live)) (plan_of live) mid new ga gb)
      → IfSome left (λ text. LeavesOver settings found text old new ga gb)
  leaves_opened live each NoStore left mid new ga gb is same opened k = absurd is
  leaves_opened live each (Damaged file at) left mid new ga gb is same opened k = absurd is
  leaves_opened live each (Found c later) None mid new ga gb is same opened k = tt
  leaves_opened live each (Found c later) (Some text) mid new ga gb is same opened k =
      let d = start_is settings live c later each is in
      let own = subst (λ (s : State). Keeps (PassesTurns (turns_over settings.drain (over live) text) (over live) s) (plan_of live) mid new ga gb) same k in
      let by = subst (λ (e : Doing). Keeps (PassesTurns (turns_over settings.drain e text) e e.state) (plan_of live) mid new ga gb) d own in
      let under = subst (λ (p : Plan). Keeps (PassesOver settings.drain (start_over settings c later) text) p mid new ga gb) is.0 by in
      outlives_ran settings c later text old mid new ga gb opened under

  pub leaves_refused : (found : Reopened) (left : Option (List ℕ)) (new : History) (ga gb : Option (List ℕ))
      → ((c : Checkpoint) (later : List Batch) → found ≡ Found c later → Appends ga gb []) → Opening found new
      → IfSome left (λ text. LeavesOver settings found text old new ga gb)
  leaves_refused found None new ga gb none opened = tt
  leaves_refused NoStore (Some text) new ga gb none opened =
      leaves_more old new (λ images. MayLeave old old.now images ⊎ ⊥) (MayLeave old old.now) opened (only_left old)
  leaves_refused (Damaged file at) (Some text) new ga gb none opened =
      leaves_more old new (λ images. MayLeave old old.now images ⊎ ⊥) (MayLeave old old.now) opened (only_left old)
  leaves_refused (Found c later) (Some text) new ga gb none opened = outlives_none settings c later text old new ga gb (none c later refl) opened

-- ---- the store is not opened

-- what is told of it
abbrev stop_of : Result ℕ Stop → Stop
stop_of (Ok status) = stop.NoMemory
stop_of (Err why) = why

abbrev IsOther : Result ℕ Stop → Type 0
IsOther result = result ≢ Err stop.NoRead

no_read : (why : Stop) → why ≢ stop.NoRead → IsOther (Err why)
no_read why other e = other (ap stop_of e)

module _ (settings : Run) (left ga gb : Option (List ℕ)) (result : Result ℕ Stop) where
  one_cut : (out : Out) (why : Stop) → why ≢ stop.Refused → FinishesCut out ga ga why
  one_cut out stop.Refused other = absurd (other refl)
  one_cut out stop.NoMemory other = front_none ga out.bytes
  one_cut out stop.NoWrite other = front_none ga out.bytes
  one_cut out stop.NoDisk other = front_none ga out.bytes
  one_cut out stop.NoRead other = front_none ga out.bytes

  none_given : (found : Reopened) (why : Stop) → why ≢ stop.Refused → why ≢ stop.NoRead → CompletesOver settings found left left ga ga (Err why)
  none_given NoStore why refused read = (one_cut none_out why refused, no_read why read)
  none_given (Damaged file at) why refused read = (one_cut (damaged_out file at) why refused, no_read why read)
  none_given (Found c later) why refused read =
      completes_none settings.drain (start_over settings c later) left left ga ga why refused read
      (front_none ga (at_text (start_over settings c later).state.batches))

  cut_over : (found : Reopened) (why : Stop) → why ≢ stop.Refused → why ≢ stop.NoRead → (result ≡ Err why) × (gb ≡ ga)
      → CompletesOver settings found left left ga gb result
  cut_over found why refused read h =
      subst (λ (r : Result ℕ Stop). CompletesOver settings found left left ga gb r) (sym h.0)
      (subst (λ (g : Option (List ℕ)). CompletesOver settings found left left ga g (Err why)) (sym h.1) (none_given found why refused read))

  pub completes_refused : (found : Reopened) (why : NotOpened) → IsRefusalOf found why → RefusesStore why ga gb result → result ≢ Err stop.NoRead
      → CompletesOver settings found left left ga gb result
  completes_refused found refusal.NoStore is h read = subst (λ (f : Reopened). CompletesOver settings f left left ga gb result) (sym is) (h, read)
  completes_refused found (refusal.Damaged file at) is h read = subst (λ (f : Reopened). CompletesOver settings f left left ga gb result) (sym is) (h, read)
  completes_refused found refusal.NoDisk is h read = cut_over found stop.NoDisk (λ e. absurd cc) (λ e. absurd cc) h
  completes_refused found refusal.NoMemory is h read = cut_over found stop.NoMemory (λ e. absurd cc) (λ e. absurd cc) h

  -- nothing was given of a store that was found
  pub none_of_found : (found : Reopened) (why : NotOpened) → IsRefusalOf found why → RefusesStore why ga gb result → (c : Checkpoint) (later : List Batch)
      → found ≡ Found c later → Appends ga gb []
  none_of_found found refusal.NoStore is h c later e = absurd (let both : NoStore ≡ Found c later = sym is ∙ e in cc)
  none_of_found found (refusal.Damaged file at) is h c later e = absurd (let both : Damaged file at ≡ Found c later = sym is ∙ e in cc)
  none_of_found found refusal.NoDisk is h c later e = subst (λ (g : Option (List ℕ)). Appends ga g []) (sym h.1) (Appends-nil ga)
  none_of_found found refusal.NoMemory is h c later e = subst (λ (g : Option (List ℕ)). Appends ga g []) (sym h.1) (Appends-nil ga)

-- ---- the first state

-- before the script every batch that the option divides is behind it
pub holds_first : (disk : History) (live : Live) (saved : Saved) → stored_state live ≡ state_of live
    → HoldsSaved disk (plan_of live) (stored_state live) live.store saved → HoldsLive (state_of live).batches saved disk live
holds_first disk live saved same h = record {
  stands = h;
  laid = λ number some above within divides. let n : (stored_state live).batches ≡ (state_of live).batches = ap (λ (s : State). s.batches) same in
      absurd (omega (arith, above, within, n));
}

-- ---- what a stop leaves, just so

module _ (settings : Run) (files : ℕ → List ℕ) (c : Checkpoint) (later : List Batch) (text : List ℕ) (old : History) where
  abbrev Left : (ℕ → List ℕ) → Type 0
  Left images = MayLeave old old.now images ⊎ Reopens images (Found c later) ⊎ IsLeftOver settings files c later text images

  -- of an opening
  opening_by : (full : Bool) → full ≡ is_full (saved_in files c later) → (mid : History)
      → (is_full (saved_in files c later) ≡ false → LeavesAll old mid (MayLeave old old.now))
      → LeavesAll old mid (λ images. MayLeave old old.now images ⊎ ReopensToOpened (Found c later) images) → LeavesAll old mid Left
  opening_by false is mid fresh all = leaves_more old mid (MayLeave old old.now) Left (fresh (sym is)) (λ images left. inl left)
  opening_by true is mid fresh all =
      leaves_more old mid (λ images. MayLeave old old.now images ⊎ ReopensToOpened (Found c later) images) Left all one
    where
      first_is : saved_first files c later ≡ laid (saved_in files c later) (state_behind c later)
      first_is = ap (λ (b : Bool). laid_where b (saved_in files c later) (state_behind c later)) (sym is)

      one : (images : ℕ → List ℕ) → MayLeave old old.now images ⊎ ReopensToOpened (Found c later) images → Left images
      one images (inl h) = inl h
      one images (inr (inl h)) = inr (inl h.reopens)
      one images (inr (inr h)) = inr (inr (record {
        front = [];
        rest = turns_over settings.drain (start_over settings c later) text;
        are = refl;
        reads = inl (subst (λ (s : Saved). ReadsAs s.c s.later images) (sym first_is) (h.1.reopens, h.1.roomy));
      }))

  pub opening_left : (mid : History) → (is_full (saved_in files c later) ≡ false → LeavesAll old mid (MayLeave old old.now))
      → LeavesAll old mid (λ images. MayLeave old old.now images ⊎ ReopensToOpened (Found c later) images) → LeavesAll old mid Left
  opening_left mid fresh all = opening_by (is_full (saved_in files c later)) refl mid fresh all

  -- and of the script over it
  pub just_ran : (mid new : History) (ga gb : Option (List ℕ)) → LeavesAll old mid Left → LeavesAll mid new (IsLeftOver settings files c later text)
      → LeavesJust settings files c later text old new ga gb
  just_ran mid new ga gb opened ran = record {
    images = leaves_then old mid new Left opened (leaves_more mid new (IsLeftOver settings files c later text) Left ran (λ images h. inr (inr h)));
    exit = λ images may. inl (ran.each new.now ran.later (le_refl new.now) images may);
  }

  pub just_none : (new : History) (ga gb : Option (List ℕ)) → Appends ga gb [] → LeavesAll old new Left
      → LeavesJust settings files c later text old new ga gb
  just_none new ga gb none opened = record { images = opened; exit = λ images may. inr none }

module _ (settings : Run) (files : ℕ → List ℕ) (live : Live) (each : live.each ≡ is_each settings.listing) (left ga gb : Option (List ℕ))
    (old mid new : History) where
  -- it was opened
  pub stands_opened : (c : Checkpoint) (later : List Batch) → IsOpenedAs (Found c later) live → live.checkpoint ≡ settings.checkpoint
      → (is_full (saved_in files c later) ≡ false → LeavesAll old mid (MayLeave old old.now))
      → LeavesAll old mid (λ images. MayLeave old old.now images ⊎ ReopensToOpened (Found c later) images)
      → IfSome left (λ text. LeavesAll mid new (IsLeft live.checkpoint (turns_over settings.drain (over live) text) (over live) (saved_first files c later)))
      → IfSome left (λ text. StandsOver settings files (Found c later) text old new ga gb)
  stands_opened c later is checkpoint fresh opened h =
      let d = start_is settings live c later each is in
      let AsSo : ℕ → Doing → Type 0 =
      λ k e. IfSome left (λ text. LeavesAll mid new (IsLeft k (turns_over settings.drain e text) e (saved_first files c later))) in
      let own = subst (λ (e : Doing). AsSo live.checkpoint e) d h in
      all_some left (subst (λ (k : ℕ). AsSo k (start_over settings c later)) checkpoint own)
      (λ text ran. just_ran settings files c later text old mid new ga gb (opening_left settings files c later text old mid fresh opened) ran)
    where
      all_some : {P Q : List ℕ → Type 0} (o : Option (List ℕ)) → IfSome o P → ((text : List ℕ) → P text → Q text) → IfSome o Q
      all_some None h more = tt
      all_some (Some text) h more = more text h

-- it was not
module _ (settings : Run) (files : ℕ → List ℕ) (ga gb : Option (List ℕ)) (old new : History) where
  pub stands_refused : (found : Reopened) (left : Option (List ℕ))
      → ((c : Checkpoint) (later : List Batch) → found ≡ Found c later → Appends ga gb [])
      → ((c : Checkpoint) (later : List Batch) → found ≡ Found c later → is_full (saved_in files c later) ≡ false → LeavesAll old new (MayLeave old old.now))
      → LeavesAll old new (λ images. MayLeave old old.now images ⊎ ReopensToOpened found images)
      → IfSome left (λ text. StandsOver settings files found text old new ga gb)
  stands_refused found None none fresh opened = tt
  stands_refused NoStore (Some text) none fresh opened = tt
  stands_refused (Damaged file at) (Some text) none fresh opened = tt
  stands_refused (Found c later) (Some text) none fresh opened =
      just_none settings files c later text old new ga gb (none c later refl)
      (opening_left settings files c later text old new (fresh c later refl) opened)

-- ---- by what the files read as

-- what they are opened as is what they read as, where it is a checkpoint
pub opened_found : (images : ℕ → List ℕ) (found : Reopened) (c : Checkpoint) (later : List Batch) → opened images found ≡ Found c later → found ≡ Found c later
opened_found images NoStore c later e = absurd (cc e)
opened_found images (Damaged file at) c later e = absurd (cc e)
opened_found images (Found k more) c later e = by_room (crowded k more) e
  where
    by_room : (place : Option ℕ) → opened_at images k more place ≡ Found c later → Found k more ≡ Found c later
    by_room None e = e
    by_room (Some place) e = absurd (cc e)

-- where they read as a checkpoint with batches, what holds of them holds of what they are opened as
module _ (images : ℕ → List ℕ) (live : Live) (P : Reopened → Type 0)
    (each : (c : Checkpoint) (later : List Batch) → Reopens images (Found c later) → IsOpenedAs (Found c later) live → P (Found c later)) where
  by_place : (c : Checkpoint) (later : List Batch) (place : Option ℕ) → Reopens images (Found c later) → IsOpenedAs (opened_at images c later place) live
      → P (opened_at images c later place)
  by_place c later None reopens is = each c later reopens is
  by_place c later (Some place) reopens is = absurd is

  pub by_found : (found : Reopened) → Reopens images found → IsOpenedAs (opened images found) live → P (opened images found)
  by_found NoStore reopens is = absurd is
  by_found (Damaged file at) reopens is = absurd is
  by_found (Found c later) reopens is = by_place c later (crowded c later) reopens is

-- ---- what the steps of `run` come to

-- the script that goes on behind the count is the one before it
pub script_told : (live : Live) (script told_on : Running) (ga gm : Option (List ℕ)) → script.doing ≡ over live → script.store ≡ live.store
    → script.checkpoint ≡ live.checkpoint
    → Serves (Goes (at_text script.doing.state.batches) script) ga gm (Ok told_on) → told_on ≡ running_over live
script_told live script told_on ga gm d s c serves = serves.0 ∙ script_is live script d s c

at_given : (live : Live) (script told_on : Running) (ga gm : Option (List ℕ)) → script.doing ≡ over live
    → Serves (Goes (at_text script.doing.state.batches) script) ga gm (Ok told_on)
    → Appends ga gm (at_text (over live).state.batches)
at_given live script told_on ga gm d serves = subst (λ (e : Doing). Appends ga gm (at_text e.state.batches)) d serves.1

at_cut : (live : Live) (script : Running) (ga gm : Option (List ℕ)) (why : Stop) → script.doing ≡ over live
    → Serves (Goes (at_text script.doing.state.batches) script) ga gm (Err why)
    → Serves (Goes (at_text (over live).state.batches) (over live)) ga gm (Err why)
at_cut live script ga gm stop.Refused d serves = absurd serves
at_cut live script ga gm stop.NoMemory d serves = subst (λ (e : Doing). AppendsFront ga gm (at_text e.state.batches)) d serves
at_cut live script ga gm stop.NoWrite d serves = subst (λ (e : Doing). AppendsFront ga gm (at_text e.state.batches)) d serves
at_cut live script ga gm stop.NoDisk d serves = subst (λ (e : Doing). AppendsFront ga gm (at_text e.state.batches)) d serves
at_cut live script ga gm stop.NoRead d serves = absurd serves

cut_is_none : (drain : Bool) (d : Doing) (left rest ga gm : Option (List ℕ)) (why : Stop) → Serves (Goes (at_text d.state.batches) d) ga gm (Err why)
    → Completes (told_from d) (out_from drain d) left rest ga gm (Err why)
cut_is_none drain d left rest ga gm stop.Refused serves = absurd serves
cut_is_none drain d left rest ga gm stop.NoMemory serves = completes_none drain d left rest ga gm stop.NoMemory (λ e. absurd cc) (λ e. absurd cc) serves
cut_is_none drain d left rest ga gm stop.NoWrite serves = completes_none drain d left rest ga gm stop.NoWrite (λ e. absurd cc) (λ e. absurd cc) serves
cut_is_none drain d left rest ga gm stop.NoDisk serves = completes_none drain d left rest ga gm stop.NoDisk (λ e. absurd cc) (λ e. absurd cc) serves
cut_is_none drain d left rest ga gm stop.NoRead serves = absurd serves

pub completes_memory : (drain : Bool) (d : Doing) (left rest ga : Option (List ℕ))
    → Completes (told_from d) (out_from drain d) left rest ga ga (Err stop.NoMemory)
completes_memory drain d left rest ga = completes_none drain d left rest ga ga stop.NoMemory (λ e. absurd cc) (λ e. absurd cc)
    (front_none ga (at_text d.state.batches))

pub completes_at : (drain : Bool) (live : Live) (script told_on : Running) (left rest ga gm gc : Option (List ℕ)) (result : Result ℕ Stop)
    → script.doing ≡ over live → script.store ≡ live.store
    → script.checkpoint ≡ live.checkpoint → Serves (Goes (at_text script.doing.state.batches) script) ga gm (Ok told_on)
    → Completes (told on_line no_line told_on.doing) (whole on_line (on_end drain) no_line told_on.doing) left rest gm gc result
    → Completes (told_from (over live)) (out_from drain (over live)) left rest ga gc result
completes_at drain live script told_on left rest ga gm gc result d s c serves h =
    let is = script_told live script told_on ga gm d s c serves in
    completes_behind drain (over live) left rest ga gm gc result (at_given live script told_on ga gm d serves)
    (subst (λ (x : Running). Completes (told on_line no_line x.doing) (whole on_line (on_end drain) no_line x.doing) left rest gm gc result) is h)

pub completes_cut_at : (drain : Bool) (live : Live) (script : Running) (left rest ga gm : Option (List ℕ)) (why : Stop) → script.doing ≡ over live
    → script.store ≡ live.store
    → script.checkpoint ≡ live.checkpoint → Serves (Goes (at_text script.doing.state.batches) script) ga gm (Err why)
    → Completes (told_from (over live)) (out_from drain (over live)) left rest ga gm (Err why)
completes_cut_at drain live script left rest ga gm why d s c serves = cut_is_none drain (over live) left rest ga gm why (at_cut live script ga gm why d serves)

module _ (drain : Bool) (first : ℕ) (saved : Saved) (live : Live) (a : History) where
  pub keeps_memory : (ga : Option (List ℕ)) → HoldsLive first saved a live → (left : Option (List ℕ))
      → IfSome left (λ text. Keeps (PassesTurns (turns_over drain (over live) text) (over live) (stored_state live)) (plan_of live) a a ga ga)
  keeps_memory ga holds left = keeps_over_cut drain first saved live a ga ga holds left stop.NoMemory (front_none ga (at_text (over live).state.batches))

  module _ (ga gm : Option (List ℕ)) (holds : HoldsLive first saved a live) (script : Running) where
    pub keeps_cut_at : (left : Option (List ℕ)) (why : Stop) → script.doing ≡ over live → script.store ≡ live.store → script.checkpoint ≡ live.checkpoint
        → Serves (Goes (at_text script.doing.state.batches) script) ga gm (Err why)
        → IfSome left (λ text. Keeps (PassesTurns (turns_over drain (over live) text) (over live) (stored_state live)) (plan_of live) a a ga gm)
    keeps_cut_at left why d s c serves = keeps_over_cut drain first saved live a ga gm holds left why (at_cut live script ga gm why d serves)

    module _ (told_on : Running) (left : Option (List ℕ)) (z : History) where
      abbrev Behind : Running → Option (List ℕ) → Type 0
      Behind x gc = HoldsScript first saved a x
          → IfSome left (λ text. Keeps (PassesTurns (text_turns drain x.doing text) x.doing (held_of x)) (plan_in x.doing.place.head) a z gm gc)

      abbrev LeftBehind : Running → Type 0
      LeftBehind x = HoldsScript first saved a x → IfSome left (λ text. LeavesAll a z (IsLeft x.checkpoint (text_turns drain x.doing text) x.doing saved))

      pub left_at : script.doing ≡ over live → script.store ≡ live.store → script.checkpoint ≡ live.checkpoint
          → Serves (Goes (at_text script.doing.state.batches) script) ga gm (Ok told_on) → LeftBehind told_on
          → IfSome left (λ text. LeavesAll a z (IsLeft live.checkpoint (turns_over drain (over live) text) (over live) saved))
      left_at d s c serves h =
          let is = script_told live script told_on ga gm d s c serves in
          left_over drain first saved live a ga gm holds left z (subst (λ (x : Running). LeftBehind x) is h holds)

      abbrev LaidBehind : Running → Type 0
      LaidBehind x = HoldsScript first saved a x
          → IfSome left (λ text. LeavesLaid first (saved_over (text_turns drain x.doing text) x saved) x.checkpoint z (plan_in x.doing.place.head)
          (held_behind (text_turns drain x.doing text) x.doing (held_of x)))

      pub keeps_at : (gc : Option (List ℕ)) → script.doing ≡ over live → script.store ≡ live.store → script.checkpoint ≡ live.checkpoint
          → Serves (Goes (at_text script.doing.state.batches) script) ga gm (Ok told_on) → Behind told_on gc
          → IfSome left (λ text. Keeps (PassesTurns (turns_over drain (over live) text) (over live) (stored_state live)) (plan_of live) a z ga gc)
      keeps_at gc d s c serves h =
          let is = script_told live script told_on ga gm d s c serves in
          keeps_over drain first saved live a ga gm holds left z gc (at_given live script told_on ga gm d serves)
          (subst (λ (x : Running). Behind x gc) is h holds)

      pub laid_at : script.doing ≡ over live → script.store ≡ live.store → script.checkpoint ≡ live.checkpoint
          → Serves (Goes (at_text script.doing.state.batches) script) ga gm (Ok told_on) → LaidBehind told_on
          → IfSome left (λ text. LeavesLaid first (saved_behind live.checkpoint (turns_over drain (over live) text) (over live) saved) live.checkpoint z
          (plan_of live) (held_behind (turns_over drain (over live) text) (over live) (stored_state live)))
      laid_at d s c serves h =
          let is = script_told live script told_on ga gm d s c serves in
          laid_over drain first saved live a ga gm holds left z (subst (λ (x : Running). LaidBehind x) is h holds)
