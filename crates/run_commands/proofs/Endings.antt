-- The turns behind the end of the input: the batches that drain what waits, and the last listing.
use Rattle.std.proofs.Common.{◌≡◌, ◌≢◌, ◌∙◌, sym, ap, subst, refl, ℕ, zero, suc, ◌+◌, ◌==◌, Bool, true, false, cond, List, [], ◌∷◌, ◌++◌, length, replicate, Option, Some, None, arith}
use Rattle.std.specs.Prelude.{Err, if◌then◌else◌}
use Rattle.std.specs.Io.KnownBytes.{Appends}
use Rattle.std.proofs.lemmas.Bool.{cond-true, cond-false}
use Rattle.aria_base.specs.Streams.{AppendsFront}
use Rattle.aria_store.specs.Stands.{Kept}
use Rattle.aria_store.proofs.Founds.{found_now}
use Rattle.batch_core.specs.Steps.{State}
use Rattle.disk_model.specs.Histories.{History, LeavesAll}
use Rattle.proc_lang.specs.Catalogs.{Plan}
use Rattle.script_course.specs.Courses.{Course, Goes, Stops, behind, printed}
use Rattle.script_course.specs.declared.stops.Stop.TheVariants as stop
use Rattle.script_course.proofs.Turns.{behind_nothing}
use Rattle.serving.specs.Drains.{drained, drains, goes_on, one_drained}
use Rattle.serving.specs.Stored.{LeavesState, ReopensToEither, batch_of}
use Rattle.store_openings.specs.Saved.{Saved}
use Rattle.run_commands.specs.Endings.{IsEnd, drains_of}
use Rattle.run_commands.specs.Keeps.{HoldsState, Keeps, LeavesLaid}
use Rattle.run_commands.specs.Onces.{Doing, handed_in}
use Rattle.run_commands.specs.Passes.{Drain, Listed, PassesTurns, Turn, as_doing, held_behind, held_by_step, held_over, held_then, on_drain, on_turn, onward, over}
use Rattle.run_commands.specs.Saves.{saved_behind, saved_more, saved_then}
use Rattle.run_commands.proofs.Kept.{keeps_batch, keeps_quiet, keeps_told}
use Rattle.run_commands.proofs.Ran.{held_leaves_all}
use Rattle.script_places.specs.Places.{plan_in}

-- ---- what is held

-- what is held is what a stop now leaves
pub holds_leave : (first : ℕ) (saved : Saved) (checkpoint : ℕ) (disk : History) (plan : Plan) (state : State) (store : Option Kept)
    → HoldsState first saved checkpoint disk plan state store → LeavesState disk plan state
holds_leave first saved checkpoint disk plan state store h = held_leaves_all disk plan state store saved.c saved.later h.stands.holds

-- by a checkpoint that has what it has to
pub holds_laid : (first : ℕ) (saved : Saved) (checkpoint : ℕ) (disk : History) (plan : Plan) (state : State) (store : Option Kept)
    → HoldsState first saved checkpoint disk plan state store → LeavesLaid first saved checkpoint disk plan state
holds_laid first saved checkpoint disk plan state None h = absurd h.stands.holds
holds_laid first saved checkpoint disk plan state (Some store) h = λ images left.
    record {
      reopens = found_now disk store saved.c saved.later h.stands.holds.stands images left;
      roomy = h.stands.holds.roomy;
      plan_is = h.stands.holds.plan_is;
      state_is = h.stands.holds.state_is;
      laid = h.laid;
    }

-- the same of another name
pub laid_as : (first checkpoint : ℕ) (disk : History) (plan : Plan) (saved other : Saved) (state as_well : State) → saved ≡ other → state ≡ as_well
    → LeavesLaid first saved checkpoint disk plan state → LeavesLaid first other checkpoint disk plan as_well
laid_as first checkpoint disk plan saved other state as_well p q h =
    subst (λ (x : Saved). LeavesLaid first x checkpoint disk plan as_well) p (subst (λ (s : State). LeavesLaid first saved checkpoint disk plan s) q h)

-- the count of batches tells whether a turn was a batch
pub ran_then : {X : Type 0} (held next : X) (before after : Doing) → after.state.batches ≡ before.state.batches + 1
    → (if after.state.batches == before.state.batches then held else next) ≡ next
ran_then held next before after e =
    let other : (after.state.batches == before.state.batches) ≡ false = grind (arith, e) in
    cond-false (after.state.batches == before.state.batches) held next other

pub still_then : {X : Type 0} (held next : X) (before after : Doing) → after.state.batches ≡ before.state.batches
    → (if after.state.batches == before.state.batches then held else next) ≡ held
still_then held next before after e =
    let same : (after.state.batches == before.state.batches) ≡ true = grind (arith, e) in
    cond-true (after.state.batches == before.state.batches) held next same

pub held_after : (held : State) (before after : Doing) → after.state.batches ≡ before.state.batches + 1 → held_then held before after ≡ after.state
held_after held before after e = ran_then held after.state before after e

pub held_still : (held : State) (before after : Doing) → after.state ≡ before.state → held_then held before after ≡ held
held_still held before after e = still_then held after.state before after (ap (λ (s : State). s.batches) e)

pub saved_still : (checkpoint : ℕ) (saved : Saved) (before after : Doing) → after.state ≡ before.state → saved_then checkpoint saved before after ≡ saved
saved_still checkpoint saved before after e =
    still_then saved (saved_more checkpoint saved (batch_of (handed_in before)) after.state) before after (ap (λ (s : State). s.batches) e)

-- ---- batches without new calls, one after the other

module _ (plan : Plan) (each : Bool) (line : ℕ) where
  none_drained : (n : ℕ) (state : State) → (length state.waiting == 0) ≡ true → drained plan each line n state ≡ Goes [] state
  none_drained zero state none = refl
  none_drained (suc n) state none =
      cond-true (length state.waiting == 0) (Goes [] state) (goes_on (drained plan each line n) (one_drained plan each line state)) none

as_behind : (d : Doing) (s : State) (bytes : List ℕ) (c : Course State) → behind bytes (as_doing (record d { state = s }) c) ≡ as_doing d (behind bytes c)
as_behind d s bytes (Goes more t) = refl
as_behind d s bytes (Stops more) = refl

abbrev Turns : ℕ → Doing → Course Doing
Turns n d = over on_turn (replicate n Drain) d

abbrev Drained : ℕ → Doing → State → Course State
Drained n d state = drained (plan_in d.place.head) d.each d.place.lines n state

drain_by : (n : ℕ) (d : Doing) (c : Course State) → ((s : State) → Turns n (record d { state = s }) ≡ as_doing (record d { state = s }) (Drained n d s))
    → onward (Turns n) (as_doing d c) ≡ as_doing d (goes_on (Drained n d) c)
drain_by n d (Goes bytes s) rest = ap (λ (q : Course Doing). behind bytes q) (rest s) ∙ as_behind d s bytes (Drained n d s)
drain_by n d (Stops bytes) rest = refl

drain_step : (n : ℕ) (d : Doing) (b : Bool) → (length d.state.waiting == 0) ≡ b
    → ((s : State) → Turns n (record d { state = s }) ≡ as_doing (record d { state = s }) (Drained n d s))
    → onward (Turns n) (cond b (Goes [] d) (as_doing d (one_drained (plan_in d.place.head) d.each d.place.lines d.state)))
    ≡ as_doing d (cond b (Goes [] d.state) (goes_on (Drained n d) (one_drained (plan_in d.place.head) d.each d.place.lines d.state)))
drain_step n d true none rest =
    behind_nothing (Turns n d) ∙ rest d.state ∙ ap (λ (c : Course State). as_doing d c)
    (none_drained (plan_in d.place.head) d.each d.place.lines n d.state none)
drain_step n d false some rest = drain_by n d (one_drained (plan_in d.place.head) d.each d.place.lines d.state) rest

over_drains : (n : ℕ) (d : Doing) → Turns n d ≡ as_doing d (Drained n d d.state)
over_drains zero d = refl
over_drains (suc n) d = drain_step n d (length d.state.waiting == 0) refl (λ s. over_drains n (record d { state = s }))

module _ (plan : Plan) (each : Bool) (line : ℕ) (state : State) (d : Doing) (end : IsEnd plan each line state d) where
  -- what these turns print and leave is what the requests that wait come to
  pub drains_are : over on_turn (drains_of state) d ≡ as_doing d (drains plan each line state)
  drains_are = over_drains (length state.waiting) d
      ∙ (λ i. as_doing d (drained (end.plan_is i) (end.each_is i) (end.line_is i) (length state.waiting) (end.state_is i)))

  -- ---- one of them

  module _ (some : (length state.waiting == 0) ≡ false) where
    pub drain_is : on_drain d ≡ as_doing d (one_drained plan each line state)
    drain_is =
        cond-false (length d.state.waiting == 0) (Goes [] d) (as_doing d (one_drained (plan_in d.place.head) d.each d.place.lines d.state))
        (ap (λ (s : State). length s.waiting == 0) end.state_is ∙ some)
        ∙ (λ i. as_doing d (one_drained (end.plan_is i) (end.each_is i) (end.line_is i) (end.state_is i)))

    -- one that is refused
    pub drain_refused : (held : State) (text : List ℕ) (disk : History) (ga gb : Option (List ℕ)) → one_drained plan each line state ≡ Stops text
        → AppendsFront ga gb text
        → LeavesState disk plan held → Keeps (PassesTurns (Drain ∷ []) d held) plan disk disk ga gb
    drain_refused held text disk ga gb is front leaves =
        let on : on_drain d ≡ Stops text = drain_is ∙ ap (λ (c : Course State). as_doing d c) is in
        keeps_quiet on_turn held_then plan Drain d held disk ga gb (Err stop.NoMemory)
        (λ bytes next e. absurd (let no : Stops text ≡ Goes bytes next = sym on ∙ e in cc))
        (subst (λ (c : Course Doing). AppendsFront ga gb (printed c)) (sym on) front) leaves

    module _ (held after : State) (text : List ℕ) (is : one_drained plan each line state ≡ Goes text after) (counted : after.batches ≡ state.batches + 1)
        (a b : History)
        (ga gb : Option (List ℕ)) where
      abbrev pub Next : Doing
      Next = record d { state = after }

      pub drain_goes : on_drain d ≡ Goes text Next
      drain_goes = drain_is ∙ ap (λ (c : Course State). as_doing d c) is

      held_next : held_then held d Next ≡ after
      held_next = held_after held d Next (counted ∙ ap (λ (s : State). s.batches + 1) (sym end.state_is))

      -- one that was told
      pub drain_told : Appends ga gb text → LeavesAll a b (ReopensToEither plan held after) → LeavesState b plan after
          → Keeps (PassesTurns (Drain ∷ []) d held) plan a b ga gb
      drain_told whole all leaves =
          keeps_told on_turn held_then plan Drain d Next held text drain_goes a b ga gb whole
          (subst (λ (s : State). LeavesAll a b (ReopensToEither plan held s)) (sym held_next) all)
          (subst (λ (s : State). LeavesState b plan s) (sym held_next) leaves)

      -- one that was cut off
      pub drain_cut : AppendsFront ga gb text → LeavesAll a b (ReopensToEither plan held after) → ((gb ≢ ga) → LeavesState b plan after)
          → Keeps (PassesTurns (Drain ∷ []) d held) plan a b ga gb
      drain_cut front all given =
          keeps_batch on_turn held_then plan Drain d Next held text drain_goes a b ga gb front
          (subst (λ (s : State). LeavesAll a b (ReopensToEither plan held s)) (sym held_next) all)
          (λ other. subst (λ (s : State). LeavesState b plan s) (sym held_next) (given other))

-- ---- what is held behind them

module _ {H : Type 0} (held_by : H → Doing → Doing → H) (same : (held : H) (d : Doing) → held_by held d d ≡ held) where
  -- where nothing waits
  none_over : (n : ℕ) (d : Doing) (held : H) → (length d.state.waiting == 0) ≡ true → held_over on_turn held_by (replicate n Drain) d held ≡ held
  none_over zero d held none = refl
  none_over (suc n) d held none =
      let quiet : on_drain d ≡ Goes [] d = cond-true (length d.state.waiting == 0) (Goes [] d)
      (as_doing d (one_drained (plan_in d.place.head) d.each d.place.lines d.state)) none in
      ap (λ (c : Course Doing). held_by_step on_turn held_by d held (held_over on_turn held_by (replicate n Drain)) c) quiet
      ∙ ap (λ (h : H). held_over on_turn held_by (replicate n Drain) d h) (same held d)
      ∙ none_over n d held none

  -- the listing changes nothing
  listed_by : (steps : List Turn) (d : Doing) (held : H) (c : Course Doing)
      → ((next : Doing) (kept : H) → held_over on_turn held_by (steps ++ Listed ∷ []) next kept ≡ held_over on_turn held_by steps next kept)
      → held_by_step on_turn held_by d held (held_over on_turn held_by (steps ++ Listed ∷ [])) c
      ≡ held_by_step on_turn held_by d held (held_over on_turn held_by steps) c
  listed_by steps d held (Goes bytes next) rest = rest next (held_by held d next)
  listed_by steps d held (Stops bytes) rest = refl

  over_listed : (steps : List Turn) (d : Doing) (held : H) → held_over on_turn held_by (steps ++ Listed ∷ []) d held ≡ held_over on_turn held_by steps d held
  over_listed [] d held = same held d
  over_listed (turn ∷ steps) d held = listed_by steps d held (on_turn d turn) (λ next kept. over_listed steps next kept)

pub none_held : (n : ℕ) (d : Doing) (held : State) → (length d.state.waiting == 0) ≡ true → held_behind (replicate n Drain) d held ≡ held
none_held n d held none = none_over held_then (λ s e. held_still s e e refl) n d held none

pub held_listed : (steps : List Turn) (d : Doing) (held : State) → held_behind (steps ++ Listed ∷ []) d held ≡ held_behind steps d held
held_listed steps d held = over_listed held_then (λ s e. held_still s e e refl) steps d held

module _ (checkpoint : ℕ) where
  pub none_saved : (n : ℕ) (d : Doing) (saved : Saved) → (length d.state.waiting == 0) ≡ true → saved_behind checkpoint (replicate n Drain) d saved ≡ saved
  none_saved n d saved none = none_over (saved_then checkpoint) (λ s e. saved_still checkpoint s e e refl) n d saved none

  pub saved_listed : (steps : List Turn) (d : Doing) (saved : Saved)
      → saved_behind checkpoint (steps ++ Listed ∷ []) d saved ≡ saved_behind checkpoint steps d saved
  saved_listed steps d saved = over_listed (saved_then checkpoint) (λ s e. saved_still checkpoint s e e refl) steps d saved
