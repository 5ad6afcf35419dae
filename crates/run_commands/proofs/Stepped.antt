-- What a line asks for, at a script that has a store: what stays open, and what is kept.
use Rattle.std.proofs.Common.{◌≡◌, ◌∙◌, sym, ap, subst, refl, ℕ, ◌≤◌, ◌==◌, Bool, true, false, List, [], ◌∷◌, ◌++◌, length, Option, Some, None, IfSome, arith}
use Rattle.std.specs.Prelude.{if◌then◌else◌, Result, Ok, Err, IfOk, IfErr}
use Rattle.std.proofs.lemmas.List.Elements.{All-nil, All-append, All-cons}
use Rattle.aria_base.specs.declared.calls.Call.{Call}
use Rattle.aria_base.specs.declared.limits.TheConstants.{LONGEST_LINE}
use Rattle.aria_store.specs.Stands.{Kept}
use Rattle.batch_core.specs.Steps.{State}
use Rattle.disk_model.specs.Histories.{History}
use Rattle.image_text.specs.Exactly.{line_of_call}
use Rattle.proc_lang.specs.Catalogs.{Plan}
use Rattle.script_course.specs.Causes.{IsCause}
use Rattle.script_course.specs.Courses.{Course, Goes, Stops}
use Rattle.script_course.specs.Served.{Serves}
use Rattle.script_course.specs.declared.stops.Stop.{Stop}
use Rattle.script_course.specs.declared.stops.Stop.TheVariants as stop
use Rattle.script_places.specs.Places.{plan_in}
use Rattle.script_places.specs.declared.deeds.Deed.{Deed}
use Rattle.script_places.specs.declared.deeds.Deed.TheVariants as deed
use Rattle.script_places.specs.declared.places.ScriptPlace.{ScriptPlace}
use Rattle.serving.specs.Stored.{HasLines, LeavesState}
use Rattle.run_commands.specs.Keeps.{IsOpen, IsShort, Keeps}
use Rattle.run_commands.specs.Onces.{Doing, Running, behind_batch, doing_result, done, on_line, text_of}
use Rattle.run_commands.specs.Passes.{Line, PassesTurns, held_then, on_turn}
use Rattle.run_commands.specs.Standing.{MayDo, MayRun, runs_batch}
use Rattle.run_commands.specs.declared.works.Work.{Work}
use Rattle.run_commands.proofs.Kept.{keeps_quiet}
use Rattle.run_commands.proofs.Ran.{no_lines}

-- ---- a batch

pub run_may : (place : ScriptPlace) (work : Work) (asks : Deed) → runs_batch asks ≡ true → MayDo place work asks → MayRun place work
run_may place work deed.Run e may = may
run_may place work deed.Nothing e may = absurd cc
run_may place work deed.Tell e may = absurd cc
run_may place work (deed.Put key row) e may = absurd cc
run_may place work (deed.Call call) e may = absurd cc
run_may place work (deed.Set rule percent) e may = absurd cc
run_may place work (deed.Keep number) e may = absurd cc

pub run_done : (d : Doing) (asks : Deed) → runs_batch asks ≡ true → done d asks ≡ Goes (text_of d) (behind_batch d)
run_done d deed.Run e = refl
run_done d deed.Nothing e = absurd cc
run_done d deed.Tell e = absurd cc
run_done d (deed.Put key row) e = absurd cc
run_done d (deed.Call call) e = absurd cc
run_done d (deed.Set rule percent) e = absurd cc
run_done d (deed.Keep number) e = absurd cc

-- ---- anything else

abbrev count_in : Course Doing → ℕ
count_in (Goes bytes d) = d.state.batches
count_in (Stops bytes) = 0

pub quiet_count : (d : Doing) (asks : Deed) → runs_batch asks ≡ false → (bytes : List ℕ) (next : Doing) → done d asks ≡ Goes bytes next
    → next.state.batches ≡ d.state.batches
quiet_count d deed.Run q bytes next e = absurd cc
quiet_count d deed.Nothing q bytes next e = sym (ap count_in e)
quiet_count d deed.Tell q bytes next e = sym (ap count_in e)
quiet_count d (deed.Put key row) q bytes next e = sym (ap count_in e)
quiet_count d (deed.Call call) q bytes next e = sym (ap count_in e)
quiet_count d (deed.Set rule percent) q bytes next e = sym (ap count_in e)
quiet_count d (deed.Keep number) q bytes next e = sym (ap count_in e)

pub when_true : {X : Type 0} (b : Bool) (x y : X) → b ≡ true → (if b then x else y) ≡ x
when_true true x y e = refl
when_true false x y e = absurd cc

pub same_count : (n m : ℕ) → n ≡ m → (n == m) ≡ true
same_count n m e = grind (arith, e)

pub quiet_keeps : (plan : Plan) (line : List ℕ) (before d : Doing) (held : State) (asks : Deed) → runs_batch asks ≡ false → before.state ≡ d.state
    → on_line before line ≡ done d asks
    → (disk : History) (ga gb : Option (List ℕ)) (result : Result Doing Stop) → Serves (done d asks) ga gb result → LeavesState disk plan held
    → Keeps (PassesTurns (Line line ∷ []) before held) plan disk disk ga gb
quiet_keeps plan line before d held asks quiet same is disk ga gb result serves leaves =
    keeps_quiet on_turn held_then plan (Line line) before held disk ga gb result
    (λ bytes next e. when_true (next.state.batches == before.state.batches) held next.state
    (same_count next.state.batches before.state.batches (quiet_count d asks quiet bytes next (sym is ∙ e) ∙ ap (λ (s : State). s.batches) (sym same))))
    (subst (λ (k : Course Doing). Serves k ga gb result) (sym is) serves) leaves

-- ---- what stays open

one_line_more : (plan : Plan) (calls : List Call) (call : Call) (store : Option Kept) → IfSome store (λ _. HasLines plan calls)
    → IfSome store (λ _. length (line_of_call plan call) ≤ LONGEST_LINE)
    → IfSome store (λ _. HasLines plan (calls ++ call ∷ []))
one_line_more plan calls call None lines short = tt
one_line_more plan calls call (Some store) lines short =
    let P : Call → Type 0 = λ c. length (line_of_call plan c) ≤ LONGEST_LINE in
    All-append P calls (call ∷ []) lines (All-cons P call [] short (All-nil P))

module _ (disk : History) (d : Doing) (store : Option Kept) (checkpoint : ℕ) (o : IsOpen disk (record { doing = d; store = store; checkpoint = checkpoint }))
    (ga gb : Option (List ℕ)) where
  open_as : (e : Doing) (next : Running) → next.doing ≡ e → next.store ≡ store
      → IsOpen disk (record { doing = e; store = store; checkpoint = next.checkpoint }) → IsOpen disk next
  open_as e next same kept h =
      let path : next ≡ record { doing = e; store = store; checkpoint = next.checkpoint } =
      λ i. record { doing = same i; store = kept i; checkpoint = next.checkpoint } in
      subst (λ (s : Running). IsOpen disk s) (sym path) h

  pub quiet_open : (asks : Deed) → runs_batch asks ≡ false → IfSome store (λ _. IsShort (plan_in d.place.head) asks) → (next : Running) → next.store ≡ store
      → Serves (done d asks) ga gb (Ok next.doing) → IsOpen disk next
  quiet_open deed.Run q short next kept h = absurd cc
  quiet_open deed.Nothing q short next kept h = open_as d next h.0 kept (record { logging = o.logging; lines = o.lines })
  quiet_open deed.Tell q short next kept h = open_as d next h.0 kept (record { logging = o.logging; lines = o.lines })
  quiet_open (deed.Put key row) q short next kept h = open_as _ next h.0 kept (record { logging = o.logging; lines = o.lines })
  quiet_open (deed.Call call) q short next kept h =
      open_as _ next h.0 kept (record { logging = o.logging; lines = one_line_more (plan_in d.place.head) d.calls call store o.lines short })
  quiet_open (deed.Set rule percent) q short next kept h = open_as _ next h.0 kept (record { logging = o.logging; lines = o.lines })
  quiet_open (deed.Keep number) q short next kept h = open_as _ next h.0 kept
      (record { logging = o.logging; lines = no_lines (plan_in d.place.head) [] store refl })

  pub quiet_opens : (asks : Deed) → runs_batch asks ≡ false → IfSome store (λ _. IsShort (plan_in d.place.head) asks) → (result : Result Running Stop)
      → IfOk result (λ next. next.store ≡ store)
      → Serves (done d asks) ga gb (doing_result result) → IfOk result (IsOpen disk)
  quiet_opens asks q short (Ok next) kept h = quiet_open asks q short next kept h
  quiet_opens asks q short (Err why) kept h = tt

-- ---- without a fault of the disk

cause_more : (s : Stop) (sink disk : Type 0) → IsCause s sink ⊥ → IsCause s sink disk
cause_more stop.Refused sink disk h = h
cause_more stop.NoMemory sink disk h = h
cause_more stop.NoWrite sink disk h = h
cause_more stop.NoDisk sink disk h = absurd h
cause_more stop.NoRead sink disk h = h

pub causes_more : {R : Type 0} (sink disk : Type 0) (result : Result R Stop) → IfErr result (λ s. IsCause s sink ⊥) → IfErr result (λ s. IsCause s sink disk)
causes_more sink disk (Ok next) h = tt
causes_more sink disk (Err s) h = cause_more s sink disk h

pub store_on : (store : Option Kept) (result : Result Running Stop) → IfOk result (λ next. next.store ≡ store) → store ≡ None
    → IfOk result (λ next. next.store ≡ None)
store_on store (Ok next) h e = h ∙ e
store_on store (Err why) h e = tt
