-- Engines that are alike stay alike, and agree on the answer.
use Rattle.std.proofs.Common.{◌≡◌, ◌∙◌, sym, ap, subst, refl, ℕ, ◌<◌, ◌≤◌, List, [], ◌∷◌, map, length, get_or, None, Some, arith}
use Rattle.std.specs.List.{All, slice_get}
use Rattle.std.proofs.lemmas.List.Elements.{All-cons, All-weaker, length_all_zip, AllZip-get_or}
use Rattle.aria_base.specs.declared.calls.Call.{Call}
use Rattle.aria_base.specs.declared.limits.TheConstants.{MOST_REPLICAS}
use Rattle.batch_core.specs.Steps.{State, step, answer}
use Rattle.batch_core.specs.declared.answers.Answer.{Answer}
use Rattle.batch_engine.specs.Engines.{Between, state_in, handed_by}
use Rattle.dep_rules.specs.declared.configs.Config.{Config}
use Rattle.proc_lang.specs.Catalogs.{Plan, run_of}
use Rattle.replica_run.specs.Jobs.{HasRun, HaveRun, job_of}
use Rattle.replica_run.specs.Replicas.{AreAlike, AreAfter, IsAfter, IsSerialFor, IsProgressFor, answer_of, unmarked}
use Rattle.replica_run.specs.declared.jobs.Ran.{Ran}
use Rattle.replica_run.proofs.Pairs.{zip_map, zip_lengths, one_of_all, holds_of_all, ap_two}

-- an engine and equal copies of it
pub alike_copies : (first : Between) (copies : List Between) → All (λ copy. copy ≡ unmarked first) copies → length copies < MOST_REPLICAS
    → AreAlike (first ∷ copies)
alike_copies first copies same few =
    let each : All (λ engine. unmarked engine ≡ unmarked first) (first ∷ copies) =
    All-cons (λ (engine : Between). unmarked engine ≡ unmarked first) first copies refl
    (All-weaker (λ copy. copy ≡ unmarked first) (λ copy. unmarked copy ≡ unmarked first) (λ copy e. ap unmarked e) copies same) in
    record { some = omega arith; few = omega arith; alike = λ k d h j e g. each k d h ∙ sym (each j e g) }

pub alike_first : (engines : List Between) (first : Between) → AreAlike engines → slice_get engines 0 ≡ Some first
    → All (λ engine. unmarked engine ≡ unmarked first) engines
alike_first [] first are is = absurd (let some = are.some in omega arith)
alike_first (engine ∷ engines) first are is =
    let same : engine ≡ first = cc in
    λ k d h. are.alike k d h 0 first (omega arith) ∙ ap unmarked same

-- the engine that a batch leaves, whatever it marked
left_by : Plan → State → Between
left_by plan state = record { plan = plan; rows = state.rows; carried = state.waiting; batches = state.batches; requests = state.requests; marked = None }

next : Config → List Call → Between → Between
next config calls before = left_by before.plan (step (run_of before.plan) (state_in config before) (handed_by config calls))

module _ (config : Config) (calls : List Call) where
  is_next : (before after : Between) → IsAfter config calls before after → unmarked after ≡ next config calls before
  unfolding next left_by
  is_next before after is = ap (λ (p : Plan). left_by p (state_in config after)) is.plan ∙ ap (left_by before.plan) is.state

  pub still_alike : (befores afters : List Between) → AreAfter config calls befores afters → AreAlike befores → AreAlike afters
  unfolding next left_by
  still_alike befores afters z are =
      let same = length_all_zip (IsAfter config calls) befores afters z in
      let now : (k : ℕ) (d : Between) → k < length afters → unmarked (get_or afters k d) ≡ next config calls (get_or befores k d)
      = λ k d h. is_next (get_or befores k d) (get_or afters k d) (AllZip-get_or (IsAfter config calls) befores afters k d d z (rw same h)) in
      record {
        some = rw (← same) are.some;
        few = rw (← same) are.few;
        alike = λ k d h j e g. now k d h ∙ ap (next config calls) (are.alike k d (rw same h) j e (rw same g)) ∙ sym (now j e g);
      }

  -- the engines of those that have run
  pub are_after : (befores : List Between) (rans : List Ran) → HaveRun config calls befores rans → AreAfter config calls befores (map (λ ran. ran.engine) rans)
  are_after befores rans z = zip_map (λ before ran. HasRun config (job_of calls before) ran) (IsAfter config calls) (λ ran. ran.engine)
      (λ before ran did. did.after) befores rans z

  alike_answers : (befores : List Between) → AreAlike befores → (k : ℕ) (d : Between) → k < length befores
      → All (λ before. answer_of config calls before ≡ answer_of config calls (get_or befores k d)) befores
  alike_answers befores are k d h j e g =
      let same = are.alike j e g k d h in
      ap_two (λ (p : Plan) (s : State). answer (run_of p) s (handed_by config calls)) (get_or befores j e).plan (get_or befores k d).plan
      (state_in config (get_or befores j e)) (state_in config (get_or befores k d)) (ap (λ (b : Between). b.plan) same)
      (ap (λ (b : Between). state_in config b) same)

  -- an answer that is that of all who run is the answer of each
  pub one_answer : (befores : List Between) (rans : List Ran) (found : Answer) → AreAlike befores → HaveRun config calls befores rans
      → ((one : Answer) → All (λ ran. ran.answer ≡ one) rans → found ≡ one) → All (λ before. found ≡ answer_of config calls before) befores
  one_answer befores rans found are z is =
      one_of_all (λ before ran. HasRun config (job_of calls before) ran) (answer_of config calls) (λ ran. ran.answer) (λ before ran did. did.answer)
      befores rans found z (alike_answers befores are) is

  pub serial_for_all : (befores : List Between) (rans : List Ran) (found : Answer) → HaveRun config calls befores rans
      → All (λ before. found ≡ answer_of config calls before) befores → All (IsSerialFor config calls found) befores
  serial_for_all befores rans found z same =
      holds_of_all (λ before ran. HasRun config (job_of calls before) ran) (answer_of config calls) (λ ran. ran.answer) (λ before ran did. did.answer)
      (IsSerialFor config calls) (λ before ran did. did.serial) befores rans found z same

  pub progress_for_all : (befores : List Between) (rans : List Ran) (found : Answer) → HaveRun config calls befores rans
      → All (λ before. found ≡ answer_of config calls before) befores → All (IsProgressFor config calls found) befores
  progress_for_all befores rans found z same =
      holds_of_all (λ before ran. HasRun config (job_of calls before) ran) (answer_of config calls) (λ ran. ran.answer) (λ before ran did. did.answer)
      (IsProgressFor config calls) (λ before ran did. did.progress) befores rans found z same

-- what a batch comes to on engines that are alike
pub record Told (config : Config) (calls : List Call) (befores afters : List Between) (found : Answer) : Type 0 where
  pub alike : AreAlike afters
  pub each : AreAfter config calls befores afters
  pub answer : All (λ before. found ≡ answer_of config calls before) befores
  pub serial : All (IsSerialFor config calls found) befores
  pub progress : All (IsProgressFor config calls found) befores

told_of : (config : Config) (calls : List Call) (befores : List Between) (rans : List Ran) (found : Answer) → AreAlike befores
    → HaveRun config calls befores rans
    → ((one : Answer) → All (λ ran. ran.answer ≡ one) rans → found ≡ one) → Told config calls befores (map (λ ran. ran.engine) rans) found
told_of config calls befores rans found are z is =
    let after = are_after config calls befores rans z in
    let same = one_answer config calls befores rans found are z is in
    record {
      alike = still_alike config calls befores (map (λ ran. ran.engine) rans) after are;
      each = after;
      answer = same;
      serial = serial_for_all config calls befores rans found z same;
      progress = progress_for_all config calls befores rans found z same;
    }

pub told : (config : Config) (calls given : List Call) (befores inside afters : List Between) (rans : List Ran) (found : Answer) → given ≡ calls
    → inside ≡ befores → AreAlike inside
    → HaveRun config given inside rans → afters ≡ map (λ ran. ran.engine) rans → ((one : Answer) → All (λ ran. ran.answer ≡ one) rans → found ≡ one)
    → Told config calls befores afters found
told config calls given befores inside afters rans found c i are z e is =
    subst (λ (l : List Call). Told config l befores afters found) c
    (subst (λ (l : List Between). Told config given l afters found) i
    (subst (λ (l : List Between). Told config given inside l found) (sym e) (told_of config given inside rans found are z is)))

-- who runs is there
pub some_ran : (config : Config) (calls : List Call) (engines : List Between) (rans : List Ran) → HaveRun config calls engines rans → 1 ≤ length engines
    → 1 ≤ length rans
some_ran config calls engines rans z some =
    let same = zip_lengths (λ engine ran. HasRun config (job_of calls engine) ran) engines rans z in omega (arith, same, some)
