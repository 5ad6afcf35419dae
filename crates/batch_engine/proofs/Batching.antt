-- A batch that was settled is the step of the state that the engine stood for.
use Rattle.std.proofs.Common.{ℕ, ◌≡◌, sym, ap, subst, ◌∙◌, ◌+◌, ◌<◌, ◌≤◌, true, List, ◌++◌, length}
use Rattle.std.specs.List.{All}
use Rattle.std.proofs.lemmas.List.{length-map}
use Rattle.aria_base.specs.declared.calls.Call.{Call}
use Rattle.aria_base.specs.declared.calls.Request.{Request}
use Rattle.aria_base.specs.declared.limits.TheConstants.{GREATEST_NUMBER, MOST_REQUESTS}
use Rattle.aria_base.specs.Orders.{key_cmp, Cells, Database}
use Rattle.aria_base.specs.declared.keys.Key.{Key}
use Rattle.batch_core.specs.Progress.{IsProgress}
use Rattle.batch_core.specs.Serial.{IsNumbered, IsSerialAnswer}
use Rattle.batch_core.specs.Steps.{State, Handed, numbered, list_of, step, answer}
use Rattle.batch_core.specs.declared.answers.Answer.{Answer}
use Rattle.batch_core.proofs.Progress.{progress}
use Rattle.batch_core.proofs.Serial.{serial_answer}
use Rattle.batch_rules.proofs.Judges.{length-judged}
use Rattle.batch_rules.specs.Batches.{touching, on_start}
use Rattle.batch_rules.specs.Trees.{Tree}
use Rattle.batch_rules.specs.declared.verdicts.Rule.{Rule}
use Rattle.dep_rules.specs.declared.configs.Config.{Config}
use Rattle.proc_lang.specs.Catalogs.{IsCatalog, takes, run_of}
use Rattle.proc_lang.specs.Meaning.{is_done}
use Rattle.proc_lang.specs.declared.ends.End.{End}
use Rattle.batch_engine.specs.Judgements.{IsJudged, IsSettled}
use Rattle.batch_engine.specs.Engines.{Between, IsReady, state_in, handed_by}
use Rattle.batch_engine.specs.declared.judgements.Judgement.{Judgement}
use Rattle.batch_engine.specs.declared.settlements.Settled.{Settled}
use Rattle.proc_exec.specs.Outcomes.{outcome_at}
use Rattle.batch_engine.proofs.Readying.{length-list, ready-after}

pub many-verdicts : (tree : Request → Tree Key Cells End) (rule : Rule) (start : Database) (list : List Request) (c : Judgement)
    → IsJudged tree rule start list c → length c.verdicts.items ≡ length list
many-verdicts tree rule start list c h = ap length h.verdicts ∙ length-map _ (λ d. d.verdict)
    ∙ length-judged (touching (on_start is_done tree start) key_cmp) rule _ list

pub many-outcomes : (tree : Request → Tree Key Cells End) (rule : Rule) (start : Database) (list : List Request) (c : Judgement)
    → IsJudged tree rule start list c → length c.outcomes.items ≡ length list
many-outcomes tree rule start list c h = ap length h.outcomes ∙ length-map list (outcome_at tree start)

-- the engine by its fields, `e`, and as its callers see it, `self`
module _ {e self : Between} (view : e ≡ self) (config : Config) (calls : List Call) where
  abbrev handed : Handed
  handed = handed_by config calls

  abbrev whole : Between → List Request
  whole b = list_of (state_in config b) handed

  abbrev state_after : Between → State
  state_after b = step (run_of b.plan) (state_in config b) handed

  abbrev answer_from : Between → Answer
  answer_from b = answer (run_of b.plan) (state_in config b) handed

  -- what the next state and the answer are made of
  abbrev left_by : Settled → List Request → ℕ → State
  left_by s left count = record {
    rule = config.rule;
    percent = config.fallback;
    rows = s.tables;
    waiting = left;
    batches = e.batches + 1;
    requests =
        e.requests + count;
  }

  abbrev told_by : Settled → Answer
  told_by s = record { number = e.batches + 1; lines = s.lines; order = s.order }

  abbrev pub IsDone : Settled → Type 0
  IsDone s = IsSettled (run_of e.plan) config.rule config.fallback e.rows (whole e) s

  listed : {list carried : List Request} → list ≡ carried ++ numbered e.requests calls → carried ≡ e.carried → list ≡ whole e
  listed l c = l ∙ ap (λ front. front ++ numbered e.requests calls) c

  few-list : length self.carried + length calls ≤ MOST_REQUESTS → length (whole e) ≤ MOST_REQUESTS
  few-list room = subst (λ n. n ≤ MOST_REQUESTS) (sym (length-list (state_in config e) handed))
      (subst (λ (b : Between). length b.carried + length calls ≤ MOST_REQUESTS) (sym view) room)

  pub few-listed : {list carried slice : List Request} → list ≡ carried ++ numbered e.requests calls → carried ≡ e.carried → slice ≡ list
      → length self.carried + length calls ≤ MOST_REQUESTS → length slice ≤ MOST_REQUESTS
  few-listed l c same room = subst (λ (l : List Request). length l ≤ MOST_REQUESTS) (sym (same ∙ listed l c)) (few-list room)

  pub done : (c : Judgement) (s : Settled) {list carried slice : List Request} → list ≡ carried ++ numbered e.requests calls → carried ≡ e.carried
      → slice ≡ list
      → IsJudged (run_of e.plan) config.rule e.rows slice c
      → (IsJudged (run_of e.plan) config.rule e.rows list c → IsSettled (run_of e.plan) config.rule config.fallback e.rows list s)
      → IsDone s
  done c s l k same judged settles =
      subst (λ l. IsSettled (run_of e.plan) config.rule config.fallback e.rows l s) (listed l k)
      (settles (subst (λ l. IsJudged (run_of e.plan) config.rule e.rows l c) same judged))

  left-is : (s : Settled) {left : List Request} {count : ℕ} → IsDone s → left ≡ s.carried.items → count ≡ length calls → left_by s left count ≡ state_after e
  left-is s all c n = λ i. record {
    rule = config.rule;
    percent = config.fallback;
    rows = all.rows i;
    waiting = (c ∙ all.carried) i;
    batches = e.batches + 1;
    requests = e.requests + n i;
  }

  pub ready-is : (s : Settled) {left : List Request} {count : ℕ} → IsDone s → left ≡ s.carried.items → count ≡ length calls
      → IsCatalog e.plan → IsReady e.plan e.rows e.carried e.batches e.requests
      → All (λ call. takes self.plan call ≡ true) calls → length self.carried + length calls ≤ MOST_REQUESTS
      → self.batches < GREATEST_NUMBER → self.requests + length calls ≤ GREATEST_NUMBER
      → IsReady e.plan s.tables left (e.batches + 1) (e.requests + count)
  ready-is s all c n catalog ready fit room batches requests =
      let back = sym view in
      subst (λ (s : State). IsReady e.plan s.rows s.waiting s.batches s.requests) (sym (left-is s all c n))
      (ready-after e.plan (state_in config e) handed catalog ready
      (subst (λ (b : Between). All (λ call. takes b.plan call ≡ true) calls) back fit) (few-list room)
      (subst (λ (b : Between). b.batches < GREATEST_NUMBER) back batches)
      (subst (λ (b : Between). b.requests + length calls ≤ GREATEST_NUMBER) back requests))

  pub state-is : (s : Settled) {left : List Request} {count : ℕ} → IsDone s → left ≡ s.carried.items → count ≡ length calls
      → left_by s left count ≡ state_after self
  state-is s all c n = left-is s all c n ∙ ap state_after view

  pub answer-is : (s : Settled) → IsDone s → told_by s ≡ answer_from self
  answer-is s all = (λ i. record { number = e.batches + 1; lines = all.lines i; order = all.order i }) ∙ ap answer_from view

  -- what is true of the definitions' answer and state is true of these
  of-these : (P : Answer → State → Type 0) (s : Settled) {left : List Request} {count : ℕ} → IsDone s → left ≡ s.carried.items → count ≡ length calls
      → P (answer_from self) (state_after self) → P (told_by s) (left_by s left count)
  of-these P s all c n p = subst (P (told_by s)) (sym (state-is s all c n)) (subst (λ found. P found (state_after self)) (sym (answer-is s all)) p)

  pub serial-is : (s : Settled) {left : List Request} {count : ℕ} → IsDone s → left ≡ s.carried.items → count ≡ length calls → IsNumbered (state_in config e)
      → IsSerialAnswer (run_of self.plan) self.rows (whole self) (told_by s) (left_by s left count)
  serial-is s all c n ordered = of-these (IsSerialAnswer (run_of self.plan) self.rows (whole self)) s all c n
      (serial_answer (run_of self.plan) (state_in config self) handed (subst (λ (b : Between). IsNumbered (state_in config b)) view ordered))

  pub progress-is : (s : Settled) {left : List Request} {count : ℕ} → IsDone s → left ≡ s.carried.items → count ≡ length calls → 0 < length (whole self)
      → IsProgress (run_of self.plan) self.rows (whole self) (told_by s) (left_by s left count)
  progress-is s all c n some = of-these (IsProgress (run_of self.plan) self.rows (whole self)) s all c n
      (progress (run_of self.plan) (state_in config self) handed some)
