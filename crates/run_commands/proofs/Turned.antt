-- What a disk holds of a database behind its next batch.
use Rattle.std.proofs.Common.{◌≡◌, ◌∙◌, inl, inr, sym, ap, subst, refl, ℕ, ◌+◌, ◌<◌, ◌≤◌, ◌%◌, Bool, true, false, List, length, Option, Some, None, option_map, arith}
use Rattle.std.proofs.lemmas.Bool.{cases_eq}
use Rattle.aria_base.specs.declared.calls.Call.{Call}
use Rattle.aria_store.specs.Stands.{Kept, added}
use Rattle.batch_core.specs.Steps.{State, Handed, step}
use Rattle.disk_model.specs.Histories.{History}
use Rattle.image_text.specs.Payloads.{Batch, payload_text}
use Rattle.proc_lang.specs.Catalogs.{Plan, run_of}
use Rattle.serving.specs.Lives.{IsNext, next_handed, next_state, plan_of, state_of}
use Rattle.serving.specs.Stored.{Holds, HoldsTurned, batch_of, due_by, is_due, next_batch, next_due, next_store, stored_state, told_by, turned, turned_by, with_logged}
use Rattle.serving.specs.declared.lives.Live.{Live}
use Rattle.slot_images.specs.Images.{Checkpoint}
use Rattle.store_openings.specs.Saved.{HoldsSaved, Saved, laid_where}
use Rattle.store_openings.proofs.Savings.{turned_saved}
use Rattle.run_commands.specs.Keeps.{HoldsState}
use Rattle.run_commands.specs.Saves.{saved_more, with_batch}

-- ---- which batches a checkpoint has

-- each batch of a state past the first so many whose number this option divides is in the checkpoint
abbrev IsLaid : ℕ → ℕ → State → Checkpoint → Type 0
IsLaid first checkpoint state c = (number : ℕ) → 0 < checkpoint → first < number → number ≤ state.batches → number % checkpoint ≡ 0 → number ≤ c.head.batches

-- behind a batch whose number the option divides a checkpoint is due
due_at : (checkpoint number bytes : ℕ) → 0 < checkpoint → number % checkpoint ≡ 0 → is_due checkpoint number bytes ≡ false → ⊥
due_at checkpoint number bytes some divides none = grind (arith, some, divides, none)

-- so where none was due, the checkpoint from before has all of them
still_laid : (first checkpoint bytes : ℕ) (before after : State) (c : Checkpoint) → after.batches ≡ before.batches + 1
    → is_due checkpoint after.batches bytes ≡ false
    → IsLaid first checkpoint before c → IsLaid first checkpoint after c
still_laid first checkpoint bytes before after c counted none laid number some past within divides = elim (cases_eq number after.batches) [
  | inl last ↦ absurd (due_at checkpoint after.batches bytes some (subst (λ (n : ℕ). n % checkpoint ≡ 0) last divides) none)
  | inr other ↦ laid number some past (omega (arith, within, counted, other)) divides
]

-- ---- what is held

-- the number of batches goes on whatever settings a store tells
told_batches : (store : Option Kept) (state : State) → (told_by store state).batches ≡ state.batches
told_batches None state = refl
told_batches (Some store) state = refl

-- the log of a batch more has as many bytes as what then stands
at_bytes : (plan : Plan) (batch : Batch) (saved : Saved) (kept : Kept) → kept.files.at ≡ saved.bytes → saved.c.plan ≡ plan
    → (with_logged plan batch kept).files.at ≡ (with_batch saved batch).bytes
at_bytes plan batch saved kept bytes under = λ i. bytes i + 5 + length (payload_text (sym under i) batch)

module _ (first checkpoint : ℕ) (plan : Plan) (before after : State) (counted : after.batches ≡ before.batches + 1) (batch : Batch) (saved : Saved)
    (laid : IsLaid first checkpoint before saved.c) where
  abbrev More : Saved
  More = with_batch saved batch

  laid_by : (due : Bool) (bytes : ℕ) → due ≡ is_due checkpoint after.batches bytes → IsLaid first checkpoint after (laid_where due More after).c
  laid_by true bytes is number some past within divides = within
  laid_by false bytes is number some past within divides = still_laid first checkpoint bytes before after saved.c counted (sym is) laid number some past within
      divides

  -- behind a batch in the log of this store
  module _ (kept : Kept) (head : kept.files.head ≡ saved.c.head) (bytes : kept.files.at ≡ saved.bytes) (under : saved.c.plan ≡ plan) (new : History) where
    abbrev Log : Kept
    Log = with_logged plan batch kept

    at_is : Log.files.at ≡ More.bytes
    at_is = at_bytes plan batch saved kept bytes under

    by_log : (due : Bool) (store : Option Kept) → due ≡ is_due checkpoint after.batches Log.files.at → store ≡ Some (turned due after Log)
        → HoldsTurned due new plan after store More.c More.later
        → HoldsState first (saved_more checkpoint saved batch after) checkpoint new plan after store
    by_log due store is kept_is h =
        let same : due ≡ is_due checkpoint after.batches More.bytes = is ∙ ap (λ (n : ℕ). is_due checkpoint after.batches n) at_is in
        subst (λ (b : Bool). HoldsState first (laid_where b More after) checkpoint new plan after store) same (record {
          stands = turned_saved new plan after More Log head at_is under due store kept_is h;
          laid = laid_by due Log.files.at is;
        })

  by_store : (was : Option Kept) (old new : History) → HoldsSaved old plan before was saved → (store : Option Kept)
      → store ≡ turned_by (due_by checkpoint after.batches (option_map (with_logged plan batch) was)) after (option_map (with_logged plan batch) was)
      → HoldsTurned (due_by checkpoint after.batches (option_map (with_logged plan batch) was)) new plan after store More.c More.later
      → HoldsState first (saved_more checkpoint saved batch after) checkpoint new plan after store
  by_store None old new h store kept_is turns = absurd h.holds
  by_store (Some kept) old new h store kept_is turns =
      by_log kept h.holds.stands.known.head h.bytes h.holds.plan_is new
      (is_due checkpoint after.batches (with_logged plan batch kept).files.at) store refl kept_is turns

-- whether a checkpoint is due behind a batch goes by what stands
due_by_store : (checkpoint number : ℕ) (disk : History) (plan : Plan) (state : State) (was : Option Kept) (batch : Batch) (saved : Saved)
    → HoldsSaved disk plan state was saved
    → due_by checkpoint number (option_map (with_logged plan batch) was) ≡ is_due checkpoint number (with_batch saved batch).bytes
due_by_store checkpoint number disk plan state None batch saved h = absurd h.holds
due_by_store checkpoint number disk plan state (Some kept) batch saved h =
    ap (λ (n : ℕ). is_due checkpoint number n) (at_bytes plan batch saved kept h.bytes h.holds.plan_is)

pub due_next : (live : Live) (calls : List Call) (disk : History) (saved : Saved) → HoldsSaved disk (plan_of live) (stored_state live) live.store saved
    → next_due live calls ≡ is_due live.checkpoint (next_state live calls).batches (with_batch saved (next_batch live calls)).bytes
due_next live calls disk saved h =
    due_by_store live.checkpoint (next_state live calls).batches disk (plan_of live) (stored_state live) live.store (next_batch live calls) saved h

-- ---- behind a batch

-- what is held behind a batch, by what was held before it
pub turned_on : (first : ℕ) (saved : Saved) (live : Live) (calls : List Call) (old new : History) (store : Option Kept) → store ≡ next_store live calls
    → HoldsState first saved live.checkpoint old (plan_of live) (stored_state live) live.store
    → ((c : Checkpoint) (later : List Batch) → Holds old (plan_of live) (stored_state live) live.store c later
    → HoldsTurned (next_due live calls) new (plan_of live) (next_state live calls) store c (added later live.config.rule live.config.fallback calls))
    → HoldsState first (saved_more live.checkpoint saved (next_batch live calls) (next_state live calls)) live.checkpoint new (plan_of live)
    (next_state live calls) store
turned_on first saved live calls old new store kept_is h turns =
    let counted : (next_state live calls).batches ≡ (stored_state live).batches + 1 = ap (λ (n : ℕ). n + 1) (sym (told_batches live.store (state_of live))) in
    by_store first live.checkpoint (plan_of live) (stored_state live) (next_state live calls) counted (next_batch live calls) saved h.laid live.store old new
    h.stands store kept_is (turns saved.c saved.later h.stands.holds)

-- ---- the database that goes on

-- the settings that a store tells behind a batch are those of the batch
told_behind : (plan : Plan) (state : State) (handed : Handed) (due : Bool) (was : Option Kept)
    → told_by (turned_by due (step (run_of plan) state handed) (option_map (with_logged plan (batch_of handed)) was)) (step (run_of plan) state handed) ≡ step
    (run_of plan) state handed
told_behind plan state handed due None = refl
told_behind plan state handed true (Some store) = refl
told_behind plan state handed false (Some store) = refl

-- so the state that the database stands for is that of its engines
pub told_next : (live next : Live) (calls : List Call) → IsNext live calls next → next.store ≡ next_store live calls → stored_state next ≡ next_state live calls
told_next live next calls is kept =
    ap (λ (s : State). told_by next.store s) is.state
    ∙ ap (λ (k : Option Kept). told_by k (next_state live calls)) kept
    ∙ told_behind (plan_of live) (state_of live) (next_handed live calls) (next_due live calls) live.store

pub turned_next : (first : ℕ) (saved : Saved) (live next : Live) (calls : List Call) (new : History) → IsNext live calls next
    → next.store ≡ next_store live calls
    → HoldsState first saved live.checkpoint new (plan_of live) (next_state live calls) next.store
    → HoldsState first saved next.checkpoint new (plan_of next) (stored_state next) next.store
turned_next first saved live next calls new is kept h =
    subst (λ (n : ℕ). HoldsState first saved n new (plan_of next) (stored_state next) next.store) (sym is.checkpoint)
    (subst (λ (p : Plan). HoldsState first saved live.checkpoint new p (stored_state next) next.store) (sym is.plan)
    (subst (λ (s : State). HoldsState first saved live.checkpoint new (plan_of live) s next.store) (sym (told_next live next calls is kept)) h))
