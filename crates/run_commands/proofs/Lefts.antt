-- What a stop leaves of a turn that runs a batch.
use Rattle.std.proofs.Common.{◌≡◌, ◌∙◌, inl, inr, sym, ap, subst, refl, ℕ, ◌+◌, Bool, true, List, [], ◌∷◌, ◌++◌}
use Rattle.aria_base.specs.declared.calls.Call.{Call}
use Rattle.aria_store.specs.Stands.{added}
use Rattle.batch_core.specs.Steps.{State}
use Rattle.disk_model.specs.Histories.{History, LeavesAll}
use Rattle.disk_model.proofs.Spans.{leaves_more}
use Rattle.image_text.specs.Payloads.{Batch}
use Rattle.script_course.specs.Courses.{Goes}
use Rattle.serving.specs.Lives.{next_state, plan_of}
use Rattle.serving.specs.Stored.{ReopensOnWay, batch_of, next_batch, next_due, stored_state}
use Rattle.serving.specs.declared.lives.Live.{Live}
use Rattle.store_openings.specs.Saved.{HoldsSaved, Saved, laid, laid_where}
use Rattle.run_commands.specs.Onces.{Doing, handed_in}
use Rattle.run_commands.specs.Passes.{Turn, on_turn}
use Rattle.run_commands.specs.Saves.{IsLeft, ReadsAs, saved_behind, saved_more, saved_then, with_batch}
use Rattle.run_commands.proofs.Endings.{ran_then}
use Rattle.run_commands.proofs.Turned.{due_next}
use Rattle.run_commands.proofs.Turns.{held_one}

module _ (live : Live) (calls : List Call) (turn : Turn) (d next : Doing) (text : List ℕ) (is : on_turn d turn ≡ Goes text next)
    (state : next.state ≡ next_state live calls) (counted : next.state.batches ≡ d.state.batches + 1)
    (batch : next_batch live calls ≡ batch_of (handed_in d)) (old : History) (saved : Saved)
    (h : HoldsSaved old (plan_of live) (stored_state live) live.store saved) where
  abbrev After : State
  After = next_state live calls

  abbrev Added : List Batch
  Added = added saved.later live.config.rule live.config.fallback calls

  -- what stands behind it
  saved_is : saved_behind live.checkpoint (turn ∷ []) d saved ≡ saved_more live.checkpoint saved (next_batch live calls) After
  saved_is =
      held_one on_turn (saved_then live.checkpoint) turn d next saved text is
      ∙ ran_then saved (saved_more live.checkpoint saved (batch_of (handed_in d)) next.state) d next counted
      ∙ (λ i. saved_more live.checkpoint saved (sym batch i) (state i))

  laid_is : next_due live calls ≡ true → saved_behind live.checkpoint (turn ∷ []) d saved ≡ laid (with_batch saved (next_batch live calls)) After
  laid_is due =
      saved_is ∙ ap (λ (b : Bool). laid_where b (with_batch saved (next_batch live calls)) After) (sym (due_next live calls old saved h) ∙ due)

  one : (images : ℕ → List ℕ)
      → ReopensOnWay (next_due live calls) saved.c saved.later Added (plan_of live) (stored_state live) After images
      → IsLeft live.checkpoint (turn ∷ []) d saved images
  one images (inl was) = record { front = []; rest = turn ∷ []; are = refl; reads = inl (was.reopens, was.roomy) }
  one images (inr (inl more)) = record {
    front = [];
    rest = turn ∷ [];
    are = refl;
    reads = inr (record {
      turn = turn;
      more = [];
      rest_is = refl;
      printed = [];
      here = d;
      goes = refl;
      text = text;
      next = next;
      runs = is;
      counted = counted;
      reads = subst (λ (b : Batch). ReadsAs saved.c (saved.later ++ b ∷ []) images) batch (more.reopens, more.roomy);
    });
  }
  one images (inr (inr turned)) = record {
    front = turn ∷ [];
    rest = [];
    are = refl;
    reads = inl (subst (λ (s : Saved). ReadsAs s.c s.later images) (sym (laid_is turned.0)) (turned.1.reopens, turned.1.roomy));
  }

  pub batch_left : (new : History)
      → LeavesAll old new (ReopensOnWay (next_due live calls) saved.c saved.later Added (plan_of live) (stored_state live) After)
      → LeavesAll old new (IsLeft live.checkpoint (turn ∷ []) d saved)
  batch_left new all =
      leaves_more old new (ReopensOnWay (next_due live calls) saved.c saved.later Added (plan_of live) (stored_state live) After)
      (IsLeft live.checkpoint (turn ∷ []) d saved) all one
