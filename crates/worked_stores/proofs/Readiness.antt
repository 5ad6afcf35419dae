-- A store stays ready at each answer of a call that writes; and the lines of a short payload are short.
use Rattle.std.proofs.Common.{◌≡◌, ℕ, ◌≤◌, List, [], ◌∷◌, ◌++◌, length, All, Some, None, Option, sym, ◌∙◌, ap, subst, arith, length-append}
use Rattle.std.specs.Prelude.{Result, Ok, Err, IfErr, OnOk}
use Rattle.std.proofs.lemmas.List.Elements.{All-nil, All-cons}
use Rattle.aria_base.specs.Orders.{Database}
use Rattle.aria_base.specs.declared.calls.Call.{Call}
use Rattle.aria_base.specs.declared.limits.TheConstants.{LONGEST_LINE}
use Rattle.batch_rules.specs.declared.verdicts.Rule.{Rule}
use Rattle.disk_model.specs.Histories.{History}
use Rattle.proc_lang.specs.Catalogs.{Plan}
use Rattle.image_text.specs.Exactly.{line_of_call}
use Rattle.image_text.specs.Payloads.{Batch, IsPayload, calls_text, payload_text}
use Rattle.store_files.specs.Stores.{Rests}
use Rattle.store_files.specs.declared.refusals.StoreRefused.{StoreRefused}
use Rattle.store_files.specs.declared.refusals.StoreRefused.TheVariants as of_store
use Rattle.aria_store.specs.Causes.{WriteCause}
use Rattle.aria_store.specs.Stands.{Kept, with_batch}
use Rattle.worked_stores.specs.Ready.{IsReady}

closed_not : (was is : Option ℕ) (faults : ℕ) → is ≡ Some faults → is ≡ None → ⊥
closed_not was is faults some none = let both : Some faults ≡ None = sym some ∙ none in absurd (cc both)

pub ready_after : {D : Type 0} (history : D → History) (old new : D) (was is : Kept) (before : ℕ) (plan : Plan) (rows : Database)
    → IsReady (history old) was before plan rows → (e : StoreRefused) → WriteCause history old new was is e
    → IsReady (history new) is before plan rows
ready_after history old new was is before plan rows ready of_store.Memory cause =
    subst (λ d. IsReady (history d) is before plan rows) (sym cause.0)
    (subst (λ (k : Kept). IsReady (history old) k before plan rows) (sym cause.1) ready)
ready_after history old new was is before plan rows ready of_store.DiskFault cause = record {
  rests = λ none. absurd
      (closed_not was.files.closed is.files.closed (history new).faults (ap (λ (k : Kept). k.files.closed) cause.1) none);
  batches = ready.batches ∙ sym (ap (λ (k : Kept). k.files.head.batches) cause.1);
  consistent = ready.consistent;
}
ready_after history old new was is before plan rows ready of_store.NoStore cause = absurd cause
ready_after history old new was is before plan rows ready of_store.Exists cause = absurd cause
ready_after history old new was is before plan rows ready (of_store.Damaged file at) cause = absurd cause
ready_after history old new was is before plan rows ready (of_store.Closed faults) cause =
    subst (λ d. IsReady (history d) is before plan rows) (sym cause.0)
    (subst (λ (k : Kept). IsReady (history old) k before plan rows) (sym cause.1) ready)

pub ready_added : {D X : Type 0} (history : D → History) (old new : D) (was is : Kept) (before : ℕ) (plan : Plan) (rows : Database)
    (bytes : ℕ) (rule : Rule) (fallback : ℕ) → IsReady (history old) was before plan rows → (r : Result X StoreRefused)
    → IfErr r (WriteCause history old new was is) → OnOk r (Rests (history new) is.files)
    → OnOk r (is ≡ with_batch was bytes rule fallback) → IsReady (history new) is before plan rows
ready_added history old new was is before plan rows bytes rule fallback ready (Ok x) refused rests known = record {
  rests = λ none. rests;
  batches = ready.batches ∙ sym (ap (λ (k : Kept). k.files.head.batches) known);
  consistent = ready.consistent;
}
ready_added history old new was is before plan rows bytes rule fallback ready (Err e) refused rests known =
    ready_after history old new was is before plan rows ready e refused

lines_within : (plan : Plan) (calls : List Call) → length (calls_text plan calls) ≤ LONGEST_LINE
    → All (λ call. length (line_of_call plan call) ≤ LONGEST_LINE) calls
lines_within plan [] le = All-nil (λ call. length (line_of_call plan call) ≤ LONGEST_LINE)
lines_within plan (call ∷ calls) le =
    let both = length-append (line_of_call plan call ++ 10 ∷ []) (calls_text plan calls) in
    let one = length-append (line_of_call plan call) (10 ∷ []) in
    All-cons (λ c. length (line_of_call plan c) ≤ LONGEST_LINE) call calls (omega (arith, le, both, one))
    (lines_within plan calls (omega (arith, le, both, one)))

pub lines_short : (plan : Plan) (bytes : List ℕ) (batch : Batch) → IsPayload plan bytes batch → length bytes ≤ 1000
    → All (λ call. length (line_of_call plan call) ≤ LONGEST_LINE) batch.calls
lines_short plan bytes batch is short =
    let same : length bytes ≡ length (payload_text plan batch) = ap (λ (l : List ℕ). length l) is.text in
    lines_within plan batch.calls (omega (arith, same, short))
