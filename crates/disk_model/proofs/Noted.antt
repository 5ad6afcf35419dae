-- The calls of a tape, and one more of them.
use Rattle.std.proofs.Common.{◌≡◌, ℕ, suc, ◌+◌, ◌≤◌, List, [], ◌∷◌, ◌++◌, length, drop, refl, sym, ◌∙◌, ap, arith, length-drop}
use Rattle.std.proofs.lemmas.List.{append-nil, take_all}
use Rattle.std.proofs.lemmas.Grind.{common_steps}
use Rattle.disk_model.specs.declared.tapes.Entry.{Entry}
use Rattle.disk_model.specs.declared.tapes.Entry.TheVariants as kept
use Rattle.disk_model.specs.Steps.{Wrote, written, step_bytes}
use Rattle.disk_model.specs.Tapes.{entry_bytes, all_bytes, step_of, steps_of}

pub length_steps_of : (entries : List Entry) (bytes : List ℕ) → length (steps_of entries bytes) ≡ length entries
length_steps_of [] bytes = refl
length_steps_of (e ∷ es) bytes = ap (λ (n : ℕ). suc n) (length_steps_of es (drop (entry_bytes e) bytes))

bytes_of_step : (e : Entry) (bytes : List ℕ) → entry_bytes e ≤ length bytes → step_bytes (step_of e bytes) ≡ entry_bytes e
bytes_of_step kept.Idle bytes le = refl
bytes_of_step (kept.Wrote file at len) bytes le = grind (arith, common_steps)
bytes_of_step (kept.Missed file at len) bytes le = refl
bytes_of_step (kept.Synced file) bytes le = refl

pub written_steps_of : (entries : List Entry) (bytes : List ℕ) → all_bytes entries ≤ length bytes → written (steps_of entries bytes) ≡ all_bytes entries
written_steps_of [] bytes le = refl
written_steps_of (e ∷ es) bytes le =
    omega (arith, bytes_of_step e bytes (omega arith), written_steps_of es (drop (entry_bytes e) bytes) (omega (arith, length-drop (entry_bytes e) bytes)))

step_of-more : (e : Entry) (bytes more : List ℕ) → entry_bytes e ≤ length bytes → step_of e (bytes ++ more) ≡ step_of e bytes
step_of-more kept.Idle bytes more le = refl
step_of-more (kept.Wrote file at len) bytes more le = grind (arith, common_steps)
step_of-more (kept.Missed file at len) bytes more le = refl
step_of-more (kept.Synced file) bytes more le = refl

pub steps_of_push : (entries : List Entry) (bytes : List ℕ) (e : Entry) (more : List ℕ) → all_bytes entries ≡ length bytes → entry_bytes e ≡ length more
    → steps_of (entries ++ e ∷ []) (bytes ++ more) ≡ steps_of entries bytes ++ step_of e more ∷ []
steps_of_push [] [] e more all own = refl
steps_of_push [] (b ∷ bytes) e more all own = absurd (omega arith)
steps_of_push (x ∷ xs) bytes e more all own =
    let rest = steps_of_push xs (drop (entry_bytes x) bytes) e more (omega (arith, length-drop (entry_bytes x) bytes)) own in
    let split : drop (entry_bytes x) (bytes ++ more) ≡ drop (entry_bytes x) bytes ++ more = grind (arith, common_steps) in
    let first = step_of-more x bytes more (omega arith) in
    cc (ap (λ (l : List ℕ). steps_of (xs ++ e ∷ []) l) split)

pub all_bytes_push : (entries : List Entry) (e : Entry) → all_bytes (entries ++ e ∷ []) ≡ all_bytes entries + entry_bytes e
all_bytes_push [] e = omega arith
all_bytes_push (x ∷ xs) e = omega (arith, all_bytes_push xs e)

pub steps_of_note : (entries : List Entry) (bytes : List ℕ) (e : Entry) → all_bytes entries ≡ length bytes → entry_bytes e ≡ 0
    → steps_of (entries ++ e ∷ []) bytes ≡ steps_of entries bytes ++ step_of e [] ∷ []
steps_of_note entries bytes e all none = sym (ap (λ (l : List ℕ). steps_of (entries ++ e ∷ []) l) (append-nil bytes))
    ∙ steps_of_push entries bytes e [] all none

pub steps_of_write : (entries : List Entry) (bytes : List ℕ) (file at : ℕ) (more : List ℕ) → all_bytes entries ≡ length bytes
    → steps_of (entries ++ kept.Wrote file at (length more) ∷ []) (bytes ++ more) ≡ steps_of entries bytes ++ Wrote file at more ∷ []
steps_of_write entries bytes file at more all =
    steps_of_push entries bytes (kept.Wrote file at (length more)) more all refl
    ∙ ap (λ (l : List ℕ). steps_of entries bytes ++ Wrote file at l ∷ []) (take_all (length more) more (omega arith))
