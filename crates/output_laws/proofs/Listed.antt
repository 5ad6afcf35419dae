-- The last line printed is one of a listing just where the report ends with a listing.
use Rattle.std.proofs.Common.{◌≡◌, ◌⊎◌, inl, inr, ◌∙◌, sym, ap, subst, refl, ℕ, Bool, true, false, cond, List, [], ◌∷◌, ◌++◌, append_assoc, append-nil, arith}
use Rattle.batch_core.specs.Steps.{Handed, State, answer, step}
use Rattle.proc_lang.specs.Catalogs.{Plan, run_of}
use Rattle.report_laws.specs.Printed.{answer_lines}
use Rattle.report_laws.specs.Scripts.{batch_lines, drain_lines, ends_listed, is_kept, left, listed_drains, listed_script, next, report, script_lines}
use Rattle.serial_check.specs.Lines.{end_state_line, kept_line, state_line}
use Rattle.serial_check.specs.Reports.{row_lines}

module _ (plan : Plan) where
  -- where the last batch of a script has no listing, nothing was printed, or its line tells that it was run before
  abbrev EndsKept : List (List ℕ) → Type 0
  EndsKept lines = (front : List (List ℕ)) × (n : ℕ) × (lines ≡ front ++ kept_line n ∷ [])

  unlisted : (now : Bool) (state : State) (script : List (ℕ × Handed)) → listed_script plan true now state script ≡ false
      → ((now ≡ false) × (script_lines plan true state script ≡ [])) ⊎ EndsKept (script_lines plan true state script)
  unlisted now state [] e = inl (e, refl)
  unlisted now state (batch ∷ more) e = by (is_kept state batch) (unlisted (cond (is_kept state batch) false true) (next plan state batch) more e)
    where
      rest : List (List ℕ)
      rest = script_lines plan true (next plan state batch) more

      first : Bool → List (List ℕ)
      first b = cond b (kept_line batch.0 ∷ []) (batch_lines plan true state batch.1)

      by : (b : Bool) → ((cond b false true ≡ false) × (rest ≡ [])) ⊎ EndsKept rest → ((now ≡ false) × (first b ++ rest ≡ [])) ⊎ EndsKept (first b ++ rest)
      by true (inl h) = inr ([], batch.0, ap (λ (l : List (List ℕ)). kept_line batch.0 ∷ l) h.1)
      by false (inl h) = let clash : true ≡ false = h.0 in cc
      by b (inr h) = inr (first b ++ h.0, h.1, ap (λ (l : List (List ℕ)). first b ++ l) h.2 ∙ sym (append_assoc (first b) h.0 (kept_line h.1 ∷ [])))

  always : (drains : List Handed) → listed_drains plan true true drains ≡ true
  always [] = refl
  always (handed ∷ more) = always more

  no_drains : (now : Bool) (drains : List Handed) → listed_drains plan true now drains ≡ false → (now ≡ false) × (drains ≡ [])
  no_drains now [] e = (e, refl)
  no_drains now (handed ∷ more) e = let clash : true ≡ false = sym (always more) ∙ e in cc

last_of : List (List ℕ) → List ℕ → List ℕ
last_of [] other = other
last_of (line ∷ lines) other = last_of lines line

last_is : (front : List (List ℕ)) (line other : List ℕ) → last_of (front ++ line ∷ []) other ≡ line
unfolding last_of
last_is [] line other = refl
last_is (first ∷ front) line other = last_is front line first

first_byte : List ℕ → ℕ
first_byte [] = 0
first_byte (b ∷ bs) = b

kept_is_not : (n : ℕ) → kept_line n ≡ end_state_line → ⊥
unfolding first_byte
kept_is_not n e = let clash : 98 ≡ 101 = ap first_byte e in omega (arith, clash)

module _ (plan : Plan) (state : State) (script : List (ℕ × Handed)) (drains : List Handed) (before : List (List ℕ))
    (last : report plan true state script drains ≡ before ++ end_state_line ∷ []) where
  ends_kept : drains ≡ [] → EndsKept plan (script_lines plan true state script) → ⊥
  unfolding last_of
  ends_kept none h =
      let lines = script_lines plan true state script in
      let whole : report plan true state script drains ≡ h.0 ++ kept_line h.1 ∷ [] =
      ap (λ (d : List Handed). (lines ++ drain_lines plan true (left plan state script) d) ++ []) none ∙ append-nil (lines ++ []) ∙ append-nil lines ∙ h.2 in
      let same : kept_line h.1 ≡ end_state_line =
      sym (last_is h.0 (kept_line h.1) []) ∙ ap (λ (l : List (List ℕ)). last_of l []) (sym whole ∙ last) ∙ last_is before end_state_line [] in
      kept_is_not h.1 same

  ends_empty : drains ≡ [] → script_lines plan true state script ≡ [] → ⊥
  unfolding last_of
  ends_empty none h =
      let lines = script_lines plan true state script in
      let whole : report plan true state script drains ≡ [] =
      ap (λ (d : List Handed). (lines ++ drain_lines plan true (left plan state script) d) ++ []) none ∙ append-nil (lines ++ []) ∙ append-nil lines ∙ h in
      let same : [] ≡ end_state_line = ap (λ (l : List (List ℕ)). last_of l []) (sym whole ∙ last) ∙ last_is before end_state_line [] in
      cc

  pub is_listed : ends_listed plan true state script drains ≡ true
  is_listed = by (ends_listed plan true state script drains) refl
    where
      by : (b : Bool) → ends_listed plan true state script drains ≡ b → b ≡ true
      by true e = refl
      by false e =
          let none = no_drains plan (listed_script plan true false state script) drains e in
          absurd (shut none.1 (unlisted plan false state script none.0))
        where
          shut : drains ≡ [] → ((false ≡ false) × (script_lines plan true state script ≡ [])) ⊎ EndsKept plan (script_lines plan true state script) → ⊥
          shut none (inl h) = ends_empty none h.1
          shut none (inr h) = ends_kept none h

-- ---- and where a listing was printed last, its last line is the last one

abbrev EndsListed : List (List ℕ) → Type 0
EndsListed lines = (before : List (List ℕ)) × (lines ≡ before ++ end_state_line ∷ [])

module _ (plan : Plan) where
  behind_ends : (front lines : List (List ℕ)) → EndsListed lines → EndsListed (front ++ lines)
  behind_ends front lines h =
      (front ++ h.0, ap (λ (l : List (List ℕ)). front ++ l) h.1 ∙ sym (append_assoc front h.0 (end_state_line ∷ [])))

  batch_ends : (state : State) (handed : Handed) → EndsListed (batch_lines plan true state handed)
  batch_ends state handed =
      let next = step (run_of plan) state handed in
      let rows = row_lines plan next.rows in
      let answered = answer_lines plan.tables (answer (run_of plan) state handed) in (
        answered ++ state_line next.batches ∷ rows,
        sym (append_assoc answered (state_line next.batches ∷ rows) (end_state_line ∷ [])),
      )

  script_ends : (now : Bool) (state : State) (script : List (ℕ × Handed)) → listed_script plan true now state script ≡ true
      → ((now ≡ true) × (script_lines plan true state script ≡ [])) ⊎ EndsListed (script_lines plan true state script)
  script_ends now state [] e = inl (e, refl)
  script_ends now state (batch ∷ more) e = by (is_kept state batch) (script_ends (cond (is_kept state batch) false true) (next plan state batch) more e)
    where
      rest : List (List ℕ)
      rest = script_lines plan true (next plan state batch) more

      first : Bool → List (List ℕ)
      first b = cond b (kept_line batch.0 ∷ []) (batch_lines plan true state batch.1)

      by : (b : Bool) → ((cond b false true ≡ true) × (rest ≡ [])) ⊎ EndsListed rest → ((now ≡ true) × (first b ++ rest ≡ [])) ⊎ EndsListed (first b ++ rest)
      by true (inl h) = let clash : false ≡ true = h.0 in cc
      by false (inl h) =
          inr (subst EndsListed (sym (ap (λ (l : List (List ℕ)). batch_lines plan true state batch.1 ++ l) h.1
          ∙ append-nil (batch_lines plan true state batch.1)))
          (batch_ends state batch.1))
      by b (inr h) = inr (behind_ends (first b) rest h)

  drains_end : (state : State) (drains : List Handed) → (drains ≡ []) ⊎ EndsListed (drain_lines plan true state drains)
  drains_end state [] = inl refl
  drains_end state (handed ∷ more) = inr (by (drains_end (step (run_of plan) state handed) more))
    where
      by : (more ≡ []) ⊎ EndsListed (drain_lines plan true (step (run_of plan) state handed) more)
          → EndsListed (batch_lines plan true state handed ++ drain_lines plan true (step (run_of plan) state handed) more)
      by (inl none) =
          subst EndsListed (sym (ap (λ (d : List Handed). batch_lines plan true state handed ++ drain_lines plan true (step (run_of plan) state handed) d) none
          ∙ append-nil (batch_lines plan true state handed))) (batch_ends state handed)
      by (inr h) = behind_ends (batch_lines plan true state handed) (drain_lines plan true (step (run_of plan) state handed) more) h

  module _ (state : State) (script : List (ℕ × Handed)) (drains : List Handed) where
    abbrev Front : List (List ℕ)
    Front = script_lines plan true state script

    abbrev Back : List (List ℕ)
    Back = drain_lines plan true (left plan state script) drains

    pub ends_listed_so : ends_listed plan true state script drains ≡ true
        → (before : List (List ℕ)) × (report plan true state script drains ≡ before ++ end_state_line ∷ [])
    ends_listed_so e = subst EndsListed (sym (append-nil (Front ++ Back))) (by (drains_end (left plan state script) drains))
      where
        kept : drains ≡ [] → ((false ≡ true) × (Front ≡ [])) ⊎ EndsListed Front → EndsListed (Front ++ Back)
        kept none (inl h) = let clash : false ≡ true = h.0 in cc
        kept none (inr h) =
            subst EndsListed (sym (ap (λ (d : List Handed). Front ++ drain_lines plan true (left plan state script) d) none ∙ append-nil Front)) h

        by : (drains ≡ []) ⊎ EndsListed Back → EndsListed (Front ++ Back)
        by (inl none) = kept none (script_ends false state script
            (ap (λ (d : List Handed). listed_drains plan true (listed_script plan true false state script) d) (sym none) ∙ e))
        by (inr h) = behind_ends Front Back h
