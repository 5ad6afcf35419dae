-- Steps one behind the other: what they print and leave, what is held behind them, and what passes in them.
use Rattle.std.proofs.Common.{◌≡◌, inl, inr, subst, append_assoc, ℕ, List, [], ◌∷◌, ◌++◌, Option}
use Rattle.std.specs.Io.KnownBytes.{Appends}
use Rattle.batch_core.specs.Steps.{State}
use Rattle.disk_model.specs.Histories.{History}
use Rattle.proc_lang.specs.Catalogs.{Plan}
use Rattle.script_course.specs.Courses.{Course, Goes, Stops, behind}
use Rattle.run_commands.specs.Keeps.{Keeps}
use Rattle.run_commands.specs.Passes.{Passes, PassesBy, held_by_step, held_over, onward, over}
use Rattle.run_commands.proofs.Kept.{here_in, keeps_more, keeps_then}

-- ---- courses

module _ {R : Type 0} where
  -- where it goes on, this holds of what it prints and leaves
  abbrev pub IfGoes : Course R → (List ℕ → R → Type 0) → Type 0
  IfGoes (Goes bytes r) P = P bytes r
  IfGoes (Stops bytes) P = Unit {0}

  if_goes_more : (c : Course R) (P Q : List ℕ → R → Type 0) → ((bytes : List ℕ) (r : R) → P bytes r → Q bytes r) → IfGoes c P → IfGoes c Q
  if_goes_more (Goes bytes r) P Q more h = more bytes r h
  if_goes_more (Stops bytes) P Q more h = tt

-- ---- steps, and more of them

module _ {R X : Type 0} (on : R → X → Course R) (held_by : State → R → R → State) where
  more_by : (P Q : R → State → State → List ℕ → Type 0) (c : Course R) (r : R) (held t : State) (given : List ℕ)
      → ((next : R) (kept t : State) (rest : List ℕ) → P next kept t rest → Q next kept t rest) → PassesBy on held_by r held P c t given
      → PassesBy on held_by r held Q c t given
  more_by P Q (Stops bytes) r held t given more h = h
  more_by P Q (Goes bytes next) r held t given more (inl h) = inl h
  more_by P Q (Goes bytes next) r held t given more (inr h) =
      inr (record { rest = h.rest; first = h.first; passes_on = more next (held_by held r next) t h.rest h.passes_on })

  -- what passes in steps passes in more of them
  front_in : (steps more : List X) (r : R) (held t : State) (given : List ℕ) → Passes on held_by steps r held t given
      → Passes on held_by (steps ++ more) r held t given
  front_in [] more r held t given h = here_in on held_by more r held t given h
  front_in (x ∷ steps) more r held t given (inl h) = inl h
  front_in (x ∷ steps) more r held t given (inr h) =
      inr (more_by (Passes on held_by steps) (Passes on held_by (steps ++ more)) (on r x) r held t given (front_in steps more) h)

  -- what passes behind them, where they printed these bytes and left this
  abbrev Carries : List X → List X → R → State → List ℕ → R → Type 0
  Carries steps more r held bytes s =
      (t : State) (rest : List ℕ) → Passes on held_by more s (held_over on held_by steps r held) t rest
      → Passes on held_by (steps ++ more) r held t (bytes ++ rest)

  -- behind one step and the rest
  abbrev CarriesBy : List X → List X → R → State → Course R → List ℕ → R → Type 0
  CarriesBy steps more r held c bytes s =
      (t : State) (rest : List ℕ) → Passes on held_by more s (held_by_step on held_by r held (held_over on held_by steps) c) t rest
      → PassesBy on held_by r held (Passes on held_by (steps ++ more)) c t (bytes ++ rest)

  carries_step : (steps more : List X) (r next : R) (held : State) (bytes : List ℕ) (c : Course R) → IfGoes c (Carries steps more next (held_by held r next))
      → IfGoes (behind bytes c) (CarriesBy steps more r held (Goes bytes next))
  carries_step steps more r next held bytes (Stops b) h = tt
  carries_step steps more r next held bytes (Goes b s) h = λ t rest p. inr
      (record { rest = b ++ rest; first = append_assoc bytes b rest; passes_on = h t rest p })

  carries_by : (steps more : List X) (r : R) (held : State) (c : Course R)
      → ((next : R) (kept : State) → IfGoes (over on steps next) (Carries steps more next kept))
      → IfGoes (onward (over on steps) c) (CarriesBy steps more r held c)
  carries_by steps more r held (Stops bytes) each = tt
  carries_by steps more r held (Goes bytes next) each = carries_step steps more r next held bytes (over on steps next) (each next (held_by held r next))

  carries : (steps more : List X) (r : R) (held : State) → IfGoes (over on steps r) (Carries steps more r held)
  carries [] more r held = λ t rest p. p
  carries (x ∷ steps) more r held =
      if_goes_more (onward (over on steps) (on r x)) (CarriesBy steps more r held (on r x)) (Carries (x ∷ steps) more r held)
      (λ bytes s h t rest p. inr (h t rest p))
      (carries_by steps more r held (on r x) (λ next kept. carries steps more next kept))

  module _ (plan : Plan) (steps more : List X) (r : R) (held : State) where
    -- steps that went on, and more of them
    pub keeps_append : (next : R) (bytes : List ℕ) (a b c : History) (ga gb gc : Option (List ℕ)) → over on steps r ≡ Goes bytes next → Appends ga gb bytes
        → Keeps (Passes on held_by steps r held) plan a b ga gb → Keeps (Passes on held_by more next (held_over on held_by steps r held)) plan b c gb gc
        → Keeps (Passes on held_by (steps ++ more) r held) plan a c ga gc
    keeps_append next bytes a b c ga gb gc is gives k l =
        let second : Carries steps more r held bytes next = subst (λ (q : Course R). IfGoes q (Carries steps more r held)) is (carries steps more r held) in
        keeps_then plan (Passes on held_by steps r held) (Passes on held_by more next (held_over on held_by steps r held))
        (Passes on held_by (steps ++ more) r held) a b c ga gb gc bytes gives
        (λ t given h. front_in steps more r held t given h) second k l

    -- steps that were cut off, whatever follows
    pub keeps_front : (a b : History) (ga gb : Option (List ℕ)) → Keeps (Passes on held_by steps r held) plan a b ga gb
        → Keeps (Passes on held_by (steps ++ more) r held) plan a b ga gb
    keeps_front a b ga gb k =
        keeps_more plan (Passes on held_by steps r held) (Passes on held_by (steps ++ more) r held) a b ga gb
        (λ t given h. front_in steps more r held t given h) k
