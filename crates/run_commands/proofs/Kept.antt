-- What is kept line by line is kept by all.
use Rattle.std.proofs.Common.{length, arith, ◌≡◌, ◌≢◌, ◌⊎◌, inl, inr, ◌∙◌, sym, ap, subst, refl, ℕ, List, [], ◌∷◌, ◌++◌, take, Option, Some, None}
use Rattle.std.specs.Prelude.{Result, Ok, Err}
use Rattle.std.specs.Io.KnownBytes.{Appends}
use Rattle.std.proofs.KnownBytes.{Appends-trans}
use Rattle.std.proofs.lemmas.List.{length-append}
use Rattle.std.proofs.Math.Nat.{le_refl}
use Rattle.aria_base.specs.Streams.{AppendsFront}
use Rattle.batch_core.specs.Steps.{State}
use Rattle.disk_model.specs.Histories.{History, LeavesAll, MayLeave}
use Rattle.disk_model.proofs.Spans.{leaves_more, leaves_then, leaves_still, still_none}
use Rattle.proc_lang.specs.Catalogs.{Plan}
use Rattle.script_course.proofs.Turns.{front_all}
use Rattle.script_course.specs.Courses.{Course, Goes, Stops, printed}
use Rattle.script_course.specs.Served.{Serves}
use Rattle.script_course.specs.declared.stops.Stop.{Stop}
use Rattle.script_course.specs.declared.stops.Stop.TheVariants as stop
use Rattle.serving.specs.Stored.{LeavesState, ReopensToEither}
use Rattle.run_commands.specs.Keeps.{Keeps, ReopensAsGiven, ReopensToPassed}
use Rattle.run_commands.specs.Passes.{IsHere, Passes, PassesBy}

-- ---- one part and then another

module _ (plan : Plan) where
  pub passed_more : (P Q : State → List ℕ → Type 0) → ((t : State) (given : List ℕ) → P t given → Q t given) → (images : ℕ → List ℕ)
      → ReopensToPassed P plan images → ReopensToPassed Q plan images
  passed_more P Q more images h = record { state = h.state; given = h.given; passed = more h.state h.given h.passed; reopens = h.reopens }

  pub keeps_more : (P Q : State → List ℕ → Type 0) (a b : History) (ga gb : Option (List ℕ)) → ((t : State) (given : List ℕ) → P t given → Q t given)
      → Keeps P plan a b ga gb → Keeps Q plan a b ga gb
  keeps_more P Q a b ga gb more k = record {
    images = leaves_more a b (ReopensToPassed P plan) (ReopensToPassed Q plan) k.images (passed_more P Q more);
    exit = λ images left. let e = k.exit images left in record {
      state = e.state;
      given = e.given;
      passed = more e.state e.given e.passed;
      appends = e.appends;
      reopens = e.reopens;
    };
  }

  -- the second part begins behind these bytes
  pub keeps_then : (P Q W : State → List ℕ → Type 0) (a b c : History) (ga gb gc : Option (List ℕ)) (bytes : List ℕ) → Appends ga gb bytes
      → ((t : State) (given : List ℕ) → P t given → W t given) → ((t : State) (rest : List ℕ) → Q t rest → W t (bytes ++ rest))
      → Keeps P plan a b ga gb → Keeps Q plan b c gb gc → Keeps W plan a c ga gc
  keeps_then P Q W a b c ga gb gc bytes gives first second k l = record {
    images = leaves_then a b c (ReopensToPassed W plan)
        (leaves_more a b (ReopensToPassed P plan) (ReopensToPassed W plan) k.images (passed_more P W first))
        (leaves_more b c (ReopensToPassed Q plan) (ReopensToPassed W plan) l.images
        (λ images h. record { state = h.state; given = bytes ++ h.given; passed = second h.state h.given h.passed; reopens = h.reopens }));
    exit = λ images left. let e = l.exit images left in record {
      state = e.state;
      given = bytes ++ e.given;
      passed = second e.state e.given e.passed;
      appends = Appends-trans ga gb gc bytes e.given gives e.appends;
      reopens = e.reopens;
    };
  }

-- ---- what a course that was cut off gave

pub front_of : {R : Type 0} (c : Course R) (old new : Option (List ℕ)) (result : Result R Stop) → Serves c old new result → AppendsFront old new (printed c)
front_of (Goes bytes s) old new (Ok r) h = front_all old new bytes h.1
front_of (Stops bytes) old new (Ok r) h = absurd h
front_of (Goes bytes s) old new (Err stop.Refused) h = absurd h
front_of (Stops bytes) old new (Err stop.Refused) h = front_all old new bytes h
front_of c old new (Err stop.NoMemory) h = h
front_of c old new (Err stop.NoWrite) h = h
front_of c old new (Err stop.NoDisk) h = h
front_of c old new (Err stop.NoRead) h = absurd h

longer_not : (l : List ℕ) (z : ℕ) (rest : List ℕ) → l ++ z ∷ rest ≡ l → ⊥
longer_not l z rest e = let n : length (l ++ z ∷ rest) ≡ length l = ap length e in omega (arith, n, length-append l (z ∷ rest))

same_some : (xs ys : List ℕ) → Some ys ≡ Some xs → ys ≡ xs
same_some xs ys e = cc

some_or_none : (xs ys first : List ℕ) → ys ≡ xs ++ first → (Some ys ≢ Some xs) ⊎ (ys ≡ xs ++ [])
some_or_none xs ys [] h = inr h
some_or_none xs ys (z ∷ rest) h = inl (λ e. longer_not xs z rest (sym h ∙ same_some xs ys e))

-- ---- steps

module _ {R X : Type 0} (on : R → X → Course R) (held_by : State → R → R → State) where
  pub here_in : (steps : List X) (r : R) (held t : State) (given : List ℕ) → IsHere held [] t given → Passes on held_by steps r held t given
  here_in [] r held t given h = h
  here_in (x ∷ steps) r held t given h = inl h

  -- what passes in a step passes in it and more
  one_by : (steps : List X) (c : Course R) (r : R) (held t : State) (given : List ℕ) → PassesBy on held_by r held (Passes on held_by []) c t given
      → PassesBy on held_by r held (Passes on held_by steps) c t given
  one_by steps (Stops bytes) r held t given h = h
  one_by steps (Goes bytes next) r held t given (inl h) = inl h
  one_by steps (Goes bytes next) r held t given (inr h) =
      inr (record { rest = h.rest; first = h.first; passes_on = here_in steps next (held_by held r next) t h.rest h.passes_on })

  pub one_in : (x : X) (steps : List X) (r : R) (held t : State) (given : List ℕ) → Passes on held_by (x ∷ []) r held t given
      → Passes on held_by (x ∷ steps) r held t given
  one_in x steps r held t given (inl h) = inl h
  one_in x steps r held t given (inr h) = inr (one_by steps (on r x) r held t given h)

  module _ (plan : Plan) where
    -- a step that went on, and the rest
    pub keeps_on : (x : X) (steps : List X) (r next : R) (held : State) (bytes : List ℕ) (a b c : History) (ga gb gc : Option (List ℕ))
        → on r x ≡ Goes bytes next → Appends ga gb bytes
        → Keeps (Passes on held_by (x ∷ []) r held) plan a b ga gb → Keeps (Passes on held_by steps next (held_by held r next)) plan b c gb gc
        → Keeps (Passes on held_by (x ∷ steps) r held) plan a c ga gc
    keeps_on x steps r next held bytes a b c ga gb gc is gives k l =
        let W : State → List ℕ → Type 0 = Passes on held_by (x ∷ steps) r held in
        keeps_then plan (Passes on held_by (x ∷ []) r held) (Passes on held_by steps next (held_by held r next)) W a b c ga gb gc bytes gives
        (λ t given h. one_in x steps r held t given h)
        (λ t rest h. inr (subst (λ (k : Course R). PassesBy on held_by r held (Passes on held_by steps) k t (bytes ++ rest)) (sym is)
        (inr (record { rest = rest; first = refl; passes_on = h })))) k l

    -- a step that was cut off, whatever follows
    pub keeps_cut : (x : X) (steps : List X) (r : R) (held : State) (a b : History) (ga gb : Option (List ℕ))
        → Keeps (Passes on held_by (x ∷ []) r held) plan a b ga gb
        → Keeps (Passes on held_by (x ∷ steps) r held) plan a b ga gb
    keeps_cut x steps r held a b ga gb k = keeps_more plan (Passes on held_by (x ∷ []) r held) (Passes on held_by (x ∷ steps) r held) a b ga gb
        (λ t given h. one_in x steps r held t given h) k

    -- nothing is done
    pub keeps_none : (steps : List X) (r : R) (held : State) (a : History) (g : Option (List ℕ)) → Appends g g [] → LeavesState a plan held
        → Keeps (Passes on held_by steps r held) plan a a g g
    keeps_none steps r held a g none leaves =
        let passes = here_in steps r held held [] (record { state = refl; count = 0; front = refl }) in
        record {
          images = leaves_still a a (ReopensToPassed (Passes on held_by steps r held) plan) (still_none a)
              (λ images left. record { state = held; given = []; passed = passes; reopens = leaves images left });
          exit = λ images left. record { state = held; given = []; passed = passes; appends = none; reopens = leaves images left };
        }

    -- ---- a step that leaves the disk alone

    quiet_by : (c : Course R) (r : R) (held : State) (n : ℕ) → ((bytes : List ℕ) (next : R) → c ≡ Goes bytes next → held_by held r next ≡ held)
        → PassesBy on held_by r held (Passes on held_by []) c held (take n (printed c))
    quiet_by (Goes bytes next) r held n stays = inl (record { state = sym (stays bytes next refl); count = n; front = refl })
    quiet_by (Stops bytes) r held n stays = record { state = refl; count = n; front = refl }

    pub keeps_quiet : (x : X) (r : R) (held : State) (a : History) (ga gb : Option (List ℕ)) (result : Result R Stop)
        → ((bytes : List ℕ) (next : R) → on r x ≡ Goes bytes next → held_by held r next ≡ held) → Serves (on r x) ga gb result → LeavesState a plan held
        → Keeps (Passes on held_by (x ∷ []) r held) plan a a ga gb
    keeps_quiet x r held a ga gb result stays serves leaves = record {
      images = leaves_still a a (ReopensToPassed (Passes on held_by (x ∷ []) r held) plan) (still_none a)
          (λ images left. record { state = held; given = []; passed = inl (record { state = refl; count = 0; front = refl }); reopens = leaves images left });
      exit = λ images left. let f = front_of (on r x) ga gb result serves in record {
        state = held;
        given = take f.0 (printed (on r x));
        passed = inr (quiet_by (on r x) r held f.0 stays);
        appends = f.1;
        reopens = leaves images left;
      };
    }

    -- ---- a step that is a batch

    module _ (x : X) (r next : R) (held : State) (text : List ℕ) (is : on r x ≡ Goes text next) where
      abbrev Step : State → List ℕ → Type 0
      Step = Passes on held_by (x ∷ []) r held

      before_step : Step held []
      before_step = inl (record { state = refl; count = 0; front = refl })

      in_step : (n : ℕ) → Step (held_by held r next) (take n text)
      in_step n = inr (subst (λ (k : Course R). PassesBy on held_by r held (Passes on held_by []) k (held_by held r next) (take n text)) (sym is)
          (inl (record { state = refl; count = n; front = refl })))

      either_passes : (images : ℕ → List ℕ) → ReopensToEither plan held (held_by held r next) images → ReopensToPassed Step plan images
      either_passes images (inl h) = record { state = held; given = []; passed = before_step; reopens = h }
      either_passes images (inr h) = record { state = held_by held r next; given = take 0 text; passed = in_step 0; reopens = h }

      either_given : (ga gb : Option (List ℕ)) (images : ℕ → List ℕ) → Appends ga gb [] → ReopensToEither plan held (held_by held r next) images
          → ReopensAsGiven Step plan ga gb images
      either_given ga gb images none (inl h) = record { state = held; given = []; passed = before_step; appends = none; reopens = h }
      either_given ga gb images none (inr h) = record { state = held_by held r next; given = take 0 text; passed = in_step 0; appends = none; reopens = h }

      given_or_none : (ga gb : Option (List ℕ)) (n : ℕ) → Appends ga gb (take n text) → (gb ≢ ga) ⊎ Appends ga gb []
      given_or_none None gb n h = inr tt
      given_or_none (Some xs) None n h = absurd h
      given_or_none (Some xs) (Some ys) n h = some_or_none xs ys (take n text) h

      exit_by : (b : History) (ga gb : Option (List ℕ)) (n : ℕ) (images : ℕ → List ℕ) → MayLeave b b.now images → Appends ga gb (take n text)
          → ((images : ℕ → List ℕ) → MayLeave b b.now images → ReopensToEither plan held (held_by held r next) images)
          → ((gb ≢ ga) → LeavesState b plan (held_by held r next)) → (gb ≢ ga) ⊎ Appends ga gb [] → ReopensAsGiven Step plan ga gb images
      exit_by b ga gb n images left front either given (inl other) =
          record { state = held_by held r next; given = take n text; passed = in_step n; appends = front; reopens = given other images left }
      exit_by b ga gb n images left front either given (inr none) = either_given ga gb images none (either images left)

      pub keeps_batch : (a b : History) (ga gb : Option (List ℕ)) → AppendsFront ga gb text → LeavesAll a b (ReopensToEither plan held (held_by held r next))
          → ((gb ≢ ga) → LeavesState b plan (held_by held r next)) → Keeps Step plan a b ga gb
      keeps_batch a b ga gb front all given = record {
        images = leaves_more a b (ReopensToEither plan held (held_by held r next)) (ReopensToPassed Step plan) all either_passes;
        exit = λ images left. exit_by b ga gb front.0 images left front.1 (λ i l. all.each b.now all.later (le_refl b.now) i l) given
            (given_or_none ga gb front.0 front.1);
      }

      pub keeps_told : (a b : History) (ga gb : Option (List ℕ)) → Appends ga gb text → LeavesAll a b (ReopensToEither plan held (held_by held r next))
          → LeavesState b plan (held_by held r next) → Keeps Step plan a b ga gb
      keeps_told a b ga gb whole all leaves = record {
        images = leaves_more a b (ReopensToEither plan held (held_by held r next)) (ReopensToPassed Step plan) all either_passes;
        exit = λ images left. let f = front_all ga gb text whole in
            record { state = held_by held r next; given = take f.0 text; passed = in_step f.0; appends = f.1; reopens = leaves images left };
      }
