-- Split and join keep the rule: they change two views, and neither words nor homes nor turns.
use Rattle.std.proofs.Common.{◌≡◌, ◌≢◌, ℕ, zero, suc, ◌+◌, ◌/◌, ◌<◌, ◌≤◌, ⊎_elim, List, [], ◌∷◌, length, set, subst, sym, refl, ap, ◌∙◌, arith, Some, None}
use Rattle.std.proofs.lemmas.Bool.{cases_lt}
use mathlib.Core.Option.{some}
use Rattle.atomic_table.specs.Table.{Splits, Joins}
use Rattle.atomic_table.proofs.Lists.{set_else}
use Rattle.aria_base.proofs.Shares.{each-set, each-push, sum_by-set_two, sum_by-set_push}
use Rattle.work_claim.specs.Rule.{times}
use Rattle.baton_crew.specs.Courses.{Course}
use Rattle.baton_crew.specs.Rule.{Kept, Holds, Idle, left_half, right_half, sum_of, spent_view}
use Rattle.baton_crew.specs.declared.rules.View.{View}
use Rattle.baton_crew.proofs.Counts.{times-append, times-halves}

abbrev pub share_of : {W : Type 0} → View W → ℕ
share_of v = v.share

abbrev pub taken_of : {W : Type 0} → ℕ → View W → ℕ
taken_of x v = times x v.taken

abbrev pub ready_of : {W : Type 0} → ℕ → View W → ℕ
ready_of x v = times x v.ready

-- what does not stand in an empty list
pub none_there : {P : Type 0} (ks : List ℕ) (k : ℕ) → ks ≡ [] → 1 ≤ times k ks → P
none_there {P} ks k empty there = absurd (let h : 1 ≤ times k [] = subst (λ l. 1 ≤ times k l) empty there in omega arith)

module _ {S W : Type 0} (course : Course S) where
  -- a seat's half gets its share and half of what is ready
  pub splits : (id : ℕ) (v : View W) → 2 ≤ v.share → Splits (Kept course) id v (left_half v) (right_half v)
  splits id v shares s (turn, kept) at = (
    turn,
    record {
      words = kept.words;
      shares = let sum = sum_by-set_push share_of s.views id v (left_half v) (right_half v) at in let all = kept.shares in omega arith;
      turns = kept.turns;
      queued = kept.queued;
      taken = λ x. (let sum = sum_by-set_push (taken_of x) s.views id v (left_half v) (right_half v) at in omega arith) ∙ kept.taken x;
      ready = λ x. (let sum = sum_by-set_push (ready_of x) s.views id v (left_half v) (right_half v) at in
          omega (arith, times-halves x (length v.ready / 2) v.ready)) ∙ kept.ready x;
      waits = kept.waits;
      passes = kept.passes;
      homes = kept.homes;
      holders = each-push (Holds course turn) (set s.views id (left_half v)) (right_half v) right
          (each-set (Holds course turn) s.views id (left_half v) left kept.holders);
      idle = each-push Idle (set s.views id (left_half v)) (right_half v) some_right (each-set Idle s.views id (left_half v) some_left kept.idle);
    },
  )
    where
      held : Holds course turn v
      held = kept.holders id v at

      left : Holds course turn (left_half v)
      left = record { turns = held.turns; once = held.once; mine = held.mine; passed = held.passed }

      right : Holds course turn (right_half v)
      right = record {
        turns = λ k there. absurd (omega arith);
        once = λ k. omega arith;
        mine = λ k there. absurd (omega arith);
        passed =
            λ x k there. absurd (omega arith);
      }

      some_left : Idle (left_half v)
      some_left = record {
        nothing_ready = λ none. absurd (omega arith);
        nothing_taken = λ none. absurd (omega arith);
        nothing_held =
            λ none. absurd (omega arith);
      }

      some_right : Idle (right_half v)
      some_right = record { nothing_ready = λ none. absurd (omega arith); nothing_taken = λ none. refl; nothing_held = λ none. refl }

  -- a seat takes all that another has, which holds no slot
  pub joins : (id : ℕ) (v : View W) (other : ℕ) (u : View W) → 0 < v.share → u.held ≡ [] → Joins (Kept course) id v other u (sum_of v u) spent_view
  joins id v other u has_share free s (turn, kept) at apart at' = (
    turn,
    record {
      words = kept.words;
      shares = let sum = sum_by-set_two share_of s.views id other v (sum_of v u) u spent_view at at' in let all = kept.shares in omega arith;
      turns = kept.turns;
      queued = kept.queued;
      taken = λ x. (let sum = sum_by-set_two (taken_of x) s.views id other v (sum_of v u) u spent_view at at' in omega (arith, times-append x v.taken u.taken))
          ∙ kept.taken x;
      ready = λ x. (let sum = sum_by-set_two (ready_of x) s.views id other v (sum_of v u) u spent_view at at' in omega (arith, times-append x v.ready u.ready))
          ∙ kept.ready x;
      waits = kept.waits;
      passes = kept.passes;
      homes = kept.homes;
      holders = each-set (Holds course turn) (set s.views id (sum_of v u)) other spent_view spent
          (each-set (Holds course turn) s.views id (sum_of v u) both kept.holders);
      idle = each-set Idle (set s.views id (sum_of v u)) other spent_view
          (record { nothing_ready = λ none. refl; nothing_taken = λ none. refl; nothing_held = λ none. refl })
          (each-set Idle s.views id (sum_of v u) (record {
            nothing_ready = λ none. absurd (omega arith);
            nothing_taken = λ none. absurd (omega arith);
            nothing_held = λ none. absurd (omega arith);
          }) kept.idle);
    },
  )
    where
      mine : Holds course turn v
      mine = kept.holders id v at

      theirs : Holds course turn u
      theirs = kept.holders other u (sym (set_else s.views id other (sum_of v u) apart) ∙ at')

      spent : Holds {W = W} course turn spent_view
      spent = record {
        turns = λ k there. absurd (omega arith);
        once = λ k. omega arith;
        mine = λ k there. absurd (omega arith);
        passed =
            λ x k there. absurd (omega arith);
      }

      both : Holds course turn (sum_of v u)
      both = record {
        turns = mine.turns;
        once = mine.once;
        mine = λ k there. let h = mine.mine k there in omega (arith, times-append v.item v.taken u.taken);
        passed = λ x k there touched is. ⊎_elim
            (λ lt. mine.passed x k (omega arith) touched is)
            (λ ge. none_there u.held k free (theirs.passed x k (omega (arith, times-append x v.taken u.taken)) touched is).1)
            (cases_lt 0 (times x v.taken));
      }
