-- A script with its report keeps what is true of it from line to line.
use Rattle.std.proofs.Common.{◌≡◌, ◌∙◌, sym, ap, subst, refl, ℕ, ◌+◌, ◌≤◌, Bool, true, false, cond, List, [], ◌∷◌, ◌++◌, length, map, arith, nat_le}
use Rattle.std.specs.Prelude.{Ok}
use Rattle.std.proofs.lemmas.Bool.{le-leb, lt-leb}
use Rattle.std.proofs.lemmas.List.{length-append, map-append}
use Rattle.aria_base.specs.declared.calls.Call.{Call}
use Rattle.aria_base.specs.declared.limits.TheConstants.{GREATEST_NUMBER}
use Rattle.script_places.proofs.Allowed.{follows}
use Rattle.script_places.specs.Follows.{Follows}
use Rattle.script_places.specs.Places.{asked}
use Rattle.script_places.specs.declared.deeds.Deed.{Deed}
use Rattle.script_places.specs.declared.deeds.Deed.TheVariants as deed
use Rattle.script_places.specs.declared.places.ScriptPlace.{ScriptPlace}
use Rattle.check_command.specs.Checks.{Doing, counts_of, with_call, with_kept, with_run}
use Rattle.serial_check.specs.Crowds.{run_behind}
use Rattle.check_command.specs.Standing.{MayCall, MayDo, MayKeep, MayRun, Stands}
use Rattle.check_command.proofs.Asked.{kept_before}

-- ---- one batch more

pub run_more : (n : ℕ) (script : List (ℕ × List Call)) (batch : ℕ × List Call)
    → run_behind n (script ++ batch ∷ []) ≡ cond (nat_le batch.0 (run_behind n script)) (run_behind n script) (run_behind n script + 1)
run_more n [] batch = refl
run_more n (b ∷ more) batch = run_more (cond (nat_le b.0 n) n (n + 1)) more batch

kept_if : (n : ℕ) (b : Bool) → b ≡ true → cond b n (n + 1) ≡ n
kept_if n b e = rw e refl

run_if : (n : ℕ) (b : Bool) → b ≡ false → cond b n (n + 1) ≡ n + 1
run_if n b e = rw e refl

pub keep_stands : (d : Doing) (number : ℕ) → MayKeep d number → Stands (with_kept d number)
keep_stands d number may =
    let n = run_behind 0 d.script in
    record {
      ends = run_more 0 d.script (number, []) ∙ kept_if n (nat_le number n) (le-leb number n (omega (arith, may.before, may.ends))) ∙ may.ends;
      counted = may.counted;
    }

pub run_stands : (d : Doing) → MayRun d → Stands (with_run d)
run_stands d may =
    let n = run_behind 0 d.script in
    let most = length d.ends in
    record {
      ends = run_more 0 d.script (most + 1, d.calls) ∙ run_if n (nat_le (most + 1) n) (lt-leb (most + 1) n (omega (arith, may.ends))) ∙ ap (λ n. n + 1) may.ends
          ∙ sym (length-append d.ends (d.place.lines ∷ []));
      counted = may.counted;
    }

pub call_stands : (d : Doing) (call : Call) → MayCall d → Stands (with_call d call)
call_stands d call may = record { ends = may.ends; counted = may.counted ∙ sym (length-append d.calls (call ∷ [])) }

-- what was pushed to a list stands behind its view
pub pushed : {B : Type 0} (view : B → ℕ × List Call) (xs ys : List B) (b : B) (is : ℕ × List Call) → ys ≡ xs ++ b ∷ [] → view b ≡ is
    → map view ys ≡ map view xs ++ is ∷ []
pushed view xs ys b is e seen = ap (map view) e ∙ map-append view xs (b ∷ []) ∙ ap (λ (x : ℕ × List Call). map view xs ++ x ∷ []) seen

pub kept_on : (d next : Doing) (number : ℕ) → MayKeep d number → next.place ≡ d.place → next.calls ≡ [] → next.script ≡ d.script ++ (number, []) ∷ []
    → next.ends ≡ d.ends → Stands next
kept_on d next number may place calls script ends =
    let s = keep_stands d number may in
    record {
      ends = ap (λ (l : List (ℕ × List Call)). run_behind 0 l) script ∙ s.ends ∙ ap length (sym ends);
      counted = ap (λ (p : ScriptPlace). p.open_calls) place ∙ s.counted ∙ ap length (sym calls);
    }

pub ran_on : (d next : Doing) → MayRun d → next.place ≡ d.place → next.calls ≡ [] → next.script ≡ d.script ++ (length d.ends + 1, d.calls) ∷ []
    → next.ends ≡ d.ends ++ d.place.lines ∷ []
    → Stands next
ran_on d next may place calls script ends =
    let s = run_stands d may in
    record {
      ends = ap (λ (l : List (ℕ × List Call)). run_behind 0 l) script ∙ s.ends ∙ ap length (sym ends);
      counted = ap (λ (p : ScriptPlace). p.open_calls) place ∙ s.counted ∙ ap length (sym calls);
    }

-- ---- what a line asks for may be done behind it

pub may_do : (d : Doing) (line : List ℕ) (after : ScriptPlace) (asks : Deed) → Stands d → asked d.place (counts_of d) line ≡ Ok (after, asks)
    → Follows d.place (counts_of d) after asks
    → MayDo (record d { place = after }) asks
may_do d line after deed.Nothing s e f = record { ends = s.ends; counted = f.allows.calls ∙ s.counted }
may_do d line after deed.Tell s e f = record { ends = s.ends; counted = f.allows.calls ∙ s.counted }
may_do d line after (deed.Put key row) s e f = record { ends = s.ends; counted = f.allows.calls ∙ s.counted }
may_do d line after (deed.Call call) s e f = record { ends = s.ends; counted = f.allows.calls ∙ ap (λ n. n + 1) s.counted }
may_do d line after (deed.Set rule percent) s e f = record { ends = s.ends; counted = f.allows.calls ∙ s.counted }
may_do d line after (deed.Keep number) s e f = record {
  ends = s.ends;
  counted = f.allows.calls;
  before =
      kept_before (counts_of d) d.place line after number e;
}
may_do d line after deed.Run s e f = record {
  ends = s.ends;
  counted = f.allows.calls;
  requests = subst (λ n. d.requests + n ≤ GREATEST_NUMBER) s.counted f.allows.requests;
}

-- as it was asked: the batches are as many as the lines that end them
pub may_follow : (d : Doing) (n : ℕ) (line : List ℕ) (after : ScriptPlace) (asks : Deed) → n ≡ length d.ends → Stands d
    → asked d.place (record { batches = n; requests = d.requests; waiting = 0 }) line ≡ Ok (after, asks) → MayDo (record d { place = after }) asks
may_follow d n line after asks same s e =
    let is : asked d.place (counts_of d) line ≡ Ok (after, asks) =
    subst (λ (m : ℕ). asked d.place (record { batches = m; requests = d.requests; waiting = 0 }) line ≡ Ok (after, asks)) same e in
    may_do d line after asks s is (follows d.place (counts_of d) line after asks is)
