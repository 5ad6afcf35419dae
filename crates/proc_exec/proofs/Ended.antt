-- A run that is played step by step comes to what the definitions say of the whole run.
use Rattle.std.proofs.Common.{◌≡◌, Some, None, Option, refl, sym, ap, ◌∙◌}
use Rattle.std.specs.Prelude.{MatchOption}
use Rattle.aria_base.specs.Orders.{key_cmp, Cells}
use Rattle.aria_base.specs.declared.keys.Key.{Key}
use Rattle.batch_rules.specs.Trees.{end_of, left_by, trace_of}
use Rattle.batch_rules.specs.Touches.{Declared as Touchable, all_noted, outside}
use Rattle.batch_rules.specs.Plays.{Played, PlayEnd, Finishes, Strays, play}
use Rattle.batch_rules.proofs.Plays.{play-is, play_within-is}
use Rattle.proc_lang.specs.declared.ends.End.{End}
use Rattle.proc_lang.specs.Meaning.{Run}
use Rattle.proc_exec.specs.declared.outcomes.Ran.{Ran}
use Rattle.proc_exec.specs.declared.outcomes.Ran.TheVariants as ran
use Rattle.proc_exec.specs.Steppings.{Window, end_of_ran}
use Rattle.proc_exec.specs.Endings.{EndsAs, EndsWithin}

abbrev finish : End → PlayEnd Key End
finish end = Finishes end

abbrev stray : Key → PlayEnd Key End
stray key = Strays key

pub ends_as : (run : Run) (old new : Window) (end : End) → play None run old ≡ record { end = Finishes end; seen = new } → EndsAs run old new end
ends_as run old new end e =
    let whole : Played key_cmp Cells End = record {
      end = Finishes (end_of run old.map);
      seen =
          record { map = left_by run old.map; noted = all_noted key_cmp old.noted (trace_of run old.map) };
    } in
    let same : whole ≡ record { end = Finishes end; seen = new } = sym (play-is run old) ∙ e in
    let ends : finish (end_of run old.map) ≡ finish end = ap (λ (p : Played key_cmp Cells End). p.end) same in
    (cc, sym (ap (λ (p : Played key_cmp Cells End). p.seen) same))

-- without limits no run strays
pub never_strays : (run : Run) (old new : Window) (key : Key) → play None run old ≡ record { end = Strays key; seen = new } → ⊥
never_strays run old new key e =
    let ends : finish (end_of run old.map) ≡ stray key = ap (λ (p : Played key_cmp Cells End). p.end) (sym (play-is run old) ∙ e) in
    cc

ended : (declared : Touchable Key) (run : Run) (old new : Window) (r : Ran) → outside key_cmp declared (trace_of run old.map) ≡ None
    → play None run old ≡ record { end = end_of_ran r; seen = new } → EndsWithin declared run old new r
ended declared run old new (ran.Ended end) none e = (none, ends_as run old new end e)
ended declared run old new (ran.Moved key) none e = absurd (never_strays run old new key e)

moved : (declared : Touchable Key) (run : Run) (old new : Window) (r : Ran) (key : Key) → outside key_cmp declared (trace_of run old.map) ≡ Some key
    → stray key ≡ end_of_ran r → EndsWithin declared run old new r
moved declared run old new (ran.Ended end) key some e = cc
moved declared run old new (ran.Moved other) key some e = cc

by_outside : (declared : Touchable Key) (run : Run) (old new : Window) (r : Ran) → play (Some declared) run old ≡ record { end = end_of_ran r; seen = new }
    → (o : Option Key) → outside key_cmp declared (trace_of run old.map) ≡ o
    → MatchOption o (play (Some declared) run old ≡ play None run old) (λ key. (play (Some declared) run old).end ≡ Strays key)
    → EndsWithin declared run old new r
by_outside declared run old new r e None none same = ended declared run old new r none (sym same ∙ e)
by_outside declared run old new r e (Some key) some strays = moved declared run old new r key some (sym strays ∙ ap (λ (p : Played key_cmp Cells End). p.end) e)

pub ends_within : (declared : Touchable Key) (run : Run) (old new : Window) (r : Ran)
    → play (Some declared) run old ≡ record { end = end_of_ran r; seen = new } → EndsWithin declared run old new r
ends_within declared run old new r e = by_outside declared run old new r e (outside key_cmp declared (trace_of run old.map)) refl
    (play_within-is declared run old)
