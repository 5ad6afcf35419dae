-- What follows where a reading gives something.
use Rattle.std.proofs.Common.{◌≡◌, ℕ, ◌≤◌, ◌<◌, List, Option, Some, None, Bool, true, false, cond, option_map, refl, ap, arith}
use Rattle.std.specs.declared.result.Result.TheVariants.{Ok, Err}
use Rattle.std.specs.Prelude.{option_and_then, nat_le, nat_lt}
use Rattle.std.proofs.lemmas.Grind.{common_steps}
use Rattle.proc_lang.specs.declared.procs.PathPart.{PathPart}
use Rattle.proc_lang.specs.declared.limits.TheConstants.{DEEPEST_EXPR, MOST_STATEMENTS}
use Rattle.proc_lang.specs.Values.{both}
use Rattle.proc_lang.specs.Catalogs.{is_between}
use Rattle.cat_forms.specs.Shapes.{Shaped, ◌>>=◌, at_path, number_within}
use Rattle.cat_forms.specs.TermWalks.{at_level}
use Rattle.cat_forms.specs.StepWalks.{with_room}

pub bind_ok : {A B : Type 0} (s : Shaped A) (go : A → Shaped B) (y : B) → (s >>= go) ≡ Ok y → (x : A) × (s ≡ Ok x) × (go x ≡ Ok y)
bind_ok (Ok x) go y h = (x, refl, h)
bind_ok (Err p) go y h = absurd (cc h)

pub both_ok : {A B : Type 0} (g : Shaped A) (h : Shaped B) (x : A) (y : B) → both g h ≡ Ok (x, y) → (g ≡ Ok x) × (h ≡ Ok y)
both_ok {A} {B} (Ok x) (Ok y) a b e =
    let p : ◌≡◌ {A = A × B} (x, y) (a, b) = cc e in
    (ap (λ (q : A × B). Ok q.0) p, ap (λ (q : A × B). Ok q.1) p)
both_ok (Ok x) (Err q) a b e = absurd (cc e)
both_ok (Err p) h a b e = absurd (cc e)

pub at_path_ok : {A : Type 0} (path : List PathPart) (o : Option A) (x : A) → at_path path o ≡ Ok x → o ≡ Some x
at_path_ok path None x h = absurd (cc h)
at_path_ok path (Some y) x h = cc h

pub mapped_ok : {A B : Type 0} (f : A → B) (o : Option A) (y : B) → option_map f o ≡ Some y → (x : A) × (o ≡ Some x) × (f x ≡ y)
mapped_ok f None y h = absurd (cc h)
mapped_ok f (Some x) y h = (x, refl, cc h)

pub chained_ok : {A B : Type 0} (f : A → Option B) (o : Option A) (y : B) → option_and_then f o ≡ Some y → (x : A) × (o ≡ Some x) × (f x ≡ Some y)
chained_ok f None y h = absurd (cc h)
chained_ok f (Some x) y h = (x, refl, h)

pub at_level_ok : {A : Type 0} (path : List PathPart) (level : ℕ) (s : Shaped A) (x : A) → at_level path level s ≡ Ok x → (level ≤ DEEPEST_EXPR) × (s ≡ Ok x)
at_level_ok path level s x h = tested (nat_le level DEEPEST_EXPR) refl h where
  tested : (b : Bool) → nat_le level DEEPEST_EXPR ≡ b → cond b s (Err path) ≡ Ok x → (level ≤ DEEPEST_EXPR) × (s ≡ Ok x)
  tested true e h = (grind (arith, common_steps, e), h)
  tested false e h = absurd (cc h)

pub number_ok : (low high n m : ℕ) → number_within low high n ≡ Some m → (n ≡ m) × (is_between low high m ≡ true)
number_ok low high n m h = tested (is_between low high n) refl h where
  tested : (b : Bool) → is_between low high n ≡ b → cond b (Some n) None ≡ Some m → (n ≡ m) × (is_between low high m ≡ true)
  tested true e h = let same : n ≡ m = cc h in (same, rw (← same) e)
  tested false e h = absurd (cc h)

pub with_room_ok : {A : Type 0} (body : List PathPart) (seen : ℕ) (s : Shaped A) (x : A) → with_room body seen s ≡ Ok x → (seen < MOST_STATEMENTS) × (s ≡ Ok x)
with_room_ok body seen s x h = tested (nat_lt seen MOST_STATEMENTS) refl h where
  tested : (b : Bool) → nat_lt seen MOST_STATEMENTS ≡ b → cond b s (Err body) ≡ Ok x → (seen < MOST_STATEMENTS) × (s ≡ Ok x)
  tested true e h = (grind (arith, common_steps, e), h)
  tested false e h = absurd (cc h)
