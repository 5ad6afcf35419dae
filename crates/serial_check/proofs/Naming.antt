-- Whom an order line names: its tokens are their numbers, each one is of the list, and none stands twice.
use Rattle.std.proofs.Common.{◌≡◌, ℕ, List, [], ◌∷◌, ◌++◌, map, Bool, true, false, cond, Option, Some, None, refl, ap, sym, ◌∙◌, subst, ⊎_elim, ◌==◌, ◌||◌, append_assoc, append-nil, eqb-true}
use Rattle.std.specs.Prelude.{decimal, if◌then◌else◌, option_and_then}
use Rattle.std.specs.List.{find, list_any}
use Rattle.std.proofs.lemmas.Bool.{cases_Bool, false_from_ne_true, eq-eqb}
use Rattle.std.proofs.lemmas.Slice.Eq.{bytes_eq-Decides}
use Rattle.aria_base.specs.declared.calls.Request.{Request}
use Rattle.batch_core.specs.Serial.{is_named, request_numbered}
use Rattle.serial_check.specs.Orders.{is_written, unnamed, named_after}
use Rattle.serial_check.specs.Serial.{AreApart, numbers}
use Rattle.serial_check.proofs.OrderSteps.{some_of_unnamed, names}

-- a finer test finds the same, where what is found passes it
find_finer : (p q : Request → Bool) → ((x : Request) → q x ≡ true → p x ≡ true) → (xs : List Request) (r : Request)
    → find p xs ≡ Some r → q r ≡ true → find q xs ≡ Some r
find_finer p q w [] r h s = cc
find_finer p q w (x ∷ xs) r h s =
    ⊎_elim
    (λ (px : p x ≡ true). let first : Some x ≡ Some r = sym (ap (λ b. cond b (Some x) (find p xs)) px) ∙ h in
    let same : r ≡ x = cc in
    ap (λ b. cond b (Some x) (find q xs)) (subst (λ z. q z ≡ true) same s) ∙ first)
    (λ (ne : p x ≡ false). let fails : q x ≡ false = false_from_ne_true (q x) (λ t. let clash = sym (w x t) ∙ ne in cc) in
    ap (λ b. cond b (Some x) (find q xs)) fails
    ∙ find_finer p q w xs r (sym (ap (λ b. cond b (Some x) (find p xs)) ne) ∙ h) s)
    (cases_Bool (p x))

-- one number is written in one way
numbered_alike : (r x : Request) → (x.q == r.q) ≡ true → is_written (decimal r.q) x ≡ true
numbered_alike r x h = let same : x.q ≡ r.q = eqb-true x.q r.q h in (bytes_eq-Decides (decimal x.q) (decimal r.q)).1 (ap decimal same)

itself : (n : ℕ) → (n == n) ≡ true
itself n = eq-eqb n n refl

number_found : (list : List Request) (token : List ℕ) (r : Request) → decimal r.q ≡ token → find (is_written token) list ≡ Some r
    → request_numbered list r.q ≡ Some r
number_found list token r w h =
    find_finer (is_written (decimal r.q)) (λ x. x.q == r.q) (numbered_alike r) list r (subst (λ t. find (is_written t) list ≡ Some r) (sym w) h) (itself r.q)

none_numbered : (r : Request) (xs : List Request) → list_any (is_written (decimal r.q)) xs ≡ false → is_named (numbers xs) r ≡ false
none_numbered r [] h = refl
none_numbered r (x ∷ xs) h =
    ⊎_elim
    (λ (e : is_written (decimal r.q) x ≡ true). let clash = sym (ap (λ b. b || list_any (is_written (decimal r.q)) xs) e) ∙ h in cc)
    (λ (ne : is_written (decimal r.q) x ≡ false).
    let differs : (x.q == r.q) ≡ false = false_from_ne_true (x.q == r.q) (λ t. let clash = sym (numbered_alike r x t) ∙ ne in cc) in
    ap (λ b. b || is_named (numbers xs) r) differs
    ∙ none_numbered r xs (sym (ap (λ b. b || list_any (is_written (decimal r.q)) xs) ne) ∙ h))
    (cases_Bool (is_written (decimal r.q) x))

none_before : (b : Bool) (o : Option Request) (r : Request) → (if b then None else o) ≡ Some r → b ≡ false
none_before false o r h = refl
none_before true o r h = cc

pub record IsNaming (list named : List Request) (tokens : List (List ℕ)) (order : List Request) : Type 0 where
  pub more : List Request
  pub together : order ≡ named ++ more
  pub written : tokens ≡ map (λ r. decimal r.q) more
  pub found : map (request_numbered list) (numbers more) ≡ map Some more
  pub apart : AreApart named more

step : (list named : List Request) (token : List ℕ) (tokens : List (List ℕ)) (order : List Request) (o : Option Request)
    → ((r : Request) → named_after list (named ++ r ∷ []) tokens ≡ Some order → IsNaming list (named ++ r ∷ []) tokens order)
    → unnamed list named token ≡ o → option_and_then (λ r. named_after list (named ++ r ∷ []) tokens) o ≡ Some order
    → IsNaming list named (token ∷ tokens) order
step list named token tokens order None behind u h = cc
step list named token tokens order (Some r) behind u h =
    let rest = behind r h in
    let w = names list named token r u in
    let here = some_of_unnamed (list_any (is_written token) named) (find (is_written token) list) r u in
    let new = none_before (list_any (is_written token) named) (find (is_written token) list) r u in
    record {
      more = r ∷ rest.more;
      together = rest.together ∙ append_assoc named (r ∷ []) rest.more;
      written = ap (λ t. t ∷ tokens) (sym w) ∙ ap (λ ts. decimal r.q ∷ ts) rest.written;
      found = ap (λ o. o ∷ map (request_numbered list) (numbers rest.more)) (number_found list token r w here) ∙ ap (λ os. Some r ∷ os) rest.found;
      apart = (none_numbered r named (subst (λ t. list_any (is_written t) named ≡ false) (sym w) new), rest.apart);
    }

pub naming : (list named : List Request) (tokens : List (List ℕ)) (order : List Request) → named_after list named tokens ≡ Some order
    → IsNaming list named tokens order
naming list named [] order h =
    let same : order ≡ named = cc in
    record { more = []; together = same ∙ sym (append-nil named); written = refl; found = refl; apart = tt }
naming list named (token ∷ tokens) order h =
    step list named token tokens order (unnamed list named token) (λ r k. naming list (named ++ r ∷ []) tokens order k) refl h
