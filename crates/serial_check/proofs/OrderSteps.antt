-- One token more of an order line, and one request more of the table in which its requests are looked up.
use Rattle.std.proofs.Common.{◌≡◌, ℕ, List, [], ◌∷◌, ◌++◌, Bool, true, false, cond, Option, Some, None, refl, ap, sym, ◌∙◌, subst, ⊎_elim, ◌||◌, Bor}
use Rattle.std.specs.Prelude.{decimal, if◌then◌else◌, is_some, option_and_then, option_copied}
use Rattle.std.specs.Cmp.Lexicographic.{slice_cmp}
use Rattle.std.specs.List.{find, list_any}
use Rattle.std.specs.Option.{option_or}
use Rattle.std.specs.Ordering.{is_eq, nat_cmp}
use Rattle.std.specs.Str.{bytes_eq}
use Rattle.std.proofs.lemmas.Bool.{cases_Bool}
use Rattle.std.proofs.lemmas.List.Folds.{list_any-append}
use Rattle.std.proofs.lemmas.Map.Text.{is_eq-slice_cmp}
use Rattle.std.proofs.lemmas.Slice.Eq.{bytes_eq-Decides}
use Rattle.aria_base.specs.declared.calls.Request.{Request}
use Rattle.serial_check.specs.Orders.{is_written, unnamed, named_after}

pub or_none : {X : Type 0} (a : Option X) → option_or a None ≡ a
or_none None = refl
or_none (Some x) = refl

same_bytes : (a b : List ℕ) → bytes_eq a b ≡ true → a ≡ b
same_bytes a b h = (bytes_eq-Decides a b).0 h

some_first : {X : Type 0} (o a b : Option X) → is_some o ≡ true → option_or o a ≡ option_or o b
some_first (Some x) a b h = refl
some_first None a b h = cc

none_first : {X : Type 0} (o a : Option X) → is_some o ≡ false → option_or o a ≡ a
none_first None a h = refl
none_first (Some x) a h = cc

-- ---- the table: `at` tells what it has of each token

pub copied : {X : Type 0} (b : Bool) (x : Bor X) (o : Option (Bor X)) → option_copied (cond b (Some x) o) ≡ cond b (Some x.now) (option_copied o)
copied true x o = refl
copied false x o = refl

pub is_some_copied : {X : Type 0} (o : Option (Bor X)) → is_some (option_copied o) ≡ is_some o
is_some_copied None = refl
is_some_copied (Some x) = refl

copied_none : {X : Type 0} (b : Bool) (o : Option (Bor X)) → option_copied (cond b None o) ≡ cond b None (option_copied o)
copied_none true o = refl
copied_none false o = refl

pub taken_out : {X : Type 0} (token written other : List ℕ) (now was : Option (Bor X)) → now ≡ cond (is_eq (slice_cmp nat_cmp written other)) None was
    → written ≡ token → option_copied now ≡ (if bytes_eq token other then None else option_copied was)
taken_out token written other now was put w =
    ap option_copied put ∙ copied_none (is_eq (slice_cmp nat_cmp written other)) was
    ∙ ap (λ b. cond b None (option_copied was)) (is_eq-slice_cmp written other ∙ ap (λ t. bytes_eq t other) w)

-- where something stands there, nothing changes
pub there : (at : List ℕ → Option Request) (r : Request) (written token : List ℕ) → is_some (at written) ≡ true
    → at token ≡ option_or (at token) (if bytes_eq written token then Some r else None)
there at r written token s =
    ⊎_elim
    (λ e. let same : is_some (at token) ≡ true = subst (λ t. is_some (at t) ≡ true) (same_bytes written token e) s in
    sym (or_none (at token)) ∙ some_first (at token) None (if bytes_eq written token then Some r else None) same)
    (λ ne. sym (ap (λ b. option_or (at token) (if b then Some r else None)) ne ∙ or_none (at token)))
    (cases_Bool (bytes_eq written token))

-- and else the request is put there
pub put_there : (at : List ℕ → Option Request) (r : Request) (written token : List ℕ) (now : Option Request) → is_some (at written) ≡ false
    → now ≡ cond (is_eq (slice_cmp nat_cmp written token)) (Some r) (at token)
    → now ≡ option_or (at token) (if bytes_eq written token then Some r else None)
put_there at r written token now s put =
    let by : now ≡ cond (bytes_eq written token) (Some r) (at token)
    = put ∙ ap (λ b. cond b (Some r) (at token)) (is_eq-slice_cmp written token) in
    ⊎_elim
    (λ e. let same : is_some (at token) ≡ false = subst (λ t. is_some (at t) ≡ false) (same_bytes written token e) s in
    by ∙ ap (λ b. cond b (Some r) (at token)) e
    ∙ sym (none_first (at token) (if bytes_eq written token then Some r else None) same ∙ ap (λ b. if b then Some r else None) e))
    (λ ne. by ∙ ap (λ b. cond b (Some r) (at token)) ne
    ∙ sym (ap (λ b. option_or (at token) (if b then Some r else None)) ne ∙ or_none (at token)))
    (cases_Bool (bytes_eq written token))

either_found : (b : Bool) (r : Request) (o more : Option Request)
    → option_or (option_or o (if b then Some r else None)) more ≡ option_or o (cond b (Some r) more)
either_found true r None more = refl
either_found true r (Some x) more = refl
either_found false r None more = refl
either_found false r (Some x) more = refl

-- one request more
pub one_more : (now old : Option Request) (r : Request) (rest : List Request) (written token : List ℕ) → written ≡ decimal r.q
    → now ≡ option_or old (if bytes_eq written token then Some r else None)
    → option_or now (find (is_written token) rest) ≡ option_or old (find (is_written token) (r ∷ rest))
one_more now old r rest written token w h =
    ap (λ o. option_or o (find (is_written token) rest)) (h ∙ ap (λ t. option_or old (if bytes_eq t token then Some r else None)) w)
    ∙ either_found (bytes_eq (decimal r.q) token) r old (find (is_written token) rest)

-- ---- the tokens

pub found_passes : (p : Request → Bool) (xs : List Request) (x : Request) → find p xs ≡ Some x → p x ≡ true
found_passes p [] x h = cc
found_passes p (y ∷ ys) x h =
    ⊎_elim
    (λ e. let first : Some y ≡ Some x = sym (ap (λ b. cond b (Some y) (find p ys)) e) ∙ h in
    let same : y ≡ x = cc in subst (λ z. p z ≡ true) same e)
    (λ ne. found_passes p ys x (sym (ap (λ b. cond b (Some y) (find p ys)) ne) ∙ h))
    (cases_Bool (p y))

pub some_of_unnamed : (b : Bool) (o : Option Request) (r : Request) → (if b then None else o) ≡ Some r → o ≡ Some r
some_of_unnamed false o r h = h
some_of_unnamed true o r h = cc

-- the request that a token names has its number so
pub names : (list named : List Request) (token : List ℕ) (r : Request) → unnamed list named token ≡ Some r → decimal r.q ≡ token
names list named token r h =
    same_bytes (decimal r.q) token (found_passes (is_written token) list r
    (some_of_unnamed (list_any (is_written token) named) (find (is_written token) list) r h))

either : (a b : Bool) (o : Option Request) → (if a || (b || false) then None else o) ≡ cond b None (if a then None else o)
either true true o = refl
either true false o = refl
either false true o = refl
either false false o = refl

-- which is then no more to be named
pub taken : (list named : List Request) (r : Request) (written token : List ℕ) (now : Option Request)
    → unnamed list named written ≡ Some r
    → now ≡ (if bytes_eq written token then None else unnamed list named token)
    → now ≡ unnamed list (named ++ r ∷ []) token
taken list named r written token now h put =
    let w : written ≡ decimal r.q = sym (names list named written r h) in
    put ∙ ap (λ t. cond (bytes_eq t token) None (unnamed list named token)) w
    ∙ sym (ap (λ b. if b then None else find (is_written token) list) (list_any-append (is_written token) named (r ∷ []))
    ∙ either (list_any (is_written token) named) (bytes_eq (decimal r.q) token) (find (is_written token) list))

-- and the tokens behind it go on
pub goes_on : (list named : List Request) (r : Request) (token : List ℕ) (more : List (List ℕ)) → unnamed list named token ≡ Some r
    → named_after list (named ++ r ∷ []) more ≡ named_after list named (token ∷ more)
goes_on list named r token more h = sym (ap (option_and_then (λ r. named_after list (named ++ r ∷ []) more)) h)

pub stops : (list named : List Request) (token : List ℕ) (more : List (List ℕ)) → unnamed list named token ≡ None
    → named_after list named (token ∷ more) ≡ None
stops list named token more h = ap (option_and_then (λ r. named_after list (named ++ r ∷ []) more)) h
