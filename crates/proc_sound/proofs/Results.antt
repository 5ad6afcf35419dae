-- What typing finds, and evaluations that are not stuck.
use Rattle.std.proofs.Common.{◌≡◌, ℕ, Bool, true, false, IfOk, Option, Some, None, Result, Ok, Err, refl}
use Rattle.proc_lang.specs.Values.{Got, got, both}
use Rattle.proc_lang.specs.Typing.{Typed, found, wanted}
use Rattle.proc_sound.specs.Careful.{Sure, and_then, pair}

-- ---- what typing finds

pub got_ok : {A B E : Type 0} (x : Result A E) (go : A → Result B E) (P : A → Type 0) (Q : B → Type 0) → IfOk x P → ((a : A) → P a → IfOk (go a) Q)
    → IfOk (got x go) Q
got_ok (Ok a) go P Q p h = h a p
got_ok (Err e) go P Q p h = tt

pub wanted_ok : {A : Type 0} (cause : ℕ) (b : Bool) (go : Unit {0} → Typed A) (Q : A → Type 0) → (b ≡ true → IfOk (go tt) Q) → IfOk (got (wanted cause b) go) Q
wanted_ok cause true go Q h = h refl
wanted_ok cause false go Q h = tt

pub wanted_is : {Q : Type 0} (cause : ℕ) (b : Bool) → (b ≡ true → Q) → IfOk (wanted cause b) (λ _. Q)
wanted_is cause true h = h refl
wanted_is cause false h = tt

pub found_is : {A : Type 0} (cause : ℕ) (o : Option A) → IfOk (found cause o) (λ x. o ≡ Some x)
found_is cause (Some x) = refl
found_is cause None = tt

-- what holds at each place of what is found holds of it at all places
pub everywhere : {A E I : Type 0} (x : Result A E) (P : I → A → Type 0) → ((i : I) → IfOk x (P i)) → IfOk x (λ a. (i : I) → P i a)
everywhere (Ok a) P h = h
everywhere (Err e) P h = tt

pub both_ok : {A E : Type 0} (x : Result A E) (P Q : A → Type 0) → IfOk x P → IfOk x Q → IfOk x (λ a. P a × Q a)
both_ok (Ok a) P Q p q = (p, q)
both_ok (Err e) P Q p q = tt

-- ---- evaluations

-- the careful evaluation is not stuck: it comes to what the plain one does, and P holds of the value
pub record IsSure {A : Type 0} (P : A → Type 0) (careful : Sure A) (plain : Got A) : Type 0 where
  pub same : careful ≡ Some plain
  pub value : IfOk plain P

pub then_sure : {A B : Type 0} (P : A → Type 0) (Q : B → Type 0) {c : Sure A} (v : Got A) (go' : A → Sure B) (go : A → Got B) → IsSure P c v
    → ((x : A) → P x → IsSure Q (go' x) (go x)) → IsSure Q (and_then c go') (got v go)
then_sure P Q (Ok x) go' go s h = rw s.same (h x s.value)
then_sure P Q (Err e) go' go s h = rw s.same (record { same = refl; value = tt })

pub pair_sure : {A B : Type 0} (P : A → Type 0) (Q : B → Type 0) {c : Sure A} {d : Sure B} (v : Got A) (w : Got B) → IsSure P c v → IsSure Q d w
    → IsSure (λ p. P p.0 × Q p.1) (pair c d) (both v w)
pair_sure P Q (Ok x) (Ok y) s t = rw (s.same, t.same) (record { same = refl; value = (s.value, t.value) })
pair_sure P Q (Ok x) (Err e) s t = rw (s.same, t.same) (record { same = refl; value = tt })
pair_sure P Q (Err e) w s t = rw s.same (record { same = refl; value = tt })

-- where typing finds what the value is by, the evaluation is not stuck
pub record Sound {K A : Type 0} (P : K → A → Type 0) (typed : Typed K) (careful : Sure A) (plain : Got A) : Type 0 where
  pub holds : IfOk typed (λ k. IsSure (P k) careful plain)
