-- The writes of all that finish, listed one request after the other.
use Rattle.std.proofs.Common.{◌≡◌, refl, sym, ap, ◌∙◌, ℕ, List, [], ◌∷◌, ◌++◌, ◌+◌, true, false, cond, Option, reverse, append-nil, append_assoc}
use Rattle.std.specs.Prelude.{if◌then◌else◌}
use Rattle.std.proofs.lemmas.List.{reverse-append}
use Rattle.std.proofs.lemmas.List.Elements.{filter-append}
use Rattle.aria_base.specs.Orders.{Cells}
use Rattle.aria_base.specs.declared.keys.Key.{Key}
use Rattle.batch_rules.specs.Verdicts.{finishes}
use Rattle.batch_rules.specs.declared.verdicts.Verdict.{Verdict}
use Rattle.batch_rules.specs.declared.verdicts.Verdict.TheVariants.{Finish, Wait}
use Rattle.tbl_rows.specs.Shards.{Piece, home}
use Rattle.install_phase.specs.Writes.{Written, is_one, at_shards}
use Rattle.install_phase.specs.Installs.{written}

-- without a verdict no request finishes
pub written_none : (tid : ℕ) (list : List Written) → written tid list [] ≡ []
written_none tid [] = refl
written_none tid (changes ∷ list) = refl

-- the first request of those that are still to be listed
pub first_listed : (pieces : List Piece) (tid : ℕ) (done changes all : Written) (later list : List Written) (verdict : Verdict)
    (behind verdicts : List Verdict) → list ≡ changes ∷ later → verdicts ≡ verdict ∷ behind → done ++ at_shards pieces (written tid list verdicts) ≡ all
    → (done ++ at_shards pieces (if finishes verdict then reverse changes else [])) ++ at_shards pieces (written (tid + 1) later behind) ≡ all
first_listed pieces tid done changes all later list verdict behind verdicts e f was =
    append_assoc done _ _
    ∙ ap (λ ws. done ++ ws) (sym (filter-append (λ write. is_one pieces (home write.0)) (if finishes verdict then reverse changes else [])
    (written (tid + 1) later behind))
    ∙ ap (at_shards pieces) (here verdict ∙ sym (ap (λ os. written tid os (verdict ∷ behind)) e) ∙ sym (ap (written tid list) f)))
    ∙ was
  where
    here : (v : Verdict) → (if finishes v then reverse changes else []) ++ written (tid + 1) later behind ≡ written tid (changes ∷ later) (v ∷ behind)
    here (Finish raw) = refl
    here (Wait cause) = refl

-- nothing is left to be listed
pub all_listed : (done more all : Written) → more ≡ [] → done ++ more ≡ all → done ≡ all
all_listed done more all none was = sym (append-nil done) ∙ sym (ap (λ ws. done ++ ws) none) ∙ was

-- the last of a request's writes is listed first
pub last_listed : (pieces : List Piece) (done rest all changes : Written) (write : Key × Option Cells) → changes ≡ rest ++ write ∷ []
    → done ++ at_shards pieces (reverse changes) ≡ all → (done ++ at_shards pieces (write ∷ [])) ++ at_shards pieces (reverse rest) ≡ all
last_listed pieces done rest all changes write e was =
    append_assoc done _ _
    ∙ ap (λ ws. done ++ ws) (sym (filter-append (λ w. is_one pieces (home w.0)) (write ∷ []) (reverse rest))
    ∙ ap (at_shards pieces) (sym (ap reverse e ∙ reverse-append rest (write ∷ []))))
    ∙ was

-- a write to a key of one of the shards, and one to another key
pub own_listed : (pieces : List Piece) (done after : Written) (write : Key × Option Cells) → is_one pieces (home write.0) ≡ true → after ≡ done ++ write ∷ []
    → after ≡ done ++ at_shards pieces (write ∷ [])
own_listed pieces done after write own e = e ∙ ap (λ t. done ++ cond t (write ∷ []) []) (sym own)

pub other_listed : (pieces : List Piece) (done : Written) (write : Key × Option Cells) → is_one pieces (home write.0) ≡ false
    → done ≡ done ++ at_shards pieces (write ∷ [])
other_listed pieces done write other = sym (append-nil done) ∙ ap (λ t. done ++ cond t (write ∷ []) []) (sym other)
