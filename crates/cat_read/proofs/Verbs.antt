-- How many operands a verb has.
use Rattle.std.proofs.Common.{◌≡◌, ℕ, ◌<◌, ◌≤◌, List, [], ◌∷◌, length, Some, refl, inl, inr, ◌⊎◌, arith}
use Rattle.std.specs.declared.result.Result.TheVariants.{Err}
use Rattle.aria_base.specs.declared.schemas.Table.{Table}
use Rattle.serde_json.specs.declared.value.Value.{Value}
use Rattle.serde_json.specs.View.{items_view}
use Rattle.proc_lang.specs.declared.procs.PathPart.{PathPart}
use Rattle.cat_forms.specs.declared.names.Verb.{Verb}
use Rattle.cat_forms.specs.declared.names.Verb.TheVariants as verb
use Rattle.cat_forms.specs.StepWalks.{verb_at}

-- at least one
pub no_operand : (tables : List Table) (body path : List PathPart) (seen : ℕ) (v : Verb) (vs : List Value) → length vs < 1
    → verb_at tables body path seen (Some v) (items_view vs) ≡ Err path
no_operand tables body path seen v (a ∷ vs) h = absurd (omega arith)
no_operand tables body path seen verb.Let [] h = refl
no_operand tables body path seen verb.Get [] h = refl
no_operand tables body path seen verb.Need [] h = refl
no_operand tables body path seen verb.Find [] h = refl
no_operand tables body path seen verb.Put [] h = refl
no_operand tables body path seen verb.Del [] h = refl
no_operand tables body path seen verb.If [] h = refl
no_operand tables body path seen verb.Each [] h = refl
no_operand tables body path seen verb.Give [] h = refl
no_operand tables body path seen verb.Fail [] h = refl

-- at most four
pub many_operands : (tables : List Table) (body path : List PathPart) (seen : ℕ) (v : Verb) (vs : List Value) → 5 ≤ length vs
    → verb_at tables body path seen (Some v) (items_view vs) ≡ Err path
many_operands tables body path seen v [] h = absurd (omega arith)
many_operands tables body path seen v (a ∷ []) h = absurd (omega arith)
many_operands tables body path seen v (a ∷ b ∷ []) h = absurd (omega arith)
many_operands tables body path seen v (a ∷ b ∷ c ∷ []) h = absurd (omega arith)
many_operands tables body path seen v (a ∷ b ∷ c ∷ d ∷ []) h = absurd (omega arith)
many_operands tables body path seen verb.Let (a ∷ b ∷ c ∷ d ∷ e ∷ vs) h = refl
many_operands tables body path seen verb.Get (a ∷ b ∷ c ∷ d ∷ e ∷ vs) h = refl
many_operands tables body path seen verb.Need (a ∷ b ∷ c ∷ d ∷ e ∷ vs) h = refl
many_operands tables body path seen verb.Find (a ∷ b ∷ c ∷ d ∷ e ∷ vs) h = refl
many_operands tables body path seen verb.Put (a ∷ b ∷ c ∷ d ∷ e ∷ vs) h = refl
many_operands tables body path seen verb.Del (a ∷ b ∷ c ∷ d ∷ e ∷ vs) h = refl
many_operands tables body path seen verb.If (a ∷ b ∷ c ∷ d ∷ e ∷ vs) h = refl
many_operands tables body path seen verb.Each (a ∷ b ∷ c ∷ d ∷ e ∷ vs) h = refl
many_operands tables body path seen verb.Give (a ∷ b ∷ c ∷ d ∷ e ∷ vs) h = refl
many_operands tables body path seen verb.Fail (a ∷ b ∷ c ∷ d ∷ e ∷ vs) h = refl

-- three of an `if`, two of an `each`
pub other_than_three : (tables : List Table) (body path : List PathPart) (seen : ℕ) (vs : List Value) → (length vs < 3) ⊎ (4 ≤ length vs)
    → verb_at tables body path seen (Some verb.If) (items_view vs) ≡ Err path
other_than_three tables body path seen [] h = refl
other_than_three tables body path seen (a ∷ []) h = refl
other_than_three tables body path seen (a ∷ b ∷ []) h = refl
other_than_three tables body path seen (a ∷ b ∷ c ∷ []) h = absurd (elim h [ inl low ↦ omega arith | inr high ↦ omega arith ])
other_than_three tables body path seen (a ∷ b ∷ c ∷ d ∷ vs) h = refl

pub other_than_two : (tables : List Table) (body path : List PathPart) (seen : ℕ) (vs : List Value) → (length vs < 2) ⊎ (3 ≤ length vs)
    → verb_at tables body path seen (Some verb.Each) (items_view vs) ≡ Err path
other_than_two tables body path seen [] h = refl
other_than_two tables body path seen (a ∷ []) h = refl
other_than_two tables body path seen (a ∷ b ∷ []) h = absurd (elim h [ inl low ↦ omega arith | inr high ↦ omega arith ])
other_than_two tables body path seen (a ∷ b ∷ c ∷ vs) h = refl
