-- A catalogue that is there stays, and so does what was told by it.
use Rattle.std.proofs.Common.{◌≡◌, ◌⊎◌, inl, inr, sym, ap, subst, ℕ, Bool, true, List, [], ◌∷◌}
use Rattle.aria_base.specs.Orders.{Database}
use Rattle.batch_core.specs.Steps.{Handed, State}
use Rattle.batch_rules.specs.declared.verdicts.Rule.{Rule}
use Rattle.script_places.specs.Follows.{HeadStays}
use Rattle.script_places.specs.Places.{is_ready, plan_in}
use Rattle.script_places.specs.declared.heads.ScriptCatalog.{ScriptCatalog}
use Rattle.script_places.specs.declared.heads.ScriptCatalog.TheVariants as head
use Rattle.output_laws.proofs.Asks.{PrintedHead}
use Rattle.output_laws.proofs.Runs.{PrintedPlan}
use Rattle.output_laws.proofs.Scripts.{IsTold, other_plan}

pub named_plan : (h : ScriptCatalog) → PrintedHead h → PrintedPlan (plan_in h)
named_plan head.Unnamed p = record { tables = tt; procs = tt }
named_plan (head.Text text) p = record { tables = tt; procs = tt }
named_plan (head.Ready plan) p = p

pub ready_on : (script : List (ℕ × Handed)) (h k : ScriptCatalog) → HeadStays h k → (script ≡ []) ⊎ (is_ready h ≡ true) → (script ≡ []) ⊎ (is_ready k ≡ true)
ready_on script h k stays (inl none) = inl none
ready_on script (head.Ready plan) k stays (inr e) = inr (ap is_ready stays)
ready_on script head.Unnamed k stays (inr e) = cc
ready_on script (head.Text text) k stays (inr e) = cc

module _ (each : Bool) (rule : Rule) (percent : ℕ) (rows : Database) (state : State) (bytes : List ℕ) where
  pub told_on : (script : List (ℕ × Handed)) (h k : ScriptCatalog) → HeadStays h k → (script ≡ []) ⊎ (is_ready h ≡ true)
      → IsTold (plan_in h) each rule percent rows script state bytes
      → IsTold (plan_in k) each rule percent rows script state bytes
  told_on [] h k stays r t = other_plan each rule percent (plan_in h) (plan_in k) rows state bytes t
  told_on (b ∷ script) h k stays (inl none) t = absurd cc
  told_on (b ∷ script) (head.Ready plan) k stays (inr e) t =
      subst (λ (x : ScriptCatalog). IsTold (plan_in x) each rule percent rows (b ∷ script) state bytes) (sym stays) t
  told_on (b ∷ script) head.Unnamed k stays (inr e) t = absurd cc
  told_on (b ∷ script) (head.Text text) k stays (inr e) t = absurd cc
