-- How a state is kept as a ghost value.
use Rattle.std.specs.Prelude.{ℕ, List, refl}
use Rattle.std.specs.Coded.{Coded, code_by, coded×, coded_ℕ, coded_list}
use Rattle.aria_base.specs.Codes.{database_code}
use Rattle.aria_base.specs.Orders.{Database}
use Rattle.aria_base.specs.contracts.calls.Request as request
use Rattle.aria_base.specs.declared.calls.Request.{Request}
use Rattle.batch_rules.specs.contracts.verdicts.Rule as rule
use Rattle.batch_rules.specs.declared.verdicts.Rule.{Rule}
use Rattle.batch_core.specs.Steps.{State}

abbrev pub state_code : Coded State
state_code = code_by (((Rule × ℕ) × (Database × List Request)) × (ℕ × ℕ))
    (coded× (coded× (coded× (rule.the_row).coded coded_ℕ) (coded× database_code (coded_list (request.the_row).coded)))
    (coded× coded_ℕ coded_ℕ))
    (λ s. (((s.rule, s.percent), (s.rows, s.waiting)), (s.batches, s.requests)))
    (λ p. record { rule = p.0.0.0; percent = p.0.0.1; rows = p.0.1.0; waiting = p.0.1.1; batches = p.1.0; requests = p.1.1 })
    (λ _. refl)
