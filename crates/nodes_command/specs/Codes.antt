-- How a script on nodes is kept as a ghost value.
use Rattle.std.specs.Prelude.{ℕ, refl}
use Rattle.std.specs.Coded.{Coded, code_by, coded×, coded_ℕ}
use Rattle.run_commands.specs.Codes.{doing_code}
use Rattle.run_commands.specs.Onces.{Doing}
use Rattle.nodes_command.specs.Scripts.{Among}

abbrev pub among_code : Coded Among
among_code = code_by (Doing × ℕ) (coded× doing_code coded_ℕ) (λ a. (a.doing, a.called)) (λ p. record { doing = p.0; called = p.1 }) (λ _. refl)
