-- How a script is kept as a ghost value.
use Rattle.std.specs.Prelude.{ℕ, Bool, List, Option, refl}
use Rattle.std.specs.Coded.{Coded, code_by, coded×, coded_list, coded_bool, coded_option, coded_ℕ}
use Rattle.aria_base.specs.contracts.calls.Call as call
use Rattle.aria_base.specs.declared.calls.Call.{Call}
use Rattle.aria_store.specs.Stands.{Kept}
use Rattle.aria_store.specs.contracts.stores.Store as store
use Rattle.batch_core.specs.Codes.{state_code}
use Rattle.batch_core.specs.Steps.{State}
use Rattle.script_places.specs.contracts.places.ScriptPlace as place
use Rattle.script_places.specs.declared.places.ScriptPlace.{ScriptPlace}
use Rattle.run_commands.specs.Onces.{Doing, Running}

abbrev pub doing_code : Coded Doing
doing_code = code_by ((ScriptPlace × List Call) × (State × Bool))
    (coded× (coded× (place.the_row).coded (coded_list (call.the_row).coded)) (coded× state_code coded_bool))
    (λ d. ((d.place, d.calls), (d.state, d.each)))
    (λ p. record { place = p.0.0; calls = p.0.1; state = p.1.0; each = p.1.1 })
    (λ _. refl)

abbrev pub running_code : Coded Running
running_code = code_by (Doing × (Option Kept × ℕ)) (coded× doing_code (coded× (coded_option (store.the_row).coded) coded_ℕ))
    (λ s. (s.doing, (s.store, s.checkpoint))) (λ p. record { doing = p.0; store = p.1.0; checkpoint = p.1.1 }) (λ _. refl)
