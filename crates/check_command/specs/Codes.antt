-- How a script with its report is kept as a ghost value.
use Rattle.std.specs.Prelude.{ℕ, List, refl}
use Rattle.std.specs.Coded.{Coded, code_by, coded×, coded_ℕ, coded_list}
use Rattle.aria_base.specs.Codes.{database_code}
use Rattle.aria_base.specs.Orders.{Database}
use Rattle.aria_base.specs.contracts.calls.Call as call
use Rattle.aria_base.specs.declared.calls.Call.{Call}
use Rattle.script_places.specs.contracts.places.ScriptPlace as place
use Rattle.script_places.specs.declared.places.ScriptPlace.{ScriptPlace}
use Rattle.check_command.specs.Checks.{Doing}

abbrev calls_code : Coded (List Call)
calls_code = coded_list (call.the_row).coded

abbrev pub doing_code : Coded Doing
doing_code = code_by ((ScriptPlace × Database) × ((List Call × List (ℕ × List Call)) × ((List ℕ × ℕ) × List (List ℕ))))
    (coded× (coded× (place.the_row).coded database_code) (coded× (coded× calls_code (coded_list (coded× coded_ℕ calls_code)))
    (coded× (coded× (coded_list coded_ℕ) coded_ℕ) (coded_list (coded_list coded_ℕ)))))
    (λ d. ((d.place, d.rows), ((d.calls, d.script), ((d.ends, d.requests), d.report))))
    (λ p. record {
      place = p.0.0;
      rows = p.0.1;
      calls = p.1.0.0;
      script = p.1.0.1;
      ends = p.1.1.0.0;
      requests = p.1.1.0.1;
      report = p.1.1.1;
    })
    (λ _. refl)
