-- How an engine is kept as a ghost value.
use Rattle.std.specs.Prelude.{ℕ, List, Option, refl}
use Rattle.std.specs.Coded.{Coded, code_by, coded×, coded_ℕ, coded_list, coded_option}
use Rattle.aria_base.specs.Codes.{database_code}
use Rattle.aria_base.specs.Orders.{Database}
use Rattle.aria_base.specs.contracts.calls.Request as request
use Rattle.aria_base.specs.contracts.marks.Mark as mark
use Rattle.aria_base.specs.declared.calls.Request.{Request}
use Rattle.aria_base.specs.declared.marks.Mark.{Mark}
use Rattle.dep_rules.specs.Sheets.{Sheet}
use Rattle.proc_lang.specs.CatalogCodes.{plan_code}
use Rattle.proc_lang.specs.Catalogs.{Plan}
use Rattle.resv_words.specs.Seats.{ClosedWords}
use Rattle.batch_engine.specs.Engines.{Between}
use Rattle.batch_engine.specs.Marks.{Marks}

abbrev sheet_code : Coded Sheet
sheet_code =
    code_by ((List (List ℕ) × List (List ℕ)) × ℕ)
    (coded× (coded× (coded_list (coded_list coded_ℕ)) (coded_list (coded_list coded_ℕ))) coded_ℕ)
    (λ s. ((s.reads, s.writes), s.keys)) (λ p. record { reads = p.0.0; writes = p.0.1; keys = p.1 }) (λ _. refl)

abbrev closed_code : Coded ClosedWords
closed_code =
    code_by ((ℕ × ℕ) × (List ℕ × List Mark))
    (coded× (coded× coded_ℕ coded_ℕ) (coded× (coded_list coded_ℕ) (coded_list (mark.the_row).coded)))
    (λ c. ((c.keys, c.tag), (c.old, c.marks))) (λ p. record { keys = p.0.0; tag = p.0.1; old = p.1.0; marks = p.1.1 }) (λ _. refl)

abbrev marks_code : Coded Marks
marks_code = code_by (Sheet × ClosedWords) (coded× sheet_code closed_code) (λ m. (m.numbered, m.closed))
    (λ p. record { numbered = p.0; closed = p.1 }) (λ _. refl)

abbrev pub between_code : Coded Between
between_code = code_by (((Plan × Database) × (List Request × (ℕ × ℕ))) × Option Marks)
    (coded× (coded× (coded× plan_code database_code)
    (coded× (coded_list (request.the_row).coded) (coded× coded_ℕ coded_ℕ))) (coded_option marks_code))
    (λ e. (((e.plan, e.rows), (e.carried, (e.batches, e.requests))), e.marked))
    (λ p. record { plan = p.0.0.0; rows = p.0.0.1; carried = p.0.1.0; batches = p.0.1.1.0; requests = p.0.1.1.1; marked = p.1 })
    (λ _. refl)
