-- How a catalogue is kept as a ghost value.
use Rattle.std.specs.Prelude.{List, refl}
use Rattle.std.specs.Coded.{Coded, code_by, coded×, coded_list}
use Rattle.aria_base.specs.declared.schemas.Table.{Table}
use Rattle.aria_base.specs.contracts.schemas.Table as table
use Rattle.proc_lang.specs.declared.procs.Proc.{Proc}
use Rattle.proc_lang.specs.contracts.procs.Proc as proc
use Rattle.proc_lang.specs.Catalogs.{Plan}

abbrev pub proc_code : Coded Proc
proc_code = (proc.the_row).coded

abbrev pub plan_code : Coded Plan
plan_code = code_by (List Table × List Proc) (coded× (coded_list (table.the_row).coded) (coded_list proc_code))
    (λ p. (p.tables, p.procs)) (λ p. record { tables = p.0; procs = p.1 }) (λ _. refl)
