-- The catalogues that every database has, by their names.
use Rattle.std.specs.Prelude.{ℕ, List, codes, if◌then◌else◌, Option, Some, None}
use Rattle.std.specs.Str.{bytes_eq}
use Rattle.proc_lang.specs.Catalogs.{Plan}
use Rattle.cat_builtin.specs.Bank.{bank}
use Rattle.cat_builtin.specs.Ycsb.{ycsb}
use Rattle.cat_builtin.specs.Tpcc.{tpcc}

abbrev pub builtin_named : List ℕ → Option Plan
builtin_named name =
    if bytes_eq name (codes "bank") then Some bank
    else if bytes_eq name (codes "ycsb") then Some ycsb
    else if bytes_eq name (codes "tpcc") then Some tpcc
    else None
