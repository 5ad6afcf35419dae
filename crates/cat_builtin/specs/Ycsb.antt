-- The catalogue `ycsb`: one table, and one procedure that goes over a list of accesses to it.
use Rattle.std.specs.Prelude.{ℕ, List, [], ◌∷◌, map, replicate, codes}
use Rattle.aria_base.specs.declared.schemas.Table.{Table}
use Rattle.proc_lang.specs.declared.procs.ArgKind.TheVariants as kind
use Rattle.proc_lang.specs.declared.procs.Proc.{Proc}
use Rattle.proc_lang.specs.Terms.{Term}
use Rattle.proc_lang.specs.Steps.{Step, Put, If, Each, Give}
use Rattle.proc_lang.specs.Syntax.{in_turn}
use Rattle.proc_lang.specs.Catalogs.{Plan}
use Rattle.cat_builtin.specs.Words.{Reg, Arg, Item, Eq, Need, all_ints, table_of, int, more}

-- a row has ten columns
abbrev pub rows : List Table
rows = table_of (codes "ycsb") 1 (all_ints 10) ∷ []

-- ---- what `txn accesses v` names

abbrev pub accesses : ℕ
accesses = 0

abbrev pub v : Term
v = Arg 1

-- of the current access
abbrev pub key : Term
key = Item 0

abbrev pub op : Term
op = Item 1

-- the registers of a row
abbrev pub first : ℕ
first = 0

abbrev pub others : List ℕ
others = 1 ∷ 2 ∷ 3 ∷ 4 ∷ 5 ∷ 6 ∷ 7 ∷ 8 ∷ 9 ∷ []

-- ---- its steps

-- the row into the registers; where there is none the run fails with 1
abbrev pub read_row : Step
read_row = Need 0 (key ∷ []) (first ∷ others) 1

-- each of the ten columns becomes v
abbrev pub fill_row : Step
fill_row = Put 0 (key ∷ []) (replicate 10 v)

-- the row's first column is raised by v
abbrev pub raise_row : Step
raise_row = Put 0 (key ∷ []) (more first v ∷ map Reg others)

-- op 1 fills the row; every other op raises it and gives the new first column
abbrev pub fill_or_raise : Step
fill_or_raise = If (Eq op (int 1))
    (in_turn (fill_row ∷ []))
    (in_turn (read_row ∷ raise_row ∷ Give (more first v) ∷ []))

-- op 0 gives the first column, all others write
abbrev pub make_access : Step
make_access = If (Eq op (int 0))
    (in_turn (read_row ∷ Give (Reg first) ∷ []))
    (in_turn (fill_or_raise ∷ []))

abbrev pub transaction : Proc
transaction = record {
  name = codes "txn";
  args = kind.List 2 ∷ kind.Int ∷ [];
  regs = all_ints 10;
  body = in_turn (Each accesses (in_turn (make_access ∷ [])) ∷ []);
}

abbrev pub ycsb : Plan
ycsb = record { tables = rows; procs = transaction ∷ [] }
