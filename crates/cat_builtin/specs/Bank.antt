-- The catalogue `bank`: one table of accounts, and six procedures.
use Rattle.std.specs.Prelude.{ℕ, List, [], ◌∷◌, codes}
use Rattle.aria_base.specs.declared.schemas.Table.{Table}
use Rattle.proc_lang.specs.declared.procs.Proc.{Proc}
use Rattle.proc_lang.specs.Terms.{Term}
use Rattle.proc_lang.specs.Steps.{Step, Steps, Put, Del, Give}
use Rattle.proc_lang.specs.Syntax.{in_turn}
use Rattle.proc_lang.specs.Catalogs.{Plan}
use Rattle.cat_builtin.specs.Words.{Reg, Arg, Add, Need, all_ints, int_args, table_of}

-- an account has a number, and holds an amount
abbrev pub accounts : List Table
accounts = table_of (codes "acct") 1 (all_ints 1) ∷ []

-- the account in this argument into a register; where there is none the run fails with 1
abbrev pub read_account : ℕ → ℕ → Step
read_account account amount = Need 0 (Arg account ∷ []) (amount ∷ []) 1

abbrev pub write_account : Term → Term → Step
write_account account amount = Put 0 (account ∷ []) (amount ∷ [])

-- a procedure with so many arguments and registers, all whole numbers
abbrev pub routine : List ℕ → ℕ → ℕ → Steps → Proc
routine name arguments registers body = record { name = name; args = int_args arguments; regs = all_ints registers; body = body }

-- `add i v`: raises account i by v, and gives the sum
abbrev pub add_routine : Proc
add_routine = routine (codes "add") 2 1 (in_turn (
    read_account 0 0
    ∷ write_account (Arg 0) (Add (Reg 0) (Arg 1))
    ∷ Give (Add (Reg 0) (Arg 1))
    ∷ []))

-- `copy a b`: account b becomes as account a, and its amount is given
abbrev pub copy_routine : Proc
copy_routine = routine (codes "copy") 2 1 (in_turn (
    read_account 0 0
    ∷ write_account (Arg 1) (Reg 0)
    ∷ Give (Reg 0)
    ∷ []))

-- `set i v`: account i becomes v
abbrev pub set_routine : Proc
set_routine = routine (codes "set") 2 0 (in_turn (
    write_account (Arg 0) (Arg 1)
    ∷ Give (Arg 1)
    ∷ []))

-- `sum a b`: gives the sum of two accounts
abbrev pub sum_routine : Proc
sum_routine = routine (codes "sum") 2 2 (in_turn (
    read_account 0 0
    ∷ read_account 1 1
    ∷ Give (Add (Reg 0) (Reg 1))
    ∷ []))

-- `hop a v`: the account whose number account a holds becomes v
abbrev pub hop_routine : Proc
hop_routine = routine (codes "hop") 2 1 (in_turn (
    read_account 0 0
    ∷ write_account (Reg 0) (Arg 1)
    ∷ Give (Arg 1)
    ∷ []))

-- `drop i`: deletes account i
abbrev pub drop_routine : Proc
drop_routine = routine (codes "drop") 1 0 (in_turn (
    Del 0 (Arg 0 ∷ [])
    ∷ []))

abbrev pub bank : Plan
bank = record {
  tables = accounts;
  procs = add_routine ∷ copy_routine ∷ set_routine ∷ sum_routine ∷ hop_routine ∷ drop_routine ∷ [];
}
