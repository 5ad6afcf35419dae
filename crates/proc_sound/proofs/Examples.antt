-- Careful runs worked out, of procedures over one table whose key is a number and whose one column is a number.
use Rattle.std.proofs.Common.{◌≡◌, pos, true, List, [], ◌∷◌, Some, None, Err, refl}
use Rattle.aria_base.specs.declared.calls.Arg.TheVariants as given
use Rattle.aria_base.specs.declared.calls.Request.{Request}
use Rattle.aria_base.specs.declared.keys.Key.{Key}
use Rattle.aria_base.specs.declared.keys.Part.TheVariants as part
use Rattle.aria_base.specs.declared.schemas.Table.{Table}
use Rattle.aria_base.specs.declared.values.Kind.TheVariants as kind
use Rattle.batch_rules.specs.Trees.{Ends}
use Rattle.proc_lang.specs.declared.ends.Trap.TheVariants.{Zero}
use Rattle.proc_lang.specs.declared.procs.ArgKind.TheVariants as arg
use Rattle.proc_lang.specs.declared.procs.Proc.{Proc}
use Rattle.proc_lang.specs.declared.operators.Operand.TheVariants.{Reg, Item}
use Rattle.proc_lang.specs.declared.operators.BinaryOp.TheVariants.{Add, Div, Eq}
use Rattle.proc_lang.specs.Terms.{Num, Text, Named, Binary}
use Rattle.proc_lang.specs.Steps.{Traps, Steps, NoMore, More, Let, Read, Put, Del, Each, Give}
use Rattle.proc_lang.specs.Catalogs.{args_fit}
use Rattle.proc_sound.specs.Careful.{careful_value, careful_script}
use Rattle.proc_sound.specs.Laws.{Suits}

abbrev accounts : List Table
accounts = record { name = []; key = kind.Int ∷ []; cols = kind.Int ∷ [] } ∷ []

-- a procedure with one argument, a list of pairs, and one register, a number
abbrev by : Steps → Proc
by body = record { name = []; args = arg.List 2 ∷ []; regs = kind.Int ∷ []; body = body }

abbrev account : Key
account = record { table = 0; parts = part.Int (pos 7) ∷ [] }

-- ---- stuck

mixed : (r : Request) → careful_value r [] [] (Binary Add (Num (pos 1)) (Text [])) ≡ None
mixed r = refl

unlike : (r : Request) → careful_value r [] [] (Binary Eq (Num (pos 1)) (Text [])) ≡ None
unlike r = refl

unset : (r : Request) → careful_value r [] (None ∷ []) (Named Reg 0) ≡ None
unset r = refl

no_item : (r : Request) → careful_value r (pos 5 ∷ []) [] (Named Item 1) ≡ None
no_item r = refl

text_into_number : (r : Request) → careful_script accounts (by (More (Let 0 (Text [])) NoMore)) r ≡ Ends None
text_into_number r = refl

no_table : (r : Request) → careful_script accounts (by (More (Del 1 (Num (pos 7) ∷ [])) NoMore)) r ≡ Ends None
no_table r = refl

other_row : (r : Request) → careful_script accounts (by (More (Put 0 (Num (pos 7) ∷ []) (Text [] ∷ [])) NoMore)) r ≡ Ends None
other_row r = refl

-- a register is set in a loop alone: the loop may go over no tuple
set_in_loop : (r : Request) → r.call.args ≡ given.List [] ∷ []
    → careful_script accounts (by (More (Each 0 (More (Let 0 (Named Item 1)) NoMore)) (More (Give (Named Reg 0)) NoMore))) r ≡ Ends None
set_in_loop r e = rw e refl

-- ---- not stuck

by_zero : (r : Request) → careful_value r [] [] (Binary Div (Num (pos 1)) (Num (pos 0))) ≡ Some (Err Zero)
by_zero r = refl

abbrev copying : Proc
copying = by (More (Read Traps 0 (Num (pos 7) ∷ []) (0 ∷ []))
    (More (Each 0 (More (Put 0 (Named Item 0 ∷ []) (Binary Add (Named Reg 0) (Named Item 1) ∷ [])) NoMore)) NoMore))

copying_suits : (r : Request) → args_fit copying.args r.call.args ≡ true → Suits accounts copying r
copying_suits r fits = record { shapes = refl; typed = refl; args = fits }
