-- The procedures that are left, where the first of them is well typed.
use Rattle.std.proofs.Common.{◌≡◌, ℕ, ◌+◌, List, ◌∷◌, Bool, true, false, Result, refl, rules}
use Rattle.std.specs.declared.result.Result.TheVariants.{Ok, Err}
use Rattle.std.specs.Prelude.{◌&&◌, Option}
use Rattle.std.specs.List.{list_all}
use Rattle.std.specs.Result.{IsOk}
use Rattle.aria_base.specs.declared.schemas.Table.{Table}
use Rattle.proc_lang.specs.declared.flaws.Wrong.{Wrong}
use Rattle.proc_lang.specs.declared.procs.Proc.{Proc}
use Rattle.proc_lang.specs.Catalogs.{proc_fits}
use Rattle.proc_lang.specs.Typing.{Flaw, Reached, IsWellTyped, typed_proc}
use Rattle.cat_read.specs.Texts.{wrong_or, wrong_from}

wrong_or-typed : (number : ℕ) (typed : Result Reached Flaw) (others : Option Wrong) → IsOk typed → wrong_or number typed others ≡ others
wrong_or-typed number (Ok reached) others h = refl
wrong_or-typed number (Err flaw) others h = absurd (search (rules, h))

pub wrong_from-typed : (tables : List Table) (number : ℕ) (p : Proc) (ps : List Proc) → IsWellTyped tables p
    → wrong_from tables number (p ∷ ps) ≡ wrong_from tables (number + 1) ps
wrong_from-typed tables number p ps h = wrong_or-typed number (typed_proc tables p) (wrong_from tables (number + 1) ps) h

pub rest_fit : (p : Proc) (ps : List Proc) → list_all proc_fits (p ∷ ps) ≡ true → list_all proc_fits ps ≡ true
rest_fit p ps h = tested (proc_fits p) h where
  tested : (b : Bool) → (b && list_all proc_fits ps) ≡ true → list_all proc_fits ps ≡ true
  tested true h = h
  tested false h = absurd (cc h)
