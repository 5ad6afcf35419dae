-- Each of the five requests leaves sound rows.
use Rattle.std.proofs.Common.{◌≡◌, refl, sym, ap, subst, ◌∙◌, ℕ, zero, suc, ℤ, true, List, [], ◌∷◌, slice_get, false, true≢false}
use Rattle.std.proofs.lemmas.Bool.{and_parts}
use Rattle.aria_base.specs.Orders.{Database}
use Rattle.aria_base.specs.Schemas.{IsConsistent}
use Rattle.aria_base.specs.declared.calls.Arg.{Arg}
use Rattle.aria_base.specs.declared.calls.Arg.TheVariants as arg
use Rattle.proc_lang.specs.declared.procs.ArgKind.TheVariants as kind
use Rattle.batch_rules.specs.Touches.{map_after}
use Rattle.cat_builtin.specs.Tpcc.{tpcc}
use Rattle.cat_builtin.specs.Warehouses as table
use Rattle.cat_builtin.specs.NewOrders as sale
use Rattle.cat_builtin.specs.Payments as payment
use Rattle.proc_lang.specs.Catalogs.{run_of, run_by, fits_proc, args_fit, arg_fits}
use Rattle.proc_lang.specs.Meaning.{is_done}
use Rattle.range_rules.specs.declared.routines.Work.{Work}
use Rattle.range_rules.specs.declared.routines.Work.TheVariants as work
use Rattle.range_rules.specs.Courses.{left_of}
use Rattle.range_rules.specs.Walks.{follow}
use Rattle.range_suits.specs.Suits.{is_taken}
use Rattle.tpcc_routines.specs.Routines.{walk_of, is_more}
use Rattle.tpcc_routines.specs.Sound.{IsSound}
use Rattle.tpcc_sound.proofs.Buying.{payment-keeps}
use Rattle.tpcc_sound.proofs.Keeping.{more-keep}
use Rattle.tpcc_sound.proofs.Points.{holds-each}
use Rattle.tpcc_sound.proofs.Selling.{order-keeps}

-- what the arguments of an order and of a payment are
order-args : (args : List Arg) → args_fit sale.new_order.args args ≡ true
    → (w : ℤ) × (d : ℤ) × (c : ℤ) × (e : ℤ) × (lines : List (List ℤ)) × (args ≡ arg.Int w ∷ arg.Int d ∷ arg.Int c ∷ arg.Int e ∷ arg.List lines ∷ [])
order-args (arg.Int w ∷ arg.Int d ∷ arg.Int c ∷ arg.Int e ∷ arg.List lines ∷ []) fits = (w, d, c, e, lines, refl)
order-args (arg.Int w ∷ arg.Int d ∷ arg.Int c ∷ arg.Int e ∷ arg.List lines ∷ more ∷ rest) fits =
    absurd (true≢false (sym (and_parts (arg_fits (kind.List 3) (arg.List lines)) false fits).1))
order-args _ fits = let no : ⊥ = cc in absurd no

payment-args : (args : List Arg) → args_fit payment.payment.args args ≡ true → (w : ℤ) × (d : ℤ) × (cw : ℤ) × (cd : ℤ) × (by : ℤ) × (id : ℤ) × (amount : ℤ)
    × (date : ℤ)
    × (args ≡ arg.Int w ∷ arg.Int d ∷ arg.Int cw ∷ arg.Int cd ∷ arg.Int by ∷ arg.Int id ∷ arg.Int amount ∷ arg.Int date ∷ [])
payment-args (arg.Int w ∷ arg.Int d ∷ arg.Int cw ∷ arg.Int cd ∷ arg.Int by ∷ arg.Int id ∷ arg.Int amount ∷ arg.Int date ∷ []) fits =
    (w, d, cw, cd, by, id, amount, date, refl)
payment-args _ fits = let no : ⊥ = cc in absurd no

module _ (db : Database) (consistent : IsConsistent table.tables db) (sound : IsSound db) where
  abbrev Left : ℕ → ℕ → List Arg → Type 0
  Left q n args = IsSound (map_after is_done (run_by (slice_get tpcc.procs n) (record { q = q; call = record { proc = n; args = args } })) db)

  proc-keeps : (q n : ℕ) (args : List Arg) → fits_proc args (slice_get tpcc.procs n) ≡ true → Left q n args
  proc-keeps q zero args fits =
      let a = order-args args fits in
      subst (Left q 0) (sym a.5) (order-keeps q a.0 a.1 a.2 a.3 a.4 db consistent (holds-each db sound) sound)
  proc-keeps q (suc zero) args fits =
      let a = payment-args args fits in
      subst (Left q 1) (sym a.8) (payment-keeps q a.0 a.1 a.2 a.3 a.4 a.5 a.6 a.7 db consistent (holds-each db sound) sound)
  proc-keeps q (suc (suc n)) args fits = let no : ⊥ = cc in absurd no

  pub work-keeps : (q : ℕ) (w : Work) → is_taken tpcc is_more w ≡ true → IsSound (left_of (run_of tpcc) (λ q call. follow (walk_of call)) q w db)
  work-keeps q (work.Proc call) taken = proc-keeps q call.proc call.args taken
  work-keeps q (work.Routine call) taken = more-keep call db consistent sound
