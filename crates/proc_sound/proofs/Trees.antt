-- A careful run beside the plain one: where every row that is read fits, it goes the same way, and writes only rows that fit.
use Rattle.std.proofs.Common.{◌≡◌, true, false, Option, Some, None, List, ◌∷◌, refl, ap}
use Rattle.std.specs.Prelude.{if◌then◌else◌}
use Rattle.std.specs.FinMap as fin
use Rattle.aria_base.specs.Orders.{Cells, Database}
use Rattle.aria_base.specs.Schemas.{IsConsistent}
use Rattle.aria_base.specs.declared.keys.Key.{Key}
use Rattle.aria_base.specs.declared.schemas.Table.{Table}
use Rattle.aria_base.proofs.Fitting.{MayStand, fit_changed}
use Rattle.aria_base.proofs.Orders.{key_cmp_total}
use Rattle.batch_rules.specs.Trees.{Ends, Reads, Writes, Read, Write, set_at, end_of, left_by}
use Rattle.batch_rules.proofs.Maps.{get-set_at}
use Rattle.proc_lang.specs.Meaning.{Run, is_done}
use Rattle.proc_sound.specs.Careful.{Careful}
use Rattle.proc_sound.specs.Laws.{IsNeverStuck, StaysConsistent}

abbrev pub Like : List Table → Run → Careful → Type 0
Like tables (Ends e) (Ends o) = o ≡ Some e
Like tables (Reads k next) (Reads k' next') = (k' ≡ k) × ((row : Option Cells) → MayStand tables k row → Like tables (next row) (next' row))
Like tables (Writes k row t) (Writes k' row' t') = (k' ≡ k) × (row' ≡ row) × MayStand tables k row × Like tables t t'
Like tables t t' = ⊥

may_stand : (tables : List Table) (db : Database) (k : Key) → IsConsistent tables db → MayStand tables k (fin.get db k)
may_stand tables db k c = elim (fin.get db k) as (λ row. fin.get db k ≡ row → MayStand tables k row) [ None ↦ λ e. tt | Some row ↦ λ e. c k row e ] refl

goes_alike : (tables : List Table) (t : Run) (t' : Careful) (db : Database) → Like tables t t' → IsConsistent tables db
    → IsNeverStuck t' t db × IsConsistent tables (left_by t db)
goes_alike tables (Ends e) (Ends o) db like c = (record { trace = refl; end = like }, c)
goes_alike tables (Reads k next) (Reads k' next') db like c =
    let rest = goes_alike tables (next (fin.get db k)) (next' (fin.get db k)) db (like.1 (fin.get db k) (may_stand tables db k c)) c in
    (rw like.0 (record { trace = ap (λ visits. Read k ∷ visits) rest.0.trace; end = rest.0.end }), rest.1)
goes_alike tables (Writes k row t) (Writes k' row' t') db like c =
    let rest = goes_alike tables t t' (set_at db k row) like.3 (fit_changed tables db (set_at db k row) k row c like.2 (get-set_at key_cmp_total db k row)) in
    (rw (like.0, like.1) (record { trace = ap (λ visits. Write k row ∷ visits) rest.0.trace; end = rest.0.end }), rest.1)
goes_alike tables t t' db like c = absurd like

pub never_stuck_from : (tables : List Table) (t : Run) (t' : Careful) (db : Database) → Like tables t t' → IsConsistent tables db → IsNeverStuck t' t db
never_stuck_from tables t t' db like c = (goes_alike tables t t' db like c).0

pub consistent_from : (tables : List Table) (t : Run) (t' : Careful) (db : Database) → Like tables t t' → IsConsistent tables db → StaysConsistent tables t db
consistent_from tables t t' db like c = record {
  left = (goes_alike tables t t' db like c).1;
  after = elim (is_done (end_of t db)) as (λ b. IsConsistent tables (if b then left_by t db else db)) [
    | true ↦ (goes_alike tables t t' db like c).1
    | false ↦
        c
  ];
}
