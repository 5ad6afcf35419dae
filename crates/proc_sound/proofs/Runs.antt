-- Whole runs, of a procedure and of a catalogue's request.
use Rattle.std.proofs.Common.{◌≡◌, ◌↔◌, ◌&&◌, ℕ, true, false, nat_le, List, [], ◌∷◌, length, map, slice_get, Some, None, Result, Ok, Err, IfOk, IsOk, IsSomeAnd, refl, sym, ap, ◌∙◌}
use Rattle.std.specs.List.{list_all}
use Rattle.std.proofs.lemmas.Bool.{and_parts, and_from}
use Rattle.std.proofs.lemmas.List.{length-map}
use Rattle.std.proofs.lemmas.List.Elements.{All-get_or}
use Rattle.std.proofs.lemmas.Option.{slice_get_within, get_or_from_slice_get}
use Rattle.aria_base.specs.Kinds.{value_kind, part_kind}
use Rattle.aria_base.specs.Orders.{Cells, Database}
use Rattle.aria_base.specs.Schemas.{Fits, IsConsistent}
use Rattle.aria_base.specs.Texts.{is_word}
use Rattle.aria_base.specs.declared.calls.Request.{Request}
use Rattle.aria_base.specs.declared.keys.Key.{Key}
use Rattle.aria_base.specs.declared.schemas.Table.{Table}
use Rattle.aria_base.specs.declared.values.Kind.{Kind}
use Rattle.aria_base.specs.declared.values.Kind.TheVariants.{Int, Text}
use Rattle.aria_base.specs.declared.limits.TheConstants.{FEWEST_PARTS, MOST_PARTS, MOST_COLUMNS}
use Rattle.proc_lang.specs.declared.ends.End.TheVariants as end
use Rattle.proc_lang.specs.declared.procs.Proc.{Proc}
use Rattle.proc_lang.specs.Values.{blank}
use Rattle.proc_lang.specs.Meaning.{script, steps_run}
use Rattle.proc_lang.specs.Meaning as plain
use Rattle.proc_lang.specs.Typing.{IsWellTyped, typed_proc, scope_of, at_start}
use Rattle.proc_lang.specs.Catalogs.{Plan, IsCatalog, is_between, table_fits, takes, fits_proc, run_by, run_of}
use Rattle.proc_sound.specs.Careful.{has_place, holds_of, same_kinds, begun, done, careful_steps, careful_script, careful_by, careful_run}
use Rattle.proc_sound.specs.Laws.{shape_fits, Suits, IsNeverStuck, StaysConsistent}
use Rattle.proc_sound.proofs.Lists.{same_kinds-decides, none_set}
use Rattle.proc_sound.proofs.Expressions.{Context}
use Rattle.proc_sound.proofs.Trees.{Like, never_stuck_from, consistent_from}
use Rattle.proc_sound.proofs.Registers.{States, Goes}
use Rattle.proc_sound.proofs.Statements.{steps_goes}

-- ---- a procedure

at_ok : {A E : Type 0} (x : Result A E) (P : A → Type 0) → IsOk x → IfOk x P → (a : A) × P a
at_ok (Ok a) P e p = (a, p)
at_ok (Err e) P f p = cc

blank_kinds : (kinds : List Kind) → map value_kind (map blank kinds) ≡ kinds
blank_kinds [] = refl
blank_kinds (Int ∷ kinds) = ap (λ ks. Int ∷ ks) (blank_kinds kinds)
blank_kinds (Text ∷ kinds) = ap (λ ks. Text ∷ ks) (blank_kinds kinds)

-- no register is known to be set
abbrev start : (kinds : List Kind) → States (λ _. ⊥) kinds (map (λ _. false) kinds)
start kinds = record {
  frame = plain.begun kinds;
  state = begun kinds;
  regs = record { kinds_are = blank_kinds kinds; held = λ n is. absurd (none_set kinds n is) };
  count = length-map kinds (λ _. None) ∙ sym (length-map kinds blank);
  kept = λ n w. absurd w;
  given = refl;
  made = refl;
}

alike : (tables : List Table) (p : Proc) (request : Request) → Suits tables p request
    → Like tables (script p.body p.regs request) (careful_script tables p request)
alike tables p request s =
    let W = λ (n : ℕ). ⊥ in
    let c : Context (scope_of tables p) request [] = record { shapes = s.shapes; args = s.args; tuple = tt } in
    let goes = at_ok (typed_proc tables p) (λ last. Goes tables W p.regs (at_start p).set last.set (steps_run request p.body [])
    (careful_steps tables p.regs request p.body [])) s.typed (steps_goes request W (scope_of tables p) [] (at_start p) c p.body) in
    (goes.1.go plain.done done (record { like = λ i. ap (λ given. Some (end.Done given)) i.given })).like (start p.regs)

pub never_stuck_is : (tables : List Table) (p : Proc) (request : Request) (db : Database) → Suits tables p request → IsConsistent tables db
    → IsNeverStuck (careful_script tables p request) (script p.body p.regs request) db
never_stuck_is tables p request db s c = never_stuck_from tables (script p.body p.regs request) (careful_script tables p request) db
    (alike tables p request s) c

pub stays_consistent_is : (tables : List Table) (p : Proc) (request : Request) (db : Database) → Suits tables p request → IsConsistent tables db
    → StaysConsistent tables (script p.body p.regs request) db
stays_consistent_is tables p request db s c = consistent_from tables (script p.body p.regs request) (careful_script tables p request) db
    (alike tables p request s) c

-- ---- a catalogue

shapes_fit : (tables : List Table) → list_all table_fits tables ≡ true → list_all shape_fits tables ≡ true
shapes_fit [] e = refl
shapes_fit (t ∷ tables) e =
    let all = and_parts (table_fits t) (list_all table_fits tables) e in
    let cols = and_parts (is_word t.name && is_between FEWEST_PARTS MOST_PARTS (length t.key)) (nat_le (length t.cols) MOST_COLUMNS) all.0 in
    let key = and_parts (is_word t.name) (is_between FEWEST_PARTS MOST_PARTS (length t.key)) cols.0 in
    and_from (shape_fits t) (list_all shape_fits tables) (and_from (is_between FEWEST_PARTS MOST_PARTS (length t.key))
    (nat_le (length t.cols) MOST_COLUMNS) key.1 cols.1) (shapes_fit tables all.1)

-- a request that the catalogue takes suits its procedure
called : (plan : Plan) (request : Request) → IsCatalog plan → takes plan request.call ≡ true → (p : Proc) × (slice_get plan.procs request.call.proc ≡ Some p)
    × Suits plan.tables p request
called plan request c = elim (slice_get plan.procs request.call.proc) as (λ o. slice_get plan.procs request.call.proc ≡ o
    → fits_proc request.call.args o ≡ true → (p : Proc) × (o ≡ Some p) × Suits plan.tables p request) [
      | None ↦ λ e fits. cc
      | Some p ↦ λ e fits. (
        p,
        refl,
        record {
          shapes = shapes_fit plan.tables c.tables_fit;
          typed = rw (get_or_from_slice_get plan.procs request.call.proc p p e) at (All-get_or (IsWellTyped plan.tables) plan.procs request.call.proc p
              (slice_get_within plan.procs request.call.proc p e) c.typed);
          args = fits;
        },
      )
    ] refl

pub catalog_never_stuck_is : (plan : Plan) (request : Request) (db : Database) → IsCatalog plan → takes plan request.call ≡ true → IsConsistent plan.tables db
    → IsNeverStuck (careful_run plan request) (run_of plan request) db
catalog_never_stuck_is plan request db c fits consistent =
    let p = called plan request c fits in
    rw (ap (λ o. careful_by plan o request) p.1, ap (λ o. run_by o request) p.1) (never_stuck_is plan.tables p.0 request db p.2 consistent)

pub catalog_stays_consistent_is : (plan : Plan) (request : Request) (db : Database) → IsCatalog plan → takes plan request.call ≡ true
    → IsConsistent plan.tables db → StaysConsistent plan.tables (run_of plan request) db
catalog_stays_consistent_is plan request db c fits consistent =
    let p = called plan request c fits in
    rw (ap (λ o. run_by o request) p.1) (stays_consistent_is plan.tables p.0 request db p.2 consistent)

-- ---- the test of a row is the definition

pub has_place_is : (tables : List Table) (key : Key) (row : Cells) → (has_place tables key (Some row) ≡ true) ↔ Fits tables key row
has_place_is tables key row =
    elim (slice_get tables key.table) as (λ o.
    (holds_of o (λ table. same_kinds (map part_kind key.parts) table.key && same_kinds (map value_kind row) table.cols) ≡ true)
    ↔ IsSomeAnd o (λ table. (map part_kind key.parts ≡ table.key) × (map value_kind row ≡ table.cols))) [
      | None ↦ (λ e. cc, λ fits. absurd fits)
      | Some table ↦ (
        λ e. let are = and_parts (same_kinds (map part_kind key.parts) table.key) (same_kinds (map value_kind row) table.cols) e in
            ((same_kinds-decides (map part_kind key.parts) table.key).0 are.0, (same_kinds-decides (map value_kind row) table.cols).0 are.1),
        λ fits. and_from _ _ ((same_kinds-decides (map part_kind key.parts) table.key).1 fits.0)
            ((same_kinds-decides (map value_kind row) table.cols).1 fits.1),
      )
    ]
