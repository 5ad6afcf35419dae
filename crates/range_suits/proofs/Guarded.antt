-- Each access of a careful run is at a whole key: before it makes one, it tests that the table takes the key.
use Rattle.std.proofs.Common.{◌≡◌, ℕ, ℤ, suc, ◌+◌, Bool, true, false, nat_lt, ◌&&◌, List, [], ◌∷◌, ◌++◌, length, map, slice_get, Option, Some, None, Ok, Err}
use Rattle.std.proofs.Common.{refl, sym, ap, ◌∙◌}
use Rattle.std.specs.Prelude.{⊤, ◌==◌, if◌then◌else◌, pos}
use Rattle.std.specs.List.{All}
use Rattle.std.proofs.lemmas.Bool.{and_parts, eq-eqb, eqb-true}
use Rattle.std.proofs.lemmas.List.{length-map}
use Rattle.std.proofs.lemmas.List.Elements.{All-nil, All-cons}
use Rattle.std.specs.FinMap as fin
use Rattle.aria_base.specs.Kinds.{part_kind}
use Rattle.aria_base.specs.Orders.{Cells, Database}
use Rattle.aria_base.specs.declared.calls.Request.{Request}
use Rattle.aria_base.specs.declared.keys.Key.{Key}
use Rattle.aria_base.specs.declared.schemas.Table.{Table}
use Rattle.aria_base.specs.declared.values.Kind.{Kind}
use Rattle.aria_base.specs.declared.values.Value.{Value}
use Rattle.aria_base.specs.declared.values.Value.TheVariants as value
use Rattle.batch_rules.specs.Trees.{Ends, Reads, Writes, Visit, Read, Write, set_at, trace_of}
use Rattle.proc_lang.specs.declared.ends.End.{End}
use Rattle.proc_lang.specs.declared.ends.End.TheVariants as end
use Rattle.proc_lang.specs.declared.ends.Trap.TheVariants.{Many}
use Rattle.proc_lang.specs.declared.limits.TheConstants.{MOST_ACCESSES, MOST_GIVEN}
use Rattle.proc_lang.specs.declared.procs.Proc.{Proc}
use Rattle.proc_lang.specs.Catalogs.{Plan}
use Rattle.proc_lang.specs.Steps.{Absence, Traps, Fails, Blanks, Step, Steps, NoMore, More}
use Rattle.proc_lang.specs.Steps as step
use Rattle.proc_lang.specs.Values.{blank, is_true}
use Rattle.proc_sound.specs.Careful.{Sure, State, Careful, Next, pair, with, checked, counted, reads, writes, set_one, set_all, blank_all}
use Rattle.proc_sound.specs.Careful.{read_or, row_or, gives, for_each, has_place, has_columns, holds_of, same_kinds, there, and_then, as_int}
use Rattle.proc_sound.specs.Careful.{careful_value, careful_key, careful_row, list_argument, careful_step, careful_steps, careful_by}
use Rattle.proc_sound.specs.Careful.{careful_run}
use Rattle.proc_sound.specs.Careful.{fits_register, begun, done}
use Rattle.range_suits.specs.Suits.{has_parts, is_whole}

-- ---- the test

same_length : (ks ls : List Kind) → same_kinds ks ls ≡ true → (length ls == length ks) ≡ true
same_length [] [] e = refl
same_length [] (l ∷ ls) e = cc
same_length (k ∷ ks) [] e = cc
same_length (k ∷ ks) (l ∷ ls) e = let rest = same_length ks ls (and_parts _ _ e).1 in eq-eqb _ _ (ap suc (eqb-true _ _ rest))

whole_at : (table : Option Table) (k : Key) (row : Option Cells)
    → holds_of table (λ table. same_kinds (map part_kind k.parts) table.key && has_columns table row) ≡ true
    → has_parts table (length k.parts) ≡ true
whole_at None k row e = cc
whole_at (Some table) k row e =
    ap (λ n. length table.key == n) (sym (length-map k.parts part_kind)) ∙ same_length (map part_kind k.parts) table.key (and_parts _ _ e).0

whole : (tables : List Table) (k : Key) (row : Option Cells) → has_place tables k row ≡ true → is_whole tables k ≡ true
whole tables k row e = whole_at (slice_get tables k.table) k row e

-- ---- trees

abbrev pub key_in : Visit Key Cells → Key
key_in (Read k) = k
key_in (Write k row) = k

module _ (tables : List Table) where
  abbrev Guarded : Careful → Type 0
  Guarded (Ends e) = ⊤
  Guarded (Reads k next) = (is_whole tables k ≡ true) × ((row : Option Cells) → Guarded (next row))
  Guarded (Writes k row t) = (is_whole tables k ≡ true) × Guarded t

  abbrev IsWhole : Visit Key Cells → Type 0
  IsWhole visit = is_whole tables (key_in visit) ≡ true

  guarded_trace : (t : Careful) (db : Database) → Guarded t → All IsWhole (trace_of t db)
  guarded_trace (Ends e) db g = All-nil IsWhole
  guarded_trace (Reads k next) db g = All-cons IsWhole (Read k) _ g.0 (guarded_trace (next (fin.get db k)) db (g.1 (fin.get db k)))
  guarded_trace (Writes k row t) db g = All-cons IsWhole (Write k row) _ g.0 (guarded_trace t (set_at db k row) g.1)

  -- ---- what remains of a run

  pub record Keeps (go : Next) : Type 0 where
    pub at : (s : State) → Guarded (go s)

  with_guarded : {A : Type 0} (v : Sure A) (go : A → Careful) → ((x : A) → Guarded (go x)) → Guarded (with v go)
  with_guarded None go h = tt
  with_guarded (Some (Ok x)) go h = h x
  with_guarded (Some (Err trap)) go h = tt

  checked_guarded : (b : Bool) (run : Careful) → (b ≡ true → Guarded run) → Guarded (checked b run)
  checked_guarded true run h = h refl
  checked_guarded false run h = tt

  counted_guarded : (go : Next) (s : State) → Keeps go → Guarded (counted go s)
  counted_guarded go s h = elim (nat_lt s.made MOST_ACCESSES)
      as (λ b. Guarded (if b then go (record { regs = s.regs; gives = s.gives; made = s.made + 1 }) else Ends (Some (end.Trap Many)))) [
        | true ↦ h.at _
        | false ↦ tt
      ]

  reads_guarded : (key : Sure Key) (go : State → Option Cells → Careful) → ((s : State) (row : Option Cells) → Guarded (go s row))
      → Keeps (reads tables key go)
  reads_guarded key go h = record {
    at = λ s. with_guarded key _ (λ k. checked_guarded (has_place tables k None) _ (λ e.
        counted_guarded (λ s. Reads k (go s)) s (record { at = λ s. (whole tables k None e, h s) })));
  }

  writes_guarded : (key : Sure Key) (row : Sure (Option Cells)) (next : Next) → Keeps next → Keeps (writes tables key row next)
  writes_guarded key row next h = record {
    at = λ s. with_guarded (pair key row) _ (λ p. checked_guarded (has_place tables p.0 p.1) _ (λ e.
        counted_guarded (λ s. Writes p.0 p.1 (next s)) s (record { at = λ s. (whole tables p.0 p.1 e, h.at s) })));
  }

  set_one_guarded : (kinds : List Kind) (n : ℕ) (v : Value) (next : Next) → Keeps next → Keeps (set_one kinds n v next)
  set_one_guarded kinds n v next h = record { at = λ s. checked_guarded (fits_register kinds n v) _ (λ e. h.at _) }

  set_all_guarded : (kinds : List Kind) (ns : List ℕ) (vs : List Value) (next : Next) → Keeps next → Keeps (set_all kinds ns vs next)
  set_all_guarded kinds [] [] next h = record { at = h.at }
  set_all_guarded kinds [] (v ∷ vs) next h = record { at = λ s. tt }
  set_all_guarded kinds (n ∷ ns) [] next h = record { at = λ s. tt }
  set_all_guarded kinds (n ∷ ns) (v ∷ vs) next h =
      record { at = (set_one_guarded kinds n v (set_all kinds ns vs next) (set_all_guarded kinds ns vs next h)).at }

  blank_all_guarded : (kinds : List Kind) (ns : List ℕ) (next : Next) → Keeps next → Keeps (blank_all kinds ns next)
  blank_all_guarded kinds [] next h = record { at = h.at }
  blank_all_guarded kinds (n ∷ ns) next h = record {
    at = λ s. with_guarded (there (slice_get kinds n)) _ (λ kind.
        (set_one_guarded kinds n (blank kind) (blank_all kinds ns next) (blank_all_guarded kinds ns next h)).at s);
  }

  read_or_guarded : (kinds : List Kind) (absent : End) (ns : List ℕ) (next : Next) → Keeps next → (s : State) (row : Option Cells)
      → Guarded (read_or kinds absent ns next s row)
  read_or_guarded kinds absent ns next h s None = tt
  read_or_guarded kinds absent ns next h s (Some row) = (set_all_guarded kinds ns row next h).at s

  row_or_guarded : (kinds : List Kind) (absence : Absence) (ns : List ℕ) (next : Next) → Keeps next → (s : State) (row : Option Cells)
      → Guarded (row_or kinds absence ns next s row)
  row_or_guarded kinds Traps ns next h s row = read_or_guarded kinds _ ns next h s row
  row_or_guarded kinds (Fails code) ns next h s row = read_or_guarded kinds _ ns next h s row
  row_or_guarded kinds (Blanks flag) ns next h s None =
      (blank_all_guarded kinds ns _ (set_one_guarded kinds flag (value.Int (pos 0)) next h)).at s
  row_or_guarded kinds (Blanks flag) ns next h s (Some row) =
      (set_all_guarded kinds ns row _ (set_one_guarded kinds flag (value.Int (pos 1)) next h)).at s

  gives_guarded : (next : Next) (s : State) (v : Value) → Keeps next → Guarded (gives next s v)
  gives_guarded next s v h = elim (nat_lt (length s.gives) MOST_GIVEN)
      as (λ b. Guarded (if b then next (record { regs = s.regs; gives = s.gives ++ v ∷ []; made = s.made }) else Ends (Some (end.Trap Many)))) [
        | true ↦ h.at _
        | false ↦ tt
      ]

  for_each_guarded : (body : List ℤ → Next → Next) → ((t : List ℤ) (next : Next) → Keeps next → Keeps (body t next)) → (ts : List (List ℤ))
      (next : Next) → Keeps next → Keeps (for_each body ts next)
  for_each_guarded body each [] next h = record { at = h.at }
  for_each_guarded body each (t ∷ ts) next h =
      record { at = (each t (for_each body ts next) (for_each_guarded body each ts next h)).at }

  either_guarded : (b : Bool) (t u : Careful) → Guarded t → Guarded u → Guarded (if b then t else u)
  either_guarded true t u g h = g
  either_guarded false t u g h = h

  module _ (kinds : List Kind) (r : Request) where
    mutual
      step_guarded : (x : Step) (item : List ℤ) (next : Next) → Keeps next → Keeps (careful_step tables kinds r x item next)
      step_guarded (step.Let n e) item next h =
          record { at = λ s. with_guarded (careful_value r item s.regs e) _ (λ v. (set_one_guarded kinds n v next h).at s) }
      step_guarded (step.Read absence t ks rs) item next h = record {
        at = λ s. (reads_guarded (careful_key r item s.regs t ks) (row_or kinds absence rs next) (row_or_guarded kinds absence rs next h)).at s;
      }
      step_guarded (step.Put t ks es) item next h =
          record { at = λ s. (writes_guarded (careful_key r item s.regs t ks) (careful_row r item s.regs es) next h).at s }
      step_guarded (step.Del t ks) item next h =
          record { at = λ s. (writes_guarded (careful_key r item s.regs t ks) (Some (Ok None)) next h).at s }
      step_guarded (step.If e a b) item next h = record {
        at = λ s. with_guarded (and_then (careful_value r item s.regs e) as_int) _ (λ n. either_guarded (is_true (value.Int n)) _ _
            ((steps_guarded a item next h).at s) ((steps_guarded b item next h).at s));
      }
      step_guarded (step.Each n body) item next h = record {
        at = λ s. with_guarded (list_argument r n) _ (λ tuples.
            (for_each_guarded (careful_steps tables kinds r body) (λ t next h. steps_guarded body t next h) tuples next h).at s);
      }
      step_guarded (step.Give e) item next h =
          record { at = λ s. with_guarded (careful_value r item s.regs e) _ (λ v. gives_guarded next s v h) }
      step_guarded (step.Fail code) item next h = record { at = λ s. tt }

      steps_guarded : (xs : Steps) (item : List ℤ) (next : Next) → Keeps next → Keeps (careful_steps tables kinds r xs item next)
      steps_guarded NoMore item next h = record { at = h.at }
      steps_guarded (More first rest) item next h =
          record { at = (step_guarded first item (careful_steps tables kinds r rest item next) (steps_guarded rest item next h)).at }

-- ---- a whole run

by_guarded : (plan : Plan) (p : Option Proc) (r : Request) → Guarded plan.tables (careful_by plan p r)
by_guarded plan None r = tt
by_guarded plan (Some p) r =
    (steps_guarded plan.tables p.regs r p.body [] done (record { at = λ s. tt })).at (begun p.regs)

-- all that a careful run visits has a whole key
pub whole_visits : (plan : Plan) (r : Request) (db : Database)
    → All (λ visit. is_whole plan.tables (key_in visit) ≡ true) (trace_of (careful_run plan r) db)
whole_visits plan r db = guarded_trace plan.tables (careful_run plan r) db (by_guarded plan (slice_get plan.procs r.call.proc) r)
