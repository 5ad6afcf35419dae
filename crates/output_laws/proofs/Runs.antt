-- A run over rows of printed bytes touches, writes and gives nothing else.
use Rattle.std.proofs.Common.{◌≡◌, ℕ, ℤ, zero, suc, pos, ◌+◌, Bool, true, false, cond, nat_lt, List, [], ◌∷◌, ◌++◌, length, map, Option, Some, None, Ok, Err, IfOk, refl, sym, ◌∙◌, subst}
use Rattle.std.specs.Prelude.{⊤, IfSome, slice_get, slice_index_or, slice_set}
use Rattle.std.specs.FinMap as fin
use Rattle.std.specs.List.{AllByRecursion}
use Rattle.std.specs.Ordering.{eq_by_cmp}
use Rattle.aria_base.specs.Kinds.{value_kind}
use Rattle.aria_base.specs.Orders.{Cells, Database, key_cmp}
use Rattle.aria_base.proofs.Orders.{key_cmp_total, key_cmp-IsAntisymmetric}
use Rattle.aria_base.specs.declared.calls.Request.{Request}
use Rattle.aria_base.specs.declared.keys.Key.{Key}
use Rattle.aria_base.specs.declared.schemas.Table.{Table}
use Rattle.aria_base.specs.declared.values.Kind.{Kind}
use Rattle.aria_base.specs.declared.values.Kind.TheVariants as kind
use Rattle.aria_base.specs.declared.values.Value.{Value}
use Rattle.aria_base.specs.declared.values.Value.TheVariants as value
use Rattle.batch_rules.specs.Touches.{Declared, may_read, may_write, outside, map_after}
use Rattle.batch_rules.specs.Trees.{Ends, Reads, Writes, set_at, trace_of, end_of, left_by}
use Rattle.batch_rules.proofs.Maps.{get-set_at, same_key}
use Rattle.proc_lang.specs.declared.ends.End.TheVariants as end
use Rattle.proc_lang.specs.declared.ends.Trap.TheVariants.{Many}
use Rattle.proc_lang.specs.declared.limits.TheConstants.{MOST_ACCESSES, MOST_GIVEN}
use Rattle.proc_lang.specs.declared.procs.Proc.{Proc}
use Rattle.proc_lang.specs.Catalogs.{Plan, run_by, run_of}
use Rattle.proc_lang.specs.Meaning.{Frame, Next, Run, begun, blank_all, counted, done, for_each, gives, is_done, key_from, reads, row_from, row_or, script, set_all, set_to, step_run, steps_run, value_of, with, writes}
use Rattle.proc_lang.specs.Steps.{Absence, Traps, Fails, Blanks, Step, Steps, NoMore, More}
use Rattle.proc_lang.specs.Steps as step
use Rattle.proc_lang.specs.Values.{Got, blank, both, got, tuples_of}
use Rattle.output_laws.proofs.Texts.{Printed, PrintedCall, PrintedCells, PrintedEnd, PrintedKey, PrintedRow, PrintedValue, all_joined, all_set}
use Rattle.output_laws.proofs.Values.{PrintedTerm, both_hold, got_holds, key_gives, row_gives, value_gives}

-- ---- trees

abbrev pub PrintedRun : Run → Type 0
PrintedRun (Ends e) = PrintedEnd e
PrintedRun (Reads k next) = PrintedKey k × ((row : Option Cells) → PrintedRow row → PrintedRun (next row))
PrintedRun (Writes k row t) = PrintedKey k × PrintedRow row × PrintedRun t

abbrev pub PrintedRows : Database → Type 0
PrintedRows db = (key : Key) (row : Cells) → fin.get db key ≡ Some row → PrintedKey key × PrintedCells row

found_printed : (db : Database) (k : Key) → PrintedRows db → PrintedRow (fin.get db k)
found_printed db k h = by (fin.get db k) refl
  where
    by : (o : Option Cells) → fin.get db k ≡ o → PrintedRow o
    by None e = tt
    by (Some row) e = (h k row e).1

set_printed : (db : Database) (k : Key) (row : Option Cells) → PrintedRows db → PrintedKey k → PrintedRow row → PrintedRows (set_at db k row)
set_printed db k row h key_is row_is q cells e = by (eq_by_cmp key_cmp q k) refl row row_is (sym (get-set_at key_cmp_total db k row q) ∙ e)
  where
    by : (b : Bool) → eq_by_cmp key_cmp q k ≡ b → (o : Option Cells) → PrintedRow o → cond b o (fin.get db q) ≡ Some cells → PrintedKey q × PrintedCells cells
    by true same None is e = absurd cc
    by true same (Some found) is e =
        let one : found ≡ cells = cc in
        (subst PrintedKey (sym (same_key key_cmp-IsAntisymmetric q k same)) key_is, subst PrintedCells one is)
    by false other o is e = h q cells e

pub insert_printed : (db : Database) (k : Key) (row : Cells) → PrintedRows db → PrintedKey k → PrintedCells row → PrintedRows (fin.insert db k row)
insert_printed db k row h key_is row_is = set_printed db k (Some row) h key_is row_is

pub end_printed : (t : Run) (db : Database) → PrintedRun t → PrintedRows db → PrintedEnd (end_of t db)
end_printed (Ends e) db p h = p
end_printed (Reads k next) db p h = end_printed (next (fin.get db k)) db (p.1 (fin.get db k) (found_printed db k h)) h
end_printed (Writes k row t) db p h = end_printed t (set_at db k row) p.2 (set_printed db k row h p.0 p.1)

left_printed : (t : Run) (db : Database) → PrintedRun t → PrintedRows db → PrintedRows (left_by t db)
left_printed (Ends e) db p h = h
left_printed (Reads k next) db p h = left_printed (next (fin.get db k)) db (p.1 (fin.get db k) (found_printed db k h)) h
left_printed (Writes k row t) db p h = left_printed t (set_at db k row) p.2 (set_printed db k row h p.0 p.1)

pub after_printed : (t : Run) (db : Database) → PrintedRun t → PrintedRows db → PrintedRows (map_after is_done t db)
after_printed t db p h = by (is_done (end_of t db))
  where
    by : (b : Bool) → PrintedRows (cond b (left_by t db) db)
    by true = left_printed t db p h
    by false = h

some_when : (b : Bool) (o : Option Key) (k : Key) → PrintedKey k → IfSome o PrintedKey → IfSome (cond b o (Some k)) PrintedKey
some_when true o k h rest = rest
some_when false o k h rest = h

-- so is the key of the first access outside declared ones
pub outside_printed : (declared : Declared Key) (t : Run) (db : Database) → PrintedRun t → PrintedRows db
    → IfSome (outside key_cmp declared (trace_of t db)) PrintedKey
outside_printed declared (Ends e) db p h = tt
outside_printed declared (Reads k next) db p h =
    some_when (may_read key_cmp declared k) (outside key_cmp declared (trace_of (next (fin.get db k)) db)) k p.0
    (outside_printed declared (next (fin.get db k)) db (p.1 (fin.get db k) (found_printed db k h)) h)
outside_printed declared (Writes k row t) db p h =
    some_when (may_write key_cmp declared k) (outside key_cmp declared (trace_of t (set_at db k row))) k p.0
    (outside_printed declared t (set_at db k row) p.2 (set_printed db k row h p.0 p.1))

-- ---- statements

abbrev mutual
  pub PrintedStep : Step → Type 0
  PrintedStep (step.Let n e) = PrintedTerm e
  PrintedStep (step.Read absence t ks rs) = AllByRecursion PrintedTerm ks
  PrintedStep (step.Put t ks es) = AllByRecursion PrintedTerm ks × AllByRecursion PrintedTerm es
  PrintedStep (step.Del t ks) = AllByRecursion PrintedTerm ks
  PrintedStep (step.If e a b) = PrintedTerm e × PrintedSteps a × PrintedSteps b
  PrintedStep (step.Each n body) = PrintedSteps body
  PrintedStep (step.Give e) = PrintedTerm e
  PrintedStep (step.Fail code) = ⊤

  pub PrintedSteps : Steps → Type 0
  PrintedSteps NoMore = ⊤
  PrintedSteps (More s rest) = PrintedStep s × PrintedSteps rest

record PrintedFrame (f : Frame) : Type 0 where
  regs : PrintedCells f.regs
  gives : PrintedCells f.gives

abbrev PrintedNext : Next → Type 0
PrintedNext next = (f : Frame) → PrintedFrame f → PrintedRun (next f)

with_printed : {A : Type 0} (P : A → Type 0) (g : Got A) (go : A → Run) → IfOk g P → ((x : A) → P x → PrintedRun (go x)) → PrintedRun (with g go)
with_printed P (Ok x) go h k = k x h
with_printed P (Err trap) go h k = tt

run_when : (b : Bool) (x y : Run) → PrintedRun x → PrintedRun y → PrintedRun (cond b x y)
run_when true x y h k = h
run_when false x y h k = k

counted_printed : (f : Frame) (go : Next) → PrintedFrame f → PrintedNext go → PrintedRun (counted f go)
counted_printed f go h k =
    run_when (nat_lt f.made MOST_ACCESSES) (go (record { regs = f.regs; gives = f.gives; made = f.made + 1 })) (Ends (end.Trap Many))
    (k (record { regs = f.regs; gives = f.gives; made = f.made + 1 }) (record { regs = h.regs; gives = h.gives })) tt

reads_printed : (key : Got Key) (go : Frame → Option Cells → Run) (f : Frame) → IfOk key PrintedKey → PrintedFrame f
    → ((f : Frame) → PrintedFrame f → (row : Option Cells) → PrintedRow row → PrintedRun (go f row)) → PrintedRun (reads key go f)
reads_printed key go f k h each =
    with_printed PrintedKey key (λ key. counted f (λ f. Reads key (go f))) k
    (λ key is. counted_printed f (λ f. Reads key (go f)) h (λ g held. (is, λ row printed. each g held row printed)))

writes_printed : (key : Got Key) (row : Got (Option Cells)) (next : Next) (f : Frame) → IfOk key PrintedKey → IfOk row PrintedRow → PrintedFrame f
    → PrintedNext next
    → PrintedRun (writes key row next f)
writes_printed key row next f k r h n =
    with_printed (λ p. PrintedKey p.0 × PrintedRow p.1) (both key row) (λ p. counted f (λ f. Writes p.0 p.1 (next f)))
    (both_hold PrintedKey PrintedRow key row k r)
    (λ p is. counted_printed f (λ f. Writes p.0 p.1 (next f)) h (λ g held. (is.0, is.1, n g held)))

-- registers

all_set_printed : (ns : List ℕ) (row regs : List Value) → PrintedCells row → PrintedCells regs → PrintedCells (set_all ns row regs)
all_set_printed [] row regs h k = k
all_set_printed (n ∷ ns) [] regs h k = k
all_set_printed (n ∷ ns) (v ∷ vs) regs h k = all_set_printed ns vs (slice_set regs n v) h.1 (all_set PrintedValue regs n v h.0 k)

blank_printed : (k : Kind) → PrintedValue (blank k)
blank_printed kind.Int = tt
blank_printed kind.Text = refl

all_blank_printed : (ns : List ℕ) (regs : List Value) → PrintedCells regs → PrintedCells (blank_all ns regs)
all_blank_printed [] regs h = h
all_blank_printed (n ∷ ns) regs h =
    let v = blank (value_kind (slice_index_or regs n (value.Int (pos 0)))) in
    all_blank_printed ns (slice_set regs n v) (all_set PrintedValue regs n v (blank_printed (value_kind (slice_index_or regs n (value.Int (pos 0))))) h)

row_printed : (absence : Absence) (rs : List ℕ) (next : Next) → PrintedNext next → (f : Frame) → PrintedFrame f → (row : Option Cells) → PrintedRow row
    → PrintedRun (row_or absence rs next f row)
row_printed Traps rs next n f h None p = tt
row_printed Traps rs next n f h (Some row) p = n (set_to f (set_all rs row f.regs)) (record { regs = all_set_printed rs row f.regs p h.regs; gives = h.gives })
row_printed (Fails code) rs next n f h None p = tt
row_printed (Fails code) rs next n f h (Some row) p = n (set_to f (set_all rs row f.regs))
    (record { regs = all_set_printed rs row f.regs p h.regs; gives = h.gives })
row_printed (Blanks flag) rs next n f h None p =
    n (set_to f (slice_set (blank_all rs f.regs) flag (value.Int (pos 0))))
    (record { regs = all_set PrintedValue (blank_all rs f.regs) flag (value.Int (pos 0)) tt (all_blank_printed rs f.regs h.regs); gives = h.gives })
row_printed (Blanks flag) rs next n f h (Some row) p =
    n (set_to f (slice_set (set_all rs row f.regs) flag (value.Int (pos 1))))
    (record { regs = all_set PrintedValue (set_all rs row f.regs) flag (value.Int (pos 1)) tt (all_set_printed rs row f.regs p h.regs); gives = h.gives })

each_printed : (body : List ℤ → Next → Next) → ((t : List ℤ) (next : Next) → PrintedNext next → PrintedNext (body t next)) → (ts : List (List ℤ)) (next : Next)
    → PrintedNext next
    → PrintedNext (for_each body ts next)
each_printed body b [] next n f h = n f h
each_printed body b (t ∷ ts) next n f h = b t (for_each body ts next) (each_printed body b ts next n) f h

gives_printed : (next : Next) (f : Frame) (v : Value) → PrintedNext next → PrintedFrame f → PrintedValue v → PrintedRun (gives next f v)
gives_printed next f v n h p =
    run_when (nat_lt (length f.gives) MOST_GIVEN) (next (record { regs = f.regs; gives = f.gives ++ v ∷ []; made = f.made })) (Ends (end.Trap Many))
    (n (record { regs = f.regs; gives = f.gives ++ v ∷ []; made = f.made })
    (record { regs = h.regs; gives = all_joined PrintedValue f.gives (v ∷ []) h.gives (p, tt) })) tt

module _ (r : Request) (printed : PrintedCall r.call) where
  mutual
    step_printed : (s : Step) → PrintedStep s → (item : List ℤ) (next : Next) → PrintedNext next → PrintedNext (step_run r s item next)
    step_printed (step.Let n e) p item next go f h =
        with_printed PrintedValue (value_of r item f.regs e) (λ v. next (set_to f (slice_set f.regs n v))) (value_gives r printed item f.regs h.regs e p)
        (λ v is. go (set_to f (slice_set f.regs n v)) (record { regs = all_set PrintedValue f.regs n v is h.regs; gives = h.gives }))
    step_printed (step.Read absence t ks rs) p item next go f h =
        reads_printed (key_from r item f.regs t ks) (row_or absence rs next) f (key_gives r printed item f.regs h.regs t ks p) h
        (row_printed absence rs next go)
    step_printed (step.Put t ks es) p item next go f h =
        writes_printed (key_from r item f.regs t ks) (got (row_from r item f.regs es) (λ row. Ok (Some row))) next f
        (key_gives r printed item f.regs h.regs t ks p.0)
        (got_holds PrintedCells PrintedRow (row_from r item f.regs es) (λ row. Ok (Some row)) (row_gives r printed item f.regs h.regs es p.1) (λ row is. is)) h
        go
    step_printed (step.Del t ks) p item next go f h =
        writes_printed (key_from r item f.regs t ks) (Ok None) next f (key_gives r printed item f.regs h.regs t ks p) tt h go
    step_printed (step.If e a b) p item next go f h =
        with_printed PrintedValue (value_of r item f.regs e) _ (value_gives r printed item f.regs h.regs e p.0)
        (λ v is. run_when _ (steps_run r a item next f) (steps_run r b item next f) (steps_printed a p.1 item next go f h)
        (steps_printed b p.2 item next go f h))
    step_printed (step.Each n body) p item next go f h =
        each_printed (steps_run r body) (λ t next go. steps_printed body p t next go) (tuples_of (slice_get r.call.args n)) next go f h
    step_printed (step.Give e) p item next go f h =
        with_printed PrintedValue (value_of r item f.regs e) (gives next f) (value_gives r printed item f.regs h.regs e p)
        (λ v is. gives_printed next f v go h is)
    step_printed (step.Fail code) p item next go f h = tt

    steps_printed : (b : Steps) → PrintedSteps b → (item : List ℤ) (next : Next) → PrintedNext next → PrintedNext (steps_run r b item next)
    steps_printed NoMore p item next go f h = go f h
    steps_printed (More s rest) p item next go f h = step_printed s p.0 item (steps_run r rest item next) (steps_printed rest p.1 item next go) f h

-- ---- catalogues

-- names of tables and texts in procedures
pub record PrintedPlan (plan : Plan) : Type 0 where
  pub tables : AllByRecursion (λ (t : Table). Printed t.name) plan.tables
  pub procs : AllByRecursion (λ (p : Proc). PrintedSteps p.body) plan.procs

script_printed : (body : Steps) (kinds : List Kind) (r : Request) → PrintedSteps body → PrintedCall r.call → PrintedRun (script body kinds r)
script_printed body kinds r p c = steps_printed r c body p [] done (λ f h. h.gives) (begun kinds) (record { regs = blanks kinds; gives = tt })
  where
    blanks : (ks : List Kind) → PrintedCells (map blank ks)
    blanks [] = tt
    blanks (k ∷ ks) = (blank_printed k, blanks ks)

found_run : (procs : List Proc) (n : ℕ) (r : Request) → AllByRecursion (λ (p : Proc). PrintedSteps p.body) procs → PrintedCall r.call
    → PrintedRun (run_by (slice_get procs n) r)
found_run [] n r a c = tt
found_run (p ∷ procs) zero r a c = script_printed p.body p.regs r a.0 c
found_run (p ∷ procs) (suc n) r a c = found_run procs n r a.1 c

pub run_printed : (plan : Plan) (r : Request) → PrintedPlan plan → PrintedCall r.call → PrintedRun (run_of plan r)
run_printed plan r p c = found_run plan.procs r.call.proc r p.procs c
