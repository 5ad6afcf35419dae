-- A run makes no more accesses than it may, so that it touches no more keys.
use Rattle.std.proofs.Common.{◌≡◌, ℕ, ℤ, zero, suc, ◌+◌, ◌-◌, ◌<◌, ◌≤◌, Bool, true, false, nat_lt, List, [], ◌∷◌, ◌++◌, length, slice_get, Option, Some, None, Ok, Err, refl, sym, ap, subst, arith, length-append}
use Rattle.std.specs.Prelude.{⊤, ◌||◌, if◌then◌else◌}
use Rattle.std.specs.Ordering.{eq_by_cmp}
use Rattle.std.specs.FinMap as fin
use Rattle.std.proofs.lemmas.Bool.{ltb-true}
use Rattle.aria_base.specs.Orders.{Cells, Database, key_cmp}
use Rattle.aria_base.specs.declared.calls.Request.{Request}
use Rattle.aria_base.specs.declared.keys.Key.{Key}
use Rattle.aria_base.specs.declared.values.Value.{Value}
use Rattle.batch_rules.specs.Trees.{Ends, Reads, Writes, Visit, Read, Write, set_at, trace_of, end_of}
use Rattle.batch_rules.specs.Touches.{Noted, nothing, is_among, keys_of, with_write, noted, all_noted}
use Rattle.proc_lang.specs.declared.ends.End.TheVariants as end
use Rattle.proc_lang.specs.declared.ends.Trap.TheVariants.{Many}
use Rattle.proc_lang.specs.declared.limits.TheConstants.{MOST_ACCESSES, MOST_GIVEN}
use Rattle.proc_lang.specs.declared.procs.Proc.{Proc}
use Rattle.proc_lang.specs.Catalogs.{Plan, run_by, run_of}
use Rattle.proc_lang.specs.Meaning.{Frame, Run, Next, value_of, key_from, row_from, with, counted, reads, writes, row_or, gives, for_each, step_run, steps_run, done, begun, is_done}
use Rattle.proc_lang.specs.Steps.{Absence, Traps, Fails, Blanks, Step, Steps, NoMore, More}
use Rattle.proc_lang.specs.Steps as step
use Rattle.proc_lang.specs.Values.{Got, got, both, is_true, tuples_of}
use Rattle.proc_sound.specs.Laws.{TouchesFew}

-- ---- trees

-- whatever rows it finds, the run makes at most n accesses
abbrev Within : ℕ → Run → Type 0
Within n (Ends e) = ⊤
Within n (Reads k next) = (1 ≤ n) × ((row : Option Cells) → Within (n - 1) (next row))
Within n (Writes k row t) = (1 ≤ n) × Within (n - 1) t

trace-within : (n : ℕ) (t : Run) (db : Database) → Within n t → length (trace_of t db) ≤ n
trace-within n (Ends e) db h = omega arith
trace-within n (Reads k next) db h = let rest = trace-within (n - 1) (next (fin.get db k)) db (h.1 (fin.get db k)) in omega (arith, h.0, rest)
trace-within n (Writes k row t) db h = let rest = trace-within (n - 1) t (set_at db k row) h.1 in omega (arith, h.0, rest)

-- ---- what remains of a run

-- from a frame that has made so many accesses it makes at most those that are left
abbrev IsShort : Next → Type 0
IsShort next = (f : Frame) → f.made ≤ MOST_ACCESSES → Within (MOST_ACCESSES - f.made) (next f)

with-short : {A : Type 0} (n : ℕ) (v : Got A) (go : A → Run) → ((x : A) → Within n (go x)) → Within n (with v go)
with-short n (Ok x) go h = h x
with-short n (Err trap) go h = tt

-- one access more
abbrev one_more : Frame → Frame
one_more f = record { regs = f.regs; gives = f.gives; made = f.made + 1 }

counted-short : (f : Frame) (go : Next) → (f.made < MOST_ACCESSES → Within (MOST_ACCESSES - f.made) (go (one_more f)))
    → Within (MOST_ACCESSES - f.made) (counted f go)
counted-short f go h = elim (nat_lt f.made MOST_ACCESSES) as (λ b. nat_lt f.made MOST_ACCESSES ≡ b
    → Within (MOST_ACCESSES - f.made) (if b then go (one_more f) else Ends (end.Trap Many))) [
      | true ↦ λ e. h (ltb-true f.made MOST_ACCESSES e)
      | false ↦ λ e. tt
    ] refl

less-one : (f : Frame) (t : Run) → Within (MOST_ACCESSES - (f.made + 1)) t → Within (MOST_ACCESSES - f.made - 1) t
less-one f t h = let same : MOST_ACCESSES - (f.made + 1) ≡ MOST_ACCESSES - f.made - 1 = omega arith in subst (λ n. Within n t) same h

reads-short : (key : Frame → Got Key) (go : Frame → Option Cells → Run) → ((row : Option Cells) → IsShort (λ f. go f row)) → IsShort (λ f. reads (key f) go f)
reads-short key go h f few = with-short (MOST_ACCESSES - f.made) (key f) _ (λ k. counted-short f (λ f. Reads k (go f)) (λ less.
    (omega (arith, less), λ row. less-one f (go (one_more f) row) (h row (one_more f) (omega (arith, less))))))

writes-short : (key : Frame → Got Key) (row : Frame → Got (Option Cells)) (next : Next) → IsShort next → IsShort (λ f. writes (key f) (row f) next f)
writes-short key row next h f few = with-short (MOST_ACCESSES - f.made) (both (key f) (row f)) _ (λ p. counted-short f (λ f. Writes p.0 p.1 (next f)) (λ less.
    (omega (arith, less), less-one f (next (one_more f)) (h (one_more f) (omega (arith, less))))))

row_or-short : (absence : Absence) (rs : List ℕ) (next : Next) → IsShort next → (row : Option Cells) → IsShort (λ f. row_or absence rs next f row)
row_or-short Traps rs next h None f few = tt
row_or-short Traps rs next h (Some row) f few = h _ few
row_or-short (Fails code) rs next h None f few = tt
row_or-short (Fails code) rs next h (Some row) f few = h _ few
row_or-short (Blanks flag) rs next h None f few = h _ few
row_or-short (Blanks flag) rs next h (Some row) f few = h _ few

gives-short : (next : Next) (f : Frame) → IsShort next → f.made ≤ MOST_ACCESSES → (v : Value) → Within (MOST_ACCESSES - f.made) (gives next f v)
gives-short next f h few v =
    elim (nat_lt (length f.gives) MOST_GIVEN) as (λ b. Within (MOST_ACCESSES - f.made)
    (if b then next (record { regs = f.regs; gives = f.gives ++ v ∷ []; made = f.made }) else Ends (end.Trap Many))) [
      | true ↦ h _ few
      | false ↦ tt
    ]

if-short : (n : ℕ) (b : Bool) (t u : Run) → Within n t → Within n u → Within n (if b then t else u)
if-short n true t u h k = h
if-short n false t u h k = k

for_each-short : (body : List ℤ → Next → Next) → ((t : List ℤ) (next : Next) → IsShort next → IsShort (body t next)) → (ts : List (List ℤ)) (next : Next)
    → IsShort next → IsShort (for_each body ts next)
for_each-short body each [] next h = h
for_each-short body each (t ∷ ts) next h = each t (for_each body ts next) (for_each-short body each ts next h)

mutual
  step-short : (r : Request) (s : Step) (item : List ℤ) (next : Next) → IsShort next → IsShort (step_run r s item next)
  step-short r (step.Let n e) item next h f few = with-short (MOST_ACCESSES - f.made) (value_of r item f.regs e) _ (λ v. h _ few)
  step-short r (step.Read absence t ks rs) item next h f few =
      reads-short (λ f. key_from r item f.regs t ks) (row_or absence rs next) (row_or-short absence rs next h) f few
  step-short r (step.Put t ks es) item next h f few = writes-short (λ f. key_from r item f.regs t ks)
      (λ f. got (row_from r item f.regs es) (λ row. Ok (Some row))) next h f few
  step-short r (step.Del t ks) item next h f few = writes-short (λ f. key_from r item f.regs t ks) (λ f. Ok None) next h f few
  step-short r (step.If e a b) item next h f few =
      let first = steps-short r a item next h in
      let second = steps-short r b item next h in
      with-short (MOST_ACCESSES - f.made) (value_of r item f.regs e) _
      (λ v. if-short (MOST_ACCESSES - f.made) (is_true v) (steps_run r a item next f) (steps_run r b item next f) (first f few) (second f few))
  step-short r (step.Each n body) item next h f few = for_each-short (steps_run r body) (λ t next h. steps-short r body t next h)
      (tuples_of (slice_get r.call.args n)) next h f few
  step-short r (step.Give e) item next h f few = with-short (MOST_ACCESSES - f.made) (value_of r item f.regs e) _ (gives-short next f h few)
  step-short r (step.Fail code) item next h f few = tt

  steps-short : (r : Request) (ss : Steps) (item : List ℤ) (next : Next) → IsShort next → IsShort (steps_run r ss item next)
  steps-short r NoMore item next h f few = h f few
  steps-short r (More s rest) item next h f few = step-short r s item (steps_run r rest item next) (steps-short r rest item next h) f few

run-short : (p : Option Proc) (r : Request) → Within MOST_ACCESSES (run_by p r)
run-short None r = tt
run-short (Some p) r = steps-short r p.body [] done (λ f few. tt) (begun p.regs) (omega arith)

-- ---- what is noted of a trace

with_write-length : (ws : List (Key × Option Cells)) (k : Key) (row : Option Cells) → length (with_write key_cmp ws k row) ≤ length ws + 1
with_write-length [] k row = omega arith
with_write-length (w ∷ ws) k row = elim (eq_by_cmp key_cmp k w.0) as (λ b. length (if b then (w.0, row) ∷ ws else w ∷ with_write key_cmp ws k row) ≤ suc
    (length ws) + 1) [
      | true ↦ omega arith
      | false ↦ omega (arith, with_write-length ws k row)
    ]

abbrev size_of : Noted Key Cells → ℕ
size_of n = length n.reads + length n.writes

one_noted : (n : Noted Key Cells) (visit : Visit Key Cells) → size_of (noted key_cmp n visit) ≤ size_of n + 1
one_noted n (Read k) = elim (is_among key_cmp n.reads k || is_among key_cmp (keys_of n.writes) k) as (λ b. length
    (if b then n.reads else n.reads ++ k ∷ []) + length n.writes ≤ size_of n + 1) [
      | true ↦ omega arith
      | false ↦ omega (arith, length-append n.reads (k ∷ []))
    ]
one_noted n (Write k row) = omega (arith, with_write-length n.writes k row)

all_noted-size : (n : Noted Key Cells) (visits : List (Visit Key Cells)) → size_of (all_noted key_cmp n visits) ≤ size_of n + length visits
all_noted-size n [] = omega arith
all_noted-size n (visit ∷ visits) = let rest = all_noted-size (noted key_cmp n visit) visits in omega (arith, rest, one_noted n visit)

kept_writes : (b : Bool) (ws : List (Key × Option Cells)) → length (if b then ws else []) ≤ length ws
kept_writes true ws = omega arith
kept_writes false ws = omega arith

pub few_touched : (plan : Plan) (request : Request) (db : Database) → TouchesFew (run_of plan request) db
few_touched plan request db =
    let t = run_of plan request in
    let few = trace-within MOST_ACCESSES t db (run-short (slice_get plan.procs request.call.proc) request) in
    let all = all_noted-size nothing (trace_of t db) in
    omega (arith, few, all, kept_writes (is_done (end_of t db)) (all_noted key_cmp nothing (trace_of t db)).writes)
