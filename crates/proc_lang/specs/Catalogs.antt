-- What a catalogue is: its tables and its procedures, within their limits; which calls it takes, and what a request of it does.
use Rattle.std.specs.Prelude.{◌≡◌, ◌≤◌, ℕ, ◌+◌, ◌==◌, ◌&&◌, Bool, true, false, not, nat_le, max, List, [], ◌∷◌, map, length}
use Rattle.std.specs.Prelude.{slice_get, Option, Some, None}
use Rattle.std.specs.List.{All, list_all, list_any}
use Rattle.std.specs.Str.{bytes_eq}
use Rattle.aria_base.specs.Texts.{is_word}
use Rattle.aria_base.specs.declared.schemas.Table.{Table}
use Rattle.aria_base.specs.declared.calls.Arg.{Arg}
use Rattle.aria_base.specs.declared.calls.Arg.TheVariants as arg
use Rattle.aria_base.specs.declared.calls.Call.{Call}
use Rattle.aria_base.specs.declared.calls.Request.{Request}
use Rattle.batch_rules.specs.Trees.{Ends}
use Rattle.proc_lang.specs.declared.ends.End.TheVariants as end
use Rattle.proc_lang.specs.declared.procs.ArgKind.{ArgKind}
use Rattle.proc_lang.specs.declared.procs.ArgKind.TheVariants as kind
use Rattle.proc_lang.specs.declared.procs.Proc.{Proc}
use Rattle.aria_base.specs.declared.limits.TheConstants.{FEWEST_PARTS, MOST_PARTS, MOST_COLUMNS, MOST_ARGS, SHORTEST_TUPLE, LONGEST_TUPLE}
use Rattle.proc_lang.specs.declared.limits.TheConstants.{MOST_TABLES, MOST_PROCS, MOST_REGS, MOST_STATEMENTS, DEEPEST_EXPR}
use Rattle.proc_lang.specs.declared.limits.TheConstants.{GREATEST_CODE, MOST_FRONT}
use Rattle.proc_lang.specs.Terms.{Term, Num, Text, Me, Named, Unary, Binary, MulDiv, Front}
use Rattle.proc_lang.specs.Steps.{Absence, Traps, Fails, Blanks, Step, Steps, NoMore, More}
use Rattle.proc_lang.specs.Steps as step
use Rattle.proc_lang.specs.Meaning.{Run, script}
use Rattle.proc_lang.specs.Typing.{IsWellTyped}

-- what a contract sees of a catalogue
pub record Plan : Type 0 where
  pub tables : List Table
  pub procs : List Proc

-- ---- limits

abbrev pub is_between : ℕ → ℕ → ℕ → Bool
is_between low high n = nat_le low n && nat_le n high

-- how deep an expression is; one without operands has depth 1
abbrev pub depth : Term → ℕ
depth (Num z) = 1
depth (Text bytes) = 1
depth Me = 1
depth (Named from n) = 1
depth (Unary o a) = 1 + depth a
depth (Binary o a b) = 1 + max (depth a) (depth b)
depth (MulDiv a b c) = 1 + max (max (depth a) (depth b)) (depth c)
depth (Front a b most) = 1 + max (depth a) (depth b)

-- no `front` within it takes more bytes than a text has
abbrev pub fronts_fit : Term → Bool
fronts_fit (Num z) = true
fronts_fit (Text bytes) = true
fronts_fit Me = true
fronts_fit (Named from n) = true
fronts_fit (Unary o a) = fronts_fit a
fronts_fit (Binary o a b) = fronts_fit a && fronts_fit b
fronts_fit (MulDiv a b c) = fronts_fit a && fronts_fit b && fronts_fit c
fronts_fit (Front a b most) = nat_le most MOST_FRONT && fronts_fit a && fronts_fit b

abbrev pub term_fits : Term → Bool
term_fits t = nat_le (depth t) DEEPEST_EXPR && fronts_fit t

abbrev pub code_fits : ℕ → Bool
code_fits code = is_between 1 GREATEST_CODE code

abbrev pub absence_fits : Absence → Bool
absence_fits Traps = true
absence_fits (Fails code) = code_fits code
absence_fits (Blanks flag) = true

-- how many statements there are, those in blocks included
abbrev mutual
  pub step_count : Step → ℕ
  step_count (step.Let n e) = 1
  step_count (step.Read absence t ks rs) = 1
  step_count (step.Put t ks es) = 1
  step_count (step.Del t ks) = 1
  step_count (step.If e a b) = 1 + (steps_count a + steps_count b)
  step_count (step.Each n body) = 1 + steps_count body
  step_count (step.Give e) = 1
  step_count (step.Fail code) = 1

  pub steps_count : Steps → ℕ
  steps_count NoMore = 0
  steps_count (More s rest) = step_count s + steps_count rest

abbrev mutual
  pub step_fits : Step → Bool
  step_fits (step.Let n e) = term_fits e
  step_fits (step.Read absence t ks rs) = list_all term_fits ks && absence_fits absence
  step_fits (step.Put t ks es) = list_all term_fits ks && list_all term_fits es
  step_fits (step.Del t ks) = list_all term_fits ks
  step_fits (step.If e a b) = term_fits e && steps_fit a && steps_fit b
  step_fits (step.Each n body) = steps_fit body
  step_fits (step.Give e) = term_fits e
  step_fits (step.Fail code) = code_fits code

  pub steps_fit : Steps → Bool
  steps_fit NoMore = true
  steps_fit (More s rest) = step_fits s && steps_fit rest

-- a list kind has tuples that there are
abbrev pub arg_kind_fits : ArgKind → Bool
arg_kind_fits kind.Int = true
arg_kind_fits kind.Text = true
arg_kind_fits (kind.List width) = is_between SHORTEST_TUPLE LONGEST_TUPLE width

abbrev pub table_fits : Table → Bool
table_fits t = is_word t.name && is_between FEWEST_PARTS MOST_PARTS (length t.key) && nat_le (length t.cols) MOST_COLUMNS

abbrev pub proc_fits : Proc → Bool
proc_fits p = is_word p.name && nat_le (length p.args) MOST_ARGS && list_all arg_kind_fits p.args
    && nat_le (length p.regs) MOST_REGS && nat_le (steps_count p.body) MOST_STATEMENTS && steps_fit p.body

-- no name stands twice
abbrev pub distinct : List (List ℕ) → Bool
distinct [] = true
distinct (name ∷ names) = not (list_any (bytes_eq name) names) && distinct names

-- a catalogue: tables and procedures within the limits, under names of their own, each procedure well typed under the tables
pub record IsCatalog (plan : Plan) : Type 0 where
  pub few_tables : length plan.tables ≤ MOST_TABLES
  pub few_procs : length plan.procs ≤ MOST_PROCS
  pub tables_fit : list_all table_fits plan.tables ≡ true
  pub procs_fit : list_all proc_fits plan.procs ≡ true
  pub table_names : distinct (map (λ t. t.name) plan.tables) ≡ true
  pub proc_names : distinct (map (λ p. p.name) plan.procs) ≡ true
  pub typed : All (IsWellTyped plan.tables) plan.procs

-- ---- calls

-- tuples fit where each has as many numbers; so no tuples fit every list
abbrev pub arg_fits : ArgKind → Arg → Bool
arg_fits kind.Int (arg.Int n) = true
arg_fits kind.Text (arg.Text bytes) = true
arg_fits (kind.List width) (arg.List tuples) = list_all (λ t. length t == width) tuples
arg_fits other a = false

abbrev pub args_fit : List ArgKind → List Arg → Bool
args_fit [] [] = true
args_fit (k ∷ ks) (a ∷ more) = arg_fits k a && args_fit ks more
args_fit kinds given = false

abbrev pub fits_proc : List Arg → Option Proc → Bool
fits_proc given None = false
fits_proc given (Some p) = args_fit p.args given

-- the procedure is there, and the arguments fit it in number and kind
abbrev pub takes : Plan → Call → Bool
takes plan call = fits_proc call.args (slice_get plan.procs call.proc)

-- what a request does; one of no procedure does nothing
abbrev pub run_by : Option Proc → Request → Run
run_by None request = Ends (end.Done [])
run_by (Some p) request = script p.body p.regs request

abbrev pub run_of : Plan → Request → Run
run_of plan request = run_by (slice_get plan.procs request.call.proc) request
