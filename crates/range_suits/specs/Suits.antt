-- Routines that suit a schema, works that are taken, and runs whose keys and prefixes fit.
use Rattle.std.specs.Prelude.{◌≡◌, ⊤, ℕ, ◌<◌, ◌≤◌, ◌==◌, List, map, length, take, Option, None, Some, Bool, true, false}
use Rattle.std.specs.Option.{IsSomeAnd}
use Rattle.std.specs.List.{All, slice_get}
use Rattle.aria_base.specs.Kinds.{part_kind}
use Rattle.aria_base.specs.Orders.{Cells}
use Rattle.aria_base.specs.Schemas.{Fits}
use Rattle.aria_base.specs.declared.keys.Key.{Key}
use Rattle.aria_base.specs.declared.limits.TheConstants.{GREATEST_NUMBER}
use Rattle.aria_base.specs.declared.schemas.Table.{Table}
use Rattle.proc_lang.specs.Catalogs.{Plan, takes}
use Rattle.range_rules.specs.declared.routines.Action.{Action}
use Rattle.range_rules.specs.declared.routines.Action.TheVariants.{Read, Write, Scan, Stop}
use Rattle.range_rules.specs.declared.routines.Prefix.{Prefix}
use Rattle.range_rules.specs.declared.routines.Ran.{Ran}
use Rattle.range_rules.specs.declared.routines.RoutineCall.{RoutineCall}
use Rattle.range_rules.specs.declared.routines.Seen.{Seen}
use Rattle.range_rules.specs.declared.routines.Work.{Work}
use Rattle.range_rules.specs.declared.routines.Work.TheVariants.{Proc, Routine}
use Rattle.range_rules.specs.Batches.{written}

-- ---- what fits a schema

module _ (schema : List Table) where
  -- the table is there, and has such keys
  abbrev pub FitsKey : Key → Type 0
  FitsKey k = IsSomeAnd (slice_get schema k.table) (λ table. map part_kind k.parts ≡ table.key)

  -- the row may stand at the key, or there is none
  abbrev pub FitsWrite : Key → Option Cells → Type 0
  FitsWrite k None = FitsKey k
  FitsWrite k (Some row) = Fits schema k row

  -- a prefix has none or some of the parts of its table's keys, and not all
  abbrev pub FitsPrefix : Prefix → Type 0
  FitsPrefix p = IsSomeAnd (slice_get schema p.table)
      (λ table. (length p.parts < length table.key) × (map part_kind p.parts ≡ take (length p.parts) table.key))

  abbrev pub FitsAction : Action → Type 0
  FitsAction (Read k) = FitsKey k
  FitsAction (Write k row) = FitsWrite k row
  FitsAction (Scan p) = FitsPrefix p
  FitsAction (Stop e) = ⊤

  -- of each call that is taken, whatever its request number and the answers, the next action fits
  abbrev pub Suits : (RoutineCall → Bool) → (ℕ → RoutineCall → List Seen → Action) → Type 0
  Suits taken act = (call : RoutineCall) (q : ℕ) (seen : List Seen) → taken call ≡ true → 1 ≤ q → q ≤ GREATEST_NUMBER
      → FitsAction (act q call seen)

-- ---- works that are taken

module _ (plan : Plan) (taken : RoutineCall → Bool) where
  -- by the catalogue, or by the routines
  abbrev pub is_taken : Work → Bool
  is_taken (Proc call) = takes plan call
  is_taken (Routine call) = taken call

-- ---- whole keys

-- the table is there, and its keys have so many parts
abbrev pub has_parts : Option Table → ℕ → Bool
has_parts None count = false
has_parts (Some table) count = length table.key == count

-- whether the key has all parts of its table's keys
abbrev pub is_whole : List Table → Key → Bool
is_whole schema k = has_parts (slice_get schema k.table) (length k.parts)

-- what a run touched: its keys are whole, and its prefixes fit
pub record FitsRan (schema : List Table) (ran : Ran) : Type 0 where
  pub reads : All (λ k. is_whole schema k ≡ true) ran.reads
  pub writes : All (λ k. is_whole schema k ≡ true) (written ran)
  pub scans : All (FitsPrefix schema) ran.scans
