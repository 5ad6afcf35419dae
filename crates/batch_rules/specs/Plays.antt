-- The run of a tree step by step, as an interpreter makes it that sees the database through a window: the rows as they are now,
-- and what was touched so far.
use Rattle.std.specs.Prelude.{◌≡◌, Option, Some, None, Bool, true, if◌then◌else◌, MatchOption}
use Rattle.std.specs.declared.cmp.Ordering.{Ordering}
use Rattle.std.specs.FinMap as fin
use Rattle.std.specs.FinMap.{FinMap}
use Rattle.batch_rules.specs.Trees.{Tree, Ends, Reads, Writes, Read, Write, set_at, trace_of}
use Rattle.batch_rules.specs.Touches.{Noted, noted, Declared, may_read, may_write, outside}

pub record Seen {K : Type 0} (R : K → K → Ordering) (V : Type 0) : Type 0 where
  pub map : FinMap R V
  pub noted : Noted K V

-- a run comes to its end, or it stops before its first access outside its limits, which is at this key
pub data PlayEnd (K A : Type 0) : Type 0 where
  Finishes : A → PlayEnd K A
  Strays : K → PlayEnd K A

pub record Played {K : Type 0} (R : K → K → Ordering) (V A : Type 0) : Type 0 where
  pub end : PlayEnd K A
  pub seen : Seen R V

module _ {K V : Type 0} {R : K → K → Ordering} where
  abbrev pub after_read : Seen R V → K → Seen R V
  after_read seen k = record { map = seen.map; noted = noted R seen.noted (Read k) }

  abbrev pub after_write : Seen R V → K → Option V → Seen R V
  after_write seen k row = record { map = set_at seen.map k row; noted = noted R seen.noted (Write k row) }

module _ {K : Type 0} (R : K → K → Ordering) where
  -- without limits every access is allowed
  abbrev pub allows_read : Option (Declared K) → K → Bool
  allows_read None k = true
  allows_read (Some declared) k = may_read R declared k

  abbrev pub allows_write : Option (Declared K) → K → Bool
  allows_write None k = true
  allows_write (Some declared) k = may_write R declared k

module _ {K V A : Type 0} {R : K → K → Ordering} where
  abbrev pub play : Option (Declared K) → Tree K V A → Seen R V → Played R V A
  play limits (Ends a) seen = record { end = Finishes a; seen = seen }
  play limits (Reads k next) seen =
      if allows_read R limits k then play limits (next (fin.get seen.map k)) (after_read seen k)
      else record { end = Strays k; seen = seen }
  play limits (Writes k row next) seen = if allows_write R limits k then play limits next (after_write seen k row)
      else record { end = Strays k; seen = seen }

  -- within declared keys a run is as without limits where no access lies outside, and stops before the first one that does
  abbrev pub PlaysWithin : Declared K → Tree K V A → Seen R V → Type 0
  PlaysWithin declared t seen =
      MatchOption (outside R declared (trace_of t seen.map)) (play (Some declared) t seen ≡ play None t seen)
      (λ k. (play (Some declared) t seen).end ≡ Strays k)
